-- The shift that a tree of the pool spells.
use Rattle.std.proofs.Common.{All, ◌≡◌, ℕ, ◌<◌, ◌≤◌, ◌+◌, ◌*◌, ◌^◌, Some, List, [], arith, subst, sym, ap, ◌∙◌, length, map, get_or}
use Rattle.std.specs.Prelude.{slice_get}
use Rattle.std.proofs.lemmas.Nat.{mul-le}
use Rattle.std.proofs.lemmas.Option.{slice_get-get_or}
use Rattle.model_rosters.specs.declared.grammar.Step.{Step}
use Rattle.model_rosters.specs.declared.instance.Instance.{Instance}
use Rattle.model_rosters.specs.Arcs.{cost}
use Rattle.model_rosters.specs.Coverage.{code_byte}
use Rattle.model_rosters.specs.Folds.{Each}
use Rattle.model_rosters.specs.GreatestCost.{greatest_rule_cost}
use Rattle.model_rosters.specs.Room.{most_uses}
use Rattle.model_rosters.specs.Rosters.{IsTeamPrice}
use Rattle.model_rosters.specs.SoundInstance.{IsSoundInstance}
use Rattle.model_rosters.specs.Trees.{Parts, IsDayTree, steps, word}
use Rattle.model_rosters.proofs.CostBounds.{rule_cost-le, uses-le}
use Rattle.law_bounds.proofs.TreeCosts.{cost-le}
use Rattle.law_bounds.specs.DutyTrees.{own_rules}
use Rattle.check_certificates.specs.Sound.{IsGroupNumber, IsWordByte}
use Rattle.tree_pool.specs.Pools.{PoolTree, IsPoolTree, IsPool}
use Rattle.search_candidates.specs.Spelled.{IsTreeAt, IsOfNumber, IsTeamShift, IsShiftOf}
use Rattle.search_candidates.proofs.Numbers.{group-number}
use Rattle.search_candidates.proofs.TreeWords.{codes-exist, word-is, word-fine, word-long}
use Rattle.model_rosters.specs.tree_laws.DaySteps.{AreDaySteps}

-- no price is great
pub small_price : (i : Instance) → IsSoundInstance i → (t : Parts) (x : ℕ) (price : ℕ) → (d : Rattle.model_rosters.specs.Trees.IsTreeOf i.grammar x t) → cost i.grammar t ≡ price → price ≤ 2 ^ 40
small_price i sound t x price d e =
    let less = cost-le i sound.grammar.ranks.0 sound.grammar.ranks.1 t x d.0 d.1 in
    let most : most_uses i.grammar * greatest_rule_cost i.grammar.rules ≤ 63030000 =
    mul-le (most_uses i.grammar) (greatest_rule_cost i.grammar.rules) 6303 10000 (uses-le i.grammar sound.grammar) (rule_cost-le _ _ i.grammar.rules sound.grammar.rules) in
    at_most price (cost i.grammar t) (most_uses i.grammar * greatest_rule_cost i.grammar.rules) e less most
  where
    at_most : (q c m : ℕ) → c ≡ q → c ≤ m → m ≤ 63030000 → q ≤ 2 ^ 40
    at_most q c m same l k = omega (arith, same, l, k)

module _ (i : Instance) (sound : IsSoundInstance i) (pool : List PoolTree) (is : IsPool i.grammar pool) (c : ℕ) (inside : c < length pool) where
  abbrev entry : PoolTree
  entry = get_or pool c (record { steps = []; codes = []; arcs = []; cost = 0 })

  here : slice_get pool c ≡ Some entry
  here = slice_get-get_or pool c (record { steps = []; codes = []; arcs = []; cost = 0 }) inside

  its : (t : Parts) × IsPoolTree i.grammar t entry
  its = is.trees c entry here

  pub uses-are : (uses : List Step) → ((x : PoolTree) → slice_get pool c ≡ Some x → uses ≡ x.steps) → AreDaySteps i.grammar uses
  uses-are uses have_uses = (its.0, its.1.day, have_uses entry here ∙ its.1.steps)

  pub codes-fit : (codes : List ℕ) → ((x : PoolTree) → slice_get pool c ≡ Some x → codes ≡ x.codes) → All (λ k. k < length i.grammar.codes) codes
  codes-fit codes have_codes = subst (λ (cs : List ℕ). All (λ k. k < length i.grammar.codes) cs) (sym (have_codes entry here)) (codes-exist i.grammar sound.grammar entry its.0 its.1)

  module _ (uses : List Step) (codes : List ℕ) (have_uses : (x : PoolTree) → slice_get pool c ≡ Some x → uses ≡ x.steps) (have_codes : (x : PoolTree) → slice_get pool c ≡ Some x → codes ≡ x.codes)
      (n : ℕ) (numbered : (t : Parts) → IsDayTree i.grammar t → uses ≡ steps 1 t → IsOfNumber i t n) (w : List ℕ) (spelled : w ≡ map (code_byte i.grammar) codes) where
    word_of : (x : PoolTree) (t : Parts) → slice_get pool c ≡ Some x → IsPoolTree i.grammar t x → word i.grammar t ≡ w
    word_of x t at h = word-is i.grammar sound.grammar x t h ∙ ap (map (code_byte i.grammar)) (sym (have_codes x at)) ∙ sym spelled

    number_of : (x : PoolTree) (t : Parts) → slice_get pool c ≡ Some x → IsPoolTree i.grammar t x → IsOfNumber i t n
    number_of x t at h = numbered t h.day (have_uses x at ∙ h.steps)

    own : IsOfNumber i its.0 n
    own = number_of entry its.0 here its.1

    pub group-fits : IsGroupNumber i.groups n
    group-fits = subst (IsGroupNumber i.groups) own.number (group-number i i.groups own.team own.of.listed)

    long : length w ≡ i.grammar.periods
    long = ap length (sym (word_of entry its.0 here its.1)) ∙ word-long i.grammar sound.grammar entry its.0 its.1

    pub short : length w ≤ 96
    short = let e = long in let few = sound.grammar.few_periods in omega (arith, e, few)

    pub team-shift : IsTeamShift i n w
    team-shift = record {
      team = own.team;
      listed = own.of.listed;
      number = own.number;
      shift = (own.of.tree, record { derives = own.of.spells.derives; word = own.of.spells.word ∙ word_of entry its.0 here its.1 });
    }

    pub shift-is : (price : ℕ) → IsTeamPrice i (record { team = n; word = w }) price → (t : Parts) → IsTreeAt i.grammar pool c t → IsShiftOf i t (record { group = n; word = w; price = price })
    shift-is price priced t at =
        let o = number_of at.0 t at.1 at.2 in
        let spell = word_of at.0 t at.1 at.2 in
        record {
          spells = record {
            day = at.2.day;
            spelled = spell;
            led = λ some. o.of.led some ∙ ap (λ (k : ℕ). own_rules i + k) o.number;
          };
          priced = priced;
          sound = record {
            some = let e = long in let p = sound.grammar.some_period in omega (arith, e, p);
            short = short;
            bytes = subst (λ (v : List ℕ). Each IsWordByte v) spell (word-fine i.grammar sound.grammar at.0 t at.2);
            group = group-fits;
            price = small_price i sound priced.priced.attained.0 priced.team.name price priced.priced.attained.1.derives priced.priced.attained.2;
          };
        }
