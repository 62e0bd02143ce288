-- The number of the team of a tree of the day.
use Rattle.std.proofs.Common.{◌≡◌, ◌≢◌, ℕ, ◌<◌, ◌≤◌, ◌+◌, ◌-◌, inl, inr, List, [], ◌∷◌, arith, refl, ap, ◌∙◌, length, get_or}
use Rattle.model_rosters.specs.declared.grammar.Step.{Step}
use Rattle.model_rosters.specs.declared.instance.Group.{Group}
use Rattle.model_rosters.specs.declared.instance.Instance.{Instance}
use Rattle.model_rosters.specs.SoundInstance.{IsSoundInstance, HasGroups}
use Rattle.model_rosters.specs.Folds.{In}
use Rattle.model_rosters.specs.Teams.{Team, teams, teams_of, teams_from}
use Rattle.model_rosters.specs.Trees.{Parts, done, letter, uses, IsDayTree, steps}
use Rattle.model_rosters.specs.tree_laws.Parts.{root}
use Rattle.law_bounds.specs.DutyTrees.{own_rules}
use Rattle.law_bounds.specs.Laws.{IsOfTeam}
use Rattle.law_bounds.proofs.DayTeams.{team-of}
use Rattle.check_certificates.specs.Sound.{IsGroupNumber}
use Rattle.search_candidates.specs.Spelled.{IsOfNumber}
use Rattle.model_rosters.specs.tree_laws.DaySteps.{AreDaySteps}

-- the numbers of teams are those of groups
from_number : (k : ℕ) (gs : List Group) (t : Team) → In t (teams_from k gs) → (k ≤ t.number) × (t.number < k + length gs)
from_number k [] t h = absurd h
from_number k (g ∷ gs) t (inl e) = let n : t.number ≡ k = ap (λ (q : Team). q.number) e in (omega (arith, n), omega (arith, n))
from_number k (g ∷ gs) t (inr h) = let r = from_number (k + 1) gs t h in (omega (arith, r.0), omega (arith, r.1))

pub group-number : (i : Instance) (gs : List Group) (t : Team) → In t (teams_of i gs) → IsGroupNumber gs t.number
group-number i [] t (inl e) = ap (λ (q : Team). q.number) e
group-number i [] t (inr h) = absurd h
group-number i (g ∷ gs) t h = let r = from_number 1 (g ∷ gs) t h in (r.0, omega (arith, r.1))

-- the first rule use of a tree of the day is that of its root
first_use : (i : Instance) (t : Parts) → IsDayTree i.grammar t → (d : Step) → (0 < length (steps 1 t)) × ((get_or (steps 1 t) 0 d).rule ≡ root t)
first_use i done h d = absurd h.0
first_use i (letter c rest) h d = absurd h.0
first_use i (uses r n inner rest) h d = (omega arith, refl)

pub some-use : (i : Instance) (xs : List Step) → AreDaySteps i.grammar xs → 0 < length xs
some-use i xs h = let f = first_use i h.0 h.1 (record { rule = 0; start = 0; len = 0 }) in let e = ap length h.2 in omega (arith, f.0, e)

plain_number : (i : Instance) (gs : List Group) (t : Team) → gs ≡ [] → In t (teams_of i gs) → t.number ≡ 0
plain_number i [] t e (inl h) = ap (λ (q : Team). q.number) h
plain_number i [] t e (inr h) = absurd h
plain_number i (g ∷ gs) t e h = cc

module _ (i : Instance) (sound : IsSoundInstance i) (xs : List Step) where
  -- without groups the number is 0
  pub plain-number : i.groups ≡ [] → (t : Parts) → IsDayTree i.grammar t → IsOfNumber i t 0
  plain-number none t day =
      let r = team-of i t sound day in
      record { team = r.0; of = r.1; number = plain_number i i.groups r.0 none r.1.listed }

  -- and else what comes after the grammar's own rules
  pub rule-number : i.groups ≢ [] → (d : Step) (t : Parts) → IsDayTree i.grammar t → xs ≡ steps 1 t → (team : Team) × IsOfTeam i t team × ((get_or xs 0 d).rule ≡ own_rules i + team.number)
  rule-number some d t day e =
      let r = team-of i t sound day in
      let f = first_use i t day d in
      (r.0, r.1, ap (λ (q : List Step). (get_or q 0 d).rule) e ∙ f.1 ∙ r.1.led some)

  pub led-number : i.groups ≢ [] → (d : Step) (n : ℕ) (t : Parts) → IsDayTree i.grammar t → xs ≡ steps 1 t → n ≡ (get_or xs 0 d).rule - own_rules i → IsOfNumber i t n
  led-number some d n t day e is =
      let r = rule-number some d t day e in
      let f : (get_or xs 0 d).rule ≡ own_rules i + r.0.number = r.2 in
      record { team = r.0; of = r.1; number = omega (arith, f, is) }

-- the number of a team's rule fits a byte
pub small-number : (i : Instance) → IsSoundInstance i → (t : Team) → In t (teams i) → (length i.grammar.rules - length i.groups) + t.number ≤ 255
small-number i sound t h =
    let rules = sound.grammar.few_rules in
    let few = few_number i.groups t.number (few_groups i.groups refl sound.groups) (group-number i i.groups t h) in
    omega (arith, rules, few)
  where
    few_groups : (gs : List Group) → gs ≡ i.groups → HasGroups i gs → length gs ≤ 8
    few_groups [] e k = omega arith
    few_groups (g ∷ gs) e k = let few = k.1.groups.few in let same = ap length e in omega (arith, few, same)

    few_number : (gs : List Group) (n : ℕ) → length gs ≤ 8 → IsGroupNumber gs n → n ≤ 8
    few_number [] n a b = omega (arith, b)
    few_number (g ∷ gs) n a b = omega (arith, a, b.1)
