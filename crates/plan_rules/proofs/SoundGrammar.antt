-- The grammar of the names of a writable plan is sound.
use Rattle.std.proofs.Common.{◌≡◌, ◌≢◌, inl, inr, ℕ, zero, suc, ◌+◌, ◌<◌, ◌≤◌, Bool, true, false, ◌||◌, nat_eq, nat_lt, Some, List, [], ◌∷◌, length, map, slice_get, arith, refl, sym, ap, ◌∙◌, subst, length-append}
use Rattle.std.proofs.lemmas.Bool.{eq-eqb, ltb-false, ltb-true}
use Rattle.std.proofs.lemmas.List.{length-map}
use Rattle.model_rosters.specs.declared.grammar.Grammar.{Grammar}
use Rattle.model_rosters.specs.declared.grammar.Rule.{Rule}
use Rattle.model_rosters.specs.Folds.{Each, In}
use Rattle.model_rosters.specs.Names.{added_name, is_name}
use Rattle.model_rosters.specs.Sound.{AreCodes, AreInOrder, AreNames, IsPlain, IsRule, IsSound, appearances, has_rule}
use Rattle.model_rosters.proofs.EachLemmas.{Each-get, Each-in, each_all, get-in}
use Rattle.plan_laws.specs.declared.period_plan.NamedLines.{NamedLines}
use Rattle.plan_laws.specs.declared.period_plan.PeriodPlan.{PeriodPlan}
use Rattle.plan_laws.specs.Named.{EachSymbol, NamedRule, Numbers, Symbol, all_rules, coded, named, to_rule}
use Rattle.plan_laws.specs.Names.{Free, Kind, rules_for}
use Rattle.plan_laws.specs.PeriodShifts.{IsLetter}
use Rattle.plan_laws.proofs.Trees.{each_in}
use Rattle.plan_laws.proofs.Words.{each_side}
use Rattle.plan_names.specs.FreeCodes.{free_of}
use Rattle.plan_names.specs.Gathered.{place}
use Rattle.plan_names.specs.Same.{same}
use Rattle.plan_names.specs.StartNames.{only_day, start_kind}
use Rattle.plan_names.specs.WrittenFor.{written_for}
use Rattle.plan_names.proofs.Gathering.{at_place}
use Rattle.plan_names.proofs.SameNames.{is_same, own_same}
use Rattle.plan_rules.specs.Closed.{IsClosed, count_rules, names_in, names_of_rules, used_by}
use Rattle.plan_rules.specs.Grammars.{IsGrammarOf, code_place, numbers_of, plan_codes}
use Rattle.plan_rules.specs.NameTexts.{name_texts}
use Rattle.plan_rules.specs.SoundLaws.{SoundLaw}
use Rattle.plan_rules.specs.Writable.{AreFineNames, IsWritable}
use Rattle.plan_rules.proofs.Closing.{name_in, start_in}
use Rattle.plan_rules.proofs.FineRules.{Fine, IsFineRule, fine_rules, some_rule}
use Rattle.plan_rules.proofs.InOrder.{each_name, in_order}
use Rattle.plan_rules.proofs.Members.{same_members}
use Rattle.plan_rules.proofs.OtherTexts.{Distinct, all_distinct, distinct_at, texts_apart}
use Rattle.plan_rules.proofs.Ranks.{IsOwn, own_rule_of, ranks}
use Rattle.plan_rules.proofs.SoundCodes.{sound_codes}
use Rattle.plan_rules.proofs.SoundRules.{place_within, rule_sound}
use Rattle.plan_rules.proofs.SoundTexts.{text_name, texts_are}
use Rattle.plan_rules.proofs.WrittenLemmas.{from_all, to_all}

no_false : false ≡ true → ⊥
no_false e = cc

-- a rule with this name on its left side
any_left : (rules : List Rule) (rule : Rule) (x : ℕ) → In rule rules → rule.left ≡ x → has_rule rules x ≡ true
any_left [] rule x at e = absurd at
any_left (r ∷ rules) rule x (inl is) e = by (nat_eq r.left x) (has_rule rules x) (eq-eqb r.left x (sym (ap (λ (y : Rule). y.left) is) ∙ e))
  where
    by : (a b : Bool) → a ≡ true → (a || b) ≡ true
    by true b f = refl
    by false b f = absurd (no_false f)
any_left (r ∷ rules) rule x (inr at) e = by (nat_eq r.left x) (has_rule rules x) (any_left rules rule x at e)
  where
    by : (a b : Bool) → b ≡ true → (a || b) ≡ true
    by true b f = refl
    by false b f = f

count_is : (num : Numbers Kind) (p : PeriodPlan) (xs : List NamedLines) (ks : List Kind) → length (all_rules num (written_for p xs) ks) ≡ count_rules p xs ks
count_is num p xs [] = refl
count_is num p xs (k ∷ ks) =
    let own = map (to_rule num k) (written_for p xs k) in
    let long = length-append own (all_rules num (written_for p xs) ks) in
    let same_long = length-map (written_for p xs k) (to_rule num k) in
    let more = count_is num p xs ks in
    omega (arith, long, same_long, more)

texts_long : (n : ℕ) (ks : List Kind) → length (name_texts n ks) ≡ length ks
texts_long n [] = refl
texts_long n (k ∷ ks) = let m = texts_long (n + 1) ks in omega (arith, m)

not_added : (name : List ℕ) → is_name name ≡ true → name ≢ added_name
unfolding is_name
not_added name e is = no_false (subst (λ (w : List ℕ). is_name w ≡ true) is e)

module _ (p : PeriodPlan) (xs : List NamedLines) (ks : List Kind) (h : IsWritable p xs) (closed : IsClosed p xs ks) where
  abbrev free : Free
  free = free_of p xs

  abbrev IsFine : Kind → Type 0
  IsFine k = Fine p free xs k

  names_some : (ys : List NamedLines) → AreFineNames ys → 1 ≤ length ys
  names_some ys (inl only) = let e = ap length only.1 in omega (arith, e)
  names_some ys (inr each) = each.0

  fine_start : (ys : List NamedLines) → xs ≡ ys → IsFine (start_kind ys)
  fine_start [] e = sym e
  fine_start (x ∷ []) e = go x.name refl
    where
      go : (n : List ℕ) → x.name ≡ n → IsFine (only_day n x.lines)
      go [] none =
          let here : In x xs = subst (λ (zs : List NamedLines). In x zs) (sym e) (inl refl) in
          subst (λ (n : List ℕ). In (record { name = n; lines = x.lines }) xs) none here
      go (c ∷ cs) is = ap (λ (n : List ℕ). record { name = n; lines = x.lines } ∷ []) (sym is) ∙ sym e
  fine_start (x ∷ y ∷ ys) e = sym e

  symbols_fine : (ss : List (Symbol Kind)) → EachSymbol (IsLetter p) IsFine ss → Each IsFine (names_in ss)
  symbols_fine [] m = tt
  symbols_fine (coded c ∷ ss) m = symbols_fine ss m.1
  symbols_fine (named k ∷ ss) m = (m.0, symbols_fine ss m.1)

  rules_fine : (k : Kind) → IsFine k → (rs : List (NamedRule Kind)) → ((own : NamedRule Kind) → In own rs → In own (rules_for p free k)) → Each IsFine (names_of_rules rs)
  rules_fine k fine [] within = tt
  rules_fine k fine (r ∷ rs) within =
      let one = each_in (IsFineRule p free xs k) r (rules_for p free k) (fine_rules p free xs h k fine) (within r (inl refl)) in
      each_side IsFine (names_in r.right) (names_of_rules rs) (symbols_fine r.right one.symbols) (rules_fine k fine rs (λ own at. within own (inr at)))

  fine : Each IsFine ks
  fine = each_name p xs ks closed IsFine (fine_start xs refl) (λ k m. rules_fine k m (written_for p xs k) (λ own at. (same_members p xs k own).0 at))

  distinct : Distinct ks
  distinct = subst Distinct (sym closed.closed) (all_distinct (start_kind xs ∷ []) (used_by p xs ks) (tt, tt))

  has_own : (k : Kind) → IsFine k → (own : NamedRule Kind) × In own (written_for p xs k)
  has_own k m =
      let o = some_rule p free xs h k m (names_some xs h.names) in
      (o.0, (same_members p xs k o.0).1 o.1)

  abbrev num : Numbers Kind
  num = numbers_of (plan_codes p) ks

  abbrev rules : List Rule
  rules = all_rules num (written_for p xs) ks

  is_own : (rule : Rule) → In rule rules → IsOwn ks (λ c. code_place c (plan_codes p)) rule
  is_own rule at =
      let l = from_all num (written_for p xs) ks rule at in
      let fine_k = each_in IsFine l.0 ks fine l.2 in
      let one = each_in (IsFineRule p free xs l.0) l.1 (rules_for p free l.0) (fine_rules p free xs h l.0 fine_k) ((same_members p xs l.0 l.1).0 l.3) in
      own_rule_of ks (λ c. code_place c (plan_codes p)) rule l.0 l.1 l.2 l.4 one.lower (λ x right. name_in p xs ks closed x l.0 l.1 l.2 l.3 right)

  is_sound_rule : (rule : Rule) → In rule rules → IsRule (length (plan_codes p)) (length ks) rule
  is_sound_rule rule at =
      let l = from_all num (written_for p xs) ks rule at in
      let fine_k = each_in IsFine l.0 ks fine l.2 in
      let one = each_in (IsFineRule p free xs l.0) l.1 (rules_for p free l.0) (fine_rules p free xs h l.0 fine_k) ((same_members p xs l.0 l.1).0 l.3) in
      subst (IsRule (length (plan_codes p)) (length ks)) (sym l.4)
      (rule_sound p free xs ks l.0 l.1 one l.2 (λ x right. name_in p xs ks closed x l.0 l.1 l.2 l.3 right))

  -- each place has its name, and each name a rule
  place_is : (x : ℕ) (k : Kind) → slice_get ks x ≡ Some k → place same k ks ≡ x
  place_is x k e =
      let at = place_at in
      by (nat_lt (place same k ks) x) (nat_lt x (place same k ks)) refl refl
    where
      place_at : slice_get ks (place same k ks) ≡ Some k
      place_at = at_place same is_same own_same k ks (get-in ks x k e)

      by : (a b : Bool) → nat_lt (place same k ks) x ≡ a → nat_lt x (place same k ks) ≡ b → place same k ks ≡ x
      by true b f g = absurd (distinct_at ks distinct (place same k ks) x k k (ltb-true (place same k ks) x f) place_at e refl)
      by false true f g = absurd (distinct_at ks distinct x (place same k ks) k k (ltb-true x (place same k ks) g) e place_at refl)
      by false false f g = omega (arith, ltb-false (place same k ks) x f, ltb-false x (place same k ks) g)

  ruled : (x : ℕ) (k : Kind) → slice_get ks x ≡ Some k → has_rule rules x ≡ true
  ruled x k e =
      let at = get-in ks x k e in
      let own = has_own k (each_in IsFine k ks fine at) in
      any_left rules (to_rule num k own.0) x (to_all num (written_for p xs) ks k own.0 at own.1) (place_is x k e)

  texts_fine : (n : ℕ) (js : List Kind) → Each IsFine js → n + length js ≤ 100 → Each (λ (name : List ℕ). is_name name ≡ true) (name_texts n js)
  texts_fine n [] m few = tt
  texts_fine n (k ∷ js) m few =
      (text_name p free xs h n k (omega (arith, few)) (texts_are p free xs h n k m.0), texts_fine (n + 1) js m.1 (omega (arith, few)))

  module _ (g : Grammar) (is : IsGrammarOf p xs ks g) (few_names : length ks ≤ 32) (few_rules : count_rules p xs ks ≤ 64) where
    names_long : length g.names ≡ length ks
    names_long = ap length is.names ∙ texts_long 0 ks

    rules_long : length g.rules ≡ count_rules p xs ks
    rules_long = ap length is.rules ∙ count_is num p xs ks

    all_names : Each (λ (name : List ℕ). is_name name ≡ true) g.names
    all_names = subst (Each (λ (name : List ℕ). is_name name ≡ true)) (sym is.names) (texts_fine 0 ks fine (omega (arith, few_names)))

    sound_names : AreNames g
    sound_names = record {
      few = omega (arith, names_long, few_names);
      each = λ x name e. inl (Each-get (λ (w : List ℕ). is_name w ≡ true) g.names x name all_names e);
      apart = λ i j a b less e f. texts_apart p free xs h ks few_names fine distinct i j a b less
          (sym (ap (λ (ts : List (List ℕ)). slice_get ts i) is.names) ∙ e) (sym (ap (λ (ts : List (List ℕ)). slice_get ts j) is.names) ∙ f);
      ruled = λ x within.
          let k = get_some ks x (omega (arith, within, names_long)) in
          ap (λ (rs : List Rule). has_rule rs x) is.rules ∙ ruled x k.0 k.1;
      ordered = subst (λ (rs : List Rule). AreInOrder 0 (appearances rs)) (sym is.rules)
          (in_order p xs ks closed (λ c. code_place c (plan_codes p)) (has_own (start_kind xs) (fine_start xs refl)));
    }
      where
        get_some : (js : List Kind) (x : ℕ) → x < length js → (k : Kind) × (slice_get js x ≡ Some k)
        get_some [] x within = absurd (omega (arith, within))
        get_some (j ∷ js) zero within = (j, refl)
        get_some (j ∷ js) (suc x) within = get_some js x (omega (arith, within))

    pub sound : IsSound g
    sound =
        let some = h.some in
        let few = h.few in
        let codes_are : AreCodes g.codes = subst AreCodes (sym is.codes) (sound_codes p h.codes) in
        record {
          some_period = omega (arith, some, is.periods);
          few_periods = omega (arith, few, is.periods);
          codes = codes_are;
          names = sound_names;
          few_rules = omega (arith, rules_long, few_rules);
          rules = each_all (IsRule (length g.codes) (length g.names)) g.rules
              (Each-in (IsRule (length g.codes) (length g.names)) g.rules (λ rule at. subst (λ (n : ℕ). IsRule (length g.codes) n rule) (sym names_long)
              (subst (λ (n : ℕ). IsRule n (length ks) rule) (sym (ap length is.codes)) (is_sound_rule rule (subst (λ (rs : List Rule). In rule rs) is.rules at)))));
          start =
              let within = place_within p free xs ks (start_kind xs) (start_in p xs ks closed) in
              omega (arith, within, is.start, names_long);
          ranks = ranks ks (λ c. code_place c (plan_codes p)) g (length g.names) names_long (λ rule at. is_own rule (subst (λ (rs : List Rule). In rule rs) is.rules at));
        }

    pub plain : IsPlain g
    plain = record {
      few_names = omega (arith, names_long, few_names);
      few_rules = omega (arith, rules_long, few_rules);
      spelled = each_all (λ (name : List ℕ). name ≢ added_name) g.names
          (Each-in (λ (name : List ℕ). name ≢ added_name) g.names (λ name at. not_added name (each_in (λ (w : List ℕ). is_name w ≡ true) name g.names all_names at)));
    }

pub sound_law : SoundLaw
sound_law = λ p xs names g h closed is few_names few_rules. (sound p xs names h closed g is few_names few_rules, plain p xs names h closed g is few_names few_rules)
