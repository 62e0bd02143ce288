-- The names that rules need: what holds of each of them, and in which order they appear.
use Rattle.std.proofs.Common.{◌≡◌, ◌⊎◌, inl, inr, ℕ, zero, suc, ◌<◌, Bool, cond, Some, List, [], ◌∷◌, ◌++◌, length, map, take, slice_get, arith, refl, sym, ap, ◌∙◌, subst, length-append}
use Rattle.std.proofs.lemmas.List.{append-nil}
use Rattle.model_rosters.specs.Folds.{Each, In}
use Rattle.model_rosters.specs.Sound.{AreInOrder, appearances, names_of}
use Rattle.model_rosters.proofs.EachLemmas.{get-in}
use Rattle.plan_laws.specs.declared.period_plan.NamedLines.{NamedLines}
use Rattle.plan_laws.specs.declared.period_plan.PeriodPlan.{PeriodPlan}
use Rattle.plan_laws.specs.Named.{NamedRule, all_rules, to_rule, to_sym}
use Rattle.plan_laws.specs.Names.{Kind}
use Rattle.plan_laws.proofs.Sides.{all_each}
use Rattle.plan_laws.proofs.Trees.{each_in}
use Rattle.plan_laws.proofs.Words.{each_side}
use Rattle.plan_names.specs.Gathered.{place, with_all}
use Rattle.plan_names.specs.Same.{same}
use Rattle.plan_names.specs.StartNames.{start_kind}
use Rattle.plan_names.specs.WrittenFor.{written_for}
use Rattle.plan_names.proofs.Gathering.{all_append, all_behind, in_has, none_else}
use Rattle.plan_names.proofs.SameNames.{is_same, own_same}
use Rattle.plan_rules.specs.Closed.{IsClosed, gathered, names_of_rules, used_by}
use Rattle.plan_rules.proofs.Appearing.{get_at, get_left, num, one_behind, rules_known, take_left}
use Rattle.plan_rules.proofs.Closing.{used_behind}

module _ (p : PeriodPlan) (xs : List NamedLines) (ks : List Kind) (closed : IsClosed p xs ks) where
  abbrev first : List Kind
  first = start_kind xs ∷ []

  gathered_more : (js : List Kind) (k : Kind) → gathered p xs (js ++ k ∷ []) ≡ with_all same (gathered p xs js) (names_of_rules (written_for p xs k))
  gathered_more js k =
      ap (with_all same first) (used_behind p xs js (k ∷ []) ∙ ap (λ (us : List Kind). used_by p xs js ++ us) (append-nil (names_of_rules (written_for p xs k))))
      ∙ all_append same first (used_by p xs js) (names_of_rules (written_for p xs k))

  -- what some first names need stands at the front
  prefix : (js is : List Kind) → ks ≡ js ++ is → (rest : List Kind) × (ks ≡ gathered p xs js ++ rest)
  prefix js is e =
      let b = all_behind same (gathered p xs js) (used_by p xs is) in
      (b.0, closed.closed ∙ ap (gathered p xs) e ∙ ap (with_all same first) (used_behind p xs js is) ∙ all_append same first (used_by p xs js) (used_by p xs is) ∙ b.1)

  -- and so the next name is among what these need
  next_in : (js : List Kind) (k : Kind) (is : List Kind) → ks ≡ js ++ k ∷ is → In k (gathered p xs js)
  next_in js k is e =
      let f = prefix js (k ∷ is) e in
      let long = ap length e ∙ length-append js (k ∷ is) in
      let within : length js < length ks = omega (arith, long) in
      let begin : take (length js) ks ≡ js = ap (take (length js)) e ∙ take_left js (k ∷ is) in
      let less : length js < length (gathered p xs js) = subst (λ (hs : List Kind). length js < length (gathered p xs hs)) begin (closed.needed (length js) within) in
      let at : slice_get ks (length js) ≡ Some k = ap (λ (hs : List Kind). slice_get hs (length js)) e ∙ get_at js k is in
      let left : slice_get ks (length js) ≡ slice_get (gathered p xs js) (length js) =
      ap (λ (hs : List Kind). slice_get hs (length js)) f.1 ∙ get_left (gathered p xs js) f.0 (length js) less in
      get-in (gathered p xs js) (length js) k (sym left ∙ at)

  -- what holds of the start, and of the names of rules where it holds of the rules' name, holds of all names
  module _ (P : Kind → Type 0) (begins : P (start_kind xs)) (keeps : (k : Kind) → P k → Each P (names_of_rules (written_for p xs k))) where
    each_used : (js : List Kind) → Each P js → Each P (used_by p xs js)
    each_used [] h = tt
    each_used (j ∷ js) h = each_side P (names_of_rules (written_for p xs j)) (used_by p xs js) (keeps j h.0) (each_used js h.1)

    each_gathered : (js : List Kind) → Each P js → Each P (gathered p xs js)
    each_gathered js h = all_each P (gathered p xs js) (λ x at. go x (none_else same is_same own_same first (used_by p xs js) x at))
      where
        go : (x : Kind) → In x first ⊎ In x (used_by p xs js) → P x
        go x (inl (inl e)) = subst P (sym e) begins
        go x (inl (inr at)) = absurd at
        go x (inr at) = each_in P x (used_by p xs js) (each_used js h) at

    from_first : (js is : List Kind) → ks ≡ js ++ is → Each P js → Each P ks
    from_first js [] e h = subst (Each P) (sym (e ∙ append-nil js)) h
    from_first js (k ∷ is) e h =
        let fine : P k = each_in P k (gathered p xs js) (each_gathered js h) (next_in js k is e) in
        from_first (js ++ k ∷ []) is (e ∙ one_behind js k is) (each_side P js (k ∷ []) h (fine, tt))

    pub each_name : Each P ks
    each_name = from_first [] ks refl tt

  module _ (letter : ℕ → ℕ) where
    later_order : (js is : List Kind) → ks ≡ js ++ is → AreInOrder (length (gathered p xs js)) (appearances (all_rules (num ks letter) (written_for p xs) is))
    later_order js [] e = tt
    later_order js (k ∷ is) e =
        let f = prefix (js ++ k ∷ []) is (e ∙ one_behind js k is) in
        let all = gathered_more js k in
        let own = written_for p xs k in
        rules_known ks letter k own (gathered p xs js) f.0 (all_rules (num ks letter) (written_for p xs) is)
        (in_has same is_same own_same k (gathered p xs js) (next_in js k is e))
        (f.1 ∙ ap (λ (hs : List Kind). hs ++ f.0) all)
        (subst (λ (hs : List Kind). AreInOrder (length hs) (appearances (all_rules (num ks letter) (written_for p xs) is))) all
        (later_order (js ++ k ∷ []) is (e ∙ one_behind js k is)))

    from_one : (ns : List ℕ) (x : ℕ) (more : List ℕ) → ns ≡ x ∷ more → x ≡ 0 → AreInOrder 1 ns → AreInOrder 0 ns
    from_one ns x more e zero_is h = subst (AreInOrder 0) (sym e) (go x zero_is (subst (AreInOrder 1) e h))
      where
        go : (x : ℕ) → x ≡ 0 → AreInOrder 1 (x ∷ more) → AreInOrder 0 (x ∷ more)
        go zero i h = (omega arith, h.1)
        go (suc x) i h = absurd (omega (arith, i))

    -- the first rule is one of the start, whose number is 0
    first_left : (is : List Kind) → is ≡ ks → (own : NamedRule Kind) × In own (written_for p xs (start_kind xs))
        → (more : List ℕ) × (appearances (all_rules (num ks letter) (written_for p xs) is) ≡ place same (start_kind xs) ks ∷ more)
    first_left [] e some = absurd (omega (arith, ap length (e ∙ (prefix [] ks refl).1)))
    first_left (i ∷ is) e some =
        let at = next_in [] i is (sym e) in
        go at (written_for p xs i) refl
      where
        one : In i first → i ≡ start_kind xs
        one (inl e) = e
        one (inr at) = absurd at

        go : In i first → (rs : List (NamedRule Kind)) → written_for p xs i ≡ rs
            → (more : List ℕ) × (appearances (map (to_rule (num ks letter) i) rs ++ all_rules (num ks letter) (written_for p xs) is) ≡ place same (start_kind xs) ks ∷ more)
        go at [] none = absurd (subst (λ (rs : List (NamedRule Kind)). In some.0 rs) (ap (written_for p xs) (sym (one at)) ∙ none) some.1)
        go at (r ∷ rs) is_rs =
            let more = names_of (map (to_sym (num ks letter)) r.right) ++ appearances (map (to_rule (num ks letter) i) rs ++ all_rules (num ks letter) (written_for p xs) is) in
            (more, ap (λ (j : Kind). place same j ks ∷ more) (one at))

    start_place : place same (start_kind xs) ks ≡ 0
    start_place = ap (place same (start_kind xs)) (prefix [] ks refl).1 ∙ ap (λ (v : Bool). cond v 0 (suc (place same (start_kind xs) (prefix [] ks refl).0))) (own_same (start_kind xs))

    pub in_order : (own : NamedRule Kind) × In own (written_for p xs (start_kind xs)) → AreInOrder 0 (appearances (all_rules (num ks letter) (written_for p xs) ks))
    in_order some =
        let f = first_left ks refl some in
        from_one (appearances (all_rules (num ks letter) (written_for p xs) ks)) (place same (start_kind xs) ks) f.0 f.1 start_place (later_order [] ks refl)
