-- The names that rules need, gathered from name to name.
use Rattle.std.proofs.Common.{◌≡◌, ◌⊎◌, inl, inr, ℕ, zero, suc, ◌<◌, ◌≤◌, ◌+◌, List, [], ◌∷◌, ◌++◌, length, map, take, arith, refl, sym, ap, ◌∙◌, subst, length-append}
use Rattle.std.proofs.lemmas.List.{append_assoc, append-nil, take-append-le}
use Rattle.model_rosters.specs.Folds.{In}
use Rattle.plan_laws.specs.declared.period_plan.NamedLines.{NamedLines}
use Rattle.plan_laws.specs.declared.period_plan.PeriodPlan.{PeriodPlan}
use Rattle.plan_laws.specs.Named.{NamedRule}
use Rattle.plan_laws.specs.Names.{Kind}
use Rattle.plan_laws.proofs.ItemByItem.{IsItemByItem}
use Rattle.plan_laws.proofs.Words.{in_first, in_second}
use Rattle.plan_names.specs.declared.rule.NameRule.{NameRule}
use Rattle.plan_names.specs.declared.rule.RuleSymbol.{RuleSymbol}
use Rattle.plan_names.specs.declared.rule.RuleSymbol.TheVariants as symbols
use Rattle.plan_names.specs.Gathered.{with_all}
use Rattle.plan_names.specs.Same.{same}
use Rattle.plan_names.specs.StartNames.{start_kind}
use Rattle.plan_names.specs.Views.{rule_of, symbol_of}
use Rattle.plan_names.specs.WrittenFor.{written_for}
use Rattle.plan_names.proofs.Gathering.{all_append, all_behind, all_in, all_kept}
use Rattle.plan_names.proofs.SameNames.{is_same, own_same}
use Rattle.plan_rules.specs.Closed.{AreNeeded, IsClosed, gathered, names_in, names_of_rules, used_by}

take_long : (ks : List Kind) (i : ℕ) → length ks ≤ i → take i ks ≡ ks
take_long [] zero l = refl
take_long [] (suc i) l = refl
take_long (k ∷ ks) zero l = absurd (omega (arith, l))
take_long (k ∷ ks) (suc i) l = ap (λ js. k ∷ js) (take_long ks i (omega (arith, l)))

same_take : (old new more : List Kind) (n : ℕ) → new ≡ old ++ more → n ≤ length old → take n new ≡ take n old
same_take old new more n is within = ap (take n) is ∙ take-append-le n old more within

-- item by item
pub names_in_one : IsItemByItem (λ (ss : List RuleSymbol). names_in (map symbol_of ss))
names_in_one = record { none = refl; more = one }
  where
    one : (x : RuleSymbol) (xs : List RuleSymbol) → names_in (map symbol_of (x ∷ xs)) ≡ names_in (map symbol_of (x ∷ [])) ++ names_in (map symbol_of xs)
    one (symbols.Coded c) xs = refl
    one (symbols.Named k) xs = refl

pub names_of_rules_one : IsItemByItem (λ (rs : List NameRule). names_of_rules (map rule_of rs))
names_of_rules_one = record {
  none = refl;
  more = λ x xs. ap (λ ks. ks ++ names_of_rules (map rule_of xs)) (sym (append-nil (names_in (map symbol_of x.right))));
}

module _ (p : PeriodPlan) (xs : List NamedLines) where
  pub used_behind : (js ks : List Kind) → used_by p xs (js ++ ks) ≡ used_by p xs js ++ used_by p xs ks
  used_behind [] ks = refl
  used_behind (j ∷ js) ks =
      ap (λ us. names_of_rules (written_for p xs j) ++ us) (used_behind js ks)
      ∙ sym (append_assoc (names_of_rules (written_for p xs j)) (used_by p xs js) (used_by p xs ks))

  abbrev first : List Kind
  first = start_kind xs ∷ []

  -- one name more whose rules' names are gathered
  pub closed_step : (old new : List Kind) (i : ℕ) (k : Kind) → i < length old
      → take (i + 1) old ≡ take i old ++ k ∷ []
      → old ≡ gathered p xs (take i old) → AreNeeded p xs i old
      → new ≡ with_all same old (names_of_rules (written_for p xs k))
      → (new ≡ gathered p xs (take (i + 1) new)) × AreNeeded p xs (i + 1) new × (i + 1 ≤ length new)
  closed_step old new i k within at kept need is =
      let b = all_behind same old (names_of_rules (written_for p xs k)) in
      let new_is : new ≡ old ++ b.0 = is ∙ b.1 in
      let long = ap length new_is ∙ length-append old b.0 in
      let begin : take (i + 1) new ≡ take i old ++ k ∷ [] = same_take old new b.0 (i + 1) new_is (more within) ∙ at in
      let more_used : used_by p xs (take (i + 1) new) ≡ used_by p xs (take i old) ++ names_of_rules (written_for p xs k) =
      ap (used_by p xs) begin ∙ used_behind (take i old) (k ∷ []) ∙ ap (λ us. used_by p xs (take i old) ++ us) (append-nil (names_of_rules (written_for p xs k))) in (
        is ∙ ap (λ os. with_all same os (names_of_rules (written_for p xs k))) kept
            ∙ sym (all_append same first (used_by p xs (take i old)) (names_of_rules (written_for p xs k)))
            ∙ ap (with_all same first) (sym more_used),
        (λ j less. go j (same_take old new b.0 j new_is (below j less)) (grind arith)),
        omega (arith, long, within),
      )
    where
      more : {a b : ℕ} → a < b → a + 1 ≤ b
      more h = omega arith

      below : (j : ℕ) → j < i + 1 → j ≤ length old
      below j less = omega (arith, less, within)

      go : (j : ℕ) → take j new ≡ take j old → (j < i) ⊎ (j ≡ i) → j < length (gathered p xs (take j new))
      go j begin (inl early) = subst (λ ks. j < length (gathered p xs ks)) (sym begin) (need j early)
      go j begin (inr same_place) =
          let here : take j new ≡ take i old = begin ∙ ap (λ n. take n old) same_place in
          let long : length (gathered p xs (take j new)) ≡ length old = ap (λ ks. length (gathered p xs ks)) here ∙ ap length (sym kept) in
          omega (arith, long, same_place, within)

  in_used : (x k : Kind) (ks : List Kind) → In k ks → In x (names_of_rules (written_for p xs k)) → In x (used_by p xs ks)
  in_used x k [] at one = absurd at
  in_used x k (j ∷ ks) (inl e) one =
      in_first x (names_of_rules (written_for p xs j)) (used_by p xs ks) (subst (λ z. In x (names_of_rules (written_for p xs z))) e one)
  in_used x k (j ∷ ks) (inr at) one = in_second x (names_of_rules (written_for p xs j)) (used_by p xs ks) (in_used x k ks at one)

  in_rules : (x : Kind) (own : NamedRule Kind) (rs : List (NamedRule Kind)) → In own rs → In x (names_in own.right) → In x (names_of_rules rs)
  in_rules x own [] at one = absurd at
  in_rules x own (r ∷ rs) (inl e) one = in_first x (names_in r.right) (names_of_rules rs) (subst (λ z. In x (names_in z.right)) e one)
  in_rules x own (r ∷ rs) (inr at) one = in_second x (names_in r.right) (names_of_rules rs) (in_rules x own rs at one)

  -- the start is one of the names, and so is each name of a rule of these
  pub start_in : (ks : List Kind) → IsClosed p xs ks → In (start_kind xs) ks
  start_in ks closed = subst (λ ns. In (start_kind xs) ns) (sym closed.closed) (all_kept same is_same own_same first (used_by p xs ks) (start_kind xs) (inl refl))

  pub name_in : (ks : List Kind) → IsClosed p xs ks → (x k : Kind) (own : NamedRule Kind) → In k ks → In own (written_for p xs k) → In x (names_in own.right) → In x ks
  name_in ks closed x k own at one right =
      subst (λ ns. In x ns) (sym closed.closed)
      (all_in same is_same own_same first (used_by p xs ks) x (in_used x k ks at (in_rules x own (written_for p xs k) one right)))

  -- where all names were gone through, nothing is left
  pub closed_end : (ks : List Kind) (i : ℕ) → length ks ≤ i → ks ≡ gathered p xs (take i ks) → AreNeeded p xs i ks → IsClosed p xs ks
  closed_end ks i all kept need = record {
    closed = kept ∙ ap (gathered p xs) (take_long ks i all);
    needed = λ j less. need j (omega (arith, less, all));
  }
