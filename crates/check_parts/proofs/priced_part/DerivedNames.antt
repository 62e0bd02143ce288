-- What a list tells of the names that derive a word of the day.
use Rattle.std.proofs.Common.{◌≡◌, ◌≢◌, ◌↔◌, ℕ, ◌+◌, ◌<◌, Bool, true, false, not, List, length, set, get_or, get_or-set_same, get_or-set_other, arith, refl, sym, ◌∙◌, ap, subst, ◌⊎◌, inl, inr}
use Rattle.std.specs.Prelude.{slice_index_or, slice_set, IsTrue}
use Rattle.model_rosters.specs.declared.grammar.Grammar.{Grammar}
use Rattle.check_parts.specs.priced_part.Filled.{NeedsInVain, TellsDerived}

-- employees are needed in vain where the list tells that the name derives nothing
pub in-vain : (g : Grammar) (derives : List Bool) → TellsDerived g derives → (x least : ℕ) → x < length g.names
    → ((0 < least) × (slice_index_or derives x true ≡ false)) ↔ NeedsInVain g x least
in-vain g derives tells x least lt = let t = tells.told x lt in (λ h. (h.0, t.0 h.1), λ h. (h.0, t.1 h.1))

before_or_here : (x n : ℕ) → x < n + 1 → (x < n) ⊎ (x ≡ n)
before_or_here x n lt = grind arith

not_false : (e : Bool) → not e ≡ false → e ≡ true
not_false true h = refl
not_false false h = cc

true_not : (e : Bool) → e ≡ true → not e ≡ false
true_not true h = refl
true_not false h = cc

-- one name more, of which the test tells whether it derives nothing
pub told-next : (None : ℕ → Type 0) (derives : List Bool) (n : ℕ) (e : Bool) → n < length derives → (IsTrue e ↔ None n)
    → ((x : ℕ) → x < n → (slice_index_or derives x true ≡ false) ↔ None x)
    → (x : ℕ) → x < n + 1 → (slice_index_or (slice_set derives n (not e)) x true ≡ false) ↔ None x
told-next None derives n e within is told x lt = by (before_or_here x n lt)
  where
    by : (x < n) ⊎ (x ≡ n) → (get_or (set derives n (not e)) x true ≡ false) ↔ None x
    by (inl k) =
        let ne : x ≢ n = omega (arith, k) in
        let same = get_or-set_other derives n x (not e) true ne in
        (λ h. (told x k).0 (sym same ∙ h), λ h. same ∙ (told x k).1 h)
    by (inr k) =
        let same : get_or (set derives n (not e)) x true ≡ not e = rw k (get_or-set_same derives n (not e) true within) in
        (λ h. subst None (sym k) (is.0 (not_false e (sym same ∙ h))), λ h. same ∙ true_not e (is.1 (subst None k h)))
