-- The periods in which shifts differ.
use Rattle.std.proofs.Common.{◌≡◌, ℕ, ◌+◌, Bool, true, false, List, [], ◌∷◌, ◌++◌, map, refl, sym, ap, ◌∙◌, add-one}
use Rattle.std.specs.Bool.{Decides, IsTrue}
use Rattle.std.specs.Prelude.{◌↔◌, ◌≢◌, if◌then◌else◌, nat_eq, slice_index}
use Rattle.std.proofs.lemmas.Bool.Decides.{Decides-eqb}
use Rattle.std.proofs.lemmas.List.{map-append}
use Rattle.model_rosters.specs.declared.instance.Shift.{Shift}
use Rattle.page_parts.specs.Elements.{places}
use Rattle.page_views.specs.Compared.{differs_in}

clash : false ≡ true → ⊥
clash e = cc

opposite : (r t : Bool) (P : Type 0) → (IsTrue r ↔ (P → ⊥)) → Decides t P → r ≡ (if t then false else true)
opposite true true P h d = absurd (h.0 refl (d.0 refl))
opposite true false P h d = refl
opposite false true P h d = refl
opposite false false P h d = h.1 (λ (p : P). clash (d.1 p))

-- whether letters are different is a test
pub differs_is : (before after : Shift) (period : ℕ) (r : Bool) → (IsTrue r ↔ (slice_index before.word period ≢ slice_index after.word period)) → r ≡ differs_in before after period
differs_is before after period r h =
    let a = slice_index before.word period in
    let b = slice_index after.word period in
    opposite r (nat_eq a b) (a ≡ b) h (Decides-eqb a b)

-- one more period
pub more_marks : (f : ℕ → Bool) (n : ℕ) (before after : List Bool) → before ≡ map f (places n) → after ≡ before ++ f n ∷ [] → after ≡ map f (places (n + 1))
more_marks f n before after e h =
    rw (add-one n) (h ∙ ap (λ (t : List Bool). t ++ f n ∷ []) e ∙ sym (map-append f (places n) (n ∷ [])))
