-- The order of first appearance, from one part of the rules to the next.
use Rattle.std.proofs.Common.{◌≡◌, ℕ, ◌+◌, ◌<◌, None, Some, List, [], ◌∷◌, ◌++◌, length, get_or, drop, refl, sym, ap, subst, ◌∙◌, arith, max, ◌↔◌, inl, inr}
use Rattle.std.specs.Prelude.{option_and_then}
use Rattle.std.proofs.lemmas.Bool.Decides.{leb_tells}
use Rattle.std.proofs.lemmas.List.{at_drop_more}
use Rattle.std.proofs.lemmas.Option.{same_Some, none-some}
use Rattle.model_rosters.specs.declared.grammar.Rule.{Rule}
use Rattle.model_rosters.specs.declared.grammar.Sym.{Sym}
use Rattle.model_rosters.specs.declared.grammar.Sym.TheVariants.{Code, Name}
use Rattle.model_rosters.specs.Order.{known_after}
use Rattle.model_rosters.specs.Sound.{names_of, appearances, AreInOrder}

-- the names of a list of symbols, from one symbol on
pub names_of-cons : (s : Sym) (ss : List Sym) → names_of (s ∷ ss) ≡ names_of (s ∷ []) ++ names_of ss
names_of-cons (Code c) ss = refl
names_of-cons (Name x) ss = refl

pub known_after-append : (k : ℕ) (xs ys : List ℕ) → known_after k (xs ++ ys) ≡ option_and_then (λ m. known_after m ys) (known_after k xs)
known_after-append k [] ys = refl
known_after-append k (x ∷ xs) ys = elim (leb_tells x k) [
  | inl p ↦ rw p.0 (known_after-append (max k (x + 1)) xs ys)
  | inr p ↦ rw p.0 refl
]

-- what is in order after some names, where these names are in order themselves
pub in_order_after : (k m : ℕ) (xs ys : List ℕ) → known_after k xs ≡ Some m → AreInOrder k (xs ++ ys) ↔ AreInOrder m ys
in_order_after k m [] ys e = subst (λ (z : ℕ). AreInOrder k ys ↔ AreInOrder z ys) (same_Some k m e) (λ h. h, λ h. h)
in_order_after k m (x ∷ xs) ys e = elim (leb_tells x k) [
  | inl p ↦ let rest = in_order_after (max k (x + 1)) m xs ys (rw p.0 at e) in (λ h. rest.0 h.1, λ h. (p.1, rest.1 h))
  | inr p ↦ absurd (none-some m (rw p.0 at e))
]

pub not_in_order : (k : ℕ) (xs ys : List ℕ) → known_after k xs ≡ None → AreInOrder k (xs ++ ys) → ⊥
not_in_order k [] ys e h = none-some k (sym e)
not_in_order k (x ∷ xs) ys e h = elim (leb_tells x k) [
  | inl p ↦ not_in_order (max k (x + 1)) xs ys (rw p.0 at e) h.1
  | inr p ↦ omega arith
]

-- from one rule to the next
module _ (rules : List Rule) (i : ℕ) (rule : Rule) (within : i < length rules) (is : rule ≡ get_or rules i rule) where
  appearances_next : appearances (drop i rules) ≡ (rule.left ∷ names_of rule.right) ++ appearances (drop (i + 1) rules)
  appearances_next =
      at_drop_more appearances rules i rule within
      ∙ ap (λ (r : Rule). (r.left ∷ names_of r.right) ++ appearances (drop (i + 1) rules)) (sym is)

  pub in_order_next : (k m : ℕ) → Some m ≡ known_after k (rule.left ∷ names_of rule.right)
      → AreInOrder 0 (appearances rules) ↔ AreInOrder k (appearances (drop i rules))
      → AreInOrder 0 (appearances rules) ↔ AreInOrder m (appearances (drop (i + 1) rules))
  in_order_next k m known before =
      let rest = in_order_after k m (rule.left ∷ names_of rule.right) (appearances (drop (i + 1) rules)) (sym known) in
      let P : List ℕ → Type 0 = λ (xs : List ℕ). AreInOrder k xs in
      (λ h. rest.0 (subst P appearances_next (before.0 h)), λ h. before.1 (subst P (sym appearances_next) (rest.1 h)))

  pub out_of_order : (k : ℕ) → None ≡ known_after k (rule.left ∷ names_of rule.right)
      → AreInOrder 0 (appearances rules) ↔ AreInOrder k (appearances (drop i rules))
      → AreInOrder 0 (appearances rules) → ⊥
  out_of_order k known before h =
      let P : List ℕ → Type 0 = λ (xs : List ℕ). AreInOrder k xs in
      not_in_order k (rule.left ∷ names_of rule.right) (appearances (drop (i + 1) rules)) (sym known)
      (subst P appearances_next (before.0 h))
