-- The first place that passes a test, and whether one passes.
use Rattle.std.proofs.Common.{◌≡◌, ℕ, ◌+◌, Bool, true, false, not, ◌||◌, cond, List, [], ◌∷◌, length, refl, sym, ◌∙◌, arith, inl, inr, ltb, suc}
use Rattle.std.specs.List.{list_any, position_or_len}
use Rattle.std.proofs.lemmas.Bool.{cases_lt, lt-ltb, le-ltb}

ltb-suc : (a b : ℕ) → ltb a b ≡ ltb (1 + a) (suc b)
ltb-suc a b = elim (cases_lt a b) [
  | inl lt ↦ lt-ltb a b lt ∙ sym (lt-ltb (1 + a) (suc b) (omega arith))
  | inr ge ↦ le-ltb a b ge ∙ sym (le-ltb (1 + a) (suc b) (omega arith))
]

pub any_place : {X : Type 0} (p : X → Bool) (xs : List X) → list_any p xs ≡ ltb (position_or_len p xs) (length xs)
any_place p [] = refl
any_place p (x ∷ xs) = by (p x) (any_place p xs)
  where
    by : (t : Bool) → list_any p xs ≡ ltb (position_or_len p xs) (length xs) → (t || list_any p xs) ≡ ltb (cond (not t) (1 + position_or_len p xs) 0) (suc (length xs))
    by true h = sym (lt-ltb 0 (suc (length xs)) (omega arith))
    by false h = h ∙ ltb-suc (position_or_len p xs) (length xs)
