-- A text and its first bytes, up to one above a limit, are read alike.
use Rattle.std.proofs.Common.{◌≡◌, ℕ, ◌+◌, ◌<◌, ◌≤◌, ltb, cond, List, length, take, arith, sym, ap, refl, ◌∙◌, ◌⊎◌, inl, inr}
use Rattle.std.proofs.lemmas.Bool.{cases_lt, lt-ltb}
use Rattle.std.proofs.lemmas.List.{take_all, length-take-le}
use Rattle.command_shelf.specs.Shelf.{front_to}

-- a text and its front are both longer than the limit, or the front is the text
pub front-cases : (most : ℕ) (text : List ℕ)
    → ((most < length text) × (most < length (front_to most text))) ⊎ (front_to most text ≡ text)
front-cases most text = elim (cases_lt most (length text)) [
  | inl lt ↦
      let long : length (take (most + 1) text) ≡ most + 1 = length-take-le (most + 1) text (omega (arith, lt)) in
      inl (lt, omega (arith, long))
  | inr ge ↦ inr (take_all (most + 1) text (omega (arith, ge)))
]

-- what refuses texts over a limit, and reads others, refuses a longer one
pub over_limit : {R : Type 0} (limit : ℕ) (refusal : R) (reading : List ℕ → R) (text : List ℕ) → limit < length text
    → cond (ltb limit (length text)) refusal (reading text) ≡ refusal
over_limit limit refusal reading text lt = rw (lt-ltb limit (length text) lt) refl

-- what refuses texts over a limit, and reads others, reads a text and its front alike, where the front goes to that
-- limit or beyond
pub alike : {R : Type 0} (most limit : ℕ) (refusal : R) (reading : List ℕ → R) (text : List ℕ) → limit ≤ most
    → cond (ltb limit (length (front_to most text))) refusal (reading (front_to most text))
    ≡ cond (ltb limit (length text)) refusal (reading text)
alike most limit refusal reading text le = elim (front-cases most text) [
  | inl over ↦
      over_limit limit refusal reading (front_to most text) (omega (arith, le, over.1))
      ∙ sym (over_limit limit refusal reading text (omega (arith, le, over.0)))
  | inr same ↦ ap (λ (t : List ℕ). cond (ltb limit (length t)) refusal (reading t)) same
]
