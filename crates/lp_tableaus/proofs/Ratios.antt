-- The row that leaves: quotients in order.
use Rattle.std.proofs.Common.{◌≡◌, ℕ, ◌<◌, ◌+◌, arith, pos, ℤ, List, ◌*ℤ◌, ◌≤ℤ◌, ◌<ℤ◌, ap, ◌∙◌, ◌⊎◌, inl, inr}
use Rattle.std.proofs.lemmas.Int.{ints}
use Rattle.std.proofs.lemmas.Bool.{cases_eq}
use lib.IntN.{*ℤ_comm}
use Rattle.law_bounds.proofs.linear_programs.Ring.{*ℤ-assoc}
use Rattle.law_bounds.proofs.linear_programs.Orders.{scale_le, le_factor}
use Rattle.lp_fractions.specs.Row.{at}
use Rattle.lp_tableaus.specs.Lines.{row_at, IsLeaving}

pub turned : (a b c : ℤ) → a *ℤ (b *ℤ c) ≡ c *ℤ (b *ℤ a)
turned a b c = *ℤ_comm a (b *ℤ c) ∙ ap (λ (z : ℤ). z *ℤ a) (*ℤ_comm b c) ∙ *ℤ-assoc c b a

-- a / d ≤ b / e ≤ c / f, by products
through : (a b c d e f : ℤ) → pos 0 <ℤ d → pos 0 <ℤ e → pos 0 <ℤ f → (a *ℤ e) ≤ℤ (b *ℤ d) → (b *ℤ f) ≤ℤ (c *ℤ e) → (a *ℤ f) ≤ℤ (c *ℤ d)
through a b c d e f pd pe pf h k =
    let x = scale_le f (a *ℤ e) (b *ℤ d) (omega (arith, ints)) h in
    let y = scale_le d (b *ℤ f) (c *ℤ e) (omega (arith, ints)) k in
    let u = turned f b d in
    let v = turned e a f in
    let w = turned d c e in
    le_factor e (a *ℤ f) (c *ℤ d) pe (omega (arith, ints))

module _ (m : ℕ) (rows : List (List ℤ)) (entries : List ℤ) (n t : ℕ) (l : IsLeaving m rows entries n t) where
  pub next_leaves : pos 0 <ℤ at entries n → (at (row_at rows n) m *ℤ at entries t) ≤ℤ (at (row_at rows t) m *ℤ at entries n) → IsLeaving m rows entries (n + 1) n
  next_leaves positive lower = record { within = omega arith; positive = positive; least = λ r h p. by r h p (cases_eq r n) }
    where
      by : (r : ℕ) → r < n + 1 → pos 0 <ℤ at entries r → (r ≡ n) ⊎ (r ≡ n → ⊥) → (at (row_at rows n) m *ℤ at entries r) ≤ℤ (at (row_at rows r) m *ℤ at entries n)
      by r h p (inl e) = rw e (omega (arith, ints))
      by r h p (inr e) =
          through (at (row_at rows n) m) (at (row_at rows t) m) (at (row_at rows r) m) (at entries n) (at entries t) (at entries r) positive l.positive p lower (l.least r (omega arith) p)

  pub least_stays : (pos 0 <ℤ at entries n → (at (row_at rows t) m *ℤ at entries n) ≤ℤ (at (row_at rows n) m *ℤ at entries t)) → IsLeaving m rows entries (n + 1) t
  least_stays higher = record { within = let w = l.within in omega arith; positive = l.positive; least = λ r h p. by r h p (cases_eq r n) }
    where
      by : (r : ℕ) → r < n + 1 → pos 0 <ℤ at entries r → (r ≡ n) ⊎ (r ≡ n → ⊥) → (at (row_at rows t) m *ℤ at entries r) ≤ℤ (at (row_at rows r) m *ℤ at entries t)
      by r h p (inl e) = rw e (higher (rw e at p))
      by r h p (inr e) = l.least r (omega arith) p

module _ (m : ℕ) (rows : List (List ℤ)) (entries : List ℤ) (n : ℕ) where
  -- the first row with an entry above 0
  pub first_leaves : pos 0 <ℤ at entries n → ((r : ℕ) → r < n → at entries r ≤ℤ pos 0) → IsLeaving m rows entries (n + 1) n
  first_leaves positive before = record { within = omega arith; positive = positive; least = λ r h p. by r h p (cases_eq r n) }
    where
      by : (r : ℕ) → r < n + 1 → pos 0 <ℤ at entries r → (r ≡ n) ⊎ (r ≡ n → ⊥) → (at (row_at rows n) m *ℤ at entries r) ≤ℤ (at (row_at rows r) m *ℤ at entries n)
      by r h p (inl e) = rw e (omega (arith, ints))
      by r h p (inr e) = let low = before r (omega (arith, h, e)) in absurd (omega (arith, ints, low, p))
