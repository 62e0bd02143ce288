-- The first period that begins at a multiple of so many minutes by the clock.
use Rattle.std.proofs.Common.{◌≡◌, ◌≢◌, ◌⊎◌, inl, inr, ℕ, ◌<◌, ◌≤◌, ◌+◌, ◌*◌, ◌/◌, ◌%◌, arith, ap, ◌∙◌, subst, mul-le-mul_right}
use Rattle.std.proofs.lemmas.Nat.{div-add-mod', mod-mul-add}
use Rattle.plan_meaning.specs.Whole.{IsMultiple}
use Rattle.plan_laws.proofs.Counts.{whole_is}

-- nothing remains of a multiple
rest_none : (n s : ℕ) → 1 ≤ s → IsMultiple n s → n % s ≡ 0
rest_none n s some (q, e) =
    let with_none : n ≡ q * s + 0 = omega (arith, e) in
    ap (λ k. k % s) with_none ∙ mod-mul-add q s 0 some

from_rest : (n s : ℕ) → n % s ≡ 0 → IsMultiple n s
from_rest n s e = (n / s, (let all = div-add-mod' n s in omega (arith, all, e)))

-- no period before this one begins so
abbrev pub IsNoneBefore : ℕ → ℕ → ℕ → ℕ → Type 0
IsNoneBefore begin m s f = (k : ℕ) → k < f → IsMultiple (begin + k * m) s → ⊥

pub none_yet : (begin m s f : ℕ) → 1 ≤ s → (begin + f * m) % s ≢ 0 → IsNoneBefore begin m s f → IsNoneBefore begin m s (f + 1)
none_yet begin m s f some past none k less h = go (grind arith)
  where
    go : (k < f) ⊎ (k ≡ f) → ⊥
    go (inl l) = none k l h
    go (inr e) = past (rest_none (begin + f * m) s some (subst (λ (n : ℕ). IsMultiple (begin + n * m) s) e h))

pub is_first : (begin m s f : ℕ) → (begin + f * m) % s ≡ 0 → IsNoneBefore begin m s f
    → ((g : ℕ) × ((g * m < s) × IsMultiple (begin + g * m) s)) → (f * m < s) × IsMultiple (begin + f * m) s
is_first begin m s f here none (g, h) = go (grind arith)
  where
    go : (g < f) ⊎ (f ≤ g) → (f * m < s) × IsMultiple (begin + f * m) s
    go (inl l) = absurd (none g l h.1)
    go (inr l) = ((let le = mul-le-mul_right m l in let early = h.0 in omega (arith, le, early)), from_rest (begin + f * m) s here)

-- there is one among the periods of the day
pub not_none : (begin m s f : ℕ) → 1 ≤ m → IsMultiple s m → s / m ≤ 96 → 96 ≤ f → IsNoneBefore begin m s f
    → ((g : ℕ) × ((g * m < s) × IsMultiple (begin + g * m) s)) → ⊥
not_none begin m s f some whole few all none (g, h) = go (grind arith)
  where
    go : (g < 96) ⊎ (96 ≤ g) → ⊥
    go (inl l) = none g (omega (arith, l, all)) h.1
    go (inr l) =
        let is = whole_is s m whole some in
        let most = mul-le-mul_right m few in
        let late = mul-le-mul_right m l in
        let early = h.0 in
        absurd (omega (arith, is, most, late, early))
