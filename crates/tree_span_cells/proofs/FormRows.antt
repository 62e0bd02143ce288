-- How many spans are short, and where the spans of a length stand.
use Rattle.std.proofs.Common.{◌≡◌, ℕ, zero, suc, arith, ◌+◌, ◌-◌, ◌*◌, ◌/◌, ◌<◌, ◌≤◌, ◌⊎◌, inl, inr, refl, ap}
use Rattle.std.proofs.Math.Nat.{mul-le-mul_right}
use Rattle.model_rosters.specs.Grammar.{InDay}
use Rattle.tree_span_cells.specs.Places.{shorter, place_of}

-- the sum of the counts by length, in closed form
pub shorter-doubled : (l d n : ℕ) → n ≡ l + d → 2 * shorter n l ≡ l * (l + 2 * d + 1)
shorter-doubled zero d n e = omega arith
shorter-doubled (suc l) d n e =
    let ih = shorter-doubled l (d + 1) n (omega arith) in
    let k : n - l ≡ d + 1 = omega arith in
    rw k (omega (arith, ih))

-- one length more
-- a day of n periods has n (n + 1) / 2 spans
pub all-spans : (n : ℕ) → shorter n n ≡ n * (n + 1) / 2
all-spans n = let twice = shorter-doubled n 0 n (omega arith) in omega (arith, twice)

pub shorter-next : (n l : ℕ) → 1 ≤ l → shorter n l ≡ shorter n (l - 1) + (n + 1 - l)
shorter-next n zero h = absurd (omega (arith, h))
shorter-next n (suc l) h =
    let e : suc l - 1 ≡ l = omega arith in
    let k : n + 1 - suc l ≡ n - l = omega arith in
    rw (e, k) refl

or_less : (l m : ℕ) → l ≤ suc m → (l ≤ m) ⊎ (l ≡ suc m)
or_less l m h = grind arith

pub shorter-more : (n l m : ℕ) → l ≤ m → shorter n l ≤ shorter n m
shorter-more n l zero h = let e : l ≡ 0 = omega arith in rw e (omega arith)
shorter-more n l (suc m) h = by (or_less l m h) (λ k. shorter-more n l m k)
  where
    by : (l ≤ m) ⊎ (l ≡ suc m) → (l ≤ m → shorter n l ≤ shorter n m) → shorter n l ≤ shorter n m + (n - m)
    by (inl k) ih = omega (arith, ih k)
    by (inr e) ih = rw e (omega arith)

pub shorter-small : (n l : ℕ) → shorter n l ≤ l * n
shorter-small n zero = omega arith
shorter-small n (suc l) = omega (arith, shorter-small n l)

-- the place of a span of the day is below the number of spans
pub place-within : (n i l : ℕ) → InDay n i l → place_of n i l < shorter n n
place-within n i l day = omega (arith, day.begins, day.some, day.within, shorter-next n l day.some, shorter-more n l n (omega (arith, day.begins, day.some, day.within)))

-- a product of two bytes
pub small-square : (n l : ℕ) → n < 256 → l ≤ n → l * n ≤ 65535
small-square n l h k = omega (arith, mul-le-mul_right n k, mul-le-mul_right n (let q : n ≤ 255 = omega arith in q))

-- in the row of the spans of the greatest length there is only one
pub rest-last : (n l rest place : ℕ) → 1 ≤ l → n ≤ l → l ≤ n → shorter n (l - 1) + rest ≡ place → place < shorter n n → rest < n + 1 - l
rest-last n l rest place one low high e within =
    let same : l ≡ n = omega arith in
    let whole = shorter-next n l one in
    let all = ap (shorter n) same in
    omega (arith, whole, all)

one_of : (l m : ℕ) → (l < m) ⊎ ((m < l) ⊎ (l ≡ m))
one_of l m = grind arith

-- spans come one length after another
pub place-before : (n i l j m : ℕ) → InDay n i l → InDay n j m → l < m → place_of n i l < place_of n j m
place-before n i l j m a b less =
    omega (arith, a.begins, a.some, a.within, b.begins, shorter-next n l a.some, shorter-more n l (m - 1) (omega arith))

-- the spans of one length stand in the order of their starts
pub place-next : (n i l : ℕ) → 1 ≤ i → place_of n (i + 1) l ≡ place_of n i l + 1
place-next n i l h = omega arith

-- the first span of the next length stands after the last one of this length
pub place-longer : (n l : ℕ) → 1 ≤ l → l ≤ n → place_of n 1 (l + 1) ≡ place_of n (n + 1 - l) l + 1
place-longer n l one most =
    let e : l + 1 - 1 ≡ l = omega arith in
    rw e (omega (arith, shorter-next n l one))

-- two spans of the day have different places
pub place-apart : (n i l j m : ℕ) → InDay n i l → InDay n j m → place_of n i l ≡ place_of n j m → (i ≡ j) × (l ≡ m)
place-apart n i l j m a b same = by (one_of l m)
  where
    by : (l < m) ⊎ ((m < l) ⊎ (l ≡ m)) → (i ≡ j) × (l ≡ m)
    by (inl less) = absurd (omega (arith, place-before n i l j m a b less))
    by (inr (inl more)) = absurd (omega (arith, place-before n j m i l b a more))
    by (inr (inr e)) = let k = ap (λ (x : ℕ). shorter n (x - 1)) e in (omega (arith, a.begins, b.begins, k), e)
