-- The shares of a Lagrangian value are small.
use Rattle.std.proofs.Common.{◌≡◌, ℕ, ℤ, zero, suc, arith, pos, negsuc, neg_ℤ, ◌+ℤ◌, ◌*ℤ◌, ◌+◌, ◌-◌, ◌*◌, ◌^◌, ◌≤◌, min, Option, None, Some, IfSome}
use Rattle.std.proofs.Math.Nat.{mul-le-mul_left, mul-le-mul_right}
use Rattle.std.proofs.lemmas.Int.{ints, clamps}
use Rattle.std.specs.Int.{int_min}
use Rattle.model_rosters.specs.declared.instance.Cell.{Cell}
use Rattle.model_rosters.specs.declared.instance.Side.{Side}
use Rattle.model_rosters.specs.declared.instance.Side.TheVariants.{Low, High}
use Rattle.model_rosters.specs.Sums.{Within}
use Rattle.model_rosters.specs.Coverage.{penalty}
use Rattle.model_rosters.specs.Limits.{IsLimitedCell}
use Rattle.model_rosters.specs.Reduced.{CellPrice}
use Rattle.law_bounds.specs.Lagrangian.{trees_share, least_from, cell_at, cell_share, share_of}
use Rattle.model_rosters.proofs.tree_laws.Bounds.{Within-more}

times_le : (a b x y : ℕ) → a ≤ x → b ≤ y → a * b ≤ x * y
times_le a b x y h k = let l = mul-le-mul_right b h in let r = mul-le-mul_left x k in omega (arith, l, r)

-- a count times a small number
times_within : (m k n : ℕ) (z : ℤ) → k ≤ n → Within m z → Within (m * n) (z *ℤ pos k)
times_within m k n (pos x) h w =
    let l = times_le x k m n (omega (arith, ints, w.high)) h in
    record { low = omega (arith, ints); high = omega (arith, ints, l) }
times_within m k n (negsuc x) h w =
    let l = times_le (suc x) k m n (omega (arith, ints, w.low)) h in
    record { low = omega (arith, ints, l); high = omega (arith, ints) }

neg_within : (m : ℕ) (z : ℤ) → Within m z → Within m (neg_ℤ z)
neg_within m z w = record { low = omega (arith, ints, w.high); high = omega (arith, ints, w.low) }

turned : (a : ℕ) (z : ℤ) → pos a *ℤ z ≡ z *ℤ pos a
turned a (pos z) = omega (arith, ints)
turned a (negsuc z) = omega (arith, ints)

pub heads-within : (a b : ℕ) (z : Option ℤ) → a ≤ 64 → b ≤ 64 → IfSome z (Within (2 ^ 110)) → Within (2 ^ 116) (trees_share a b z)
heads-within a b None h k w = record { low = omega (arith, ints); high = omega (arith, ints) }
heads-within a b (Some (pos z)) h k w = rw (turned a (pos z)) (Within-more (2 ^ 110 * 64) (2 ^ 116) (pos z *ℤ pos a) (omega arith) (times_within (2 ^ 110) a 64 (pos z) h w))
heads-within a b (Some (negsuc z)) h k w = rw (turned b (negsuc z)) (Within-more (2 ^ 110 * 64) (2 ^ 116) (negsuc z *ℤ pos b) (omega arith) (times_within (2 ^ 110) b 64 (negsuc z) k w))

penalty_le : (c : Cell) (n : ℕ) → n ≤ 64 → IsLimitedCell c → penalty c n ≤ 1280000
penalty_le c n h l =
    let a = times_le c.under (c.need - n) 10000 64 l.under (omega (arith, l.need)) in
    let b = times_le c.over (n - c.need) 10000 64 l.over (omega arith) in
    omega (arith, a, b)

pub cells-within : (d n : ℕ) (q : CellPrice) → d ≤ 2 ^ 30 → n ≤ 64 → IsLimitedCell q.cell → Within (2 ^ 80) q.price → Within (2 ^ 87) (cell_at d q n)
cells-within d n q hd hn l w =
    let p = times_within (2 ^ 80) n 64 q.price hn w in
    let a = times_le d (penalty q.cell n) (2 ^ 30) 1280000 hd (penalty_le q.cell n hn l) in
    let e : pos d *ℤ pos (penalty q.cell n) ≡ pos (d * penalty q.cell n) = omega (arith, ints) in
    sum (d * penalty q.cell n) (q.price *ℤ pos n) (pos d *ℤ pos (penalty q.cell n)) e a p
  where
    sum : (x : ℕ) (z y : ℤ) → y ≡ pos x → x ≤ 2 ^ 30 * 1280000 → Within (2 ^ 80 * 64) z → Within (2 ^ 87) (y +ℤ z)
    sum x z y e h k = record { low = omega (arith, ints, e, h, k.low); high = omega (arith, ints, e, h, k.high) }

min_within : (m : ℕ) (y z : ℤ) → Within m y → Within m z → Within m (int_min y z)
min_within m y z h k = record { low = omega (arith, ints, clamps, h.low, k.low); high = omega (arith, ints, clamps, h.high, k.high) }

least_within : (f : ℕ → ℤ) (m a n : ℕ) → ((k : ℕ) → k ≤ a + n → Within m (f k)) → Within m (least_from f a n)
least_within f m a zero h = h a (omega arith)
least_within f m a (suc n) h = min_within m (least_from f a n) (f (a + suc n)) (least_within f m a n (λ k l. h k (omega arith))) (h (a + suc n) (omega arith))

pub least-within : (d most : ℕ) (q : CellPrice) → d ≤ 2 ^ 30 → most ≤ 64 → IsLimitedCell q.cell → Within (2 ^ 80) q.price → Within (2 ^ 87) (cell_share d most q)
least-within d most q hd hm l w = least_within (cell_at d q) (2 ^ 87) q.cell.floor (min q.cell.ceiling most - q.cell.floor) (λ k h. cells-within d k q hd (omega (arith, h, l.floor)) l w)

pub cuts-within : (s : Side) (m : ℤ) (b : ℕ) → b ≤ 64 → Within (2 ^ 80) m → Within (2 ^ 87) (share_of s m b)
cuts-within Low m b h w = neg_within (2 ^ 87) (m *ℤ pos b) (Within-more (2 ^ 80 * 64) (2 ^ 87) (m *ℤ pos b) (omega arith) (times_within (2 ^ 80) b 64 m h w))
cuts-within High m b h w = Within-more (2 ^ 80 * 65) (2 ^ 87) (m *ℤ pos (b + 1)) (omega arith) (times_within (2 ^ 80) (b + 1) 65 m (omega arith) w)
