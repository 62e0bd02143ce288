-- What misses cost, as kept in 128 bits.
use Rattle.std.proofs.Common.{◌≡◌, ℕ, ℤ, pos, ◌^◌, ◌≤◌, ◌<◌, ◌==◌, if◌then◌else◌, Bool, true, false, Option, None, Some, arith, rules, SFits, to_z, of_z, refl}
use Rattle.std.specs.Int.{w128}
use Rattle.std.proofs.lemmas.Int.{ints, to_z_pos, to_z-of_z}
use Rattle.std.proofs.lemmas.Bool.{ne_eqb}
use Rattle.std.proofs.Math.Nat.{pow-le-pow_right}
use Rattle.model_rosters.specs.Sums.{Within}
use Rattle.tree_questions.specs.Prices.{miss}

pub power-le : (k : ℕ) → k ≤ 96 → ◌≤◌ (2 ^ k) (2 ^ 96)
power-le k h = pow-le-pow_right (omega arith) h

pick : (t : Bool) (k : ℕ) → k ≤ 96 → ◌≤◌ (if t then 0 else 2 ^ k) (2 ^ 96)
pick true k h = omega arith
pick false k h = power-le k h

pub miss-le : (o : Option ℕ) (b k : ℕ) → k ≤ 96 → miss o b k ≤ 2 ^ 96
miss-le None b k h = omega arith
miss-le (Some x) b k h = pick (x == b) k h

pub miss-within : (o : Option ℕ) (b k : ℕ) (z : ℤ) → k ≤ 96 → z ≡ pos (miss o b k) → Within (2 ^ 96) z
miss-within o b k z h e = let le = miss-le o b k h in record { low = omega (arith, ints, e, le); high = omega (arith, ints, e, le) }

-- a number below 2^127 as it is kept in 128 bits
pub kept-natural : (n : ℕ) → n < 2 ^ 127 → to_z w128 n ≡ pos n
kept-natural n small = to_z_pos w128 n small

pub missed-by : (o : Option ℕ) (x b k : ℕ) → o ≡ Some x → (x ≡ b → ⊥) → 2 ^ k ≡ miss o b k
missed-by o x b k e differs = rw (e, ne_eqb x b differs) refl

-- what is missed as it is kept
pub within-kept : (o : Option ℕ) (b k : ℕ) (z : ℤ) → k ≤ 96 → z ≡ pos (miss o b k) → Within (2 ^ 96) (to_z w128 (of_z w128 z))
within-kept o b k z h e =
    let le = miss-le o b k h in
    let small : miss o b k < 2 ^ 127 = omega (arith, le) in
    let fits : SFits w128 (pos (miss o b k)) = search (rules, small) in
    let kept : to_z w128 (of_z w128 z) ≡ pos (miss o b k) = rw e (to_z-of_z w128 (pos (miss o b k)) fits) in
    miss-within o b k (to_z w128 (of_z w128 z)) h kept
