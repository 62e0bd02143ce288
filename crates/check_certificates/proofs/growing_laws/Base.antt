-- No box has more points than all counts together.
use Rattle.std.proofs.Common.{◌≡◌, ℕ, zero, suc, arith, ◌+◌, ◌*◌, ◌≤◌, List, [], ◌∷◌, length}
use Rattle.std.specs.Prelude.{◌^◌}
use Rattle.std.proofs.Math.Nat.{pow-succ', pow-zero}
use Rattle.model_rosters.specs.declared.grammar.ArcKey.{ArcKey}
use Rattle.model_rosters.specs.declared.instance.Cut.{Cut}
use Rattle.check_certificates.specs.growing_laws.Boxes.{room, size}
use Rattle.model_rosters.proofs.arc_laws.PathBounds.{hi_le}

room_le : (most : ℕ) (cuts : List Cut) (a : ArcKey) → room most cuts a ≤ most + 1
room_le most cuts a = omega (arith, hi_le most cuts a)

product_le : (a b c d : ℕ) → a ≤ b → c ≤ d → a * c ≤ b * d
product_le zero b c d h k = omega arith
product_le (suc a) zero c d h k = absurd (omega (arith, h))
product_le (suc a) (suc b) c d h k =
    let ih = product_le a b c d (omega (arith, h)) k in
    let x : suc a * c ≡ c + a * c = omega arith in
    let y : suc b * d ≡ d + b * d = omega arith in
    omega (arith, ih, x, y, k)

pub size_le : (most : ℕ) (cuts : List Cut) (listed : List ArcKey) → size most cuts listed ≤ (most + 1) ^ length listed
size_le most cuts [] = let e : (most + 1) ^ length {A = ArcKey} [] ≡ 1 = pow-zero (most + 1) in omega (arith, e)
size_le most cuts (a ∷ listed) =
    let p = product_le (room most cuts a) (most + 1) (size most cuts listed) ((most + 1) ^ length listed) (room_le most cuts a) (size_le most cuts listed) in
    let e : (most + 1) ^ length (a ∷ listed) ≡ (most + 1) * (most + 1) ^ length listed = pow-succ' (most + 1) (length listed) in
    omega (arith, p, e)
