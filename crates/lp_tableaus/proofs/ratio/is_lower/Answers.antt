use Rattle.std.proofs.Common.{◌≡◌, pos, slice_index_or, SFits, rules, to_z, of_z, T, not, Bool, true, false, arith}
use Rattle.std.specs.Prelude.{◌*ℤ◌, ◌≤ℤ◌}
use Rattle.std.specs.Bool.{OnTrue, OnFalse}
use Rattle.std.specs.Int.Signed.{lt_z_yes, lt_z_no}
use Rattle.std.proofs.lemmas.Int.{to_z-of_z, ints}
use mir.Syntax.{w64, w128}
use Rattle.lp_fractions.specs.Row.{at}
use Rattle.lp_tableaus.proofs.ratio.is_lower.Goals as goal

on_true : (b : Bool) (P : Type 0) → (T b → P) → OnTrue b P
on_true true P f = f tt
on_true false P f = tt

on_false : (b : Bool) (P : Type 0) → (T (not b) → P) → OnFalse b P
on_false true P f = tt
on_false false P f = f tt

pub returns-clause-lower : goal.returns-clause-lower
returns-clause-lower c =
    on_true _ ((at c.args.first.now c.args.right *ℤ c.args.other) ≤ℤ (at c.args.second.now c.args.right *ℤ c.args.entry))
    (λ t.
    let l = lt_z_yes {a = to_z w128 (of_z w128 c.scaled-low.result)} {b = to_z w128 (of_z w128 c.scaled-high.result)} t in
    let a : c.scaled-low.result ≡ at c.args.first.now c.args.right *ℤ c.args.other = search rules in
    let b : c.scaled-high.result ≡ at c.args.second.now c.args.right *ℤ c.args.entry = search rules in
    omega (arith, ints))

pub returns-clause-higher : goal.returns-clause-higher
returns-clause-higher c =
    on_false _ ((at c.args.second.now c.args.right *ℤ c.args.entry) ≤ℤ (at c.args.first.now c.args.right *ℤ c.args.other))
    (λ t.
    let l = lt_z_no {a = to_z w128 (of_z w128 c.scaled-low.result)} {b = to_z w128 (of_z w128 c.scaled-high.result)} t in
    let a : c.scaled-low.result ≡ at c.args.first.now c.args.right *ℤ c.args.other = search rules in
    let b : c.scaled-high.result ≡ at c.args.second.now c.args.right *ℤ c.args.entry = search rules in
    omega (arith, ints))

pub scaled-high-requires-clause-number : goal.scaled-high-requires-clause-number
scaled-high-requires-clause-number c =
    let f : SFits w64 (slice_index_or c.args.second.now c.args.right (pos 0)) = search rules in
    simp to_z-of_z (c.requires.second c.args.right (pos 0) c.requires.two)
