-- A sum that is none or 0 is what its flag stands for.
use Rattle.std.proofs.Common.{◌≡◌, ℤ, Option, None, Some, refl, sym, ap}
use Rattle.std.specs.Option.{is_some}
use Rattle.tree_span_arcs.specs.Flags.{free_sum, IsFree}

pub flag-free : (v : Option ℤ) → IsFree v → free_sum (is_some v) ≡ v
flag-free None h = refl
flag-free (Some z) h = ap Some (sym h)
