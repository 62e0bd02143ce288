use Rattle.std.proofs.Common.{◌≡◌, ◌++◌}
use Rattle.std.specs.List.{flat_map}
use Rattle.page_parts.specs.Elements.{decimal_at, places}
use Rattle.page_parts.proofs.decimals.all_decimals.Given as goal

abbrev pub invariant-loop-place : goal.invariant-loop-place
invariant-loop-place l = l.out ≡ l.fn.out ++ flat_map (decimal_at l.decimals l.value) (places l.place)
