use Rattle.std.proofs.Common.{◌≡◌}
use Rattle.page_parts.specs.Elements.{tenths}
use Rattle.page_parts.proofs.decimals.tenths.Given as goal

abbrev pub invariant-loop-done : goal.invariant-loop-done
invariant-loop-done l = l.rest ≡ tenths l._done l.value
