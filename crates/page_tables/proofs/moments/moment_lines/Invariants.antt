use Rattle.std.proofs.Common.{◌≡◌, ◌++◌, take}
use Rattle.std.specs.List.{flat_map}
use Rattle.page_parts.specs.Elements.{written}
use Rattle.page_tables.specs.MomentTable.{moment_line}
use Rattle.page_tables.proofs.moments.moment_lines.Given as goal

abbrev pub invariant-loop-line : goal.invariant-loop-line
invariant-loop-line l = l.out ≡ l.fn.out ++ written (flat_map moment_line (take l.line-index l.lines))
