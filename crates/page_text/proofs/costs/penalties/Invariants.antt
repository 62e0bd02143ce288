use Rattle.std.proofs.Common.{◌≡◌, ◌≤◌, ◌*◌, drop}
use Rattle.page_text.specs.Costs.{penalties}
use Rattle.page_text.proofs.costs.penalties.Given as goal

abbrev pub invariant-loop-column : goal.invariant-loop-column
invariant-loop-column l = record {
  sum : penalties l.code l.columns 0 ≡ penalties l.code (drop l.column-index l.columns) l.sum;
  small : l.sum ≤ 1280000 * l.column-index;
}
