use Rattle.std.proofs.Common.{◌≡◌, drop}
use Rattle.page_text.specs.Inputs.{longest}
use Rattle.page_text.proofs.row.longest.Given as goal

abbrev pub invariant-loop-row : goal.invariant-loop-row
invariant-loop-row l = longest l.rows 0 ≡ longest (drop l.row-index l.rows) l.most
