use Rattle.std.proofs.Common.{◌∙◌}
use Rattle.model_rosters.proofs.CoverageCounts.{code_byte-read, covered_shifts}
use Rattle.model_rosters.proofs.coverage.covered.Goals as goal

pub returns : goal.returns
returns c =
    c.count_with.ensures
    ∙ covered_shifts c.args.grammar.now c.args.cell.now _
    (code_byte-read c.args.grammar.now c.as_slice.result.now c.args.cell.now.code _ c.as_slice.ensures c.requires.code) c.args.shifts.now
