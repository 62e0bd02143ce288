use Rattle.tree_span_table.specs.Tables.{IsMadeFor}
use Rattle.command_texts.proofs.unfit.longest_on.Given as goal

abbrev pub invariant-loop-count : goal.invariant-loop-count
invariant-loop-count l = IsMadeFor l.grammar l.table
