use Rattle.std.proofs.Common.{length}
use Rattle.search_dives.specs.Parts.{IsProgram, StayTools}
use Rattle.search_dives.proofs.diving.solve.Given as goal

abbrev pub invariant-loop : goal.invariant-loop
invariant-loop g l = record {
  program : IsProgram (length l.pool) l.descent.program;
  tools : StayTools l.task l.order l.fn.pool l.pool l.descent.workspace;
}
