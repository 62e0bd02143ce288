use Rattle.std.proofs.Common.{length}
use Rattle.search_dives.specs.Parts.{IsProgram}
use Rattle.search_dives.proofs.program.Program.list_all.Given as goal

abbrev pub invariant-loop-column : goal.invariant-loop-column
invariant-loop-column l = IsProgram (length l.pool) l.self
