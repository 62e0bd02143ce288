use Rattle.std.proofs.Common.{length}
use Rattle.search_moves.specs.Drafts.{IsDraft}
use Rattle.search_moves.proofs.descending.take_out.Given as goal

abbrev pub invariant-loop-rank : goal.invariant-loop-rank
invariant-loop-rank l = IsDraft l.instance (length l.pool) l.draft
