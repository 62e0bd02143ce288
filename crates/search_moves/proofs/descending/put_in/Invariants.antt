use Rattle.search_moves.specs.Tools.{AreTools, StayTools}
use Rattle.search_moves.proofs.descending.put_in.Given as goal

abbrev pub invariant-loop-come : goal.invariant-loop-come
invariant-loop-come l = record {
  tools : AreTools l.day l.pricing l.pool l.draft;
  stay : StayTools l.day l.fn.pricing l.pricing l.fn.pool l.pool;
}
