use Rattle.search_moves.specs.Tools.{AreTools, StayTools}
use Rattle.search_moves.proofs.growing.fill_up.Given as goal

abbrev pub invariant-loop : goal.invariant-loop
invariant-loop l = record {
  tools : AreTools l.day l.pricing l.pool l.draft;
  stay : StayTools l.day l.fn.pricing l.pricing l.fn.pool l.pool;
}
