use Rattle.std.proofs.Common.{◌≡◌, length}
use Rattle.search_moves.specs.Tools.{AreTools, StayTools}
use Rattle.search_moves.proofs.exchanging.exchange_from.Given as goal

abbrev pub invariant-loop-place : goal.invariant-loop-place
invariant-loop-place g l = record {
  tools : AreTools l.day l.pricing l.pool l.draft;
  columns : length l.draft.columns.items ≡ length l.fn.draft.columns.items;
  stay : StayTools l.day l.fn.pricing l.pricing l.fn.pool l.pool;
}
