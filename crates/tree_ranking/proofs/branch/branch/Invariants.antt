use Rattle.std.proofs.Common.{take, drop, map}
use Rattle.tree_ranking.specs.Candidates.{child_of}
use Rattle.tree_ranking.specs.Progresses.{AreOffered, CanTake}
use Rattle.tree_ranking.proofs.branch.branch.Given as goal

abbrev pub invariant-loop-place : goal.invariant-loop-place
invariant-loop-place l = record {
  offered : AreOffered l.room (map (child_of l.current.steps l.frame l.current.pending) (take l.place l.children.items)) l.fn.waiting.items l.waiting.items;
  takes : CanTake l.room l.waiting.items (map (child_of l.current.steps l.frame l.current.pending) (drop l.place l.children.items));
}
