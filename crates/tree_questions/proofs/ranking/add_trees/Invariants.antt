use Rattle.std.proofs.Common.{take}
use Rattle.tree_questions.specs.Ranked.{SaysTree}
use Rattle.tree_questions.specs.Lines.{AddsLines}
use Rattle.tree_questions.proofs.ranking.add_trees.Given as goal

abbrev pub invariant-loop-place : goal.invariant-loop-place
invariant-loop-place l = AddsLines (SaysTree l.grammar) 1 (take l.place l.ranked) l.initial.out l.out
