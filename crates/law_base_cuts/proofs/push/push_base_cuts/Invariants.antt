use Rattle.law_base_cuts.specs.Pushing.{IsPushing}
use Rattle.law_base_cuts.proofs.push.push_base_cuts.Given as goal

abbrev pub invariant-loop-place : goal.invariant-loop-place
invariant-loop-place l = IsPushing l.instance l.first l.groups l.place l.fn.path l.path
