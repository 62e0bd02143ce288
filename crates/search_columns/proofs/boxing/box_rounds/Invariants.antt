use Rattle.search_columns.specs.Generations.{StayGenerating}
use Rattle.search_columns.proofs.boxing.box_rounds.Given as goal

abbrev pub invariant-loop-round : goal.invariant-loop-round
invariant-loop-round g l = StayGenerating l.task l.pricer l.initial.pool l.pool l.generation
