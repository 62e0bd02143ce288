use Rattle.search_columns.specs.Generations.{StayGenerating}
use Rattle.search_columns.proofs.asking.ask_all.Given as goal

abbrev pub invariant-loop-weight : goal.invariant-loop-weight
invariant-loop-weight l = StayGenerating l.task l.pricer l.initial.pool l.pool l.generation
