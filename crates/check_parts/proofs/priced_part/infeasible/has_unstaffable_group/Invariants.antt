use Rattle.model_rosters.specs.declared.instance.Group.{Group}
use Rattle.check_parts.specs.priced_part.Filled.{NeedsInVain}
use Rattle.check_parts.proofs.priced_part.ListSearch.{StandsFrom}
use Rattle.check_parts.proofs.priced_part.infeasible.has_unstaffable_group.Given as goal

abbrev pub invariant-loop-group : goal.invariant-loop-group
invariant-loop-group l = StandsFrom (λ (x : Group). NeedsInVain l.instance.grammar x.name x.heads_min) l.instance.groups l.group-index
