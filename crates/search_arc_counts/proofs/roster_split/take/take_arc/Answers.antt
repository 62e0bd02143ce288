use Rattle.std.proofs.Common.{refl}
use Rattle.search_arc_counts.proofs.roster_split.TakingLemmas.{within, some-left, takes}
use Rattle.search_arc_counts.proofs.roster_split.take.take_arc.Goals as goal

pub first_left-arc-requires-clause-within : goal.first_left-arc-requires-clause-within
first_left-arc-requires-clause-within c = within c.args.graph.now c.args.left.now c.args.node c.requires c.makers.result.now c.makers.ensures

pub first_left-arc-requires-clause-some : goal.first_left-arc-requires-clause-some
first_left-arc-requires-clause-some c = some-left c.args.graph.now c.args.left.now c.args.node c.requires c.makers.result.now c.makers.ensures

pub returns : goal.returns
returns c = λ asked. takes c.args.graph.now c.args.left.now c.args.node asked c.makers.result.now c.makers.ensures c.first_left-arc.result _ c.first_left-arc.ensures.found.0 c.first_left-arc.ensures.found.1 c.first_left-arc.ensures.left refl
