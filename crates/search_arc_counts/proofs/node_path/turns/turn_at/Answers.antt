use Rattle.std.proofs.Common.{subst, sym, List, ◌++◌, ◌∷◌, []}
use Rattle.search_arc_counts.specs.declared.node_path.turn.Turn.{Turn}
use Rattle.search_arc_counts.specs.node_path.Paths.{AreTurns}
use Rattle.search_arc_counts.proofs.node_path.TurnsLemmas.{arc-listed, turns-pushed}
use Rattle.search_arc_counts.proofs.node_path.turns.turn_at.Goals as goal

pub returns-in_ok-push-clause-turned : goal.returns-in_ok-push-clause-turned
returns-in_ok-push-clause-turned c i base above h is are =
    subst (λ (xs : List Turn). AreTurns i c.args.graph.now base xs (above ++ c.args.cut.now ∷ [])) (sym c.in_ok-push.ensures.items)
    (turns-pushed i c.args.graph.now base c.args.turns.now.items above c.args.cut.now c.in-Some.turn are (c.in-Some.ensures.turn i above h))

pub returns-in_default-clause-turned : goal.returns-in_default-clause-turned
returns-in_default-clause-turned c i base above h is are = absurd (arc-listed i c.args.graph.now c.args.cut.now.arc h.graph c.in_default.ensures.none is)
