use Rattle.std.proofs.Common.{◌<◌, length}
use Rattle.std.specs.Prelude.{IfSome}
use Rattle.model_rosters.specs.Teams.{teams}
use Rattle.search_moves.specs.declared.choice.Choice.{Choice}
use Rattle.search_moves.proofs.choice.best_choice.Given as goal

abbrev pub invariant-loop-place : goal.invariant-loop-place
invariant-loop-place l = IfSome l.best (λ (c : Choice). c.place < length (teams l.day.instance.now))
