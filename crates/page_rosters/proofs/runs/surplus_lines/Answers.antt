use Rattle.page_rosters.proofs.RunLemmas.{surplus_of_day}
use Rattle.page_rosters.proofs.runs.surplus_lines.Goals as goal

pub runs_of-requires : goal.runs_of-requires
runs_of-requires c = rw (c.as_slice.ensures, c.in_ok-lacks.ensures) (surplus_of_day c.args.columns.now c.requires)
