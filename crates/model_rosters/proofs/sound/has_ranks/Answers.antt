use Rattle.model_rosters.proofs.RankTest.{decided}
use Rattle.model_rosters.proofs.sound.has_ranks.Goals as goal

pub returns : goal.returns
returns c =
    decided c.args.grammar.now c.unit_ranks.result c.is_ok.result c.is_ok.ensures.value c.unit_ranks.ensures.ranked c.unit_ranks.ensures.cycle
