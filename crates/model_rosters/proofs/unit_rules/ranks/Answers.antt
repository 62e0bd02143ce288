use Rattle.std.proofs.Common.{arith, ◌==◌, count_by}
use Rattle.std.specs.Int.{bit_at}
use Rattle.std.proofs.lemmas.List.{length-set}
use Rattle.model_rosters.proofs.ReachBits.{table_more}
use Rattle.model_rosters.proofs.unit_rules.ranks.Goals as goal

pub loop-name-preserved : goal.loop-name-preserved
loop-name-preserved c = (
  simp length-set (c.loop-name.invariant.0),
  table_more (λ x. count_by (λ row. bit_at row x == 1) c.args.reach.now) c.loop-name.ranks c.loop-name.name c.rank.result
      (omega arith) c.loop-name.invariant.1 c.rank.ensures,
)
