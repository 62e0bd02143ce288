use Rattle.std.proofs.Common.{◌≡◌, take}
use Rattle.model_rosters.specs.Room.{most_uses}
use Rattle.model_rosters.specs.Teams.{teams}
use Rattle.tree_pool.specs.Pools.{IsPool, IsGrown}
use Rattle.search_candidates.specs.Leaders.{AreLedAt}
use Rattle.search_candidates.proofs.leaders.leaders.Given as goal

abbrev pub invariant-loop-place : goal.invariant-loop-place
invariant-loop-place l = record {
  pool : IsPool l.day.instance.now.grammar l.pool;
  grown : IsGrown l.fn.pool l.pool;
  room : l.room.most ≡ most_uses l.day.instance.now.grammar;
  led : AreLedAt l.day.instance.now l.pool (take l.place (teams l.day.instance.now)) l.columns;
}
