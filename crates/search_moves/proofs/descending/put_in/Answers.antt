use Rattle.search_moves.proofs.ToolsLemmas.{tools-more, tools-later}
use Rattle.search_moves.proofs.descending.put_in.Goals as goal

pub loop-come-preserved : goal.loop-come-preserved
loop-come-preserved c =
    let v = c.loop-come.invariant in record {
      tools = tools-later _ _ _ _ _ _ _ v.tools c.grow_blended.ensures.tools c.in_ok-grow_blended.ensures.draft;
      stay = tools-more _ _ _ _ _ _ _ v.stay c.grow_blended.ensures.tools;
    }

pub returns-in_err-grow_blended-clause-tools : goal.returns-in_err-grow_blended-clause-tools
returns-in_err-grow_blended-clause-tools c = tools-more _ _ _ _ _ _ _ c.loop-come.invariant.stay c.grow_blended.ensures.tools
