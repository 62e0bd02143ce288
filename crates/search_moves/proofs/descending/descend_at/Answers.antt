use Rattle.search_moves.proofs.ToolsLemmas.{tools-more, tools-later}
use Rattle.search_moves.proofs.descending.descend_at.Goals as goal

pub loop-preserved : goal.loop-preserved
loop-preserved g c =
    let v = c.loop.invariant in record {
      tools = tools-later _ _ _ _ _ _ _ v.tools c.make.ensures.tools c.in_ok-changed.ensures.draft;
      stay = tools-more _ _ _ _ _ _ _ v.stay c.make.ensures.tools;
    }

pub returns-in_err-changed-clause-tools : goal.returns-in_err-changed-clause-tools
returns-in_err-changed-clause-tools g c = tools-more _ _ _ _ _ _ _ c.loop.invariant.stay c.make.ensures.tools
