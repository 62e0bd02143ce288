use Rattle.std.proofs.Common.{◌∙◌}
use Rattle.search_moves.proofs.ToolsLemmas.{tools-more, tools-later}
use Rattle.search_moves.proofs.exchanging.exchange_from.Goals as goal

pub loop-place-preserved : goal.loop-place-preserved
loop-place-preserved g c =
    let v = c.loop-place.invariant in record {
      tools = tools-later _ _ _ _ _ _ _ v.tools c.exchange.ensures.tools c.in_ok-exchange.ensures.draft;
      columns = c.exchange.ensures.length ∙ v.columns;
      stay = tools-more _ _ _ _ _ _ _ v.stay c.exchange.ensures.tools;
    }

pub returns-in_err-exchange-clause-tools : goal.returns-in_err-exchange-clause-tools
returns-in_err-exchange-clause-tools g c = tools-more _ _ _ _ _ _ _ c.loop-place.invariant.stay c.exchange.ensures.tools
