use Rattle.std.proofs.Common.{refl, sym, ◌∙◌}
use Rattle.std.specs.Vec.{with_items}
use Rattle.search_node_columns.proofs.HeldColumns.{workspace_after}
use Rattle.search_node_columns.proofs.several.price_workspace.Goals as goal

pub returns : goal.returns
returns c =
    let t = c.args.task.now in
    let day = c.requires.task.day in
    let d = c.requires.tools.workspace in
    let workspace = c.args.workspace.now in
    record {
      task = c.requires.task;
      priced = record {
        made = c.cheapest-least.ensures.kept t.day.graph.now c.requires.tools.made;
        ready = record { sound = day.sound.grammar; graph = day.graph; filled = c.cheapest-least.ensures.filled t.day.instance.now.grammar day.sound.grammar day.graph };
      };
      tools = record {
        made = c.cheapest-least.ensures.kept t.day.graph.now c.requires.tools.made;
        pool = c.requires.tools.pool;
        workspace =
            workspace_after t.day.instance.now t.cuts.now c.args.pool.now c.args.pool.now workspace
            record { held = workspace.held; wanted = workspace.wanted; prices = c.set_prices.new.prices; tree = workspace.tree; numbers = with_items workspace.numbers c.set_prices.new.numbers }
            d d.held d.wanted c.set_prices.ensures.room c.set_prices.ensures.most refl (sym (with_items workspace.numbers c.set_prices.new.numbers).ok.0 ∙ workspace.numbers.ok.0);
      };
    }
