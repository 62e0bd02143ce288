use Rattle.std.proofs.Common.{◌^◌}
use Rattle.tree_cheapest.proofs.RowsLemmas.{rows-end}
use Rattle.tree_cheapest.proofs.fill_slots.fill_slots.Goals as goal

pub returns-then-fill_cells-clause-filled : goal.returns-then-fill_cells-clause-filled
returns-then-fill_cells-clause-filled g c = λ g2 sound graph links held.
    rows-end (2 ^ 59) (g.P.LetterPrice.view c.args.prices.now) c.args.graph.now c.args.letters.now c.args.order.now c.fill_cells.new.values c.fill_cells.new.best c.requires.order (c.fill_cells.ensures.passed c.if-fill_cells.true) links held g2 sound graph

pub returns-then-fill_cells-2-clause-filled : goal.returns-then-fill_cells-2-clause-filled
returns-then-fill_cells-2-clause-filled g c = λ g2 sound graph links held.
    rows-end (2 ^ 110) (g.P.LetterPrice.view c.args.prices.now) c.args.graph.now c.args.letters.now c.args.order.now c.fill_cells-2.new.values c.fill_cells-2.new.best c.requires.order (c.fill_cells-2.ensures.passed c.if-fill_cells-2.true) links held g2 sound graph

pub returns-clause-filled : goal.returns-clause-filled
returns-clause-filled g c = λ g2 sound graph links held.
    rows-end (2 ^ 110) (g.P.LetterPrice.view c.args.prices.now) c.args.graph.now c.args.letters.now c.args.order.now c.fill_wide_cells.new.values c.fill_wide_cells.new.best c.requires.order c.fill_wide_cells.ensures.passed links held g2 sound graph
