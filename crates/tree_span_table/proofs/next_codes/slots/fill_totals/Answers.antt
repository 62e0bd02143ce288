use Rattle.model_rosters.specs.declared.grammar.Sym.TheVariants.{Name}
use Rattle.tree_span_cells.specs.Cells.{cell_count}
use Rattle.tree_span_table.proofs.next_codes.PushesLemmas.{due-lower}
use Rattle.tree_span_table.proofs.next_codes.MarginalsLemmas.{reached}
use Rattle.tree_span_table.proofs.next_codes.slots.fill_totals.Goals as goal

pub returns-clause-marginals : goal.returns-clause-marginals
returns-clause-marginals g c =
    let gr = c.args.grammar.now in
    let p = g.P.LetterPrice.view c.args.prices.now in
    let lay = c.args.layout.now in
    reached gr p c.requires.sound lay c.requires.ready.layout c.args.inside.now c.requires.filled c.push_all.new.totals c.push_all.ensures.done c.push_all.ensures.through
    (λ a least. due-lower gr p lay (cell_count c.args.layout.now) c.begin.new.totals c.push_all.new.totals c.push_all.ensures.lowered (Name c.args.grammar.now.start) 1 c.args.grammar.now.periods a (c.begin.ensures.due a least))
