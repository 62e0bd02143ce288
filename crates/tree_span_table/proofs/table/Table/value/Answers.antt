use Rattle.std.proofs.Common.{arith, ap, ◌≡◌, ◌<◌, length, sym, subst}
use Rattle.std.proofs.lemmas.List.{get_or_read}
use Rattle.model_rosters.specs.Sums.{IsLeast, tree_sum}
use Rattle.model_rosters.specs.Trees.{IsTreeOf}
use Rattle.tree_span_cells.specs.Cells.{cell, name_slot}
use Rattle.tree_span_table.specs.Tables.{TableView}
use Rattle.tree_span_table.proofs.TablesLemmas.{day-least}
use Rattle.tree_span_table.proofs.table.Table.value.Goals as goal

pub returns : goal.returns
returns c = λ p filled.
    let inside : TableView = record { layout = c.self.inside.layout; cells = c.self.inside.cells } in
    let now : inside ≡ c.args.self.now = c.self.view_is in
    let within : c.args.name < length c.self.inside.layout.names.items = omega (arith, c.requires.made.ready.layout.all_names, ap (λ (t : TableView). length t.layout.names.items) now) in
    let slot : c.index-slot.result.now ≡ name_slot c.self.inside.layout c.args.name = get_or_read c.self.inside.layout.names.items _ _ within c.index-slot.ensures 0 in
    let least = day-least c.args.grammar.now p c.args.self.now c.requires.sound c.requires.made filled c.args.name c.requires.name in
    rw (c.sum_at.ensures, slot)
    (subst (λ (t : TableView). IsLeast (IsTreeOf c.args.grammar.now c.args.name) (tree_sum p 1) (cell t.layout t.cells (name_slot t.layout c.args.name) 1 c.args.grammar.now.periods)) (sym now) least)
