use Rattle.std.proofs.Common.{ap, ◌≡◌, sym, subst, ◌∙◌}
use Rattle.model_rosters.specs.Room.{RoomView, most_uses}
use Rattle.model_rosters.specs.declared.grammar.Sym.TheVariants.{Name}
use Rattle.tree_span_table.specs.Tables.{TableView}
use Rattle.tree_span_table.specs.Walks.{AsksTree}
use Rattle.tree_span_table.proofs.AsksLemmas.{asks-day, holds-day}
use Rattle.tree_span_table.proofs.table.Table.tree.Goals as goal

pub write_tree-requires : goal.write_tree-requires
write_tree-requires g c =
    let inside : TableView = record { layout = c.self.inside.layout; cells = c.self.inside.cells } in
    let now : inside ≡ c.args.self.now = c.self.view_is in
    let most : c.clear.new.self.most ≡ most_uses c.args.grammar.now = ap (λ (r : RoomView). r.most) c.clear.ensures ∙ c.requires.room in
    let asks = asks-day c.args.grammar.now (g.P.LetterPrice.view c.args.prices.now) c.args.self.now c.clear.new.self c.requires.sound c.requires.made c.requires.filled c.requires.sum
    most (ap (λ (r : RoomView). r.steps) c.clear.ensures) in
    subst (λ (t : TableView). AsksTree c.args.grammar.now (g.P.LetterPrice.view c.args.prices.now) t.layout t.cells (Name c.args.grammar.now.start) 1 c.args.grammar.now.periods c.clear.new.self) (sym now) asks

pub returns-clause-tree : goal.returns-clause-tree
returns-clause-tree g c =
    holds-day c.args.grammar.now (g.P.LetterPrice.view c.args.prices.now) c.clear.new.self _ (ap (λ (r : RoomView). r.steps) c.clear.ensures) c.write_tree.ensures
