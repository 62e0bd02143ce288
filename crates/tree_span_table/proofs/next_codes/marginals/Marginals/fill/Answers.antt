use Rattle.std.proofs.Common.{◌≡◌, sym, subst}
use Rattle.tree_span_cells.proofs.CellsLemmas.{ready-made}
use Rattle.tree_span_table.specs.next_codes.Views.{MarginalsView, IsMadeFor}
use Rattle.tree_span_table.proofs.next_codes.ViewsLemmas.{view_of, made-kept, made-marginals}
use Rattle.tree_span_table.proofs.next_codes.marginals.Marginals.fill.Goals as goal

pub fill_totals-requires-clause-ready : goal.fill_totals-requires-clause-ready
fill_totals-requires-clause-ready g c =
    let s = c.self.inside in
    let was : MarginalsView = view_of s.layout s.inside s.totals s.codes s.periods in
    let now : was ≡ c.args.self.now = c.self.view_is in
    let made = subst (λ (m : MarginalsView). IsMadeFor c.args.grammar.now m) (sym now) c.requires.made in
    ready-made c.args.grammar.now s.layout s.inside c.fill_cells.new.cells made.ready c.fill_cells.ensures.made

pub returns-clause-marginals : goal.returns-clause-marginals
returns-clause-marginals g c =
    let s = c.self.inside in
    let was : MarginalsView = view_of s.layout s.inside s.totals s.codes s.periods in
    let now : was ≡ c.args.self.now = c.self.view_is in
    let made = subst (λ (m : MarginalsView). IsMadeFor c.args.grammar.now m) (sym now) c.requires.made in
    made-marginals c.args.grammar.now s.layout s.inside c.fill_cells.new.cells s.totals c.fill_totals.new.totals s.codes s.periods made (g.P.LetterPrice.view c.args.prices.now) c.fill_totals.ensures.marginals

pub returns-clause-kept : goal.returns-clause-kept
returns-clause-kept g c = λ gr old.
    let s = c.self.inside in
    let was : MarginalsView = view_of s.layout s.inside s.totals s.codes s.periods in
    let now : was ≡ c.args.self.now = c.self.view_is in
    let made = subst (λ (m : MarginalsView). IsMadeFor gr m) (sym now) old in
    made-kept gr s.layout s.inside c.fill_cells.new.cells s.totals c.fill_totals.new.totals s.codes s.periods made c.fill_cells.ensures.made (c.fill_totals.ensures.counted gr)

pub day_least-requires-clause-ready : goal.day_least-requires-clause-ready
day_least-requires-clause-ready g c =
    let s = c.self.inside in
    let was : MarginalsView = view_of s.layout s.inside s.totals s.codes s.periods in
    let now : was ≡ c.args.self.now = c.self.view_is in
    let made = subst (λ (m : MarginalsView). IsMadeFor c.args.grammar.now m) (sym now) c.requires.made in
    ready-made c.args.grammar.now s.layout s.inside c.fill_cells.new.cells made.ready c.fill_cells.ensures.made

pub returns-clause-least : goal.returns-clause-least
returns-clause-least g c = c.day_least.ensures (g.P.LetterPrice.view c.args.prices.now) c.fill_cells.ensures.filled
