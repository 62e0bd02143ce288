use Rattle.std.proofs.Common.{arith, ◌≡◌, ◌<◌, length, subst}
use Rattle.std.proofs.lemmas.List.{get_or_read}
use Rattle.model_rosters.specs.declared.grammar.Sym.{Sym}
use Rattle.model_rosters.specs.Sound.{Exists}
use Rattle.tree_span_cells.specs.declared.slot.Slot.TheVariants.{OfName}
use Rattle.tree_span_cells.specs.Cells.{name_slot}
use Rattle.tree_span_arcs.specs.Marks.{TreesStand, IsBefore}
use Rattle.tree_span_arcs.proofs.MarksLemmas.{adds-one}
use Rattle.tree_span_arcs.proofs.marks.mark_symbol.Goals as goal

pub returns-in-Name-clause-adds : goal.returns-in-Name-clause-adds
returns-in-Name-clause-adds c =
    λ n before. let lt = subst (λ (s : Sym). Exists (length c.args.grammar.now.codes) (length c.args.grammar.now.names) s) c.in-Name.is c.requires.exists in
    let within : c.in-Name.name < length c.args.layout.now.names.items = omega (arith, lt, c.requires.layout.all_names) in
    let slot : c.index.result.now ≡ name_slot c.args.layout.now c.in-Name.name = get_or_read c.args.layout.now.names.items _ _ within c.index.ensures 0 in
    rw (c.place_of.ensures.place, slot)
    (adds-one c.args.grammar.now c.args.layout.now c.requires.layout c.args.marks.now (name_slot c.args.layout.now c.in-Name.name) c.args.span.start c.args.span.len n (OfName c.in-Name.name)
    (c.requires.layout.names c.in-Name.name lt) c.requires.day c.requires.count
    (subst (λ (s : Sym). TreesStand c.args.grammar.now s c.args.span.start c.args.span.len) c.in-Name.is c.requires.stand)
    (subst (λ (s : Sym). IsBefore c.args.layout.now s c.args.span.start c.args.span.len n) c.in-Name.is before))
