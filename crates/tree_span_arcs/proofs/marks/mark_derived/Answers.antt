use Rattle.std.proofs.Common.{arith, ◌≡◌, ◌+◌, ◌-◌, length, drop, sym, ap, get_or, [], ◌∷◌}
use Rattle.model_rosters.specs.Grammar.{InDay}
use Rattle.model_rosters.specs.declared.grammar.Sym.TheVariants.{Code}
use Rattle.model_rosters.proofs.tree_laws.Rules.{sound-symbol}
use Rattle.model_rosters.proofs.tree_laws.Symbols.{here}
use Rattle.tree_span_cells.specs.Cells.{place}
use Rattle.tree_span_arcs.specs.Marks.{HasSome}
use Rattle.tree_span_arcs.proofs.MarksLemmas.{adds-more, symbol-kept, span-before}
use Rattle.tree_span_arcs.proofs.PartMarksLemmas.{first-of-two, rest-of-two, before-end}
use Rattle.tree_span_arcs.proofs.marks.mark_derived.Goals as goal

pub mark_symbol-requires-clause-stand : goal.mark_symbol-requires-clause-stand
mark_symbol-requires-clause-stand c =
    let others : HasSome c.args.grammar.now (drop (c.args.suffix.from + 1) c.args.rule.now.right) (c.args.span.start + c.args.part) (c.args.span.len - c.args.part) = c.rest_derives.ensures.0 c.if-not-rest_derives.false in
    first-of-two c.args.rule.now.right c.args.suffix.from (Code 0) _ c.requires.within (ap (λ r. get_or r c.args.suffix.from (Code 0)) (sym c.as_slice.ensures))
    c.args.grammar.now c.args.suffix.rule c.args.span.start c.args.span.len c.args.part (c.args.span.len - c.args.part) (omega arith) c.requires.stand others

pub mark_rest-requires-clause-stand : goal.mark_rest-requires-clause-stand
mark_rest-requires-clause-stand c =
    let first : HasSome c.args.grammar.now (get_or c.as_slice.result.now c.args.suffix.from (Code 0) ∷ []) c.args.span.start c.args.part = c.symbol_derives.ensures.0 c.if-not-symbol_derives.false in
    rest-of-two c.args.rule.now.right c.args.suffix.from (Code 0) _ c.requires.within (ap (λ r. get_or r c.args.suffix.from (Code 0)) (sym c.as_slice.ensures))
    c.args.grammar.now c.args.suffix.rule c.args.span.start c.args.span.len c.args.part (c.args.span.len - c.args.part) (omega arith) c.requires.stand first

pub returns-clause-adds : goal.returns-clause-adds
returns-clause-adds c =
    let g = c.args.grammar.now in
    let lay = c.args.layout.now in
    let fits = c.requires.ready.layout in
    let one : InDay c.args.grammar.now.periods c.args.span.start c.args.part = record { begins = omega arith; some = omega arith; within = omega arith } in
    let two : InDay c.args.grammar.now.periods (c.args.span.start + c.args.part) (c.args.span.len - c.args.part) = record { begins = omega arith; some = omega arith; within = omega arith } in
    let exists = sound-symbol g c.requires.sound c.args.suffix.rule c.args.suffix.from c.args.rule.now _ _ c.requires.rule
    (here c.args.rule.now.right c.args.suffix.from (Code 0) _ (omega arith) (ap (λ r. get_or r c.args.suffix.from (Code 0)) (sym c.as_slice.ensures))) in
    let first = span-before g lay fits 0 c.args.span.start c.args.span.len c.args.span.start c.args.part c.requires.day one (omega arith) in
    let others = span-before g lay fits 0 c.args.span.start c.args.span.len (c.args.span.start + c.args.part) (c.args.span.len - c.args.part) c.requires.day two (omega arith) in
    adds-more g lay (place lay 0 c.args.span.start c.args.span.len) _ _ _
    (c.mark_symbol.ensures.adds (place lay 0 c.args.span.start c.args.span.len) (before-end g lay fits _ c.args.span.start c.args.part _ exists first))
    (c.mark_rest.ensures.adds (place lay 0 c.args.span.start c.args.span.len) others)

pub returns-clause-marked : goal.returns-clause-marked
returns-clause-marked c =
    let g = c.args.grammar.now in
    let lay = c.args.layout.now in
    let n = place lay (length lay.slots.items) (c.args.span.start + c.args.part) (c.args.span.len - c.args.part) in
    let at : get_or c.args.rule.now.right c.args.suffix.from (Code 0) ≡ get_or c.as_slice.result.now c.args.suffix.from (Code 0) = ap (λ r. get_or r c.args.suffix.from (Code 0)) (sym c.as_slice.ensures) in
    λ a b. (rw at (symbol-kept g lay n _ _ (c.mark_rest.ensures.adds n (omega arith)) _ c.args.span.start c.args.part c.mark_symbol.ensures.marked), c.mark_rest.ensures.marked)
