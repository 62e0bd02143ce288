use Rattle.std.proofs.Common.{arith, ℕ, ◌≡◌, ◌≢◌, ◌≤◌, ◌<◌, length, ap, sym, subst, ◌∙◌, get_or, ◌+◌, ◌-◌}
use Rattle.model_rosters.specs.declared.grammar.Sym.{Sym}
use Rattle.model_rosters.specs.declared.grammar.Sym.TheVariants.{Name, Code}
use Rattle.model_rosters.proofs.tree_laws.Rules.{sound-rule}
use Rattle.tree_span_table.specs.Walks.{AsksTree, WritesTree, tree_measure, parts_measure}
use Rattle.tree_span_cells.proofs.CellsLemmas.{filled-shorter, filled-later}
use Rattle.tree_span_table.proofs.AsksLemmas.{symbol-exists, last-earlier, asks-last, writes-last, asks-first, asks-rest, writes-split, part-low, part-high, number-within, rule-left, asks-rule, writes-rule, falls-last, falls-first, falls-rest, falls-rule}
use Rattle.tree_span_table.proofs.walk.+walk.Goals as goal

pub write_parts-write_tree-requires : goal.write_parts-write_tree-requires
write_parts-write_tree-requires g t c = λ κs within.
    let p = g.P.LetterPrice.view c.args.prices.now in
    let is : get_or c.args.rule.now.right c.args.suffix.from (Code 0) ≡ get_or c.as_slice-right.result.now c.args.suffix.from (Code 0) = ap (λ r. get_or r c.args.suffix.from (Code 0)) (sym c.as_slice-right.ensures) in
    let one : c.args.suffix.from + 1 ≡ length c.args.rule.now.right = c.if-from-right.true ∙ ap length c.as_slice-right.ensures in
    let s = get_or c.as_slice-right.result.now c.args.suffix.from (Code 0) in
    let ex = symbol-exists c.args.grammar.now p c.args.layout.now c.args.cells.now c.args.rule.now c.args.suffix.rule c.args.suffix.from c.args.span.start c.args.span.len c.args.room.now c.requires (Code 0) s is in
    let early = last-earlier c.args.grammar.now p c.args.layout.now c.args.cells.now c.args.rule.now c.args.suffix.rule c.args.suffix.from c.args.span.start c.args.span.len c.args.room.now c.requires (Code 0) s is one in
    let falls = falls-last c.args.grammar.now c.args.layout.now c.requires.ready.layout s c.args.rule.now.left c.args.suffix.from c.args.span.len ex early in (
      subst (λ (n : ℕ). tree_measure c.args.layout.now (get_or c.as_slice-right.result.now c.args.suffix.from (Code 0)) c.args.span.len < n) c.decreases falls,
      (
        within,
        asks-last c.args.grammar.now p c.args.layout.now c.args.cells.now c.args.rule.now c.args.suffix.rule c.args.suffix.from c.args.span.start c.args.span.len c.args.room.now c.requires (Code 0) s is one,
      ),
    )

pub write_parts-returns-then-from-right : goal.write_parts-returns-then-from-right
write_parts-returns-then-from-right g t c =
    let p = g.P.LetterPrice.view c.args.prices.now in
    let is : get_or c.args.rule.now.right c.args.suffix.from (Code 0) ≡ get_or c.as_slice-right.result.now c.args.suffix.from (Code 0) = ap (λ r. get_or r c.args.suffix.from (Code 0)) (sym c.as_slice-right.ensures) in
    let one : c.args.suffix.from + 1 ≡ length c.args.rule.now.right = c.if-from-right.true ∙ ap length c.as_slice-right.ensures in
    writes-last c.args.grammar.now p c.args.layout.now c.args.cells.now c.args.rule.now c.args.suffix.rule c.args.suffix.from c.args.span.start c.args.span.len c.args.room.now c.requires (Code 0) _ is one _ c.write_tree.ensures

pub write_parts-least_part-part-requires-clause-shorter : goal.write_parts-least_part-part-requires-clause-shorter
write_parts-least_part-part-requires-clause-shorter g t c =
    filled-shorter c.args.grammar.now (g.P.LetterPrice.view c.args.prices.now) c.args.layout.now c.requires.ready.layout c.args.cells.now c.requires.filled c.args.span.len

pub write_parts-overflow_add-next : goal.write_parts-overflow_add-next
write_parts-overflow_add-next g t c =
    let eight : length c.args.rule.now.right ≤ 8 = (sound-rule c.args.grammar.now c.requires.sound c.args.suffix.rule c.args.rule.now c.requires.at).eight in
    let inside : c.args.suffix.from < length c.args.rule.now.right = c.requires.within in
    omega (arith, eight, inside)

pub write_tree-least_rule-number-requires-clause-shorter : goal.write_tree-least_rule-number-requires-clause-shorter
write_tree-least_rule-number-requires-clause-shorter g t c =
    filled-shorter c.args.grammar.now (g.P.LetterPrice.view c.args.prices.now) c.args.layout.now c.requires.ready.layout c.args.cells.now c.requires.filled c.args.span.len

pub write_tree-least_rule-number-requires-clause-later : goal.write_tree-least_rule-number-requires-clause-later
write_tree-least_rule-number-requires-clause-later g t c =
    filled-later c.args.grammar.now (g.P.LetterPrice.view c.args.prices.now) c.args.layout.now c.requires.ready.layout c.requires.sound c.args.cells.now c.requires.filled c.in-Name.name c.args.span.start c.args.span.len c.requires.day

pub write_tree-rule_of-rule-requires-clause-within : goal.write_tree-rule_of-rule-requires-clause-within
write_tree-rule_of-rule-requires-clause-within g t c =
    let p = g.P.LetterPrice.view c.args.prices.now in
    let asks = subst (λ (q : Sym). AsksTree c.args.grammar.now (g.P.LetterPrice.view c.args.prices.now) c.args.layout.now c.args.cells.now q c.args.span.start c.args.span.len c.args.room.now) c.in-Name.is c.requires in
    (number-within c.args.grammar.now p c.args.layout.now c.args.cells.now c.in-Name.name c.args.span.start c.args.span.len c.args.room.now asks c.least_rule-number.result.number c.least_rule-number.result.sum
    c.least_rule-number.ensures.least c.least_rule-number.ensures.chosen).1

pub write_tree-write_parts-requires : goal.write_tree-write_parts-requires
write_tree-write_parts-requires g t c = λ κs within.
    let p = g.P.LetterPrice.view c.args.prices.now in
    let asks = subst (λ (q : Sym). AsksTree c.args.grammar.now (g.P.LetterPrice.view c.args.prices.now) c.args.layout.now c.args.cells.now q c.args.span.start c.args.span.len c.args.room.now) c.in-Name.is c.requires in
    let left = rule-left c.args.grammar.now p c.args.layout.now c.args.cells.now c.in-Name.name c.args.span.start c.args.span.len c.args.room.now asks c.least_rule-number.result.number c.least_rule-number.result.sum
    c.least_rule-number.ensures.least c.least_rule-number.ensures.chosen c.rule_of-rule.result.now c.rule_of-rule.ensures in
    let falls = falls-rule c.args.grammar.now c.args.layout.now c.requires.ready.layout c.in-Name.name c.rule_of-rule.result.now.left c.args.span.len left in
    let measure : tree_measure c.args.layout.now (Name c.in-Name.name) c.args.span.len ≡ t = ap (λ (q : Sym). tree_measure c.args.layout.now q c.args.span.len) (sym c.in-Name.is) ∙ c.decreases in (
      subst (λ (n : ℕ). parts_measure c.args.layout.now c.rule_of-rule.result.now.left 0 c.args.span.len < n) measure falls,
      (
        within,
        asks-rule c.args.grammar.now p c.args.layout.now c.args.cells.now c.in-Name.name c.args.span.start c.args.span.len c.args.room.now asks c.least_rule-number.result.number c.least_rule-number.result.sum
            c.least_rule-number.ensures.least c.least_rule-number.ensures.chosen c.rule_of-rule.result.now c.rule_of-rule.ensures c.push.new.self c.push.ensures,
      ),
    )

pub write_parts-write_tree-requires-2 : goal.write_parts-write_tree-requires-2
write_parts-write_tree-requires-2 g t c = λ κs within.
    let p = g.P.LetterPrice.view c.args.prices.now in
    let is : get_or c.args.rule.now.right c.args.suffix.from (Code 0) ≡ get_or c.as_slice-right.result.now c.args.suffix.from (Code 0) = ap (λ r. get_or r c.args.suffix.from (Code 0)) (sym c.as_slice-right.ensures) in
    let ne : length c.args.rule.now.right ≡ length c.as_slice-right.result.now = ap length (sym c.as_slice-right.ensures) in
    let other : c.args.suffix.from + 1 ≢ length c.as_slice-right.result.now = c.if-from-right.false in
    let inside : c.args.suffix.from < length c.args.rule.now.right = c.requires.within in
    let two : c.args.suffix.from + 2 ≤ length c.args.rule.now.right = omega (arith, ne, other, inside) in
    let s = get_or c.as_slice-right.result.now c.args.suffix.from (Code 0) in
    let least = c.least_part-part.ensures.least in
    let chosen = rw is at c.least_part-part.ensures.chosen in
    let ex = symbol-exists c.args.grammar.now p c.args.layout.now c.args.cells.now c.args.rule.now c.args.suffix.rule c.args.suffix.from c.args.span.start c.args.span.len c.args.room.now c.requires (Code 0) s is in
    let falls = falls-first c.args.grammar.now c.args.layout.now c.requires.ready.layout s c.args.rule.now.left c.args.suffix.from c.least_part-part.result.number c.args.span.len ex
    (part-high c.args.grammar.now p c.args.layout.now c.args.cells.now c.args.rule.now c.args.suffix.rule c.args.suffix.from c.args.span.start c.args.span.len c.args.room.now c.requires (Code 0) s is two c.least_part-part.result.number c.least_part-part.result.sum least chosen) in (
      subst (λ (n : ℕ). tree_measure c.args.layout.now (get_or c.as_slice-right.result.now c.args.suffix.from (Code 0)) c.least_part-part.result.number < n) c.decreases falls,
      (within, asks-first c.args.grammar.now p c.args.layout.now c.args.cells.now c.args.rule.now c.args.suffix.rule c.args.suffix.from c.args.span.start c.args.span.len c.args.room.now c.requires (Code 0) s is two c.least_part-part.result.number c.least_part-part.result.sum least chosen),
    )

pub write_parts-write_parts-requires : goal.write_parts-write_parts-requires
write_parts-write_parts-requires g t c = λ κs within.
    let p = g.P.LetterPrice.view c.args.prices.now in
    let is : get_or c.args.rule.now.right c.args.suffix.from (Code 0) ≡ get_or c.as_slice-right.result.now c.args.suffix.from (Code 0) = ap (λ r. get_or r c.args.suffix.from (Code 0)) (sym c.as_slice-right.ensures) in
    let ne : length c.args.rule.now.right ≡ length c.as_slice-right.result.now = ap length (sym c.as_slice-right.ensures) in
    let other : c.args.suffix.from + 1 ≢ length c.as_slice-right.result.now = c.if-from-right.false in
    let inside : c.args.suffix.from < length c.args.rule.now.right = c.requires.within in
    let two : c.args.suffix.from + 2 ≤ length c.args.rule.now.right = omega (arith, ne, other, inside) in
    let s = get_or c.as_slice-right.result.now c.args.suffix.from (Code 0) in
    let least = c.least_part-part.ensures.least in
    let chosen = rw is at c.least_part-part.ensures.chosen in
    let falls = falls-rest c.args.grammar.now c.args.layout.now c.requires.ready.layout c.args.rule.now.left c.args.suffix.from c.least_part-part.result.number c.args.span.len
    (part-low c.args.grammar.now p c.args.layout.now c.args.cells.now c.args.rule.now c.args.suffix.rule c.args.suffix.from c.args.span.start c.args.span.len c.args.room.now c.requires (Code 0) s is two c.least_part-part.result.number c.least_part-part.result.sum least chosen) (part-high c.args.grammar.now p c.args.layout.now c.args.cells.now c.args.rule.now c.args.suffix.rule c.args.suffix.from c.args.span.start c.args.span.len c.args.room.now c.requires (Code 0) s is two c.least_part-part.result.number c.least_part-part.result.sum least chosen) in (
      subst (λ (n : ℕ). parts_measure c.args.layout.now c.args.rule.now.left (c.args.suffix.from + 1) (c.args.span.len - c.least_part-part.result.number) < n) c.decreases falls,
      (within, asks-rest c.args.grammar.now p c.args.layout.now c.args.cells.now c.args.rule.now c.args.suffix.rule c.args.suffix.from c.args.span.start c.args.span.len c.args.room.now c.requires (Code 0) s is two c.least_part-part.result.number c.least_part-part.result.sum least chosen c.write_tree-2.new.room c.write_tree-2.ensures),
    )

pub write_parts-returns : goal.write_parts-returns
write_parts-returns g t c =
    let p = g.P.LetterPrice.view c.args.prices.now in
    let is : get_or c.args.rule.now.right c.args.suffix.from (Code 0) ≡ get_or c.as_slice-right.result.now c.args.suffix.from (Code 0) = ap (λ r. get_or r c.args.suffix.from (Code 0)) (sym c.as_slice-right.ensures) in
    let ne : length c.args.rule.now.right ≡ length c.as_slice-right.result.now = ap length (sym c.as_slice-right.ensures) in
    let other : c.args.suffix.from + 1 ≢ length c.as_slice-right.result.now = c.if-from-right.false in
    let inside : c.args.suffix.from < length c.args.rule.now.right = c.requires.within in
    let two : c.args.suffix.from + 2 ≤ length c.args.rule.now.right = omega (arith, ne, other, inside) in
    let s = get_or c.as_slice-right.result.now c.args.suffix.from (Code 0) in
    let least = c.least_part-part.ensures.least in
    let chosen = rw is at c.least_part-part.ensures.chosen in
    writes-split c.args.grammar.now p c.args.layout.now c.args.cells.now c.args.rule.now c.args.suffix.rule c.args.suffix.from c.args.span.start c.args.span.len c.args.room.now c.requires (Code 0) s is two c.least_part-part.result.number c.least_part-part.result.sum least chosen c.write_tree-2.new.room c.write_parts.new.room c.write_tree-2.ensures c.write_parts.ensures

pub write_tree-returns : goal.write_tree-returns
write_tree-returns g t c =
    let p = g.P.LetterPrice.view c.args.prices.now in
    let asks = subst (λ (q : Sym). AsksTree c.args.grammar.now (g.P.LetterPrice.view c.args.prices.now) c.args.layout.now c.args.cells.now q c.args.span.start c.args.span.len c.args.room.now) c.in-Name.is c.requires in
    subst (λ (q : Sym). WritesTree c.args.grammar.now (g.P.LetterPrice.view c.args.prices.now) q c.args.span.start c.args.span.len c.args.room.now c.write_parts.new.room) (sym c.in-Name.is)
    (writes-rule c.args.grammar.now p c.args.layout.now c.args.cells.now c.in-Name.name c.args.span.start c.args.span.len c.args.room.now asks c.least_rule-number.result.number c.least_rule-number.result.sum
    c.least_rule-number.ensures.least c.least_rule-number.ensures.chosen c.rule_of-rule.result.now c.rule_of-rule.ensures c.push.new.self c.write_parts.new.room c.push.ensures c.write_parts.ensures)
