use Rattle.std.proofs.Common.{rules, arith, ◌≡◌, ◌≢◌, ◌≤◌, ◌<◌, ◌+◌, length, sym, ap, ◌∙◌, get_or, [], ◌∷◌}
use Rattle.std.specs.Prelude.{IsTrue}
use Rattle.model_rosters.specs.declared.grammar.Sym.TheVariants.{Code}
use Rattle.model_rosters.proofs.tree_laws.Rules.{sound-symbol, sound-rule}
use Rattle.model_rosters.proofs.tree_laws.Symbols.{here}
use Rattle.tree_span_arcs.specs.Marks.{HasSome}
use Rattle.tree_span_arcs.proofs.ArcsLemmas.{last-split, two-split}
use Rattle.tree_span_arcs.proofs.arcs.has_split.Goals as goal

pub returns-then-part-span : goal.returns-then-part-span
returns-then-part-span c =
    let split = last-split c.args.grammar.now c.args.rule.now.right c.args.suffix.from c.args.span.start c.args.span.len c.args.part (Code 0) _
    (c.if-from-right.true ∙ ap length c.as_slice-right.ensures) (ap (λ r. get_or r c.args.suffix.from (Code 0)) (sym c.as_slice-right.ensures)) in
    (λ h. cc, λ h. absurd (c.if-part-span.true (split.0 h).0))

pub symbol_derives-requires-clause-exists : goal.symbol_derives-requires-clause-exists
symbol_derives-requires-clause-exists c =
    sound-symbol c.args.grammar.now c.requires.sound c.args.suffix.rule c.args.suffix.from c.args.rule.now _ _ c.requires.rule
    (here c.args.rule.now.right c.args.suffix.from (Code 0) _ c.requires.within (ap (λ r. get_or r c.args.suffix.from (Code 0)) (sym c.as_slice-right.ensures)))

pub returns-then-not-is_inner : goal.returns-then-not-is_inner
returns-then-not-is_inner c =
    let ne : length c.args.rule.now.right ≡ length c.as_slice-right.result.now = ap length (sym c.as_slice-right.ensures) in
    let other : c.args.suffix.from + 1 ≢ length c.as_slice-right.result.now = c.if-from-right.false in
    let two : c.args.suffix.from + 2 ≤ length c.args.rule.now.right = omega (arith, ne, other, c.requires.within) in
    let split = two-split c.args.grammar.now c.args.rule.now.right c.args.suffix.from c.args.span.start c.args.span.len c.args.part (Code 0) _ two (ap (λ r. get_or r c.args.suffix.from (Code 0)) (sym c.as_slice-right.ensures)) in
    (λ h. cc, λ h. let p = split.0 h in let yes : IsTrue c.is_inner.result = c.is_inner.ensures.1 (p.0, p.1) in cc)

pub overflow_add-next : goal.overflow_add-next
overflow_add-next c =
    let eight : length c.args.rule.now.right ≤ 8 = (sound-rule c.args.grammar.now c.requires.sound c.args.suffix.rule c.args.rule.now c.requires.rule).eight in
    omega (arith, eight, c.requires.within)

pub symbol_derives-requires-2-clause-exists : goal.symbol_derives-requires-2-clause-exists
symbol_derives-requires-2-clause-exists c =
    sound-symbol c.args.grammar.now c.requires.sound c.args.suffix.rule c.args.suffix.from c.args.rule.now _ _ c.requires.rule
    (here c.args.rule.now.right c.args.suffix.from (Code 0) _ c.requires.within (ap (λ r. get_or r c.args.suffix.from (Code 0)) (sym c.as_slice-right.ensures)))

pub returns-then-symbol_derives : goal.returns-then-symbol_derives
returns-then-symbol_derives c =
    let ne : length c.args.rule.now.right ≡ length c.as_slice-right.result.now = ap length (sym c.as_slice-right.ensures) in
    let other : c.args.suffix.from + 1 ≢ length c.as_slice-right.result.now = c.if-from-right.false in
    let two : c.args.suffix.from + 2 ≤ length c.args.rule.now.right = omega (arith, ne, other, c.requires.within) in
    let split = two-split c.args.grammar.now c.args.rule.now.right c.args.suffix.from c.args.span.start c.args.span.len c.args.part (Code 0) _ two (ap (λ r. get_or r c.args.suffix.from (Code 0)) (sym c.as_slice-right.ensures)) in
    let inner : (1 ≤ c.args.part) × (c.args.part < c.args.span.len) = c.is_inner.ensures.0 c.if-not-is_inner.false in
    let first : HasSome c.args.grammar.now (get_or c.as_slice-right.result.now c.args.suffix.from (Code 0) ∷ []) c.args.span.start c.args.part = search rules in
    (λ h. split.1 (inner.0, inner.1, first, c.rest_derives.ensures.0 h), λ h. c.rest_derives.ensures.1 (split.0 h).3)
