use Rattle.std.proofs.Common.{arith, ℕ, ◌≡◌, ◌≤◌, ◌<◌, ◌-◌, length, ap, sym, ◌∙◌, get_or, Some}
use Rattle.std.proofs.lemmas.List.{get_or_read}
use Rattle.model_rosters.specs.declared.grammar.Grammar.{Grammar}
use Rattle.model_rosters.specs.declared.grammar.Rule.{Rule}
use Rattle.model_rosters.specs.declared.grammar.Sym.TheVariants.{Name, Code}
use Rattle.model_rosters.specs.Grammar.{rule_at}
use Rattle.model_rosters.proofs.tree_laws.Rules.{rule_at-within, sound-symbol}
use Rattle.model_rosters.proofs.tree_laws.Symbols.{here, rest-last}
use Rattle.model_rosters.proofs.tree_laws.Bounds.{parts_within}
use Rattle.tree_span_cells.specs.declared.slot.Layout.{Layout}
use Rattle.tree_span_cells.specs.Cells.{IsLayoutOf, suffix_slot}
use Rattle.tree_span_cells.proofs.Slots.{suffix_slot-within}
use Rattle.tree_span_cells.proofs.parts.rest_least.Goals as goal

-- the number that was read is the first slot of the rule's suffixes
slot_read : (g : Grammar) (lay : Layout) → IsLayoutOf g lay → (r n : ℕ) (rule : Rule) → rule_at g r ≡ Some rule → n ≡ get_or lay.suffixes.items (r - 1) n
    → n ≡ get_or lay.suffixes.items (r - 1) 0
slot_read g lay fits r n rule at read =
    let w = rule_at-within g r rule at in
    get_or_read lay.suffixes.items (r - 1) n (omega (arith, w, fits.all_rules)) read 0

pub symbol_least-requires-clause-name : goal.symbol_least-requires-clause-name
symbol_least-requires-clause-name g c =
    λ x e. let e2 : get_or c.args.rule.now.right c.args.suffix.from (Code 0) ≡ Name x = rw c.as_slice-right.ensures at e in
    let lt = sound-symbol c.args.grammar.now c.requires.sound c.args.suffix.rule c.args.suffix.from c.args.rule.now (Name x) _ c.requires.rule (here c.args.rule.now.right c.args.suffix.from (Code 0) (Name x) c.requires.within e2) in
    (lt, c.requires.right.names x lt)

pub sum_at-requires-clause-slot : goal.sum_at-requires-clause-slot
sum_at-requires-clause-slot g c =
    let ne : length c.args.rule.now.right ≡ length c.as_slice-right.result.now = ap length (sym c.as_slice-right.ensures) in
    let slot = slot_read c.args.grammar.now c.args.layout.now c.requires.ready.layout c.args.suffix.rule c.index.result.now c.args.rule.now c.requires.rule c.index.ensures in
    rw slot (suffix_slot-within c.args.grammar.now c.args.layout.now c.requires.ready.layout c.args.suffix.rule c.args.suffix.from c.args.rule.now c.requires.rule c.requires.inner (omega arith))

pub overflow_add-slot : goal.overflow_add-slot
overflow_add-slot g c =
    let ne : length c.args.rule.now.right ≡ length c.as_slice-right.result.now = ap length (sym c.as_slice-right.ensures) in
    let slot = slot_read c.args.grammar.now c.args.layout.now c.requires.ready.layout c.args.suffix.rule c.index.result.now c.args.rule.now c.requires.rule c.index.ensures in
    let within : suffix_slot c.args.layout.now c.args.suffix.rule c.args.suffix.from < length c.args.layout.now.slots.items =
    suffix_slot-within c.args.grammar.now c.args.layout.now c.requires.ready.layout c.args.suffix.rule c.args.suffix.from c.args.rule.now c.requires.rule c.requires.inner (omega arith) in
    omega (arith, c.requires.ready.layout.few, within, slot)

pub returns-then-from-right-clause-least : goal.returns-then-from-right-clause-least
returns-then-from-right-clause-least g c =
    rest-last c.args.grammar.now (g.P.LetterPrice.view c.args.prices.now) c.args.span.start c.args.span.len c.args.suffix.rule c.args.suffix.from c.args.rule.now.right (Code 0) _ c.symbol_least.result
    c.requires.inner (c.if-from-right.true ∙ ap length c.as_slice-right.ensures) (ap (λ r. get_or r c.args.suffix.from (Code 0)) (sym c.as_slice-right.ensures)) c.symbol_least.ensures.least

pub returns-else-from-right-clause-least : goal.returns-else-from-right-clause-least
returns-else-from-right-clause-least g c =
    let ne : length c.args.rule.now.right ≡ length c.as_slice-right.result.now = ap length (sym c.as_slice-right.ensures) in
    let slot = slot_read c.args.grammar.now c.args.layout.now c.requires.ready.layout c.args.suffix.rule c.index.result.now c.args.rule.now c.requires.rule c.index.ensures in
    rw (c.sum_at.ensures, slot) (c.requires.right.suffixes c.args.suffix.rule c.args.suffix.from c.args.rule.now c.requires.rule c.requires.inner (omega arith))

pub returns-else-from-right-clause-within : goal.returns-else-from-right-clause-within
returns-else-from-right-clause-within g c =
    let most : c.args.span.len ≤ 96 = omega arith in
    parts_within c.args.grammar.now c.requires.sound _ (g.met.P.LetterPrice.all_within c.args.prices.now) c.args.suffix.rule c.args.suffix.from c.args.span.start c.args.span.len _ _ most
    (returns-else-from-right-clause-least g c)
