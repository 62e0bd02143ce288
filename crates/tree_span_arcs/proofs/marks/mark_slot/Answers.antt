use Rattle.std.proofs.Common.{◌≡◌, ◌≤◌, ◌+◌, ℕ, true, false, length, drop, sym, ap, ◌∙◌, subst, get_or}
use Rattle.std.proofs.lemmas.Option.{same_Some}
use Rattle.model_rosters.specs.declared.grammar.Rule.{Rule}
use Rattle.model_rosters.proofs.tree_laws.Rules.{rule_at-within}
use Rattle.tree_span_cells.specs.declared.slot.Slot.TheVariants.{OfName, OfSuffix}
use Rattle.tree_span_cells.specs.Cells.{place, name_slot}
use Rattle.tree_span_arcs.specs.Marks.{mark, Adds, PartsClosed}
use Rattle.tree_span_cells.proofs.Slots.{slot_here, same_slot}
use Rattle.tree_span_arcs.proofs.marks.mark_slot.Goals as goal

pub mark_rules-requires-clause-stand : goal.mark_rules-requires-clause-stand
mark_rules-requires-clause-stand c =
    let here = slot_here c.args.layout.now.slots.items c.args.slot c.index.result.now (OfName c.in-OfName.name) c.requires.slot c.index.ensures c.in-OfName.is in
    let marked : mark c.args.layout.now c.args.marks.now c.args.slot c.args.span.start c.args.span.len ≡ true =
    ap (λ (q : ℕ). get_or c.args.marks.now q false) (sym c.place_of.ensures.place) ∙ c.if-not-marks-place_of.false in
    c.requires.truth c.args.slot c.args.span.start c.args.span.len (OfName c.in-OfName.name) here c.requires.day marked

pub rule_of-rule-requires-clause-some : goal.rule_of-rule-requires-clause-some
rule_of-rule-requires-clause-some c =
    let here = slot_here c.args.layout.now.slots.items c.args.slot c.index.result.now (OfSuffix c.in-OfSuffix.suffix) c.requires.slot c.index.ensures c.in-OfSuffix.is in
    let h = c.requires.ready.layout.parted c.args.slot c.in-OfSuffix.suffix here in
    (rule_at-within c.args.grammar.now c.in-OfSuffix.suffix.rule h.rule h.at).0

pub rule_of-rule-requires-clause-within : goal.rule_of-rule-requires-clause-within
rule_of-rule-requires-clause-within c =
    let here = slot_here c.args.layout.now.slots.items c.args.slot c.index.result.now (OfSuffix c.in-OfSuffix.suffix) c.requires.slot c.index.ensures c.in-OfSuffix.is in
    let h = c.requires.ready.layout.parted c.args.slot c.in-OfSuffix.suffix here in
    (rule_at-within c.args.grammar.now c.in-OfSuffix.suffix.rule h.rule h.at).1

pub mark_parts-requires-clause-within : goal.mark_parts-requires-clause-within
mark_parts-requires-clause-within c =
    let here = slot_here c.args.layout.now.slots.items c.args.slot c.index.result.now (OfSuffix c.in-OfSuffix.suffix) c.requires.slot c.index.ensures c.in-OfSuffix.is in
    let h = c.requires.ready.layout.parted c.args.slot c.in-OfSuffix.suffix here in
    let same : h.rule ≡ c.rule_of-rule.result.now = same_Some h.rule c.rule_of-rule.result.now (sym h.at ∙ c.rule_of-rule.ensures) in
    subst (λ (r : Rule). c.in-OfSuffix.suffix.from + 2 ≤ length r.right) same h.two

pub mark_parts-requires-clause-stand : goal.mark_parts-requires-clause-stand
mark_parts-requires-clause-stand c =
    let here = slot_here c.args.layout.now.slots.items c.args.slot c.index.result.now (OfSuffix c.in-OfSuffix.suffix) c.requires.slot c.index.ensures c.in-OfSuffix.is in
    let marked : mark c.args.layout.now c.args.marks.now c.args.slot c.args.span.start c.args.span.len ≡ true =
    ap (λ (q : ℕ). get_or c.args.marks.now q false) (sym c.place_of.ensures.place) ∙ c.if-not-marks-place_of.false in
    c.requires.truth c.args.slot c.args.span.start c.args.span.len (OfSuffix c.in-OfSuffix.suffix) here c.requires.day marked c.rule_of-rule.result.now c.rule_of-rule.ensures

pub returns-in-OfName-clause-adds : goal.returns-in-OfName-clause-adds
returns-in-OfName-clause-adds c =
    let here = slot_here c.args.layout.now.slots.items c.args.slot c.index.result.now (OfName c.in-OfName.name) c.requires.slot c.index.ensures c.in-OfName.is in
    let e : c.args.slot ≡ name_slot c.args.layout.now c.in-OfName.name = (c.requires.ready.layout.named c.args.slot c.in-OfName.name here).1 in
    subst (λ (s : ℕ). Adds c.args.grammar.now c.args.layout.now (place c.args.layout.now s c.args.span.start c.args.span.len) c.args.marks.now c.mark_rules.new.marks) (sym e) c.mark_rules.ensures.adds

pub returns-in-OfName-clause-closed : goal.returns-in-OfName-clause-closed
returns-in-OfName-clause-closed c =
    λ what k marked. let here = slot_here c.args.layout.now.slots.items c.args.slot c.index.result.now (OfName c.in-OfName.name) c.requires.slot c.index.ensures c.in-OfName.is in
    let same : what ≡ OfName c.in-OfName.name = same_slot c.args.layout.now.slots.items c.args.slot (OfName c.in-OfName.name) what here k in
    rw same c.mark_rules.ensures.closed

pub returns-in-OfSuffix-clause-closed : goal.returns-in-OfSuffix-clause-closed
returns-in-OfSuffix-clause-closed c =
    λ what k marked. let here = slot_here c.args.layout.now.slots.items c.args.slot c.index.result.now (OfSuffix c.in-OfSuffix.suffix) c.requires.slot c.index.ensures c.in-OfSuffix.is in
    let same : what ≡ OfSuffix c.in-OfSuffix.suffix = same_slot c.args.layout.now.slots.items c.args.slot (OfSuffix c.in-OfSuffix.suffix) what here k in
    rw same
    (λ rule at. subst (λ (r : Rule). PartsClosed c.args.grammar.now c.args.layout.now c.mark_parts.new.marks c.in-OfSuffix.suffix.rule c.in-OfSuffix.suffix.from (drop c.in-OfSuffix.suffix.from r.right) c.args.span.start c.args.span.len)
    (same_Some c.rule_of-rule.result.now rule (sym c.rule_of-rule.ensures ∙ at)) c.mark_parts.ensures.closed)

pub mark_rules-requires-clause-name : goal.mark_rules-requires-clause-name
mark_rules-requires-clause-name c =
    let here = slot_here c.args.layout.now.slots.items c.args.slot c.index.result.now (OfName c.in-OfName.name) c.requires.slot c.index.ensures c.in-OfName.is in
    (c.requires.ready.layout.named c.args.slot c.in-OfName.name here).0
