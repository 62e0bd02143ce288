use Rattle.std.proofs.Common.{◌≡◌, ◌≤◌, ◌+◌, length, sym, ◌∙◌, subst}
use Rattle.std.specs.Prelude.{drop}
use Rattle.std.proofs.lemmas.Option.{same_Some}
use Rattle.model_rosters.specs.declared.grammar.Rule.{Rule}
use Rattle.model_rosters.specs.Sums.{PartsLeast}
use Rattle.model_rosters.proofs.tree_laws.Rules.{rule_at-within}
use Rattle.tree_span_cells.specs.declared.slot.Slot.TheVariants.{OfName, OfSuffix}
use Rattle.tree_span_cells.proofs.Slots.{slot_here, same_slot}
use Rattle.tree_span_cells.proofs.CellsLemmas.{before-shorter, before-later}
use Rattle.tree_span_cells.proofs.fill.slot_least.Goals as goal

pub least_rule-requires-clause-shorter : goal.least_rule-requires-clause-shorter
least_rule-requires-clause-shorter g c =
    before-shorter c.args.grammar.now (g.P.LetterPrice.view c.args.prices.now) c.args.layout.now c.requires.ready.layout (g.C.Cells.held c.args.cells.now) c.args.slot c.args.span.start c.args.span.len c.requires.day c.requires.before

pub least_rule-requires-clause-later : goal.least_rule-requires-clause-later
least_rule-requires-clause-later g c =
    let here = slot_here c.args.layout.now.slots.items c.args.slot c.index.result.now (OfName c.in-OfName.name) c.requires.slot c.index.ensures c.in-OfName.is in
    before-later c.args.grammar.now (g.P.LetterPrice.view c.args.prices.now) c.args.layout.now c.requires.ready.layout c.requires.sound (g.C.Cells.held c.args.cells.now) c.args.slot c.in-OfName.name c.args.span.start c.args.span.len c.requires.day here c.requires.before

pub rule_of-rule-requires-clause-some : goal.rule_of-rule-requires-clause-some
rule_of-rule-requires-clause-some g c =
    let here = slot_here c.args.layout.now.slots.items c.args.slot c.index.result.now (OfSuffix c.in-OfSuffix.suffix) c.requires.slot c.index.ensures c.in-OfSuffix.is in
    let h = c.requires.ready.layout.parted c.args.slot c.in-OfSuffix.suffix here in
    (rule_at-within c.args.grammar.now c.in-OfSuffix.suffix.rule h.rule h.at).0

pub rule_of-rule-requires-clause-within : goal.rule_of-rule-requires-clause-within
rule_of-rule-requires-clause-within g c =
    let here = slot_here c.args.layout.now.slots.items c.args.slot c.index.result.now (OfSuffix c.in-OfSuffix.suffix) c.requires.slot c.index.ensures c.in-OfSuffix.is in
    let h = c.requires.ready.layout.parted c.args.slot c.in-OfSuffix.suffix here in
    (rule_at-within c.args.grammar.now c.in-OfSuffix.suffix.rule h.rule h.at).1

pub least_part-requires-clause-within : goal.least_part-requires-clause-within
least_part-requires-clause-within g c =
    let here = slot_here c.args.layout.now.slots.items c.args.slot c.index.result.now (OfSuffix c.in-OfSuffix.suffix) c.requires.slot c.index.ensures c.in-OfSuffix.is in
    let h = c.requires.ready.layout.parted c.args.slot c.in-OfSuffix.suffix here in
    let same : h.rule ≡ c.rule_of-rule.result.now = same_Some h.rule c.rule_of-rule.result.now (sym h.at ∙ c.rule_of-rule.ensures) in
    subst (λ (r : Rule). c.in-OfSuffix.suffix.from + 2 ≤ length r.right) same h.two

pub least_part-requires-clause-shorter : goal.least_part-requires-clause-shorter
least_part-requires-clause-shorter g c =
    before-shorter c.args.grammar.now (g.P.LetterPrice.view c.args.prices.now) c.args.layout.now c.requires.ready.layout (g.C.Cells.held c.args.cells.now) c.args.slot c.args.span.start c.args.span.len c.requires.day c.requires.before

pub returns-in-OfName-clause-least : goal.returns-in-OfName-clause-least
returns-in-OfName-clause-least g c =
    λ what k. let here = slot_here c.args.layout.now.slots.items c.args.slot c.index.result.now (OfName c.in-OfName.name) c.requires.slot c.index.ensures c.in-OfName.is in
    let same : what ≡ OfName c.in-OfName.name = same_slot c.args.layout.now.slots.items c.args.slot (OfName c.in-OfName.name) what here k in
    rw same c.least_rule.ensures.least

pub returns-in-OfSuffix-clause-least : goal.returns-in-OfSuffix-clause-least
returns-in-OfSuffix-clause-least g c =
    λ what k. let here = slot_here c.args.layout.now.slots.items c.args.slot c.index.result.now (OfSuffix c.in-OfSuffix.suffix) c.requires.slot c.index.ensures c.in-OfSuffix.is in
    let same : what ≡ OfSuffix c.in-OfSuffix.suffix = same_slot c.args.layout.now.slots.items c.args.slot (OfSuffix c.in-OfSuffix.suffix) what here k in
    rw same
    (λ rule at. let e : c.rule_of-rule.result.now ≡ rule = same_Some c.rule_of-rule.result.now rule (sym c.rule_of-rule.ensures ∙ at) in
    subst (λ (r : Rule). PartsLeast c.args.grammar.now (g.P.LetterPrice.view c.args.prices.now) c.in-OfSuffix.suffix.rule c.in-OfSuffix.suffix.from (drop c.in-OfSuffix.suffix.from r.right) c.args.span.start c.args.span.len c.least_part.result.sum) e c.least_part.ensures.least)

pub least_rule-requires-clause-name : goal.least_rule-requires-clause-name
least_rule-requires-clause-name g c =
    let here = slot_here c.args.layout.now.slots.items c.args.slot c.index.result.now (OfName c.in-OfName.name) c.requires.slot c.index.ensures c.in-OfName.is in
    (c.requires.ready.layout.named c.args.slot c.in-OfName.name here).0
