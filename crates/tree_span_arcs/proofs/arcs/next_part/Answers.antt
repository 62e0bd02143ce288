use Rattle.std.proofs.Common.{rules, arith, ◌≡◌, ℕ, sym, ap, ◌∙◌, subst}
use Rattle.std.specs.Prelude.{IsTrue}
use Rattle.std.proofs.lemmas.Option.{same_Some}
use Rattle.model_rosters.specs.declared.grammar.Rule.{Rule}
use Rattle.model_rosters.specs.Grammar.{rule_at}
use Rattle.model_rosters.proofs.tree_laws.Rules.{sound-rule}
use Rattle.tree_span_arcs.specs.Marks.{SuffixMarked}
use Rattle.tree_span_arcs.proofs.ArcsLemmas.{arc-told, marked-within}
use Rattle.tree_span_arcs.proofs.OrderLemmas.{arc-shape, part-step}
use Rattle.tree_span_arcs.proofs.arcs.next_part.Goals as goal

pub returns-then-arc : goal.returns-then-arc
returns-then-arc c =
    λ x is after. let h = arc-shape c.args.grammar.now c.args.layout.now c.args.marks.now c.requires.sound c.requires.ready.layout c.requires.marked x is in
    absurd (omega (arith, h.inside, after.3, after.4, c.if-arc.true))

pub returns-then-not-has_span : goal.returns-then-not-has_span
returns-then-not-has_span c =
    λ x is after. let h = arc-shape c.args.grammar.now c.args.layout.now c.args.marks.now c.requires.sound c.requires.ready.layout c.requires.marked x is in
    let yes : IsTrue c.has_span.result = c.has_span.ensures.1 (
      omega (arith, h.low, after.0),
      omega (arith, h.high, after.0),
      record { begins = omega (arith, h.day.begins, after.2); some = omega (arith, h.day.some, after.3); within = omega (arith, h.day.within, after.2, after.3) },
    ) in
    cc

pub longer_part-requires-clause-within : goal.longer_part-requires-clause-within
longer_part-requires-clause-within c =
    let marked : SuffixMarked c.args.grammar.now c.args.layout.now c.args.marks.now c.rule_of-rule.result.now c.args.arc.rule c.args.arc.suffix c.args.arc.start c.args.arc.len = search rules in
    marked-within c.args.grammar.now c.args.layout.now c.args.marks.now c.rule_of-rule.result.now c.args.arc.rule c.args.arc.suffix c.args.arc.start c.args.arc.len
    (sound-rule c.args.grammar.now c.requires.sound c.args.arc.rule c.rule_of-rule.result.now c.rule_of-rule.ensures).some marked

pub returns-then-is_marked : goal.returns-then-is_marked
returns-then-is_marked c =
    part-step c.args.grammar.now c.args.layout.now c.args.marks.now c.requires.sound c.requires.ready.layout c.requires.marked c.args.arc c.rule_of-rule.result.now c.rule_of-rule.ensures
    c.longer_part.result c.longer_part.ensures

pub returns-else-is_marked : goal.returns-else-is_marked
returns-else-is_marked c =
    λ x is after. let told = arc-told c.args.grammar.now c.args.layout.now c.args.marks.now c.requires.sound c.requires.ready.layout c.requires.marked x is in
    let same : told.rule ≡ c.rule_of-rule.result.now = same_Some told.rule c.rule_of-rule.result.now (sym told.at ∙ ap (λ (r : ℕ). rule_at c.args.grammar.now r) (sym after.0) ∙ c.rule_of-rule.ensures) in
    let at_rule : SuffixMarked c.args.grammar.now c.args.layout.now c.args.marks.now c.rule_of-rule.result.now x.rule x.suffix x.start x.len =
    subst (λ (r : Rule). SuffixMarked c.args.grammar.now c.args.layout.now c.args.marks.now r x.rule x.suffix x.start x.len) same told.marked in
    let here : SuffixMarked c.args.grammar.now c.args.layout.now c.args.marks.now c.rule_of-rule.result.now c.args.arc.rule c.args.arc.suffix c.args.arc.start c.args.arc.len =
    rw (after.0, after.1, after.2, after.3) at_rule in
    let yes : IsTrue c.is_marked.result = c.is_marked.ensures.1 here in
    cc
