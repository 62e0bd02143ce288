use Rattle.std.proofs.Common.{rules, ◌≡◌, drop, sym, ◌∙◌, subst}
use Rattle.std.specs.Prelude.{IsTrue}
use Rattle.std.proofs.lemmas.Option.{same_Some}
use Rattle.model_rosters.specs.Grammar.{InDay}
use Rattle.model_rosters.specs.declared.grammar.Rule.{Rule}
use Rattle.model_rosters.proofs.tree_laws.Rules.{sound-rule, rule_at-within}
use Rattle.tree_span_arcs.specs.Marks.{SuffixMarked, HasSplit}
use Rattle.tree_span_arcs.proofs.ArcsLemmas.{arc-told, told-arc, marked-within}
use Rattle.tree_span_arcs.proofs.arcs.is_arc.Goals as goal

pub returns-then-not-has_span : goal.returns-then-not-has_span
returns-then-not-has_span c = (
  λ h. cc,
  λ a. let told = arc-told c.args.grammar.now c.args.layout.now c.args.marks.now c.requires.sound c.requires.ready.layout c.requires.marked c.args.arc.now a in
      let w = rule_at-within c.args.grammar.now c.args.arc.now.rule told.rule told.at in
      let yes : IsTrue c.has_span.result = c.has_span.ensures.1 (w.0, w.1, told.day) in
      cc,
)

pub returns-then-not-is_marked : goal.returns-then-not-is_marked
returns-then-not-is_marked c = (
  λ h. cc,
  λ a. let told = arc-told c.args.grammar.now c.args.layout.now c.args.marks.now c.requires.sound c.requires.ready.layout c.requires.marked c.args.arc.now a in
      let same : told.rule ≡ c.rule_of-rule.result.now = same_Some told.rule c.rule_of-rule.result.now (sym told.at ∙ c.rule_of-rule.ensures) in
      let yes : IsTrue c.is_marked.result = c.is_marked.ensures.1
      (subst (λ (r : Rule). SuffixMarked c.args.grammar.now c.args.layout.now c.args.marks.now r c.args.arc.now.rule c.args.arc.now.suffix c.args.arc.now.start c.args.arc.now.len) same told.marked) in
      cc,
)

pub has_split-requires-clause-within : goal.has_split-requires-clause-within
has_split-requires-clause-within c =
    let marked : SuffixMarked c.args.grammar.now c.args.layout.now c.args.marks.now c.rule_of-rule.result.now c.args.arc.now.rule c.args.arc.now.suffix c.args.arc.now.start c.args.arc.now.len = search rules in
    marked-within c.args.grammar.now c.args.layout.now c.args.marks.now c.rule_of-rule.result.now c.args.arc.now.rule c.args.arc.now.suffix c.args.arc.now.start c.args.arc.now.len
    (sound-rule c.args.grammar.now c.requires.sound c.args.arc.now.rule c.rule_of-rule.result.now c.rule_of-rule.ensures).some marked

pub returns : goal.returns
returns c =
    let marked : SuffixMarked c.args.grammar.now c.args.layout.now c.args.marks.now c.rule_of-rule.result.now c.args.arc.now.rule c.args.arc.now.suffix c.args.arc.now.start c.args.arc.now.len = search rules in
    let span : InDay c.args.grammar.now.periods c.args.arc.now.start c.args.arc.now.len = search rules in (
      λ h. told-arc c.args.grammar.now c.args.layout.now c.args.marks.now c.requires.sound c.requires.ready.layout c.requires.marked c.args.arc.now.rule c.args.arc.now.suffix c.args.arc.now.start c.args.arc.now.len c.args.arc.now.part
          c.rule_of-rule.result.now c.rule_of-rule.ensures span marked (c.has_split.ensures.0 h),
      λ a. let told = arc-told c.args.grammar.now c.args.layout.now c.args.marks.now c.requires.sound c.requires.ready.layout c.requires.marked c.args.arc.now a in
          let same : told.rule ≡ c.rule_of-rule.result.now = same_Some told.rule c.rule_of-rule.result.now (sym told.at ∙ c.rule_of-rule.ensures) in
          c.has_split.ensures.1 (subst (λ (r : Rule). HasSplit c.args.grammar.now (drop c.args.arc.now.suffix r.right) c.args.arc.now.start c.args.arc.now.len c.args.arc.now.part) same told.split),
    )
