use Rattle.model_rosters.specs.Grammar.{Stands}
use Rattle.std.proofs.Common.{rules, arith, ◌+ℤ◌, sym, subst, ◌∙◌}
use Rattle.std.proofs.lemmas.Option.{same_Some}
use Rattle.model_rosters.specs.declared.grammar.Rule.{Rule}
use Rattle.tree_span_table.specs.next_codes.Pushes.{RightDone}
use Rattle.model_rosters.proofs.tree_laws.Bounds.{Within-more}
use Rattle.tree_span_table.proofs.next_codes.Surroundings.{around-rule}
use Rattle.tree_span_table.proofs.next_codes.PartPushes.{small-sum}
use Rattle.tree_span_table.proofs.next_codes.names.push_rule.Goals as goal

pub push_right-requires-clause-around : goal.push_right-requires-clause-around
push_right-requires-clause-around g c =
    let p = g.P.LetterPrice.view c.args.prices.now in
    let total = small-sum c.args.outside c.rule.result (Within-more _ _ c.args.outside (omega arith) c.requires.outside) (Within-more _ _ c.rule.result (omega arith) c.rule.ensures.within) in
    let left = c.requires.left c.rule_of-rule.result.now c.rule_of-rule.ensures in
    let stands : Stands c.args.grammar.now.periods c.rule_of-rule.result.now c.args.span.start c.args.span.len = search rules in
    rw (total, c.rule.ensures.value)
    (around-rule c.args.grammar.now p c.args.number c.args.name c.args.span.start c.args.span.len c.rule_of-rule.result.now c.args.outside c.rule_of-rule.ensures left stands c.requires.day.some c.requires.around)

pub returns-clause-done : goal.returns-clause-done
returns-clause-done g c = λ rule at stands.
    let p = g.P.LetterPrice.view c.args.prices.now in
    let total = small-sum c.args.outside c.rule.result (Within-more _ _ c.args.outside (omega arith) c.requires.outside) (Within-more _ _ c.rule.result (omega arith) c.rule.ensures.within) in
    let same = same_Some c.rule_of-rule.result.now rule (sym c.rule_of-rule.ensures ∙ at) in
    subst (λ (q : Rule). RightDone c.args.grammar.now p c.args.layout.now c.push_right.new.totals c.args.number q.right c.args.span.start c.args.span.len (c.args.outside +ℤ p.rule_of c.args.number)) same
    (rw (total, c.rule.ensures.value) at c.push_right.ensures.done)
