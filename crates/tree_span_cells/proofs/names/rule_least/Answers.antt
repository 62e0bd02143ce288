use Rattle.std.proofs.Common.{rules, arith, ◌≡◌, ap, ◌∙◌}
use Rattle.std.proofs.lemmas.Int.{ints}
use mir.Val.{to_z, of_z}
use mir.Syntax.{w128}
use Rattle.std.specs.Prelude.{Some}
use Rattle.model_rosters.specs.Sums.{plus}
use Rattle.model_rosters.specs.Grammar.{Stands}
use Rattle.tree_span_cells.proofs.ChoicesLemmas.{on_some}
use Rattle.model_rosters.proofs.tree_laws.Ends.{rule-least}
use Rattle.tree_span_cells.proofs.names.rule_least.Goals as goal

pub right_least-parts-requires-clause-unit : goal.right_least-parts-requires-clause-unit
right_least-parts-requires-clause-unit g c =
    λ x e. let left : c.rule_of-rule.result.now.left ≡ c.args.name = omega arith in
    c.requires.later c.args.number x c.rule_of-rule.result.now c.rule_of-rule.ensures left e

pub returns-clause-least : goal.returns-clause-least
returns-clause-least g c =
    let same : to_z w128 (of_z w128 c.rule-cost.result) ≡ c.rule-cost.result = omega (arith, ints) in
    let left : c.rule_of-rule.result.now.left ≡ c.args.name = omega arith in
    let stands : Stands c.args.grammar.now.periods c.rule_of-rule.result.now c.args.span.start c.args.span.len = search rules in
    let e : c.add.result ≡ plus (Some ((g.P.LetterPrice.view c.args.prices.now).rule_of c.args.number)) c.right_least-parts.result =
    c.add.ensures ∙ ap (λ q. plus (Some q) c.right_least-parts.result) (same ∙ c.rule-cost.ensures.value) in
    rw e
    (rule-least c.args.grammar.now (g.P.LetterPrice.view c.args.prices.now) c.args.span.start c.args.span.len c.args.number c.args.name c.rule_of-rule.result.now c.right_least-parts.result
    c.rule_of-rule.ensures left stands c.requires.day.some c.right_least-parts.ensures.least)

pub returns-clause-chosen : goal.returns-clause-chosen
returns-clause-chosen g c =
    let same : to_z w128 (of_z w128 c.rule-cost.result) ≡ c.rule-cost.result = omega (arith, ints) in
    let left : c.rule_of-rule.result.now.left ≡ c.args.name = omega arith in
    let stands : Stands c.args.grammar.now.periods c.rule_of-rule.result.now c.args.span.start c.args.span.len = search rules in
    let e : c.add.result ≡ plus (Some ((g.P.LetterPrice.view c.args.prices.now).rule_of c.args.number)) c.right_least-parts.result =
    c.add.ensures ∙ ap (λ q. plus (Some q) c.right_least-parts.result) (same ∙ c.rule-cost.ensures.value) in
    on_some c.add.result _ (record { rule = c.rule_of-rule.result.now; at = c.rule_of-rule.ensures; left = left; stands = stands; inner = c.right_least-parts.result; parts = c.right_least-parts.ensures.least; sum = e })
