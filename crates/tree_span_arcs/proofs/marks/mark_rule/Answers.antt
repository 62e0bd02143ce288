use Rattle.std.proofs.Common.{rules, arith, ◌≡◌}
use Rattle.model_rosters.specs.Grammar.{Stands}
use Rattle.tree_span_arcs.proofs.StandLemmas.{right-stands}
use Rattle.tree_span_arcs.proofs.marks.mark_rule.Goals as goal

pub mark_right-requires-clause-stand : goal.mark_right-requires-clause-stand
mark_right-requires-clause-stand c =
    let left : c.rule_of-rule.result.now.left ≡ c.args.name = omega arith in
    let stands : Stands c.args.grammar.now.periods c.rule_of-rule.result.now c.args.span.start c.args.span.len = search rules in
    right-stands c.args.grammar.now c.args.span.start c.args.span.len c.args.number c.args.name c.rule_of-rule.result.now c.rule_of-rule.ensures left stands c.requires.day.some c.requires.stand
