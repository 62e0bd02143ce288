use Rattle.std.proofs.Common.{◌++◌, [], ◌∷◌, get_or, ap, sym, ◌∙◌}
use Rattle.std.proofs.lemmas.List.{take_more}
use Rattle.model_rosters.specs.declared.grammar.Step.{Step}
use Rattle.text_lines.specs.Written.{written}
use Rattle.page_derived_rules.specs.RuledTrees.{ruled_text, use_lines}
use Rattle.page_derived_rules.proofs.RuledLemmas.{ruled-push}
use Rattle.page_derived_rules.proofs.text.ruled_text.Goals as goal

-- the lines of this step follow those of the steps before
pub loop-step-preserved : goal.loop-step-preserved
loop-step-preserved c =
    let past : Step = record { rule = 0; start = 0; len = 0 } in
    let step : Step = get_or c.args.steps.now c.loop-step.step-index past in
    c.in_ok-append_lines.ensures
    ∙ ap (λ text. text ++ written (use_lines c.args.grammar.now step)) c.loop-step.invariant
    ∙ sym (ruled-push c.args.grammar.now c.args.word.now c.args.cost _ step)
    ∙ ap (ruled_text c.args.grammar.now c.args.word.now c.args.cost) (sym (take_more c.args.steps.now c.loop-step.step-index past c.loop-step-test.true))
