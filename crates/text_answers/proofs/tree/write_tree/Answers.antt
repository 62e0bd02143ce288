use Rattle.std.proofs.Common.{◌++◌, [], ◌∷◌, get_or, ap, sym, ◌∙◌}
use Rattle.std.proofs.lemmas.List.{take_more}
use Rattle.model_rosters.specs.declared.grammar.Step.{Step}
use Rattle.text_lines.specs.Written.{written}
use Rattle.text_answers.specs.TreeText.{tree_text, use_line}
use Rattle.text_answers.proofs.WrittenSteps.{tree_text-push}
use Rattle.text_answers.proofs.tree.write_tree.Goals as goal

-- the line of this step follows those of the steps before
pub loop-step-preserved : goal.loop-step-preserved
loop-step-preserved c =
    let past : Step = record { rule = 0; start = 0; len = 0 } in
    let step : Step = get_or c.args.steps.now c.loop-step.step-index past in
    let line = c.in_ok-write_use.ensures in
    line
    ∙ ap (λ text. text ++ written (use_line c.args.grammar.now step ∷ [])) c.loop-step.invariant
    ∙ sym (tree_text-push c.args.grammar.now c.args.word.now c.args.cost _ step)
    ∙ ap (tree_text c.args.grammar.now c.args.word.now c.args.cost) (sym (take_more c.args.steps.now c.loop-step.step-index past c.loop-step-test.true))
