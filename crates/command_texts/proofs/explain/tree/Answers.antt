use Rattle.std.proofs.Common.{◌≡◌, List, [], ◌∷◌, All, refl, sym, ap, ◌∙◌, subst}
use Rattle.model_rosters.specs.declared.grammar.Step.{Step}
use Rattle.model_rosters.specs.declared.grammar.Sym.TheVariants.{Name}
use Rattle.text_answers.specs.TreeText.{HasRule, tree_text}
use Rattle.command_texts.proofs.StepRules.{steps-rules}
use Rattle.command_texts.proofs.Derivations.{some-sum, says-tree}
use Rattle.command_texts.proofs.explain.tree.Goals as goal

pub tree-requires-clause-sum : goal.tree-requires-clause-sum
tree-requires-clause-sum c = some-sum c.args.prices.now.grammar.now c.args.prices.now.word.now c.requires.sound c.requires.length c.args.price c.requires.price

pub write_tree-requires-clause-rules : goal.write_tree-requires-clause-rules
write_tree-requires-clause-rules c =
    let g = c.args.prices.now.grammar.now in
    let t = c.tree.ensures.tree in
    subst (λ (xs : List Step). All (λ (s : Step). HasRule g s.rule) xs) (sym (c.steps.ensures ∙ t.held)) (steps-rules g t.tree (Name g.start ∷ []) 1 t.of_day.0)

pub returns : goal.returns
returns c =
    let g = c.args.prices.now.grammar.now in
    let w = c.args.prices.now.word.now in
    let t = c.tree.ensures.tree in
    let text : c.in_ok-write_tree.field-0 ≡ tree_text g w c.args.price c.steps.result.now = c.in_ok-write_tree.ensures in
    (refl, says-tree g w c.requires.sound c.requires.length c.args.price c.requires.price t.tree t.of_day t.least c.in_ok-write_tree.field-0 (text ∙ ap (tree_text g w c.args.price) (c.steps.ensures ∙ t.held)))
