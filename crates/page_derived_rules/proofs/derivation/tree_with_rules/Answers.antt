use Rattle.std.proofs.Common.{List, [], ◌∷◌, All, sym, ◌∙◌, subst}
use Rattle.model_rosters.specs.declared.grammar.Step.{Step}
use Rattle.model_rosters.specs.declared.grammar.Sym.TheVariants.{Name}
use Rattle.text_answers.specs.TreeText.{HasRule}
use Rattle.command_texts.proofs.Derivations.{some-sum}
use Rattle.page_derived_rules.proofs.RuledLemmas.{said-with-rules}
use Rattle.page_derived_rules.proofs.UsedRules.{used-rules}
use Rattle.page_derived_rules.proofs.derivation.tree_with_rules.Goals as goal

pub tree-requires-clause-sum : goal.tree-requires-clause-sum
tree-requires-clause-sum c = some-sum c.args.prices.now.grammar.now c.args.prices.now.word.now c.requires.sound c.requires.length c.args.price c.requires.price

pub ruled_text-requires-clause-rules : goal.ruled_text-requires-clause-rules
ruled_text-requires-clause-rules c =
    let g = c.args.prices.now.grammar.now in
    let t = c.tree.ensures.tree in
    subst (λ (xs : List Step). All (λ (s : Step). HasRule g s.rule) xs) (sym (c.steps.ensures ∙ t.held)) (used-rules g t.tree (Name g.start ∷ []) 1 t.of_day.0)

pub returns : goal.returns
returns c =
    let g = c.args.prices.now.grammar.now in
    let w = c.args.prices.now.word.now in
    let t = c.tree.ensures.tree in
    said-with-rules g w c.requires.sound c.requires.length c.args.price c.requires.price t.tree c.steps.result.now c.ruled_text.result t.of_day t.least (c.steps.ensures ∙ t.held) c.ruled_text.ensures
