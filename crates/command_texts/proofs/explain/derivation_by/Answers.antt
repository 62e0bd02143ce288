use Rattle.command_answers.proofs.Readers.{IfOk-map}
use Rattle.command_texts.proofs.Derivations.{none-said, tree-said}
use Rattle.command_texts.proofs.explain.derivation_by.Goals as goal

pub returns-in-Some : goal.returns-in-Some
returns-in-Some c =
    IfOk-map _ _ _
    (λ a h. tree-said c.args.prices.now.grammar.now c.args.prices.now.word.now c.requires.sound a h)
    c.tree.ensures

pub returns-in-None : goal.returns-in-None
returns-in-None c =
    IfOk-map _ _ _
    (λ a h. none-said c.args.prices.now.grammar.now c.args.prices.now.word.now c.requires.sound a c.in-None.ensures h)
    c.no_derivation.ensures
