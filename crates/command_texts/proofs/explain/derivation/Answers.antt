use Rattle.command_answers.proofs.Readers.{IfOk-map}
use Rattle.command_texts.proofs.Derivations.{none-said, other-length}
use Rattle.command_texts.proofs.explain.derivation.Goals as goal

pub returns-then-word-grammar : goal.returns-then-word-grammar
returns-then-word-grammar c =
    let g = c.args.grammar.now in
    let w = c.args.word.now in
    IfOk-map _ _ _ (λ a h. none-said g w c.requires a (other-length g w c.requires c.if-word-grammar.true) h) c.no_derivation.ensures

pub returns : goal.returns
returns c = rw (c.new-prices.ensures.grammar, c.new-prices.ensures.word) at c.derivation_by.ensures
