use Rattle.model_rosters.proofs.word_prices.Costs.{shift-length}
use Rattle.page_derived_rules.proofs.derivation.derivation_with_rules.Goals as goal

pub derivation_by-requires-clause-length : goal.derivation_by-requires-clause-length
derivation_by-requires-clause-length c =
    let g = c.args.grammar.now in
    let w = c.args.word.now in
    let best = c.requires.price.attained in
    rw (c.new-prices.ensures.grammar, c.new-prices.ensures.word) (shift-length g g.start w c.requires.sound (best.0, best.1))

pub returns : goal.returns
returns c = rw (c.new-prices.ensures.grammar, c.new-prices.ensures.word) at c.derivation_by.ensures
