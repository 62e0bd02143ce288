use Rattle.model_rosters.specs.word_prices.Prices.{word_view}
use Rattle.search_candidates.proofs.LeadersLemmas.{there-of}
use Rattle.search_moves.proofs.LeastTrees.{asks-day}
use Rattle.search_moves.proofs.words.write_word.Goals as goal
use Rattle.model_rosters.proofs.tree_laws.DayStepsLemmas.{day-steps}

pub tree-requires-clause-asks : goal.tree-requires-clause-asks
tree-requires-clause-asks c =
    let i = c.args.day.now.instance.now in
    let p = word_view c.args.prices.now.grammar.now c.args.prices.now.word.now in (
      i.grammar,
      asks-day i c.requires.priced.priced.day.sound p c.args.day.now.graph.now c.args.pricer.now c.requires.priced.priced.day.graph c.requires.priced.priced.filled c.args.least (there-of c.args.least c.if-is_none.ensures) c.requires.priced.least c.args.room.now c.requires.room,
    )

pub returns-clause-yes : goal.returns-clause-yes
returns-clause-yes c = λ y.
    let i = c.args.day.now.instance.now in
    let p = word_view c.args.prices.now.grammar.now c.args.prices.now.word.now in
    day-steps i.grammar p c.tree.new.room
    (c.tree.ensures.tree i.grammar
    (asks-day i c.requires.priced.priced.day.sound p c.args.day.now.graph.now c.args.pricer.now c.requires.priced.priced.day.graph c.requires.priced.priced.filled c.args.least (there-of c.args.least c.if-is_none.ensures) c.requires.priced.least c.args.room.now c.requires.room))
