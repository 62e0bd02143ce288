use Rattle.search_candidates.proofs.LeadersLemmas.{there-of}
use Rattle.search_moves.proofs.DayTrees.{asks-short-day}
use Rattle.search_moves.proofs.trees.write_tree.Goals as goal

pub tree-requires-clause-asks : goal.tree-requires-clause-asks
tree-requires-clause-asks c =
    let i = c.args.day.now.instance.now in (
      i.grammar,
      asks-short-day i c.requires.priced.priced.day.sound c.args.day.now.graph.now c.requires.priced.priced.day.graph c.args.room.now c.requires.room c.args.least (there-of c.args.least c.if-is_none.ensures) c.requires.priced.root,
    )

pub returns-clause-yes : goal.returns-clause-yes
returns-clause-yes c = λ y.
    let i = c.args.day.now.instance.now in
    c.tree.ensures.tree i.grammar
    (asks-short-day i c.requires.priced.priced.day.sound c.args.day.now.graph.now c.requires.priced.priced.day.graph c.args.room.now c.requires.room c.args.least (there-of c.args.least c.if-is_none.ensures) c.requires.priced.root)
