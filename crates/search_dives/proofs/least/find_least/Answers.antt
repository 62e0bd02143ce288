use Rattle.search_dives.proofs.least.find_least.Goals as goal

pub tree-requires-clause-asks : goal.tree-requires-clause-asks
tree-requires-clause-asks g c = (
  c.args.day.now.instance.now.grammar,
  record { sound = c.requires.day.sound.grammar; graph = c.requires.day.graph; some = rw c.in-Some.is at c.cheapest.ensures.some; space = c.requires.room },
)

pub returns-clause-found : goal.returns-clause-found
returns-clause-found g c =
    c.tree.ensures.tree c.args.day.now.instance.now.grammar
    (record { sound = c.requires.day.sound.grammar; graph = c.requires.day.graph; some = rw c.in-Some.is at c.cheapest.ensures.some; space = c.requires.room })
