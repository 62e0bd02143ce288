use Rattle.search_primal.proofs.completed.offer_at_node.Goals as goal

pub offer_kept-requires-clause-find : goal.offer_kept-requires-clause-find
offer_kept-requires-clause-find g c = record { tools = record { pool = c.requires.find.tools.pool; workspace = c.shorten.ensures.workspace }; good = c.requires.find.good }
