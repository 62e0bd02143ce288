use Rattle.search_branch_price.proofs.branching.search_busy.Goals as goal

pub search_at-found-requires-clause-bench : goal.search_at-found-requires-clause-bench
search_at-found-requires-clause-bench g c = record {
  is = record { tools = record { pool = c.requires.pool; workspace = c.in_ok-bench.ensures.workspace }; path = c.in_ok-bench.ensures.path };
  root = c.in_ok-bench.ensures.root;
}
