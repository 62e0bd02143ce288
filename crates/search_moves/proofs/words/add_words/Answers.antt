use Rattle.std.proofs.Common.{◌∙◌}
use Rattle.search_candidates.proofs.PoolNumbers.{grown-more}
use Rattle.search_moves.proofs.ToolsLemmas.{columns-later}
use Rattle.search_moves.proofs.words.add_words.Goals as goal

pub loop-place-preserved : goal.loop-place-preserved
loop-place-preserved c = record {
  pricer = c.next_word.ensures.pricer;
  room = c.next_word.ensures.kept ∙ c.loop-place.invariant.room;
  pool = c.next_word.ensures.pool.are;
  grown = grown-more c.args.pool.now c.loop-place.pool c.next_word.new.pool c.loop-place.invariant.grown c.next_word.ensures.pool.grown;
  last = c.in_ok-last.ensures.found;
  columns = c.in_ok-push_found.ensures c.next_word.new.pool c.in_ok-last.ensures.found
      (columns-later c.loop-place.pool c.next_word.new.pool c.loop-place.columns c.next_word.ensures.pool.grown c.loop-place.invariant.columns);
}

pub returns-in_err-last-clause-pool : goal.returns-in_err-last-clause-pool
returns-in_err-last-clause-pool c = record {
  are = c.next_word.ensures.pool.are;
  grown = grown-more c.args.pool.now c.loop-place.pool c.next_word.new.pool c.loop-place.invariant.grown c.next_word.ensures.pool.grown;
}

pub returns-in_err-push_found-clause-pool : goal.returns-in_err-push_found-clause-pool
returns-in_err-push_found-clause-pool c = record {
  are = c.next_word.ensures.pool.are;
  grown = grown-more c.args.pool.now c.loop-place.pool c.next_word.new.pool c.loop-place.invariant.grown c.next_word.ensures.pool.grown;
}
