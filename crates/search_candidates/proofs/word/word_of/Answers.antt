use Rattle.std.proofs.Common.{refl, false}
use Rattle.search_candidates.proofs.TreeWords.{bytes-next}
use Rattle.search_candidates.proofs.word.word_of.Goals as goal

pub loop-code-preserved : goal.loop-code-preserved
loop-code-preserved c =
    bytes-next c.args.grammar.now c.args.codes.now c.loop-code.code-index _ (record { byte = 0; work = false }) c.as_slice.result.now c.loop-code.word c.push.new.self
    c.loop-code-test.true refl (c.requires c.loop-code.code-index 0 c.loop-code-test.true) c.as_slice.ensures c.loop-code.invariant c.in_ok-push.ensures.ok
