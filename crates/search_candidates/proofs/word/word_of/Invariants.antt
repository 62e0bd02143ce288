use Rattle.std.proofs.Common.{◌≡◌, take, map}
use Rattle.model_rosters.specs.Coverage.{code_byte}
use Rattle.search_candidates.proofs.word.word_of.Given as goal

abbrev pub invariant-loop-code : goal.invariant-loop-code
invariant-loop-code l = l.word ≡ map (code_byte l.grammar) (take l.code-index l.codes)
