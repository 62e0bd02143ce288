use Rattle.std.proofs.Common.{List, ℕ, get_or, drop, ◌++◌, ap, ◌∙◌}
use Rattle.check_parts.proofs.roster_part.CountersLemmas.{word_added}
use Rattle.check_parts.proofs.roster_part.counter.add_word.Goals as goal

pub returns-clause-counts : goal.returns-clause-counts
returns-clause-counts c = λ k l.
    ap (λ (xs : List ℕ). get_or (xs ++ drop c.min-both.result c.args.counts.now) k 0) c.add_matches.ensures.counts
    ∙ word_added c.args.byte c.args.counts.now c.args.word.now c.min-both.result c.min-both.ensures k l
