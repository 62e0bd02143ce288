use Rattle.std.proofs.Common.{ℕ, ap, get_or, ◌+◌, ◌∙◌}
use Rattle.check_lanes.specs.Counted.{matched}
use Rattle.check_lanes.proofs.Lanes.{get-lane, get-other}
use Rattle.check_lanes.proofs.counting.add_lanes.Goals as goal

pub returns-clause-lanes : goal.returns-clause-lanes
returns-clause-lanes c = λ k lo hi.
    get-lane c.args.counts.now c.args.word.now c.from.result c.args.at c.requires.lengths c.requires.lanes k lo hi (c.requires.room k lo hi)
    ∙ ap (λ (b : ℕ). get_or c.args.counts.now k 0 + matched b (get_or c.args.word.now k 0)) c.from.ensures

pub returns-clause-others : goal.returns-clause-others
returns-clause-others c = λ k h. get-other c.args.counts.now c.args.word.now c.from.result c.args.at c.requires.lengths c.requires.lanes k h
