use Rattle.std.proofs.Common.{ap, ◌+◌, ℕ}
use Rattle.check_parts.proofs.pinned_part.PinnedValues.{pinned-cost, pinned-none}
use Rattle.check_parts.proofs.pinned_part.value.pinned_value.Goals as goal

pub returns-in-Some-clause-value : goal.returns-in-Some-clause-value
returns-in-Some-clause-value c =
    let i = c.args.instance.now in
    let good = c.in-Some.ensures in
    pinned-cost i c.args.cuts.now c.requires.sound c.count_arcs-cost.new.nodes c.count_arcs-cost.result c.count_arcs-cost.ensures.counted
    (c.count_arcs-cost.result + c.in-Some.penalties) good.0 (ap (λ (n : ℕ). c.count_arcs-cost.result + n) good.1)

pub returns-in-None-clause-value : goal.returns-in-None-clause-value
returns-in-None-clause-value c =
    let i = c.args.instance.now in
    pinned-none i c.args.cuts.now c.requires.sound c.count_arcs-cost.new.nodes c.count_arcs-cost.result c.count_arcs-cost.ensures.counted
    (c.greatest_cost.result + 1) c.in-None.ensures (ap (λ (n : ℕ). n + 1) c.greatest_cost.ensures.value)
