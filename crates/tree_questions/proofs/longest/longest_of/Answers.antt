use Rattle.std.proofs.Common.{arith}
use Rattle.tree_questions.proofs.Misses.{least-misses, small-misses, kept-misses, is-longest}
use Rattle.tree_questions.proofs.longest.longest_of.Goals as goal

pub overflow_cast-sum : goal.overflow_cast-sum
overflow_cast-sum c =
    let kept = kept-misses c.args.grammar.now c.requires.sound c.args.prefix.now c.args.sum c.requires.least in
    let small = small-misses c.args.grammar.now c.requires.sound c.args.prefix.now c.args.sum c.requires.least in
    rw kept (tt, record { fits = omega (arith, small) })

pub overflow_sub-agrees : goal.overflow_sub-agrees
overflow_sub-agrees c =
    let kept = kept-misses c.args.grammar.now c.requires.sound c.args.prefix.now c.args.sum c.requires.least in
    let least = least-misses c.args.grammar.now c.requires.sound c.args.prefix.now c.args.sum c.requires.least in
    (rw kept at c.bits-behind.ensures.least) c.args.grammar.now.periods least.small

pub returns : goal.returns
returns c =
    let kept = kept-misses c.args.grammar.now c.requires.sound c.args.prefix.now c.args.sum c.requires.least in
    let least = least-misses c.args.grammar.now c.requires.sound c.args.prefix.now c.args.sum c.requires.least in
    is-longest c.args.grammar.now c.requires.sound c.args.prefix.now c.args.sum c.requires.least least.number c.bits-behind.result c.min.result least.is
    (record { within = rw kept at c.bits-behind.ensures.within; least = rw kept at c.bits-behind.ensures.least }) c.min.ensures
