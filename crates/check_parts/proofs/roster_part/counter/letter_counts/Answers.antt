use Rattle.std.proofs.Common.{replicate, refl}
use Rattle.std.proofs.lemmas.Simd.{get_or-replicate}
use Rattle.check_parts.proofs.roster_part.CountersLemmas.{tallied-none, tallied-few}
use Rattle.check_parts.proofs.roster_part.counter.letter_counts.Goals as goal

pub loop-shift-init : goal.loop-shift-init
loop-shift-init c = tallied-none c.args.byte c.args.shifts.now (replicate 96 0) refl (λ k l. get_or-replicate 96 k 0 0 l)

pub add_word-requires : goal.add_word-requires
add_word-requires c = record { room = tallied-few c.args.byte c.args.shifts.now c.loop-shift.counts c.loop-shift.shift-index c.loop-shift.invariant c.requires.few }
