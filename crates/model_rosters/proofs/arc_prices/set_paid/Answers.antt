use Rattle.std.proofs.Common.{arith, ◌+◌, ◌*◌, ◌^◌, get_or, pos, ◌≡◌}
use Rattle.std.proofs.lemmas.Int.{ints}
use Rattle.model_rosters.specs.declared.instance.Cut.{Cut}
use Rattle.model_rosters.specs.declared.instance.Side.TheVariants.{Low}
use Rattle.model_rosters.proofs.Entries.{entries-wider}
use Rattle.model_rosters.proofs.Mults.{paid-step, paid-all}
use Rattle.model_rosters.proofs.arc_prices.set_paid.Goals as goal
use mir.Syntax.{w128}
use mir.Val.{to_z, of_z}

abbrev no_cut : Cut
no_cut = record { arc = record { rule = 0; suffix = 0; start = 0; len = 0; part = 0 }; side = Low; b = 0 }

pub add-requires-clause-small : goal.add-requires-clause-small
add-requires-clause-small c =
    entries-wider (2 ^ 80 * c.loop-place.place) (2 ^ 96) c.loop-place.entries.items (omega (arith, c.loop-place-test.true, c.requires.few)) c.loop-place.invariant.small

pub loop-place-preserved : goal.loop-place-preserved
loop-place-preserved c =
    let k = c.loop-place.place in
    let i = c.loop-place.invariant in
    let x = get_or c.args.prices.now k (pos 0) in
    let w = c.requires.within k (pos 0) (omega (arith, c.requires.prices, c.loop-place-test.true)) in
    let same : to_z w128 (of_z w128 x) ≡ x = omega (arith, ints, w.low, w.high) in
    record {
      value = paid-step c.args.cuts.now c.args.prices.now k no_cut (pos 0) c.loop-place-test.true c.requires.prices c.loop-place.entries.items _ c.paid_entry.result
          (rw same at c.paid_entry.ensures.value) c.add.ensures.value i.value;
      sorted = c.add.ensures.sorted;
      marked = c.add.ensures.marked;
      small = entries-wider (2 ^ 80 * k + 2 ^ 80) (2 ^ 80 * (k + 1)) _ (omega arith) (c.add.ensures.small (2 ^ 80 * k) (2 ^ 80) i.small c.paid_entry.ensures.small);
      long = omega (arith, i.long, c.add.ensures.length);
      capacity = omega (arith, c.add.ensures.capacity, i.capacity);
    }

pub returns-clause-value : goal.returns-clause-value
returns-clause-value c = paid-all c.args.cuts.now c.args.prices.now c.loop-place.place c.loop-place.entries.items (omega arith) c.loop-place.invariant.value

pub returns-clause-small : goal.returns-clause-small
returns-clause-small c =
    entries-wider (2 ^ 80 * c.loop-place.place) (2 ^ 96) c.loop-place.entries.items (omega (arith, c.loop-place-test.false, c.requires.few)) c.loop-place.invariant.small
