use Rattle.std.proofs.Common.{rules, pos}
use Rattle.model_rosters.specs.declared.arc_prices.ArcPrice.{ArcPrice}
use Rattle.model_rosters.proofs.Entries.{IsAdded, added-to, put-in}
use Rattle.model_rosters.proofs.arc_prices.add.Goals as goal

abbrev no_entry : ArcPrice
no_entry = record { arc = record { rule = 0; suffix = 0; start = 0; len = 0; part = 0 }; price = pos 0 }

raises : (c : goal.After-raise) → IsAdded c.args.marks.now.items c.mark.new.marks.items c.args.entries.now.items c.raise.new.entries.items c.args.entry
raises c =
    let there = rw c.as_slice-2.ensures.value at (c.has_arc.ensures.there (search rules)) in
    added-to c.args.marks.now.items c.mark.new.marks.items c.args.entries.now.items c.raise.new.entries.items c.place_of-place.result c.args.entry no_entry
    c.requires.sorted c.requires.marked c.mark.ensures.kept there.0 (there.1 no_entry) (c.raise.ensures.items no_entry)

pub returns-then-has_arc-clause-value : goal.returns-then-has_arc-clause-value
returns-then-has_arc-clause-value c = (raises c).value

pub returns-then-has_arc-clause-sorted : goal.returns-then-has_arc-clause-sorted
returns-then-has_arc-clause-sorted c = (raises c).sorted

pub returns-then-has_arc-clause-marked : goal.returns-then-has_arc-clause-marked
returns-then-has_arc-clause-marked c = (raises c).marked

pub returns-then-has_arc-clause-small : goal.returns-then-has_arc-clause-small
returns-then-has_arc-clause-small c = (raises c).small

pub returns-then-has_arc-clause-length : goal.returns-then-has_arc-clause-length
returns-then-has_arc-clause-length c = (raises c).long

puts : (c : goal.After-put) → IsAdded c.args.marks.now.items c.mark.new.marks.items c.args.entries.now.items c.put.new.entries.items c.args.entry
puts c =
    put-in c.args.marks.now.items c.mark.new.marks.items c.args.entries.now.items c.put.new.entries.items c.place_of-place.result c.args.entry no_entry
    c.requires.sorted c.requires.marked c.mark.ensures.kept (rw c.as_slice.ensures.value at c.place_of-place.ensures) c.mark.ensures.here
    (rw c.as_slice-2.ensures.value at (c.has_arc.ensures.other (search rules))) c.put.ensures.items

pub returns-else-has_arc-clause-value : goal.returns-else-has_arc-clause-value
returns-else-has_arc-clause-value c = (puts c).value

pub returns-else-has_arc-clause-sorted : goal.returns-else-has_arc-clause-sorted
returns-else-has_arc-clause-sorted c = (puts c).sorted

pub returns-else-has_arc-clause-marked : goal.returns-else-has_arc-clause-marked
returns-else-has_arc-clause-marked c = (puts c).marked

pub returns-else-has_arc-clause-small : goal.returns-else-has_arc-clause-small
returns-else-has_arc-clause-small c = (puts c).small

pub returns-else-has_arc-clause-length : goal.returns-else-has_arc-clause-length
returns-else-has_arc-clause-length c = (puts c).long
