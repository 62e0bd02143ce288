use Rattle.std.proofs.Common.{◌≡◌, ◌≤◌, ◌*◌, ◌^◌, length, drop, All, vec_capacity}
use Rattle.std.specs.Prelude.{◌+ℤ◌}
use Rattle.model_rosters.specs.declared.grammar.ArcKey.{ArcKey}
use Rattle.model_rosters.specs.ArcEntries.{AreSorted, AreMarked, IsEntryWithin}
use Rattle.model_rosters.specs.Reduced.{arc_price, cuts_paid}
use Rattle.model_rosters.specs.RoomPrices.{listed_price}
use Rattle.model_rosters.proofs.arc_prices.set_paid.Given as goal

abbrev pub invariant-loop-place : goal.invariant-loop-place
invariant-loop-place l = record {
  value : (a : ArcKey) → arc_price (cuts_paid l.cuts l.prices) a ≡ listed_price l.entries.items a +ℤ arc_price (cuts_paid (drop l.place l.cuts) (drop l.place l.prices)) a;
  sorted : AreSorted l.entries.items;
  marked : AreMarked l.marks.items l.entries.items;
  small : All (IsEntryWithin (2 ^ 80 * l.place)) l.entries.items;
  long : length l.entries.items ≤ l.place;
  capacity : vec_capacity l.fn.entries ≤ vec_capacity l.entries;
}
