use Rattle.std.proofs.Common.{◌≡◌, ◌≤◌, ◌*◌, ◌^◌, length, drop, take, All, vec_capacity}
use Rattle.std.specs.Prelude.{◌+ℤ◌}
use Rattle.model_rosters.specs.declared.grammar.ArcKey.{ArcKey}
use Rattle.model_rosters.specs.ArcEntries.{AreSorted, AreMarked, IsEntryWithin}
use Rattle.model_rosters.specs.PriceLimits.{AreRising, nonzero}
use Rattle.model_rosters.specs.Reduced.{arc_price, cut_prices}
use Rattle.model_rosters.specs.RoomPrices.{listed_price}
use Rattle.model_rosters.proofs.arc_prices.set_arcs.Given as goal

abbrev pub invariant-loop-m : goal.invariant-loop-m
invariant-loop-m l = record {
  value : (a : ArcKey) → arc_price (cut_prices 1 l.cuts l.mult) a ≡ listed_price l.entries.items a +ℤ arc_price (cut_prices 1 l.cuts (drop l.m-index l.mult)) a;
  sorted : AreSorted l.entries.items;
  marked : AreMarked l.marks.items l.entries.items;
  small : All (IsEntryWithin (2 ^ 80 * nonzero (take l.m-index l.mult))) l.entries.items;
  long : length l.entries.items ≤ l.m-index;
  capacity : vec_capacity l.fn.entries ≤ vec_capacity l.entries;
  rising : AreRising (drop l.m-index l.mult);
}
