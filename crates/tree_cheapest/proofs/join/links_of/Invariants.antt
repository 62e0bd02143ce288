use Rattle.std.proofs.Common.{◌≤◌, ◌*◌, length}
use Rattle.tree_cheapest.specs.Links.{AreLinks}
use Rattle.tree_cheapest.proofs.join.links_of.Given as goal

abbrev pub invariant-loop-arc : goal.invariant-loop-arc
invariant-loop-arc l = record {
  few : length l.letters.list ≤ 2 * l.arc;
  links : AreLinks l.graph l.letters.list l.links l.arc;
}
