use Rattle.std.proofs.Common.{◌≡◌, ◌++◌, drop}
use Rattle.page_views.specs.Compared.{marks_behind, roster_marks}
use Rattle.page_views.proofs.compare.roster_marks.Given as goal

abbrev pub invariant-loop-shift : goal.invariant-loop-shift
invariant-loop-shift l = record {
  marks : roster_marks l.periods l.old l.matching l.new ≡ l.marks ++ marks_behind l.periods l.old l.matching l.place (drop l.shift-index l.new);
  place : l.place ≡ l.shift-index;
}
