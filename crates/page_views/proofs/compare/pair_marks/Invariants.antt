use Rattle.std.proofs.Common.{◌≡◌, map}
use Rattle.page_parts.specs.Elements.{places}
use Rattle.page_views.specs.Compared.{differs_in}
use Rattle.page_views.proofs.compare.pair_marks.Given as goal

abbrev pub invariant-loop-period : goal.invariant-loop-period
invariant-loop-period l = l.marks ≡ map (differs_in l.before l.after) (places l.period)
