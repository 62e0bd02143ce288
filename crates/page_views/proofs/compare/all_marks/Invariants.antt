use Rattle.std.proofs.Common.{◌≡◌, ℕ, true, map}
use Rattle.page_parts.specs.Elements.{places}
use Rattle.page_views.proofs.compare.all_marks.Given as goal

abbrev pub invariant-loop : goal.invariant-loop
invariant-loop l = l.marks ≡ map (λ (period : ℕ). true) (places l.counter)
