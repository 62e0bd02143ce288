use Rattle.std.proofs.Common.{take}
use Rattle.tree_questions.specs.Fitting.{SaysPeriod}
use Rattle.tree_questions.specs.Lines.{AddsLines}
use Rattle.tree_questions.proofs.fits.add_period_lines.Given as goal

abbrev pub invariant-loop-place : goal.invariant-loop-place
invariant-loop-place l =
    AddsLines (SaysPeriod l.prices.grammar.now l.prices.pattern.now) 1 (take l.place l.prices.pattern.now) l.initial.out l.out
