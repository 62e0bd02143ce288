use Rattle.std.proofs.Common.{take}
use Rattle.tree_questions.specs.Fronts.{front_words}
use Rattle.tree_questions.specs.Lines.{AddsLines}
use Rattle.tree_questions.proofs.CodesLemmas.{code_says}
use Rattle.tree_questions.proofs.lines.add_code_lines.Given as goal

abbrev pub invariant-loop-place : goal.invariant-loop-place
invariant-loop-place l =
    AddsLines (code_says l.prices.grammar.now l.prices.any l.prices.pattern.now l.period (front_words l.front)) 0
    (take l.place l.prices.grammar.now.codes) l.initial.out l.out
