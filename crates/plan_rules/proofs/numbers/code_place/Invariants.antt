use Rattle.std.proofs.Common.{◌≡◌, ◌+◌, drop}
use Rattle.plan_rules.specs.Grammars.{code_place}
use Rattle.plan_rules.proofs.numbers.code_place.Given as goal

abbrev pub invariant-loop-code : goal.invariant-loop-code
invariant-loop-code l = record {
  number : l.number ≡ l.code-index;
  rest : code_place l.letter l.codes ≡ l.number + code_place l.letter (drop l.code-index l.codes);
}
