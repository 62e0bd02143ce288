use Rattle.std.proofs.Common.{◌≡◌, ◌+◌, ◌-◌, [], take, drop, length}
use Rattle.text_rules.specs.RuleLine.{symbol_at}
use Rattle.text_rules.specs.Steps.{each}
use Rattle.text_rules.proofs.rule.symbols.Given as goal

abbrev pub invariant-loop : goal.invariant-loop
invariant-loop l = (each (symbol_at l.line l.codes) (l.fn.names, []) (take l.count l.fn.words) ≡ each (symbol_at l.line l.codes) (l.names, l.right) (take (l.count - l.counter) l.words))
    × (drop l.count l.fn.words ≡ drop (l.count - l.counter) l.words) × (length l.fn.words ≡ l.counter + length l.words)
