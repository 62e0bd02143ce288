use Rattle.std.proofs.Common.{◌≡◌, ◌≢◌, ◌-◌, ◌+◌, ℕ, [], length, get_or, arith, ap, sym, ◌∙◌, true≢false}
use Rattle.model_rosters.specs.declared.grammar.Step.{Step}
use Rattle.law_bounds.specs.DutyTrees.{own_rules}
use Rattle.search_candidates.proofs.Numbers.{plain-number, rule-number, led-number}
use Rattle.search_candidates.proofs.group.group_of.Goals as goal

abbrev no_step : Step
no_step = record { rule = 0; start = 0; len = 0 }

pub returns-then-is_empty : goal.returns-then-is_empty
returns-then-is_empty c = λ t day e. plain-number c.args.instance.now c.requires.sound c.args.uses.now (c.is_empty.ensures.0 c.if-is_empty.true) t day

pub overflow_sub-result : goal.overflow_sub-result
overflow_sub-result c =
    let some : c.args.instance.now.groups ≢ [] = λ none. true≢false (sym (c.is_empty.ensures.1 none) ∙ c.if-is_empty.false) in
    let r = rule-number c.args.instance.now c.requires.sound c.args.uses.now some no_step c.requires.uses.0 c.requires.uses.1 c.requires.uses.2 in
    let f : (get_or c.args.uses.now 0 no_step).rule ≡ own_rules c.args.instance.now + r.0.number = r.2 in
    omega (arith, f, c.len.ensures, c.len-2.ensures)

pub returns : goal.returns
returns c = λ t day e.
    let some : c.args.instance.now.groups ≢ [] = λ none. true≢false (sym (c.is_empty.ensures.1 none) ∙ c.if-is_empty.false) in
    let own : c.len.result - c.len-2.result ≡ own_rules c.args.instance.now = ap (λ (k : ℕ). k - c.len-2.result) c.len.ensures ∙ ap (λ (k : ℕ). length c.args.instance.now.grammar.rules - k) c.len-2.ensures in
    led-number c.args.instance.now c.requires.sound c.args.uses.now some no_step _ t day e (ap (λ (k : ℕ). (get_or c.args.uses.now 0 no_step).rule - k) own)
