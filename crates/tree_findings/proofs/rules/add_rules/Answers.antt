use Rattle.std.proofs.Common.{◌≡◌, ℕ, arith, length, subst}
use Rattle.tree_findings.specs.Findings.{OfRule}
use Rattle.tree_findings.specs.Listed.{Adds, OfFirst}
use Rattle.tree_findings.proofs.ListedLemmas.{none-first, first-next}
use Rattle.tree_findings.proofs.rules.add_rules.Goals as goal

pub loop-place-init : goal.loop-place-init
loop-place-init c = none-first (OfRule c.args.grammar.now) c.args.found.now

pub loop-place-preserved : goal.loop-place-preserved
loop-place-preserved c = first-next (OfRule c.args.grammar.now) c.loop-place.place c.args.found.now c.loop-place.found c.add_rule.new.found c.loop-place.invariant c.in_ok-add_rule.ensures

pub returns : goal.returns
returns c =
    let e : c.loop-place.place ≡ length c.args.grammar.now.rules = omega arith in
    subst (λ (n : ℕ). Adds (OfFirst (OfRule c.args.grammar.now) n) c.args.found.now c.loop-place.found) e c.loop-place.invariant
