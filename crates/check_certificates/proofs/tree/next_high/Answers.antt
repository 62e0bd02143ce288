use Rattle.std.proofs.Common.{arith, ◌≡◌, ◌-◌, ◌<◌, ℕ, true, Some, suc, subst, ◌∙◌, length, set}
use Rattle.check_certificates.specs.Forests.{due_high, due}
use Rattle.check_certificates.proofs.Forests.{turned}
use Rattle.check_certificates.proofs.tree.next_high.Goals as goal

-- the split before the place
before : (n : ℕ) → 0 < n → suc (n - 1) ≡ n
before n l = omega (arith, l)

pub returns-then-not-halves-open-clause-due : goal.returns-then-not-halves-open-clause-due
returns-then-not-halves-open-clause-due c = λ cuts.
    let n = c.loop-open.open in
    let s = before n (omega (arith, c.loop-open-test.true)) in
    let within : n - 1 < length c.loop-open.halves = omega (arith, c.loop-open.invariant.few, c.requires, c.loop-open.auto.halves, c.loop-open-test.true) in
    let t = turned cuts c.loop-open.halves (n - 1) within c.if-not-halves-open.true in
    subst (λ (m : ℕ). due cuts (set c.loop-open.halves (n - 1) true) (Some m) ≡ due_high cuts c.loop-open.halves m) s t ∙ c.loop-open.invariant.due cuts
