use Rattle.std.proofs.Common.{arith, rules, refl}
use Rattle.std.proofs.lemmas.List.{same_lists}
use Rattle.tree_findings.proofs.SameLemmas.{same-next}
use Rattle.tree_findings.proofs.same.is_same_right.Goals as goal

pub loop-place-preserved : goal.loop-place-preserved
loop-place-preserved c =
    same-next c.args.right.now c.args.other.now c.loop-place.place c.loop-place.invariant c.loop-place-test.true (omega arith) (c.is_same_symbol.ensures.0 (search rules))

pub returns : goal.returns
returns c = (λ _. same_lists c.args.right.now c.args.other.now (omega arith) (λ k d l. c.loop-place.invariant k d (omega arith)), λ _. refl)
