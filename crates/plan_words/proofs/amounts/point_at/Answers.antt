use Rattle.std.proofs.Common.{ℕ, eqb, sym, arith, eq-eqb}
use Rattle.std.proofs.lemmas.List.Sums.{position_or_len_is}
use Rattle.plan_words.proofs.amounts.point_at.Goals as goal

pub returns-then-byte-eq46-clause-place : goal.returns-then-byte-eq46-clause-place
returns-then-byte-eq46-clause-place c = sym (position_or_len_is (λ (b : ℕ). eqb b 46) c.args.word.now c.loop-i.i 0 (omega arith) c.loop-i.invariant (λ _. eq-eqb _ _ c.if-byte-eq46.true))

pub returns-clause-place : goal.returns-clause-place
returns-clause-place c = sym (position_or_len_is (λ (b : ℕ). eqb b 46) c.args.word.now _ 0 (omega arith) (λ k lt. c.loop-i.invariant k (omega arith)) (λ lt. absurd (omega arith)))
