use Rattle.std.proofs.Common.{◌≡◌, ℕ, ◌<◌, false, get_or, eqb}
use Rattle.plan_demand.proofs.needs.code_place.Given as goal

abbrev pub invariant-loop-place : goal.invariant-loop-place
invariant-loop-place l =
    (k : ℕ) → k < l.place → eqb (get_or l.grammar.codes k (record { byte = 0; work = false })).byte l.code ≡ false
