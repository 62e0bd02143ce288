use Rattle.std.proofs.Common.{◌≡◌, false, List, length, get_or, eqb, eq-eqb, ap, sym, ◌∙◌, arith}
use Rattle.std.proofs.lemmas.List.Sums.{position_or_len_is}
use Rattle.model_rosters.specs.declared.grammar.CodeDef.{CodeDef}
use Rattle.plan_demand.proofs.needs.code_place.Goals as goal

pub returns-then-def-code : goal.returns-then-def-code
returns-then-def-code c =
    let same : length c.as_slice-codes.result.now ≡ length c.args.grammar.now.codes = ap (λ (ds : List CodeDef). length ds) c.as_slice-codes.ensures in
    sym (position_or_len_is (λ (d : CodeDef). eqb d.byte c.args.code) c.args.grammar.now.codes c.loop-place.place (record { byte = 0; work = false })
    (omega (arith, same)) c.loop-place.invariant (λ _. eq-eqb _ _ (sym (ap (λ (ds : List CodeDef). (get_or ds c.loop-place.place (record { byte = 0; work = false })).byte) c.as_slice-codes.ensures) ∙ c.if-def-code.true)))

pub returns : goal.returns
returns c =
    let same : length c.as_slice-codes.result.now ≡ length c.args.grammar.now.codes = ap (λ (ds : List CodeDef). length ds) c.as_slice-codes.ensures in
    sym (position_or_len_is (λ (d : CodeDef). eqb d.byte c.args.code) c.args.grammar.now.codes _ (record { byte = 0; work = false })
    (omega (arith, same)) (λ k lt. c.loop-place.invariant k (omega (arith, lt, same))) (λ lt. absurd (omega (arith, lt, same))))
