use Rattle.std.proofs.Common.{◌≡◌, ℕ, List, [], length, get_or, ap, sym, ◌∙◌, arith}
use Rattle.std.specs.Str.{bytes_eq}
use Rattle.std.proofs.lemmas.List.{get_or_default}
use Rattle.std.proofs.lemmas.List.Sums.{position_or_len_is}
use Rattle.plan_demand.proofs.teams.name_place.Goals as goal

pub returns-then-eq-clause-place : goal.returns-then-eq-clause-place
returns-then-eq-clause-place c =
    let same : length c.as_slice-names.result.now ≡ length c.args.grammar.now.names = ap (λ (ds : List (List ℕ)). length ds) c.as_slice-names.ensures in
    sym (position_or_len_is (bytes_eq c.args.name.now) c.args.grammar.now.names c.loop-place.place []
    (omega (arith, same)) c.loop-place.invariant (λ _. ap (λ (ds : List (List ℕ)). bytes_eq c.args.name.now (get_or ds c.loop-place.place [])) (sym c.as_slice-names.ensures)
    ∙ ap (bytes_eq c.args.name.now)
    (get_or_default c.as_slice-names.result.now c.loop-place.place [] c.index-names-place.result c.loop-place-test.true ∙ sym c.index-names-place.is ∙ sym c.as_slice.ensures)
    ∙ sym c.if-eq.ensures))

pub returns-clause-place : goal.returns-clause-place
returns-clause-place c =
    let same : length c.as_slice-names.result.now ≡ length c.args.grammar.now.names = ap (λ (ds : List (List ℕ)). length ds) c.as_slice-names.ensures in
    sym (position_or_len_is (bytes_eq c.args.name.now) c.args.grammar.now.names _ []
    (omega (arith, same)) (λ k lt. c.loop-place.invariant k (omega (arith, lt, same))) (λ lt. absurd (omega (arith, lt, same))))
