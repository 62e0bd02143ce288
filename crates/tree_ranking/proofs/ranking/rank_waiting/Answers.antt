use Rattle.std.proofs.Common.{◌≡◌, List, [], ◌∷◌, arith, subst}
use Rattle.std.proofs.lemmas.List.{nil_from_length}
use Rattle.std.proofs.lemmas.Int.{ints}
use mir.Val.{to_z, of_z}
use mir.Syntax.{w128}
use Rattle.tree_ranking.specs.declared.candidate.Candidate.{Candidate}
use Rattle.tree_ranking.specs.declared.ranking.Ranked.{Ranked}
use Rattle.tree_ranking.specs.Progresses.{IsProgress}
use Rattle.tree_ranking.proofs.AdvanceLemmas.{small-sum}
use Rattle.tree_ranking.proofs.ProgressLemmas.{is-given, is-ranking}
use Rattle.tree_ranking.proofs.ranking.rank_waiting.Goals as goal

pub descend-requires-clause-progress : goal.descend-requires-clause-progress
descend-requires-clause-progress g c =
    rw c.as_slice.ensures
    (subst (λ (cs : List Candidate). IsProgress c.args.grammar.now (g.P.LetterPrice.view c.args.prices.now) c.args.most c.loop-current.given cs []) c.in-Some.ensures.items c.loop-current.invariant)

pub loop-current-preserved : goal.loop-current-preserved
loop-current-preserved g c =
    let p = g.P.LetterPrice.view c.args.prices.now in
    let now = subst (λ (rs : List Ranked). IsProgress c.args.grammar.now (g.P.LetterPrice.view c.args.prices.now) c.args.most rs (c.descend.new.current ∷ c.descend.new.waiting.items) []) c.as_slice.ensures c.in_ok-descend.ensures.progress in
    let small = small-sum c.args.grammar.now p c.descend.new.current c.requires.sums.sound (g.met.P.LetterPrice.all_within c.args.prices.now) now.kept.0.is in
    let same : to_z w128 (of_z w128 c.descend.new.current.sum) ≡ c.descend.new.current.sum = omega (arith, ints, small) in
    let pushed = rw same at c.in_ok-push.ensures.ok in
    rw pushed (is-given c.args.grammar.now p c.args.most c.loop-current.given c.descend.new.current c.descend.new.waiting.items c.in_ok-descend.ensures.whole now)

pub returns : goal.returns
returns g c =
    let none : c.loop-current.waiting.items ≡ [] = nil_from_length c.loop-current.waiting.items (omega (arith, c.in_default.ensures.cases.0)) in
    is-ranking c.args.grammar.now (g.P.LetterPrice.view c.args.prices.now) c.args.most c.loop-current.given
    (subst (λ (cs : List Candidate). IsProgress c.args.grammar.now (g.P.LetterPrice.view c.args.prices.now) c.args.most c.loop-current.given cs []) none c.loop-current.invariant)
