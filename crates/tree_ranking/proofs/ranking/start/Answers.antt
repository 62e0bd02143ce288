use Rattle.std.proofs.Common.{ℤ, ◌≡◌, List, [], ◌∷◌, arith, sym, ap, subst, ◌∙◌}
use Rattle.std.proofs.lemmas.Int.{ints}
use mir.Val.{to_z, of_z}
use mir.Syntax.{w128}
use Rattle.tree_ranking.specs.declared.candidate.Candidate.{Candidate}
use Rattle.tree_ranking.specs.Progresses.{IsProgress}
use Rattle.tree_ranking.proofs.StartLemmas.{all_trees, begins}
use Rattle.tree_ranking.proofs.ranking.start.Goals as goal

pub returns : goal.returns
returns g c =
    let same : to_z w128 (of_z w128 c.in-Some.sum) ≡ c.in-Some.sum = omega (arith, ints, c.in-Some.ensures.within) in
    let e : c.in_ok-waiting.waiting.items ≡ all_trees c.args.grammar.now.periods c.in-Some.sum ∷ [] =
    c.in_ok-waiting.ensures ∙ ap (λ (q : Candidate). q ∷ []) (c.in_ok-all.ensures ∙ ap (λ (z : ℤ). all_trees c.args.grammar.now.periods z) same) in
    subst (λ (cs : List Candidate). IsProgress c.args.grammar.now (g.P.LetterPrice.view c.args.prices.now) c.args.most [] cs []) (sym e)
    (begins c.args.grammar.now (g.P.LetterPrice.view c.args.prices.now) c.requires.sums.sound c.in-Some.sum c.in-Some.ensures.least c.args.most c.requires.some)
