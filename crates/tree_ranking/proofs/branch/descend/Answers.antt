use Rattle.std.proofs.Common.{List, [], ◌∷◌, subst, sym, ◌∙◌}
use Rattle.tree_ranking.specs.declared.frame.Frame.{Frame}
use Rattle.tree_ranking.specs.Progresses.{IsProgress}
use Rattle.tree_ranking.proofs.AdvanceLemmas.{with_pending}
use Rattle.tree_ranking.proofs.branch.descend.Goals as goal

pub advance-requires-clause-progress : goal.advance-requires-clause-progress
advance-requires-clause-progress g c =
    subst (λ (q : List Frame). IsProgress c.args.grammar.now (g.P.LetterPrice.view c.args.prices.now) c.args.most c.args.given.now (with_pending c.loop-frame.current.sum c.loop-frame.current.steps q ∷ c.loop-frame.waiting.items) []) c.in-Some.ensures c.loop-frame.invariant

pub returns-clause-progress : goal.returns-clause-progress
returns-clause-progress g c =
    subst (λ (q : List Frame). IsProgress c.args.grammar.now (g.P.LetterPrice.view c.args.prices.now) c.args.most c.args.given.now (with_pending c.loop-frame.current.sum c.loop-frame.current.steps q ∷ c.loop-frame.waiting.items) []) (c.in_default.ensures.0 ∙ sym c.in_default.ensures.1) c.loop-frame.invariant
