use Rattle.std.proofs.Common.{inr, refl, subst}
use Rattle.std.specs.Result.{OnOk}
use Rattle.tree_ranking.specs.declared.candidate.Candidate.{Candidate}
use Rattle.tree_ranking.specs.Candidates.{child_of}
use Rattle.tree_ranking.specs.Progresses.{IsOffered}
use Rattle.tree_ranking.proofs.PlaceLemmas.{smaller_come}
use Rattle.tree_ranking.proofs.branch.offer_child.Goals as goal

pub returns : goal.returns
returns c =
    subst (λ (d : Candidate). OnOk c.offer.result (IsOffered c.args.room d c.args.waiting.now.items c.offer.new.waiting.items)) c.in_ok-sibling.ensures c.offer.ensures

pub returns-then-is_beyond : goal.returns-then-is_beyond
returns-then-is_beyond c =
    let made = child_of c.args.current.now.steps c.args.frame c.args.current.now.pending c.args.child in
    inr (inr (record {
      same = refl;
      before = smaller_come c.args.waiting.now.items made c.requires.waiting.aside.0 c.if-is_beyond.ensures.smaller;
      full = c.if-is_beyond.ensures.full;
    }))
