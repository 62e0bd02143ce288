use Rattle.std.proofs.Common.{◌≡◌, ◌<◌, ◌-◌, ◌<ℤ◌, suc, arith, length, refl, subst, get_or}
use Rattle.std.specs.VecDeque.{deque_len}
use Rattle.tree_ranking.specs.declared.candidate.Candidate.{Candidate}
use Rattle.tree_ranking.proofs.PlaceLemmas.{all_smaller, on_true}
use Rattle.tree_ranking.proofs.progress.is_beyond.Goals as goal

pub returns-in-Some-clause-smaller : goal.returns-in-Some-clause-smaller
returns-in-Some-clause-smaller c =
    let items = c.args.waiting.now.items in
    let last = c.in-Some.last.now in
    let z = c.args.child.now.sum in
    let n = deque_len c.args.waiting.now - 1 in
    let some : 0 < length items = omega (arith, c.in-Some.ensures.variant.0 refl) in
    let size : length items ≡ suc n = omega (arith, some) in
    let at : last ≡ get_or items n last = c.in-Some.ensures.lookup in
    on_true c.is_below.result (λ (s : last.sum <ℤ z). all_smaller items n last z size c.requires.ordered (subst (λ (d : Candidate). d.sum <ℤ z) at s)) c.is_below.ensures
