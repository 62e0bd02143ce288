use Rattle.std.proofs.Common.{◌≡◌, ◌<◌, length}
use Rattle.std.proofs.lemmas.List.{get_or_read}
use Rattle.tree_ranking.proofs.PlaceLemmas.{is-least}
use Rattle.tree_ranking.proofs.branch.take_least.Goals as goal

pub returns : goal.returns
returns c =
    let chs = c.args.children.now.items in
    let e : c.as_slice.result.now ≡ c.args.children.now.items = c.as_slice.ensures.value in
    let within : c.least_place-best.result < length c.args.children.now.items = rw e at c.least_place-best.ensures.within in
    is-least chs c.remove.new.self.items c.remove.result c.least_place-best.result within
    (get_or_read chs c.least_place-best.result c.remove.result within c.remove.ensures.value _) c.remove.ensures.items
    (rw e at c.least_place-best.ensures.before) (rw e at c.least_place-best.ensures.after)
