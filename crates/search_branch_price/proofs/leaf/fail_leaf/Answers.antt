use Rattle.std.proofs.Common.{ℕ, ◌<◌, sym, subst}
use Rattle.std.proofs.lemmas.Result.{on_ok_weaker}
use Rattle.search_branch_price.proofs.StepsLemmas.{asks-failed, turned-by, same-best, middle-split, loose-within}
use Rattle.search_branch_price.proofs.leaf.fail_leaf.Goals as goal

pub fail-requires : goal.fail-requires
fail-requires c =
    let r = c.requires.leaf in
    let n = c.args.node.now in
    let i = n.searched.day.instance.now in
    let v = n.searched.day.graph.now in
    let splits = middle-split i v n.cuts.now n.arc_box.now n.loose c.low.result c.high.result c.midpoint-b.result c.arc_at.result c.requires.node.searched.is.day.graph c.requires.node.left c.requires.node.loose
    c.arc_at.ensures c.low.ensures c.high.ensures c.midpoint-b.ensures in
    (r.4, asks-failed i v r.0 r.1 r.2 r.4 r.3 c.args.progress.now c.args.leaf n.cuts.now c.arc_at.result c.midpoint-b.result r.5 r.6 splits)

pub returns : goal.returns
returns c =
    let n = c.args.node.now in
    let i = n.searched.day.instance.now in
    let v = n.searched.day.graph.now in
    let old = c.args.progress.now in
    let splits = middle-split i v n.cuts.now n.arc_box.now n.loose c.low.result c.high.result c.midpoint-b.result c.arc_at.result c.requires.node.searched.is.day.graph c.requires.node.left c.requires.node.loose
    c.arc_at.ensures c.low.ensures c.high.ensures c.midpoint-b.ensures in
    record {
      turned = on_ok_weaker c.fail.result
          (λ done strict before now low later asked given.
          turned-by i v strict before now later low old c.args.leaf n.cuts.now old.best c.fail.new.self asked
          (same-best i v strict before now low old c.args.leaf n.cuts.now asked)
          (done later (asks-failed i v strict before now later low old c.args.leaf n.cuts.now c.arc_at.result c.midpoint-b.result asked given splits)))
          c.fail.ensures;
    }

pub low-requires : goal.low-requires
low-requires c =
    let n = c.args.node.now in
    let is = c.requires.node in
    let lt = loose-within n.searched.day.instance.now n.searched.day.graph.now n.cuts.now n.arc_box.now is.left n.loose is.loose in
    subst (λ (m : ℕ). n.loose < m) (sym is.left.made.arcs) lt

pub high-requires : goal.high-requires
high-requires c =
    let n = c.args.node.now in
    let is = c.requires.node in
    let lt = loose-within n.searched.day.instance.now n.searched.day.graph.now n.cuts.now n.arc_box.now is.left n.loose is.loose in
    subst (λ (m : ℕ). n.loose < m) (sym is.left.made.arcs) lt
