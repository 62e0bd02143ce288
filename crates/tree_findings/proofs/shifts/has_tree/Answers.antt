use Rattle.tree_findings.proofs.UsedLemmas.{tree-named, named-tree}
use Rattle.tree_findings.proofs.shifts.has_tree.Goals as goal

pub returns : goal.returns
returns c =
    let e = c.day_uses_name.ensures in
    let day = c.args.shifts.now.day.now in
    (λ h. named-tree day day.start (e.0 h), λ h. e.1 (tree-named day h))
