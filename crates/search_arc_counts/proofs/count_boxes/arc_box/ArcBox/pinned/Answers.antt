use Rattle.std.proofs.Common.{rules}
use Rattle.std.specs.Prelude.{◌↔◌, IsTrue}
use Rattle.search_arc_counts.specs.count_boxes.Boxes.{IsPinnedBox}
use Rattle.search_arc_counts.proofs.count_boxes.PathsLemmas.{box-pinned}
use Rattle.search_arc_counts.proofs.count_boxes.arc_box.ArcBox.pinned.Goals as goal

pub returns-clause-path : goal.returns-clause-path
returns-clause-path c =
    λ i v cuts graph h.
    let bounds : IsTrue c.all.result ↔ IsPinnedBox c.args.self.now = search rules in
    let path = box-pinned i v cuts c.args.self.now graph h in
    (λ yes. path.0 (bounds.0 yes), λ tight. bounds.1 (path.1 tight))
