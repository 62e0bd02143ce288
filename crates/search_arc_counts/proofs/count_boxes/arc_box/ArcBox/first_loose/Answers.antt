use Rattle.std.proofs.Common.{rules, Some}
use Rattle.std.specs.Prelude.{MatchOption}
use Rattle.search_arc_counts.specs.count_boxes.Boxes.{IsPinnedBox, IsFirstOpen}
use Rattle.search_arc_counts.proofs.count_boxes.PathsLemmas.{box-loose}
use Rattle.search_arc_counts.proofs.count_boxes.arc_box.ArcBox.first_loose.Goals as goal

pub returns-in_err-place-clause-path : goal.returns-in_err-place-clause-path
returns-in_err-place-clause-path c =
    let told : MatchOption c.from_residual.result (IsPinnedBox c.args.self.now) (IsFirstOpen c.args.self.now) = search rules in
    λ i v cuts graph h. box-loose i v cuts c.args.self.now graph h c.from_residual.result told

pub returns-clause-path : goal.returns-clause-path
returns-clause-path c =
    let told : IsFirstOpen c.args.self.now c.in_ok-place.place = search rules in
    λ i v cuts graph h. box-loose i v cuts c.args.self.now graph h (Some c.in_ok-place.place) told
