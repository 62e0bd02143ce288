use Rattle.std.proofs.Common.{◌≡◌, ◌<◌, List, get_or, length, sym, subst}
use Rattle.std.proofs.lemmas.List.{get_or_read}
use Rattle.model_rosters.specs.declared.instance.Group.{Group}
use Rattle.search_days.proofs.day_curve.StaffGroups.{group-write}
use Rattle.search_days.proofs.day_curve.staff.with_group.Goals as goal

none : Group
none = record { name = 0; heads_min = 0; heads_max = 0 }

pub returns-clause-is : goal.returns-clause-is
returns-clause-is c =
    let same = c.into_vec-groups.ensures in
    let within = subst (λ (xs : List Group). c.args.place < length xs) (sym same) c.requires in
    let read : c.index-group.result.now ≡ get_or c.into_vec-groups.result.items c.args.place none = get_or_read c.into_vec-groups.result.items _ _ within c.index-group.ensures none in
    let here = subst (λ (xs : List Group). c.index-group.result.now ≡ get_or xs c.args.place none) same read in
    rw (c.from_vec.ensures, c.into_vec-groups.ensures) (group-write c.args.place c.args.most c.args.groups c.index-group.result.now none here c.requires)
