use Rattle.std.proofs.Common.{◌≡◌, map, take}
use Rattle.page_csv.proofs.row.views.Given as goal

abbrev pub invariant-loop-field : goal.invariant-loop-field
invariant-loop-field l = map (λ f. f.now) l.slices ≡ take l.field-index l.fields
