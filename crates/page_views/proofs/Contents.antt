-- What a page shows beside an old roster.
use Rattle.std.proofs.Common.{List, Option, Result, Ok, Err, IfOk}
use Rattle.model_rosters.specs.declared.instance.Instance.{Instance}
use Rattle.model_rosters.specs.declared.instance.Shift.{Shift}
use Rattle.model_rosters.specs.declared.memory.Memory.{Memory}
use Rattle.page_labels.specs.declared.labels.Labels.{Labels}
use Rattle.page_text.specs.declared.content.Content.{Content}
use Rattle.page_views.specs.Compared.{IsCompared}
use Rattle.page_views.specs.Draw.{IsContent, IsContentBeside}
use Rattle.page_views.specs.declared.compare.Comparison.{Comparison}
use Rattle.page_views.specs.declared.roster.ShownRoster.{ShownRoster}
use Rattle.page_views.specs.declared.sums.Sums.{Sums}

-- what is shown where a roster differs from an old one is what is shown beside it
pub content_is : (s : Sums) (d : Labels) (i : Instance) (r : ShownRoster) (old : Option (List Shift)) (c : Comparison) (result : Result Content Memory) → IsCompared i.grammar.periods old r.shifts c
    → IfOk result (IsContentBeside s d i r c) → IfOk result (IsContent s d i r old)
content_is s d i r old c (Err e) compared h = tt
content_is s d i r old c (Ok p) compared h = record { comparison = c; compared = compared; beside = h }
