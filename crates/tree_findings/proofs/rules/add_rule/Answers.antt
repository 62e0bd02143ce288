use Rattle.std.proofs.Common.{◌≡◌, ◌+◌, ◌⊎◌, List, Some, length, get_or, refl, ap, ◌∙◌}
use Rattle.std.specs.Prelude.{slice_get}
use Rattle.std.proofs.lemmas.Option.{slice_get_read}
use Rattle.std.proofs.lemmas.Result.{on_ok_weaker}
use Rattle.model_rosters.specs.declared.grammar.Rule.{Rule}
use Rattle.tree_findings.specs.declared.finding.Finding.{Finding}
use Rattle.tree_findings.specs.declared.finding.Finding.TheVariants.{BeyondDay, SameRule}
use Rattle.tree_findings.specs.declared.finding.WindowKind.{WindowKind}
use Rattle.tree_findings.specs.declared.finding.WindowKind.TheVariants.{Length, First, Last}
use Rattle.tree_findings.specs.Findings.{IsBeyond, HasBeyond, StandsBefore}
use Rattle.tree_findings.specs.Listed.{Says}
use Rattle.tree_findings.proofs.ListedLemmas.{adds-then, adds-tested, exact-at}
use Rattle.tree_findings.proofs.rules.add_rule.Goals as goal

pub returns : goal.returns
returns c =
    let g = c.args.grammar.now in
    let n = c.args.place in
    let rule = c.index-as_slice-place.result in
    let old = c.args.found.now in
    let at : slice_get g.rules n ≡ Some rule =
    slice_get_read g.rules (length g.rules) n rule refl c.requires.within (c.index-as_slice-place.is ∙ ap (λ (xs : List Rule). get_or xs n rule) c.as_slice.ensures) in
    let s = λ (kind : WindowKind). Says (HasBeyond g n kind) (BeyondDay (n + 1) kind) in
    let one = adds-tested c.is_beyond.result (HasBeyond g n Length) (BeyondDay (n + 1) Length) old c.add_if.new.found
    (exact-at g.rules n rule (λ (r : Rule). IsBeyond g r Length) c.is_beyond.result at c.is_beyond.ensures) c.in_ok-add_if.ensures in
    let two = adds-tested c.is_beyond-2.result (HasBeyond g n First) (BeyondDay (n + 1) First) c.add_if.new.found c.add_if-2.new.found
    (exact-at g.rules n rule (λ (r : Rule). IsBeyond g r First) c.is_beyond-2.result at c.is_beyond-2.ensures) c.in_ok-add_if-2.ensures in
    let three = adds-tested c.is_beyond-3.result (HasBeyond g n Last) (BeyondDay (n + 1) Last) c.add_if-2.new.found c.add_if-3.new.found
    (exact-at g.rules n rule (λ (r : Rule). IsBeyond g r Last) c.is_beyond-3.result at c.is_beyond-3.ensures) c.in_ok-add_if-3.ensures in
    on_ok_weaker c.add_if-4.result
    (λ h. adds-then (λ (f : Finding). (s Length f ⊎ s First f) ⊎ s Last f) (Says (StandsBefore g n) (SameRule (n + 1))) old c.add_if-3.new.found c.add_if-4.new.found
    (adds-then (λ (f : Finding). s Length f ⊎ s First f) (s Last) old c.add_if-2.new.found c.add_if-3.new.found
    (adds-then (s Length) (s First) old c.add_if.new.found c.add_if-2.new.found one two) three)
    (adds-tested c.stands_before.result (StandsBefore g n) (SameRule (n + 1)) c.add_if-3.new.found c.add_if-4.new.found c.stands_before.ensures h))
    c.add_if-4.ensures
