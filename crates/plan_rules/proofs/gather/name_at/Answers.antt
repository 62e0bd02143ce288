use Rattle.std.proofs.Common.{List, ap, get_or, ◌∙◌}
use Rattle.plan_names.specs.declared.names.RuleName.{RuleName}
use Rattle.plan_rules.proofs.TextPlaces.{named_take}
use Rattle.plan_rules.proofs.gather.name_at.Goals as goal

pub returns : goal.returns
returns c =
    let x = c.index-as_slice-place.result in
    named_take c.args.names.now c.args.place x c.requires
    (c.index-as_slice-place.is ∙ ap (λ (xs : List RuleName). get_or xs c.args.place x) c.as_slice.ensures)
