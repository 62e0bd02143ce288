use Rattle.model_rosters.proofs.ExtensionLemmas.{grouped, parts}
use Rattle.model_rosters.proofs.groups.is_grouped.Goals as goal

pub returns : goal.returns
returns c = (
  λ yes. grouped c.args.instance.now c.requires.sound c.requires.some (c.has_group_parts.ensures.0 yes),
  λ h. c.has_group_parts.ensures.1 (parts c.args.instance.now h.0 h.1),
)
