use Rattle.std.proofs.Common.{sym, ◌∙◌}
use Rattle.std.proofs.lemmas.Bool.{false≢true}
use Rattle.check_parts.proofs.priced_part.DerivedNames.{in-vain}
use Rattle.check_parts.proofs.priced_part.UnstaffableTeams.{idle-plain, idle-groups}
use Rattle.check_parts.proofs.priced_part.infeasible.has_unstaffable_team.Goals as goal

pub returns-then-is_empty : goal.returns-then-is_empty
returns-then-is_empty c =
    let i = c.args.instance.now in
    let same = idle-plain i (c.is_empty.ensures.0 c.if-is_empty.true) in
    let vain = in-vain i.grammar c.args.derives.now c.requires.told i.grammar.start i.heads_min c.requires.sound.grammar.start in
    (λ t. same.0 (vain.0 (c.is_unstaffable.ensures.0 t)), λ h. c.is_unstaffable.ensures.1 (vain.1 (same.1 h)))

pub returns-else-is_empty : goal.returns-else-is_empty
returns-else-is_empty c =
    let same = idle-groups c.args.instance.now (λ e. false≢true (sym c.if-is_empty.false ∙ c.is_empty.ensures.1 e)) in
    let found = c.has_unstaffable_group.ensures in
    (λ t. same.0 (found.0 t), λ h. found.1 (same.1 h))
