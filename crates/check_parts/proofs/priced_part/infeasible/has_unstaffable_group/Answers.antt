use Rattle.std.proofs.Common.{◌<◌, get_or, length, refl, sym, arith, ap, ◌∙◌}
use Rattle.std.proofs.lemmas.Bool.{false≢true}
use Rattle.model_rosters.specs.declared.instance.Group.{Group}
use Rattle.check_parts.specs.priced_part.Filled.{NeedsInVain}
use Rattle.check_parts.proofs.priced_part.DerivedNames.{in-vain}
use Rattle.check_parts.proofs.priced_part.ListSearch.{In-get_or, stands-next}
use Rattle.check_parts.proofs.priced_part.infeasible.has_unstaffable_group.Goals as goal

abbrev no_group : Group
no_group = record { name = 0; heads_min = 0; heads_max = 0 }

pub is_unstaffable-requires : goal.is_unstaffable-requires
is_unstaffable-requires c =
    let k = c.loop-group.group-index in
    let groups = c.args.instance.now.groups in
    let there : k < length groups = omega (arith, ap length c.as_slice-group-items.ensures, c.loop-group-test.true) in
    let named = rw (sym c.as_slice-group-items.ensures) at (c.requires.names k no_group there) in
    omega (arith, named, c.requires.told.count)

pub returns-then-is_unstaffable : goal.returns-then-is_unstaffable
returns-then-is_unstaffable c =
    let k = c.loop-group.group-index in
    let groups = c.args.instance.now.groups in
    let there : k < length groups = omega (arith, ap length c.as_slice-group-items.ensures, c.loop-group-test.true) in
    let needs = rw c.as_slice-group-items.ensures at (c.is_unstaffable.ensures.0 c.if-is_unstaffable.true) in
    let x = get_or groups k no_group in (
      λ t. (x, In-get_or groups k no_group there, (in-vain c.args.instance.now.grammar c.args.derives.now c.requires.told x.name x.heads_min (c.requires.names k no_group there)).0 needs),
      λ h. refl,
    )

pub loop-group-preserved : goal.loop-group-preserved
loop-group-preserved c =
    let k = c.loop-group.group-index in
    let groups = c.args.instance.now.groups in
    let there : k < length groups = omega (arith, ap length c.as_slice-group-items.ensures, c.loop-group-test.true) in
    let x = get_or groups k no_group in
    let vain = in-vain c.args.instance.now.grammar c.args.derives.now c.requires.told x.name x.heads_min (c.requires.names k no_group there) in
    let tells = rw c.as_slice-group-items.ensures at c.is_unstaffable.ensures.1 in
    stands-next (λ (y : Group). NeedsInVain c.args.instance.now.grammar y.name y.heads_min) groups k no_group there
    (λ n. false≢true (sym c.if-is_unstaffable.false ∙ tells (vain.1 n))) c.loop-group.invariant
