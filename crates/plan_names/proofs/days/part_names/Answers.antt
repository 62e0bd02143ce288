use Rattle.std.proofs.Common.{◌≡◌, ◌++◌, ◌+◌, ◌*◌, ◌-◌, ◌&&◌, ℕ, List, [], ◌∷◌, Bool, true, false, suc, cond, nat_eq, nat_le, map, arith, sym, ap, ◌∙◌, subst}
use Rattle.plan_laws.proofs.ItemByItem.{step_from_none}
use Rattle.plan_laws.specs.Named.{Symbol, named}
use Rattle.plan_laws.specs.Names.{Kind, symbols_of}
use Rattle.plan_names.specs.Views.{symbol_of}
use Rattle.plan_names.proofs.Items.{symbols_one}
use Rattle.plan_names.proofs.days.part_names.Goals as goal

pub loop-part-preserved : goal.loop-part-preserved
loop-part-preserved c =
    step_from_none (symbols_of c.args.plus c.args.range) (symbols_one c.args.plus c.args.range) c.args.parts.now c.loop-part.part-index c.part-item.result
    (map symbol_of c.loop-part.right) (map symbol_of c.add_name.new.right) c.loop-part-test.true c.part-item.is c.loop-part.invariant
    (c.in_ok-add_name.ensures ∙ ap (λ (k : Kind). map symbol_of c.loop-part.right ++ named k ∷ []) c.part_name.ensures)
