use Rattle.std.proofs.Common.{◌≡◌, ◌++◌, ◌+◌, ◌*◌, ◌-◌, ◌&&◌, ℕ, List, [], ◌∷◌, Bool, true, false, suc, cond, nat_eq, nat_le, map, arith, sym, ap, ◌∙◌, subst}
use Rattle.plan_laws.specs.Named.{Symbol, named}
use Rattle.plan_laws.specs.Names.{Kind}
use Rattle.plan_names.specs.Views.{kind_of}
use Rattle.plan_names.proofs.Items.{copies_more}
use Rattle.plan_names.proofs.symbols.copies.Goals as goal

pub loop-place-preserved : goal.loop-place-preserved
loop-place-preserved c =
    c.in_ok-add_name.ensures ∙ ap (λ (ss : List (Symbol Kind)). ss ++ named (kind_of c.args.name) ∷ []) c.loop-place.invariant
    ∙ sym (copies_more c.loop-place.place (kind_of c.args.name))
