use Rattle.std.proofs.Common.{◌≡◌, ◌++◌, ◌+◌, ◌*◌, ◌-◌, ◌&&◌, ℕ, List, [], ◌∷◌, Bool, true, false, suc, cond, nat_eq, nat_le, map, arith, sym, ap, ◌∙◌, subst}
use Rattle.plan_laws.specs.Named.{Symbol, coded}
use Rattle.plan_laws.specs.Names.{Kind}
use Rattle.plan_names.proofs.Items.{dots_more}
use Rattle.plan_names.proofs.symbols.dots.Goals as goal

pub loop-place-preserved : goal.loop-place-preserved
loop-place-preserved c =
    c.in_ok-add_letter.ensures ∙ ap (λ (ss : List (Symbol Kind)). ss ++ coded c.args.plan.now.off ∷ []) c.loop-place.invariant
    ∙ sym (dots_more c.args.plan.now c.loop-place.place)
