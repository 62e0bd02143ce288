use Rattle.std.proofs.Common.{arith, sym, ◌∙◌, pos}
use Rattle.model_rosters.specs.declared.arc_prices.ArcPrice.{ArcPrice}
use Rattle.model_rosters.proofs.Entries.{searched-up, searched-down}
use Rattle.model_rosters.proofs.arc_prices.place_of.Goals as goal

abbrev no_entry : ArcPrice
no_entry = record { arc = record { rule = 0; suffix = 0; start = 0; len = 0; part = 0 }; price = pos 0 }

pub loop-low-preserved-then-is_before : goal.loop-low-preserved-then-is_before
loop-low-preserved-then-is_before c =
    searched-up c.args.entries.now c.args.arc.now c.requires c.loop-low.low c.loop-low.high _ no_entry c.loop-low.invariant (omega (arith, c.loop-low-test.true)) (omega (arith, c.loop-low-test.true))
    (sym c.is_before.ensures ∙ c.if-is_before.true)

pub loop-low-preserved : goal.loop-low-preserved
loop-low-preserved c =
    searched-down c.args.entries.now c.args.arc.now c.requires c.loop-low.low c.loop-low.high _ no_entry c.loop-low.invariant (omega (arith, c.loop-low-test.true)) (omega (arith, c.loop-low-test.true))
    (sym c.is_before.ensures ∙ c.if-is_before.false)
