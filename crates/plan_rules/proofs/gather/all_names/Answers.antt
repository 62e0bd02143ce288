use Rattle.std.proofs.Common.{length, map, arith, sym, ◌∙◌}
use Rattle.std.proofs.lemmas.Bool.{leb-false, leb-true}
use Rattle.std.proofs.lemmas.List.{length-map}
use Rattle.plan_names.specs.Views.{kind_of}
use Rattle.plan_rules.proofs.Closing.{closed_end, closed_step}
use Rattle.plan_rules.proofs.gather.all_names.Goals as goal

pub returns-then-is_past-clause-closed : goal.returns-then-is_past-clause-closed
returns-then-is_past-clause-closed c =
    let past = leb-true (length c.loop-place.names) c.loop-place.place (sym c.is_past.ensures ∙ c.if-is_past.true) in
    closed_end c.args.plan.now c.args.staff.now (map kind_of c.loop-place.names) c.loop-place.place
    (omega (arith, past, length-map c.loop-place.names kind_of)) c.loop-place.invariant.closed c.loop-place.invariant.needed

pub loop-place-preserved : goal.loop-place-preserved
loop-place-preserved c =
    let before = leb-false (length c.loop-place.names) c.loop-place.place (sym c.is_past.ensures ∙ c.if-is_past.false) in
    let s = closed_step c.args.plan.now c.args.staff.now (map kind_of c.loop-place.names) (map kind_of c.add_needed.new.names) c.loop-place.place
    (kind_of c.name_at.result) (omega (arith, before, length-map c.loop-place.names kind_of)) c.name_at.ensures c.loop-place.invariant.closed
    c.loop-place.invariant.needed
    c.in_ok-add_needed.ensures.is in
    record {
      closed = s.0;
      needed = s.1;
      within = omega (arith, s.2, length-map c.add_needed.new.names kind_of);
    }
