use Rattle.std.proofs.Common.{◌≡◌, ◌<◌, ◌+◌, ◌-◌, ap, sym, subst, ◌∙◌, arith, List, [], ◌∷◌, ◌++◌, length, length-append}
use Rattle.model_rosters.specs.declared.instance.Cut.{Cut}
use Rattle.check_certificates.specs.declared.growing_laws.seat.Seat.{Seat}
use Rattle.check_certificates.specs.growing_laws.Seats.{seat_at}
use Rattle.search_arc_counts.specs.node_path.Steps.{IsClimbing}
use Rattle.search_arc_counts.proofs.node_path.ClimbLemmas.{same-seat, climb-begun, inside, climb-left, climb-more, climb-done}
use Rattle.search_arc_counts.proofs.node_path.climb.climb.Goals as goal

pub loop-number-init : goal.loop-number-init
loop-number-init c i t path is = climb-begun i c.args.seats.now c.args.number t path is c.args.cuts.now.items

pub bounds-seats-number : goal.bounds-seats-number
bounds-seats-number c =
    let r = c.requires in
    inside r.0 c.args.seats.now c.args.number r.1.0 r.1.1 r.1.2 c.loop-number.number c.args.cuts.now.items c.loop-number.cuts.items (c.loop-number.invariant r.0 r.1.0 r.1.1 r.1.2)

pub loop-number-smaller : goal.loop-number-smaller
loop-number-smaller c =
    let r = c.requires in
    let left = climb-left r.0 c.args.seats.now c.args.number r.1.0 r.1.1 r.1.2 c.loop-number.number c.args.cuts.now.items c.loop-number.cuts.items (c.loop-number.invariant r.0 r.1.0 r.1.1 r.1.2) in
    let more = ap length c.in_ok-push.ensures.items ∙ length-append c.loop-number.cuts.items (c.index-seats-number.result.cut ∷ []) in
    let less : length c.args.cuts.now.items + length c.args.seats.now - length c.push.new.self.items < length c.args.cuts.now.items + length c.args.seats.now - length c.loop-number.cuts.items = omega (arith, left, more) in
    less

pub loop-number-preserved : goal.loop-number-preserved
loop-number-preserved c i t path is =
    let h = c.loop-number.invariant i t path is in
    let k = c.loop-number.number in
    let old = c.args.cuts.now.items in
    let within = inside i c.args.seats.now c.args.number t path is k old c.loop-number.cuts.items h in
    let same : c.index-seats-number.result ≡ seat_at c.args.seats.now k = same-seat c.args.seats.now k c.index-seats-number.result within c.index-seats-number.is in
    let more = climb-more i c.args.seats.now c.args.number t path is k old c.loop-number.cuts.items h c.loop-number-test.true in
    subst (λ (xs : List Cut). IsClimbing i t path c.index-seats-number.result.parent old xs) (sym c.in_ok-push.ensures.items)
    (subst (λ (s : Seat). IsClimbing i t path s.parent old (c.loop-number.cuts.items ++ s.cut ∷ [])) (sym same) more)

pub returns : goal.returns
returns c i t path is =
    climb-done i c.args.seats.now c.args.number t path is c.loop-number.number c.args.cuts.now.items c.loop-number.cuts.items (c.loop-number.invariant i t path is) c.loop-number-test.false
