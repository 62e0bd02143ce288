use Rattle.std.proofs.Common.{arith, ◌≡◌, Some, get_or, ap, sym, ◌∙◌, true≢false}
use Rattle.std.specs.Prelude.{slice_get}
use Rattle.std.proofs.lemmas.Option.{same_Some, slice_get_within, slice_get-get_or, get_or_from_slice_get}
use Rattle.model_rosters.specs.declared.grammar.ArcKey.{ArcKey}
use Rattle.tree_graph.proofs.InOrderLemmas.{searched-end, arc_eq, same-arc, own-arc}
use Rattle.tree_graph.proofs.search.search.Goals as goal

pub returns-then-low-places-clause-none : goal.returns-then-low-places-clause-none
returns-then-low-places-clause-none c = λ there.
    let e = searched-end c.args.arcs.now c.args.places.now c.args.arc.now c.requires c.loop-low.low c.loop-low.high c.loop-low.invariant c.loop-low-test.false there in
    absurd (omega (arith, slice_get_within c.args.places.now c.loop-low.low e.0 e.1, c.if-low-places.true))

pub bounds-arcs-place : goal.bounds-arcs-place
bounds-arcs-place c =
    let i = c.loop-low.invariant in
    c.requires.each c.loop-low.low _ (slice_get-get_or c.args.places.now c.loop-low.low 0 (omega (arith, i.order, i.within, c.if-low-places.false)))

pub returns-then-eq-clause-found : goal.returns-then-eq-clause-found
returns-then-eq-clause-found c =
    let i = c.loop-low.invariant in
    let d : ArcKey = record { rule = 0; suffix = 0; start = 0; len = 0; part = 0 } in
    let q = get_or c.args.places.now c.loop-low.low 0 in
    let at = slice_get-get_or c.args.places.now c.loop-low.low 0 (omega (arith, i.order, i.within, c.if-low-places.false)) in
    let inside = c.requires.each c.loop-low.low q at in
    let same = same-arc (get_or c.args.arcs.now q d) c.args.arc.now (sym c.eq.ensures ∙ c.if-eq.true) in
    slice_get-get_or c.args.arcs.now q d inside ∙ ap Some same

pub returns-clause-none : goal.returns-clause-none
returns-clause-none c = λ there.
    let i = c.loop-low.invariant in
    let d : ArcKey = record { rule = 0; suffix = 0; start = 0; len = 0; part = 0 } in
    let q = get_or c.args.places.now c.loop-low.low 0 in
    let at = slice_get-get_or c.args.places.now c.loop-low.low 0 (omega (arith, i.order, i.within, c.if-low-places.false)) in
    let e = searched-end c.args.arcs.now c.args.places.now c.args.arc.now c.requires c.loop-low.low c.loop-low.high i c.loop-low-test.false there in
    let same = same_Some e.0 q (sym e.1 ∙ at) in
    let here : slice_get c.args.arcs.now q ≡ Some c.args.arc.now = sym (ap (slice_get c.args.arcs.now) same) ∙ e.2 in
    let own = get_or_from_slice_get c.args.arcs.now q c.args.arc.now d here in
    true≢false (sym (c.eq.ensures ∙ ap (λ (x : ArcKey). arc_eq x c.args.arc.now) own ∙ own-arc c.args.arc.now) ∙ c.if-eq.false)
