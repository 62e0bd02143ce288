use Rattle.std.proofs.Common.{ℕ, arith, ◌≡◌, ◌<◌, ◌+◌, ◌*◌, length, sym, ap, subst, get_or}
use Rattle.std.proofs.lemmas.Nat.{mul-add-lt}
use Rattle.std.proofs.lemmas.Option.{slice_get-get_or}
use Rattle.model_rosters.specs.Grammar.{InDay}
use Rattle.tree_span_cells.specs.Places.{shorter}
use Rattle.tree_span_cells.specs.declared.slot.Slot.TheVariants.{OfName}
use Rattle.tree_span_cells.specs.Cells.{IsPut, RightBefore, place}
use Rattle.tree_span_cells.proofs.CellsLemmas.{right-set, put-made, ready-made}
use Rattle.tree_span_cells.proofs.fill.fill_span.Goals as goal

pub loop-slot-init : goal.loop-slot-init
loop-slot-init g c = record {
  before = λ s i l what here day less. c.requires.before s i l what here day (omega (arith, less));
  made = λ m n h. h;
}

pub cell_least-sum-requires-clause-ready : goal.cell_least-sum-requires-clause-ready
cell_least-sum-requires-clause-ready g c = ready-made c.args.grammar.now c.args.layout.now (g.C.Cells.held c.args.cells.now) (g.C.Cells.held c.loop-slot.cells) c.requires.ready c.loop-slot.invariant.made

pub cell_least-sum-requires-clause-before : goal.cell_least-sum-requires-clause-before
cell_least-sum-requires-clause-before g c =
    let at : c.args.place * length c.args.layout.now.slots.items + c.loop-slot.slot ≡ place c.args.layout.now c.loop-slot.slot c.args.span.start c.args.span.len =
    ap (λ (q : ℕ). q * length c.args.layout.now.slots.items + c.loop-slot.slot) (sym c.requires.at) in
    subst (λ (q : ℕ). RightBefore c.args.grammar.now (g.P.LetterPrice.view c.args.prices.now) c.args.layout.now (g.C.Cells.held c.loop-slot.cells) q) at c.loop-slot.invariant.before

pub put-requires-clause-made : goal.put-requires-clause-made
put-requires-clause-made g c = c.loop-slot.invariant.made _ _ c.requires.ready.made

pub put-requires-clause-place : goal.put-requires-clause-place
put-requires-clause-place g c =
    let width : c.len-width.result ≡ length c.args.layout.now.slots.items = omega arith in
    let lt : c.loop-slot.slot < length c.args.layout.now.slots.items = omega arith in
    let inside = mul-add-lt c.args.place (length c.args.layout.now.slots.items) c.loop-slot.slot (shorter c.args.layout.now.spans c.args.layout.now.spans) c.requires.place lt in
    rw width (omega (arith, inside))

pub put-requires-clause-sum : goal.put-requires-clause-sum
put-requires-clause-sum g c =
    let lay = c.args.layout.now in
    let lt : c.loop-slot.slot < length c.args.layout.now.slots.items = omega arith in
    let here = slice_get-get_or lay.slots.items c.loop-slot.slot (OfName 0) lt in
    c.requires.fits c.loop-slot.slot c.args.span.start c.args.span.len (get_or lay.slots.items c.loop-slot.slot (OfName 0)) c.cell_least-sum.result here
    (c.cell_least-sum.ensures.least (get_or lay.slots.items c.loop-slot.slot (OfName 0)) here) c.cell_least-sum.ensures.within

pub loop-slot-preserved : goal.loop-slot-preserved
loop-slot-preserved g c =
    let lay = c.args.layout.now in
    let slot = c.loop-slot.slot in
    let n = c.args.place * length c.args.layout.now.slots.items + c.loop-slot.slot in
    let old = g.C.Cells.held c.loop-slot.cells in
    let new = g.C.Cells.held c.put.new.cells in
    let width : c.len-width.result ≡ length c.args.layout.now.slots.items = omega arith in
    let lt : c.loop-slot.slot < length c.args.layout.now.slots.items = omega arith in
    let here = slice_get-get_or lay.slots.items slot (OfName 0) lt in
    let day : InDay c.args.grammar.now.periods c.args.span.start c.args.span.len = rw (← c.requires.ready.layout.periods) c.requires.day in
    let at : c.args.place * length c.args.layout.now.slots.items + c.loop-slot.slot ≡ place c.args.layout.now c.loop-slot.slot c.args.span.start c.args.span.len =
    ap (λ (q : ℕ). q * length c.args.layout.now.slots.items + c.loop-slot.slot) (sym c.requires.at) in
    let inside = mul-add-lt c.args.place (length c.args.layout.now.slots.items) c.loop-slot.slot (shorter c.args.layout.now.spans c.args.layout.now.spans) c.requires.place lt in
    let cells = (c.loop-slot.invariant.made _ _ c.requires.ready.made).cells in
    let room : c.args.place * length c.args.layout.now.slots.items + c.loop-slot.slot < length (g.C.Cells.held c.loop-slot.cells).sums = omega (arith, inside, cells) in
    let put = subst (λ (q : ℕ). IsPut lay q slot c.args.span.start c.args.span.len c.cell_least-sum.result old new)
    (ap (λ (q : ℕ). c.args.place * q + c.loop-slot.slot) width) c.put.ensures in
    record {
      before = λ s i l what h there less.
          right-set c.args.grammar.now (g.P.LetterPrice.view c.args.prices.now) lay c.requires.ready.layout old new slot c.args.span.start c.args.span.len n
          (get_or lay.slots.items slot (OfName 0)) c.cell_least-sum.result here day at room put c.loop-slot.invariant.before
          (c.cell_least-sum.ensures.least (get_or lay.slots.items slot (OfName 0)) here) s i l what h there (omega (arith, less));
      made = λ m k h. put-made lay n slot c.args.span.start c.args.span.len c.cell_least-sum.result old new put m k (c.loop-slot.invariant.made m k h);
    }

pub returns-clause-made : goal.returns-clause-made
returns-clause-made g c = c.loop-slot.invariant.made

pub returns-clause-before : goal.returns-clause-before
returns-clause-before g c =
    λ s i l what here day less. c.loop-slot.invariant.before s i l what here day (omega (arith, less))
