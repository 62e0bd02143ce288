use Rattle.std.proofs.Common.{arith, ℕ, ◌≡◌, ◌<◌, ◌+◌, inl, inr, refl, length, subst, sym, get_or}
use Rattle.std.proofs.lemmas.List.{get_or_read}
use Rattle.model_rosters.specs.declared.grammar.Sym.{Sym}
use Rattle.model_rosters.specs.Sound.{Exists}
use Rattle.tree_span_cells.specs.declared.present.Present.{Present}
use Rattle.tree_span_cells.specs.Cells.{spot_count, name_slot}
use Rattle.tree_span_cells.specs.Periods.{Has, set_at}
use Rattle.tree_span_cells.proofs.PointsLemmas.{code-end, name-ends}
use Rattle.tree_span_cells.proofs.Slots.{name_slot-within}
use Rattle.tree_span_cells.proofs.points.symbol_ends.Goals as goal

pub index-requires : goal.index-requires
index-requires g c =
    let lt = subst (λ (s : Sym). Exists (length c.args.grammar.now.codes) (length c.args.grammar.now.names) s) c.in-Name.is c.requires.exists in
    omega (arith, lt, c.requires.ready.layout.all_names)

pub spot_of-spot-requires-clause-slot : goal.spot_of-spot-requires-clause-slot
spot_of-spot-requires-clause-slot g c =
    let lt = subst (λ (s : Sym). Exists (length c.args.grammar.now.codes) (length c.args.grammar.now.names) s) c.in-Name.is c.requires.exists in
    let within : c.in-Name.name < length c.args.layout.now.names.items = omega (arith, lt, c.requires.ready.layout.all_names) in
    let slot : c.index.result.now ≡ get_or c.args.layout.now.names.items c.in-Name.name 0 = get_or_read c.args.layout.now.names.items _ _ within c.index.ensures 0 in
    rw slot (name_slot-within c.args.grammar.now c.args.layout.now c.requires.ready.layout c.in-Name.name lt)

pub index-requires-in-Name : goal.index-requires-in-Name
index-requires-in-Name g c =
    let count : length c.present.result.now.ends.items ≡ spot_count c.args.layout.now = subst (λ (p : Present). length p.ends.items ≡ spot_count c.args.layout.now) (sym c.present.ensures) c.requires.ready.made.ends in
    omega (arith, count, c.spot_of-spot.ensures.within)

pub returns-in-Code : goal.returns-in-Code
returns-in-Code g c =
    λ p m right. elim (code-end c.args.grammar.now p c.args.start m c.in-Code.field-0 (c.args.start + 1) refl) [
      | inl e ↦ inl (subst (λ (n : ℕ). Has c.with.result n) (sym e) c.with.ensures.added)
      | inr none ↦ inr (rw c.in-Code.is none)
    ]

pub returns-in-Name : goal.returns-in-Name
returns-in-Name g c =
    λ p m right. let lt = subst (λ (s : Sym). Exists (length c.args.grammar.now.codes) (length c.args.grammar.now.names) s) c.in-Name.is c.requires.exists in
    let within : c.in-Name.name < length c.args.layout.now.names.items = omega (arith, lt, c.requires.ready.layout.all_names) in
    let slot : c.index.result.now ≡ name_slot c.args.layout.now c.in-Name.name = get_or_read c.args.layout.now.names.items _ _ within c.index.ensures 0 in
    let count : length c.present.result.now.ends.items ≡ spot_count c.args.layout.now = subst (λ (p : Present). length p.ends.items ≡ spot_count c.args.layout.now) (sym c.present.ensures) c.requires.ready.made.ends in
    let inside : c.spot_of-spot.result < length c.present.result.now.ends.items = omega (arith, count, c.spot_of-spot.ensures.within) in
    let read : c.index-in-Name.result.now ≡ set_at c.present.result.now.ends.items c.spot_of-spot.result = get_or_read c.present.result.now.ends.items _ _ inside c.index-in-Name.ensures (record { bits = 0 }) in
    rw (c.in-Name.is, read, c.present.ensures, c.spot_of-spot.ensures.spot, slot)
    (name-ends c.args.grammar.now p c.args.start m c.args.layout.now c.requires.ready.layout (g.C.Cells.held c.args.cells.now) right c.in-Name.name lt)
