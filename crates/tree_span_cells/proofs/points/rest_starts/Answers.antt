use Rattle.std.proofs.Common.{arith, ◌≡◌, ◌≤◌, ◌<◌, ◌+◌, inl, inr, length, subst, sym, ap, ◌∙◌, get_or}
use Rattle.std.proofs.lemmas.List.{get_or_read}
use Rattle.model_rosters.specs.declared.grammar.Sym.TheVariants.{Code}
use Rattle.model_rosters.proofs.tree_laws.Rules.{sound-symbol}
use Rattle.model_rosters.proofs.tree_laws.Symbols.{here, rest-last}
use Rattle.tree_span_cells.specs.declared.present.Present.{Present}
use Rattle.tree_span_cells.specs.Cells.{spot_count}
use Rattle.tree_span_cells.specs.Periods.{set_at}
use Rattle.tree_span_cells.proofs.PointsLemmas.{suffix-starts}
use Rattle.tree_span_cells.proofs.points.rest_starts.Goals as goal

pub symbol_starts-requires-clause-exists : goal.symbol_starts-requires-clause-exists
symbol_starts-requires-clause-exists g c =
    let at = ap (λ r. get_or r c.args.suffix.from (Code 0)) (sym c.as_slice-right.ensures) in
    sound-symbol c.args.grammar.now c.requires.sound c.args.suffix.rule c.args.suffix.from c.args.rule.now _ _ c.requires.rule (here c.args.rule.now.right c.args.suffix.from (Code 0) _ c.requires.within at)

pub index-requires : goal.index-requires
index-requires g c =
    let count : length c.present.result.now.starts.items ≡ spot_count c.args.layout.now = subst (λ (p : Present). length p.starts.items ≡ spot_count c.args.layout.now) (sym c.present.ensures) c.requires.ready.made.starts in
    omega (arith, count, c.spot_of-spot.ensures.within)

pub returns-then-from-right : goal.returns-then-from-right
returns-then-from-right g c =
    λ p i m end right. elim (c.symbol_starts.ensures p i m end right) [
      | inl has ↦ inl has
      | inr none ↦ inr (rest-last c.args.grammar.now p i m c.args.suffix.rule c.args.suffix.from c.args.rule.now.right (Code 0) _ _
          c.requires.inner (c.if-from-right.true ∙ ap length c.as_slice-right.ensures) (ap (λ r. get_or r c.args.suffix.from (Code 0)) (sym c.as_slice-right.ensures)) none)
    ]

pub returns-else-from-right : goal.returns-else-from-right
returns-else-from-right g c =
    λ p i m end right. let ne : length c.args.rule.now.right ≡ length c.as_slice-right.result.now = ap length (sym c.as_slice-right.ensures) in
    let two : c.args.suffix.from + 2 ≤ length c.args.rule.now.right = omega arith in
    let count : length c.present.result.now.starts.items ≡ spot_count c.args.layout.now = subst (λ (p : Present). length p.starts.items ≡ spot_count c.args.layout.now) (sym c.present.ensures) c.requires.ready.made.starts in
    let inside : c.spot_of-spot.result < length c.present.result.now.starts.items = omega (arith, count, c.spot_of-spot.ensures.within) in
    let read : c.index.result.now ≡ set_at c.present.result.now.starts.items c.spot_of-spot.result = get_or_read c.present.result.now.starts.items _ _ inside c.index.ensures (record { bits = 0 }) in
    rw (read, c.present.ensures, c.spot_of-spot.ensures.spot, c.slot_of.ensures.slot, ← end)
    (suffix-starts c.args.grammar.now p i m c.args.layout.now c.requires.ready.layout (g.C.Cells.held c.args.cells.now) right c.args.suffix.rule c.args.suffix.from c.args.rule.now c.requires.rule c.requires.inner two)
