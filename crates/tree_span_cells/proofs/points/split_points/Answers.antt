use Rattle.std.proofs.Common.{arith, ◌≡◌, ◌+◌, ◌-◌, inl, inr, refl, sym, ap, get_or}
use Rattle.model_rosters.specs.declared.grammar.Sym.TheVariants.{Code}
use Rattle.model_rosters.specs.Grammar.{InDay}
use Rattle.model_rosters.proofs.tree_laws.Rules.{sound-symbol}
use Rattle.model_rosters.proofs.tree_laws.Symbols.{here}
use Rattle.tree_span_cells.proofs.PointsLemmas.{symbol-value, rest-value, no-split}
use Rattle.tree_span_cells.proofs.points.split_points.Goals as goal

pub symbol_ends-ends-requires-clause-exists : goal.symbol_ends-ends-requires-clause-exists
symbol_ends-ends-requires-clause-exists g c =
    let at = ap (λ r. get_or r c.args.suffix.from (Code 0)) (sym c.as_slice.ensures) in
    sound-symbol c.args.grammar.now c.requires.sound c.args.suffix.rule c.args.suffix.from c.args.rule.now _ _ c.requires.rule (here c.args.rule.now.right c.args.suffix.from (Code 0) _ (omega arith) at)

pub returns : goal.returns
returns g c =
    λ p m shorter one less. let gr = c.args.grammar.now in
    let lay = c.args.layout.now in
    let held = g.C.Cells.held c.args.cells.now in
    let fits = c.requires.ready.layout in
    let i = c.args.span.start in
    let l = c.args.span.len in
    let k = c.args.suffix.from in
    let right = c.args.rule.now.right in
    let s = get_or right k (Code 0) in
    let exists = sound-symbol gr c.requires.sound c.args.suffix.rule k c.args.rule.now s _ c.requires.rule (here right k (Code 0) s (omega arith) refl) in
    let day1 : InDay c.args.grammar.now.periods c.args.span.start m = record { begins = omega arith; some = omega arith; within = omega arith } in
    let day2 : InDay c.args.grammar.now.periods (c.args.span.start + m) (c.args.span.len - m) = record { begins = omega arith; some = omega arith; within = omega arith } in
    let right1 = shorter i m day1 less in
    let right2 = shorter (i + m) (l - m) day2 (omega arith) in
    let v = symbol-value gr p i m lay fits held right1 s exists in
    let w = rest-value gr p (i + m) (l - m) lay fits held right2 c.args.suffix.rule (k + 1) c.args.rule.now c.requires.sound c.requires.rule (omega arith) (omega arith) in
    let end : i + m + (l - m) ≡ c.end.result = omega (arith, c.end.ensures) in
    elim (c.symbol_ends-ends.ensures p m right1) [
      | inr none ↦ inr (no-split gr p c.args.suffix.rule k s right i l m _ w.0 one less (rw (← c.as_slice.ensures) none) w.1 (inl refl))
      | inl a ↦ elim (c.rest_starts-starts.ensures p (i + m) (l - m) end right2) [
        | inl b ↦ inl ((c.both.ensures (i + m)).1 (a, b))
        | inr none ↦ inr (no-split gr p c.args.suffix.rule k s right i l m v.0 _ one less v.1 none (inr refl))
      ]
    ]
