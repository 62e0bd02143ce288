use Rattle.std.proofs.Common.{◌≡◌, ◌+◌, ◌-◌, drop, suc, sym, ap, ◌∙◌, arith}
use Rattle.std.specs.Prelude.{slice_get}
use Rattle.std.proofs.lemmas.Int.{ints}
use mir.Val.{to_z, of_z}
use mir.Syntax.{w128}
use Rattle.tree_ranking.specs.declared.frame.Frame.{Frame}
use Rattle.tree_ranking.specs.Frames.{right_of}
use Rattle.tree_ranking.proofs.FrameLemmas.{symbol-here, symbol-none, none-of, some-of, no-arc, own-arc, only-arc}
use Rattle.tree_ranking.proofs.sums.part_price.Goals.{else-frame-gt0-via-then-frame-gt0+else-is_none, else-frame-gt0-via-else-frame-gt0}
use Rattle.tree_ranking.proofs.sums.part_price.Goals as goal

pub returns-then-is_none-clause-value : goal.returns-then-is_none-clause-value
returns-then-is_none-clause-value g c = λ t h.
    let f = c.args.frame in
    let right = right_of c.args.grammar.now f.suffix.rule in
    let at = c.symbol.ensures ∙ ap (λ (q : Frame). slice_get (right_of c.args.grammar.now q.suffix.rule) q.suffix.from) c.after-next.ensures in
    let none = symbol-none right (suc f.suffix.from) (sym at ∙ none-of c.symbol.result c.if-is_none.ensures) in
    no-arc c.args.grammar.now (g.P.LetterPrice.view c.args.prices.now) f.suffix.rule f.suffix.from f.span.start c.args.part (f.span.start + c.args.part) (f.span.len - c.args.part) (drop (suc f.suffix.from) right) t c.if-frame-gt0.true none h

pub returns-clause-value : goal.returns-clause-value
returns-clause-value g c = λ t h.
    let f = c.args.frame in
    let p = g.P.LetterPrice.view c.args.prices.now in
    let right = right_of c.args.grammar.now f.suffix.rule in
    let same : to_z w128 (of_z w128 c.arc.result) ≡ c.arc.result = omega (arith, ints) in
    let fits : c.args.part + (f.span.len - c.args.part) ≡ f.span.len = omega (arith, c.requires.fits) in
    elim c.else-frame-gt0.branch [
      | else-frame-gt0-via-then-frame-gt0+else-is_none w ↦
          (let at = w.symbol.ensures ∙ ap (λ (q : Frame). slice_get (right_of c.args.grammar.now q.suffix.rule) q.suffix.from) c.after-next.ensures in
          let some = some-of w.symbol.result w.if-is_none.ensures in
          let here = symbol-here right (suc f.suffix.from) some.0 (sym at ∙ some.1) in
          own-arc c.args.grammar.now p f.suffix.rule f.suffix.from f.span.start c.args.part (f.span.start + c.args.part) (f.span.len - c.args.part) f.span.len some.0 (drop (suc f.suffix.from) right) (drop (suc (suc f.suffix.from)) right) t fits here h
          ∙ sym c.arc.ensures.value ∙ sym same)
      | else-frame-gt0-via-else-frame-gt0 w ↦
          (only-arc p f.suffix.rule f.suffix.from f.span.start c.args.part (f.span.len - c.args.part) f.span.len t (omega (arith, w.if-frame-gt0.false)) fits h.1
          ∙ sym c.arc.ensures.value ∙ sym same)
    ]
