use Rattle.std.proofs.Common.{List, ◌≡◌, ◌≤◌, ◌<◌, Some, drop, length, ℕ, suc, sym, subst, ◌∙◌, arith}
use Rattle.std.specs.Prelude.{slice_get}
use Rattle.std.proofs.lemmas.Option.{slice_get_within}
use Rattle.model_rosters.specs.declared.grammar.Sym.{Sym}
use Rattle.model_rosters.specs.declared.grammar.Sym.TheVariants.{Name}
use Rattle.model_rosters.specs.Sums.{PartsLeast}
use Rattle.tree_ranking.specs.Frames.{right_of}
use Rattle.tree_span_cells.proofs.CellsLemmas.{filled-right}
use Rattle.tree_ranking.proofs.FrameLemmas.{symbol-here, symbol-none, right-is, end-least, end-none, empty-none, day-frame, day-symbol}
use Rattle.tree_ranking.proofs.sums.frame_least.Goals as goal

pub returns-then-frame-eq0-clause-least : goal.returns-then-frame-eq0-clause-least
returns-then-frame-eq0-clause-least g c =
    let f = c.args.frame in
    end-least c.args.grammar.now (g.P.LetterPrice.view c.args.prices.now) f.span.start f.span.len f.suffix.rule f.suffix.from (drop f.suffix.from (right_of c.args.grammar.now f.suffix.rule))
    (symbol-none (right_of c.args.grammar.now f.suffix.rule) f.suffix.from (sym c.in_default.ensures)) c.if-frame-eq0.true

pub returns-else-frame-eq0-clause-least : goal.returns-else-frame-eq0-clause-least
returns-else-frame-eq0-clause-least g c =
    let f = c.args.frame in
    end-none c.args.grammar.now (g.P.LetterPrice.view c.args.prices.now) f.span.start f.span.len f.suffix.rule f.suffix.from (drop f.suffix.from (right_of c.args.grammar.now f.suffix.rule))
    (symbol-none (right_of c.args.grammar.now f.suffix.rule) f.suffix.from (sym c.in_default.ensures)) c.if-frame-eq0.false

pub returns-then-frame-eq0-2-clause-least : goal.returns-then-frame-eq0-2-clause-least
returns-then-frame-eq0-2-clause-least g c =
    let f = c.args.frame in
    empty-none c.args.grammar.now (g.P.LetterPrice.view c.args.prices.now) f.span.start f.span.len f.suffix.rule f.suffix.from c.in-Some.symbol (drop f.suffix.from (right_of c.args.grammar.now f.suffix.rule))
    (drop (suc f.suffix.from) (right_of c.args.grammar.now f.suffix.rule)) (symbol-here (right_of c.args.grammar.now f.suffix.rule) f.suffix.from c.in-Some.symbol (sym c.in-Some.ensures)) c.if-frame-eq0-2.true

pub symbol_least-requires-clause-name : goal.symbol_least-requires-clause-name
symbol_least-requires-clause-name g c = λ x e.
    let f = c.args.frame in
    let here : slice_get (right_of c.args.grammar.now 0) f.suffix.from ≡ Some c.in-Some.symbol = subst (λ n. slice_get (right_of c.args.grammar.now n) f.suffix.from ≡ Some c.in-Some.symbol) c.if-frame-eq0-3.true (sym c.in-Some.ensures) in
    let name : Name x ≡ Name c.args.grammar.now.start = sym e ∙ day-symbol c.args.grammar.now f.suffix.from c.in-Some.symbol here in
    let same : x ≡ c.args.grammar.now.start = cc in
    let start : c.args.grammar.now.start < length c.args.grammar.now.names = c.requires.sums.sound.start in
    let low : x < length c.args.grammar.now.names = omega (arith, same, start) in
    let some : 1 ≤ f.span.len = omega (arith, c.if-frame-eq0-2.false) in (
      low,
      (filled-right c.args.grammar.now (g.P.LetterPrice.view c.args.prices.now) c.args.sums.now.layout c.requires.sums.ready.layout c.args.sums.now.cells c.requires.sums.filled f.span.start f.span.len
          (record { begins = c.requires.frame.begins; some = some; within = c.requires.frame.fits })).names x low,
    )

pub returns-then-frame-eq0-3-clause-least : goal.returns-then-frame-eq0-3-clause-least
returns-then-frame-eq0-3-clause-least g c =
    let f = c.args.frame in
    let p = g.P.LetterPrice.view c.args.prices.now in
    let here : slice_get (right_of c.args.grammar.now 0) f.suffix.from ≡ Some c.in-Some.symbol = subst (λ n. slice_get (right_of c.args.grammar.now n) f.suffix.from ≡ Some c.in-Some.symbol) c.if-frame-eq0-3.true (sym c.in-Some.ensures) in
    subst (λ (n : ℕ). PartsLeast c.args.grammar.now (g.P.LetterPrice.view c.args.prices.now) n f.suffix.from (drop f.suffix.from (right_of c.args.grammar.now n)) f.span.start f.span.len c.symbol_least.result) (sym c.if-frame-eq0-3.true)
    (day-frame c.args.grammar.now (g.P.LetterPrice.view c.args.prices.now) f.span.start f.span.len f.suffix.from c.in-Some.symbol c.symbol_least.result (c.requires.frame.inner c.if-frame-eq0-3.true) here c.symbol_least.ensures.least)

pub rest_least-requires-clause-within : goal.rest_least-requires-clause-within
rest_least-requires-clause-within g c =
    let f = c.args.frame in
    let right = right-is c.args.grammar.now f.suffix.rule c.rule_of-rule.result.now c.rule_of-rule.ensures in
    subst (λ (q : List Sym). f.suffix.from < length q) right (slice_get_within (right_of c.args.grammar.now f.suffix.rule) f.suffix.from c.in-Some.symbol (sym c.in-Some.ensures))

pub rest_least-requires-clause-right : goal.rest_least-requires-clause-right
rest_least-requires-clause-right g c =
    let f = c.args.frame in
    let some : 1 ≤ f.span.len = omega (arith, c.if-frame-eq0-2.false) in
    filled-right c.args.grammar.now (g.P.LetterPrice.view c.args.prices.now) c.args.sums.now.layout c.requires.sums.ready.layout c.args.sums.now.cells c.requires.sums.filled f.span.start f.span.len
    (record { begins = c.requires.frame.begins; some = some; within = c.requires.frame.fits })
