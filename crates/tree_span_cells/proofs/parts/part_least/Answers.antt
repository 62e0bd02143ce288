use Rattle.std.proofs.Common.{arith, ◌≡◌, ap, ◌∙◌, ◌+◌, ◌-◌, get_or, not, inl, inr}
use Rattle.std.proofs.lemmas.Int.{ints}
use mir.Val.{to_z, of_z}
use mir.Syntax.{w128}
use Rattle.std.specs.Prelude.{Some}
use Rattle.model_rosters.specs.Grammar.{InDay}
use Rattle.model_rosters.specs.Sums.{plus}
use Rattle.model_rosters.specs.declared.grammar.Sym.TheVariants.{Name, Code}
use Rattle.model_rosters.proofs.tree_laws.Rules.{sound-symbol}
use Rattle.model_rosters.proofs.tree_laws.Symbols.{here}
use Rattle.tree_span_cells.proofs.ChoicesLemmas.{no-sum}
use Rattle.tree_span_cells.proofs.PointsLemmas.{rest-value}
use Rattle.tree_span_cells.proofs.parts.part_least.Goals as goal

pub symbol_least-head-requires-clause-name : goal.symbol_least-head-requires-clause-name
symbol_least-head-requires-clause-name g c =
    λ x e. let e2 : get_or c.args.rule.now.right c.args.suffix.from (Code 0) ≡ Name x = rw c.as_slice.ensures at e in
    let lt = sound-symbol c.args.grammar.now c.requires.sound c.args.suffix.rule c.args.suffix.from c.args.rule.now (Name x) _ c.requires.rule (here c.args.rule.now.right c.args.suffix.from (Code 0) (Name x) (omega arith) e2) in
    let day : InDay c.args.grammar.now.periods c.args.span.start c.args.part = record { begins = omega arith; some = omega arith; within = omega arith } in
    (lt, (c.requires.shorter c.args.span.start c.args.part day (omega arith)).names x lt)

pub returns-then-is_none : goal.returns-then-is_none
returns-then-is_none g c =
    let gr = c.args.grammar.now in
    let i = c.args.span.start + c.args.part in
    let l = c.args.span.len - c.args.part in
    let day : InDay c.args.grammar.now.periods (c.args.span.start + c.args.part) (c.args.span.len - c.args.part) = record { begins = omega arith; some = omega arith; within = omega arith } in
    let w = rest-value gr (g.P.LetterPrice.view c.args.prices.now) i l c.args.layout.now c.requires.ready.layout (g.C.Cells.held c.args.cells.now) (c.requires.shorter i l day (omega arith))
    c.args.suffix.rule (c.args.suffix.from + 1) c.args.rule.now c.requires.sound c.requires.rule (omega arith) (omega arith) in
    record {
      head = c.symbol_least-head.result;
      tail = w.0;
      low = c.requires.some;
      high = c.requires.others;
      first = rw (← c.as_slice.ensures) c.symbol_least-head.ensures.least;
      rest = w.1;
      sum = no-sum c.symbol_least-head.result w.0 _ (inl (c.is_none.ensures ∙ ap not c.if-is_none.true));
    }

pub returns-then-is_none-2 : goal.returns-then-is_none-2
returns-then-is_none-2 g c = record {
  head = c.symbol_least-head.result;
  tail = c.rest_least-tail.result;
  low = c.requires.some;
  high = c.requires.others;
  first = rw (← c.as_slice.ensures) c.symbol_least-head.ensures.least;
  rest = c.rest_least-tail.ensures.least;
  sum = no-sum c.symbol_least-head.result c.rest_least-tail.result _ (inr (c.is_none-2.ensures ∙ ap not c.if-is_none-2.true));
}

pub returns : goal.returns
returns g c =
    let same : to_z w128 (of_z w128 c.arc-arc.result) ≡ c.arc-arc.result = omega (arith, ints) in
    record {
      head = c.symbol_least-head.result;
      tail = c.rest_least-tail.result;
      low = c.requires.some;
      high = c.requires.others;
      first = rw (← c.as_slice.ensures) c.symbol_least-head.ensures.least;
      rest = c.rest_least-tail.ensures.least;
      sum = c.add_part.ensures ∙ ap (λ q. plus c.symbol_least-head.result (plus (Some q) c.rest_least-tail.result)) (same ∙ c.arc-arc.ensures.value);
    }
