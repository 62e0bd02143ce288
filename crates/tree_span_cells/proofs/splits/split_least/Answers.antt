use Rattle.std.proofs.Common.{arith, ◌≡◌, ◌≤◌, ◌+◌, ◌-◌, ◌^◌, ◌+ℤ◌, drop, get_or}
use Rattle.std.specs.Prelude.{IfSome}
use Rattle.std.proofs.lemmas.Int.{ints}
use mir.Val.{to_z, of_z}
use mir.Syntax.{w128}
use Rattle.model_rosters.specs.Grammar.{InDay}
use Rattle.model_rosters.specs.Sums.{Within}
use Rattle.model_rosters.specs.declared.grammar.Sym.TheVariants.{Code}
use Rattle.model_rosters.proofs.tree_laws.Bounds.{symbol_within, parts_within}
use Rattle.tree_span_cells.specs.Cells.{cell}
use Rattle.tree_span_cells.proofs.NumbersLemmas.{number-bounds, number-read}
use Rattle.tree_span_cells.proofs.splits.split_least.Goals as goal

pub overflow_add-result : goal.overflow_add-result
overflow_add-result g c =
    let p = g.P.LetterPrice.view c.args.prices.now in
    let most : c.args.span.len - c.args.part ≤ 96 = omega arith in
    let day2 : InDay c.args.grammar.now.periods (c.args.span.start + c.args.part) (c.args.span.len - c.args.part) = record { begins = omega arith; some = omega arith; within = omega arith } in
    let right2 = c.requires.shorter (c.args.span.start + c.args.part) (c.args.span.len - c.args.part) day2 (omega arith) in
    let rest : IfSome (cell c.args.layout.now (g.C.Cells.held c.args.cells.now) c.args.split.tail (c.args.span.start + c.args.part) (c.args.span.len - c.args.part)) (Within (2 ^ 110)) =
    parts_within c.args.grammar.now c.requires.sound p (g.met.P.LetterPrice.all_within c.args.prices.now) c.args.suffix.rule (c.args.suffix.from + 1) (c.args.span.start + c.args.part) (c.args.span.len - c.args.part)
    (drop (c.args.suffix.from + 1) c.args.rule.now.right) _ most (c.requires.tail.least p (c.args.span.start + c.args.part) (c.args.span.len - c.args.part) right2) in
    let two = number-bounds _ rest in
    omega (arith, ints, c.number_at-tail.ensures, two.low, two.high, c.arc_price-arc.ensures.within.low, c.arc_price-arc.ensures.within.high)

pub overflow_add-result-2 : goal.overflow_add-result-2
overflow_add-result-2 g c =
    let p = g.P.LetterPrice.view c.args.prices.now in
    let most : c.args.span.len - c.args.part ≤ 96 = omega arith in
    let long : c.args.part ≤ 96 = omega arith in
    let day1 : InDay c.args.grammar.now.periods c.args.span.start c.args.part = record { begins = omega arith; some = omega arith; within = omega arith } in
    let day2 : InDay c.args.grammar.now.periods (c.args.span.start + c.args.part) (c.args.span.len - c.args.part) = record { begins = omega arith; some = omega arith; within = omega arith } in
    let right1 = c.requires.shorter c.args.span.start c.args.part day1 c.requires.others in
    let right2 = c.requires.shorter (c.args.span.start + c.args.part) (c.args.span.len - c.args.part) day2 (omega arith) in
    let first : IfSome (cell c.args.layout.now (g.C.Cells.held c.args.cells.now) c.args.split.head c.args.span.start c.args.part) (Within (2 ^ 110)) =
    symbol_within c.args.grammar.now c.requires.sound p (g.met.P.LetterPrice.all_within c.args.prices.now) c.args.span.start c.args.part (get_or c.args.rule.now.right c.args.suffix.from (Code 0)) _ long
    (c.requires.head.least p c.args.span.start c.args.part right1) in
    let rest : IfSome (cell c.args.layout.now (g.C.Cells.held c.args.cells.now) c.args.split.tail (c.args.span.start + c.args.part) (c.args.span.len - c.args.part)) (Within (2 ^ 110)) =
    parts_within c.args.grammar.now c.requires.sound p (g.met.P.LetterPrice.all_within c.args.prices.now) c.args.suffix.rule (c.args.suffix.from + 1) (c.args.span.start + c.args.part) (c.args.span.len - c.args.part)
    (drop (c.args.suffix.from + 1) c.args.rule.now.right) _ most (c.requires.tail.least p (c.args.span.start + c.args.part) (c.args.span.len - c.args.part) right2) in
    let one = number-bounds _ first in
    let two = number-bounds _ rest in
    omega (arith, ints, c.number_at-head.ensures, c.number_at-tail.ensures, one.low, one.high, two.low, two.high, c.arc_price-arc.ensures.within.low, c.arc_price-arc.ensures.within.high)

pub returns : goal.returns
returns g c =
    let p = g.P.LetterPrice.view c.args.prices.now in
    let most : c.args.span.len - c.args.part ≤ 96 = omega arith in
    let long : c.args.part ≤ 96 = omega arith in
    let day1 : InDay c.args.grammar.now.periods c.args.span.start c.args.part = record { begins = omega arith; some = omega arith; within = omega arith } in
    let day2 : InDay c.args.grammar.now.periods (c.args.span.start + c.args.part) (c.args.span.len - c.args.part) = record { begins = omega arith; some = omega arith; within = omega arith } in
    let right1 = c.requires.shorter c.args.span.start c.args.part day1 c.requires.others in
    let right2 = c.requires.shorter (c.args.span.start + c.args.part) (c.args.span.len - c.args.part) day2 (omega arith) in
    let head = c.requires.head.least p c.args.span.start c.args.part right1 in
    let tail = c.requires.tail.least p (c.args.span.start + c.args.part) (c.args.span.len - c.args.part) right2 in
    let first = symbol_within c.args.grammar.now c.requires.sound p (g.met.P.LetterPrice.all_within c.args.prices.now) c.args.span.start c.args.part (get_or c.args.rule.now.right c.args.suffix.from (Code 0)) _ long head in
    let rest = parts_within c.args.grammar.now c.requires.sound p (g.met.P.LetterPrice.all_within c.args.prices.now) c.args.suffix.rule (c.args.suffix.from + 1) (c.args.span.start + c.args.part) (c.args.span.len - c.args.part)
    (drop (c.args.suffix.from + 1) c.args.rule.now.right) _ most tail in
    let one = number-bounds _ first in
    let two = number-bounds _ rest in
    let is : to_z w128 (of_z w128 (to_z w128 (of_z w128 c.number_at-head.result) +ℤ to_z w128 (of_z w128 (to_z w128 (of_z w128 c.arc_price-arc.result) +ℤ to_z w128 (of_z w128 c.number_at-tail.result))))) ≡ c.number_at-head.result +ℤ (c.arc_price-arc.result +ℤ c.number_at-tail.result) =
    omega (arith, ints, c.number_at-head.ensures, c.number_at-tail.ensures, one.low, one.high, two.low, two.high, c.arc_price-arc.ensures.within.low, c.arc_price-arc.ensures.within.high) in
    record {
      head = cell c.args.layout.now (g.C.Cells.held c.args.cells.now) c.args.split.head c.args.span.start c.args.part;
      tail = cell c.args.layout.now (g.C.Cells.held c.args.cells.now) c.args.split.tail (c.args.span.start + c.args.part) (c.args.span.len - c.args.part);
      low = c.requires.some;
      high = c.requires.others;
      first = head;
      rest = tail;
      sum = number-read _ c.number_at-head.result c.arc_price-arc.result c.number_at-tail.result _ _ _ c.number_at-head.ensures c.number_at-tail.ensures c.arc_price-arc.ensures.value
          is first c.arc_price-arc.ensures.within rest;
    }
