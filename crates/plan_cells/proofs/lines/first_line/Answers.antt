use Rattle.std.proofs.Common.{ℕ, ◌<◌, length, sym, arith}
use Rattle.std.proofs.lemmas.Bool.{eqb-false}
use Rattle.std.proofs.lemmas.List.{length-drop, take_all}
use Rattle.text_lines.proofs.LineCuts.{a_line, last_line}
use Rattle.plan_cells.proofs.lines.first_line.Goals as goal

pub returns-then-end-text-clause-first : goal.returns-then-end-text-clause-first
returns-then-end-text-clause-first c = a_line c.args.text.now _ _ c.byte_at-end.result c.byte_at-end.ensures.place c.if-end-text.true c.without_return.ensures (take_all _ _ (omega (arith, length-drop {A = ℕ})))

pub returns-else-end-text-clause-first : goal.returns-else-end-text-clause-first
returns-else-end-text-clause-first c =
    let some : 0 < length c.args.text.now = omega (arith, eqb-false _ _ (sym c.if-is_empty.ensures)) in
    last_line c.args.text.now _ c.byte_at-end.result c.byte_at-end.ensures.place c.if-end-text.false some (take_all _ _ (omega (arith, length-drop {A = ℕ})))
