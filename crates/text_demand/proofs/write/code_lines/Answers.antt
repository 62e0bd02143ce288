use Rattle.std.proofs.lemmas.Result.{on_ok_weaker}
use Rattle.text_demand.proofs.OneCode.{has_first, lines_joined}
use Rattle.text_demand.proofs.write.code_lines.Goals as goal

pub bounds-cells-0 : goal.bounds-cells-0
bounds-cells-0 c = (has_first c.args.grammar.now c.args.cells.now c.requires.sound.some_period c.requires.one).some

pub bounds-as_slice-first : goal.bounds-as_slice-first
bounds-as_slice-first c = rw c.as_slice.ensures (has_first c.args.grammar.now c.args.cells.now c.requires.sound.some_period c.requires.one).code

pub returns : goal.returns
returns c =
    on_ok_weaker c.bound_line-2.result (λ e. lines_joined c.args.grammar.now.codes c.args.cells.now c.args.out.now c.need_line.new.out c.bound_line.new.out c.bound_line-2.new.out
    (has_first c.args.grammar.now c.args.cells.now c.requires.sound.some_period c.requires.one).some
    (rw c.as_slice.ensures at c.in_ok-need_line.ensures) (rw c.as_slice.ensures at c.in_ok-bound_line.ensures) (rw c.as_slice.ensures at e)) c.bound_line-2.ensures
