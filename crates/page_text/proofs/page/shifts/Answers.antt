use Rattle.std.proofs.lemmas.Result.{on_ok_weaker}
use Rattle.std.proofs.Common.{List, [], ◌∷◌}
use Rattle.std.specs.Prelude.{codes}
use Rattle.page_parts.specs.Elements.{Element, marks}
use Rattle.page_text.specs.Pages.{shifts}
use Rattle.page_text.proofs.Chain.{eight}
use Rattle.page_text.proofs.page.shifts.Goals as goal

abbrev first : List Element
first = marks (codes "<section><h2>Shifts</h2>\n<ul class='legend'>") ∷ []

abbrev second : List Element
second = marks (codes "</ul>\n<div class='scroll'><svg class='roster' role='group' aria-label='Shifts of the roster, one row a shift") ∷ []

abbrev third : List Element
third = marks (codes "</svg></div>\n<p class='hint'>Point at a shift, or go to it with the Tab key, and see how the rules derive it.</p></section>\n") ∷ []

pub returns : goal.returns
unfolding shifts
returns c =
    on_ok_weaker c.marks-3.result (λ e. eight first _ second _ _ _ _ third c.args.out.now c.marks.new.out c.legend.new.out c.marks-2.new.out c.size.new.out c.price_head.new.out c.ticks.new.out c.rows.new.out c.marks-3.new.out
    c.in_ok-marks.ensures (rw c.as_slice.ensures at c.in_ok-legend.ensures) (rw c.roster_start.ensures at c.in_ok-marks-2.ensures)
    (rw (c.chart_width.ensures, c.height_of.ensures, c.as_slice-shown.ensures) at c.in_ok-size.ensures) c.in_ok-price_head.ensures
    (rw c.as_slice-2.ensures at c.in_ok-ticks.ensures) (rw c.as_slice-shown.ensures at c.in_ok-rows.ensures) (rw c.roster_end.ensures at e)) c.marks-3.ensures
