-- The last bytes of a page.
use Rattle.std.proofs.Common.{ℕ, List, [], ◌∷◌, ◌++◌, length, refl, sym, ap, ◌∙◌, append_assoc}
use Rattle.std.proofs.lemmas.Grind.{flat_map-append}
use Rattle.std.specs.Prelude.{codes}
use Rattle.model_rosters.specs.declared.grammar.CodeDef.{CodeDef}
use Rattle.page_parts.specs.Elements.{Element, element_text, marks, written}
use Rattle.page_parts.specs.Axes.{axis_of}
use Rattle.page_parts.specs.declared.sheet.PeriodAxis.{PeriodAxis}
use Rattle.page_text.specs.Alike.{EndsWith}
use Rattle.page_text.specs.Inputs.{longest}
use Rattle.page_text.specs.Pages.{body, coverage_part, derivations_part, foot_part, page, shifts_part, top_part}
use Rattle.page_tables.specs.Tables.{page_tables}
use Rattle.page_text.specs.declared.content.Content.{Content}

-- elements before others do not change the end
behind : (end : List ℕ) (es fs : List Element) → EndsWith end (written fs) → EndsWith end (written (es ++ fs))
behind end es fs h = record {
  front = written es ++ h.front;
  whole = flat_map-append element_text es fs ∙ ap (λ (t : List ℕ). written es ++ t) h.whole ∙ sym (append_assoc (written es) h.front end);
}

last : EndsWith (codes "</html>\n") (written (marks (codes "</main>\n</body>\n</html>\n") ∷ []))
unfolding element_text
last = record { front = codes "</main>\n</body>\n"; whole = refl }

body_ends : (s : PeriodAxis) (cs : List CodeDef) (c : Content) → EndsWith (codes "</html>\n") (written (body s cs c))
unfolding body
body_ends s cs c =
    behind (codes "</html>\n") (top_part cs c) _
    (behind (codes "</html>\n") (shifts_part s cs c) _
    (behind (codes "</html>\n") (coverage_part s cs c) _
    (behind (codes "</html>\n") (page_tables c.money c.tables) _
    (behind (codes "</html>\n") (derivations_part c.money c.rows c.derivations) _
    (behind (codes "</html>\n") (foot_part c.stated c.read) _ last)))))

pub page_ends : (periods : ℕ) (cs : List CodeDef) (c : Content) → EndsWith (codes "</html>\n") (written (page periods cs c))
page_ends periods cs c = body_ends (axis_of periods (longest c.rows 0) (length c.money.words)) cs c
