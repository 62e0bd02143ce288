-- A forecast that is read has steps of some minutes and small numbers.
use Rattle.std.proofs.Common.{◌≡◌, ℕ, zero, suc, ◌*◌, ◌≤◌, Bool, true, false, cond, List, [], ◌∷◌, ◌++◌, length, drop, get_or, Option, None, Some, Result, Ok, Err, refl, sym, ap, subst, ◌∙◌, arith, eqb, ltb}
use Rattle.std.specs.Prelude.{IfSome, position}
use Rattle.model_rosters.specs.Folds.{Each}
use Rattle.model_rosters.proofs.EachLemmas.{Each-push}
use Rattle.plan_meaning.specs.declared.forecast.Column.{Column}
use Rattle.plan_meaning.specs.declared.forecast.Forecast.{Forecast}
use Rattle.plan_meaning.specs.declared.plan.Need.{Need}
use Rattle.plan_meaning.specs.declared.plan.Plan.{Plan}
use Rattle.plan_meaning.specs.declared.plan.PlanDay.{PlanDay}
use Rattle.plan_meaning.specs.Times.{behind_begin, day_length, shown_behind, shown_next}
use Rattle.plan_words.specs.declared.fault.WordFault.{WordFault}
use Rattle.plan_words.specs.declared.fault.WordFault.TheVariants as word
use Rattle.plan_words.specs.Numbers.{number_at}
use Rattle.plan_cells.specs.Lines.{NumberedLine, text_lines}
use Rattle.text_lines.proofs.FieldsLemmas.{number_within}
use Rattle.text_lines.proofs.ListLemmas.{same_number}
use Rattle.text_lines.proofs.StepsLemmas.{bind_ok, each_keeps, held, passed, same_ok}
use Rattle.plan_forecast.specs.declared.fault.ForecastFault.{ForecastFault}
use Rattle.plan_forecast.specs.declared.fault.ForecastFault.TheVariants.{NoLine, TooLong}
use Rattle.plan_forecast.specs.declared.table.Asked.{Asked}
use Rattle.plan_forecast.specs.declared.table.Kind.{Kind}
use Rattle.plan_forecast.specs.declared.table.Kind.TheVariants as kind
use Rattle.plan_forecast.specs.declared.table.Table.{Table}
use Rattle.plan_forecast.specs.Columns.{above, column_at, column_of, columns_at, forecast_at, numbers_of, or_none, said, step_of, whole_step}
use Rattle.plan_forecast.specs.ForecastOf.{cells_at, finish, first_line_at, forecast_of, line_at, line_cells, line_of_cells, no_table, separator_at, table_of}
use Rattle.plan_forecast.specs.Headings.{asks, first_cell, headings_at}
use Rattle.plan_forecast.specs.Rows.{asked_at, cell_at, empty_at, empty_cells, minute_at, number_or, numbers_at, row_at, step_at, with_row}
use Rattle.plan_forecast.specs.Sound.{AreSmall, IsSmallColumn, IsSmallForecast}
use Rattle.plan_forecast.specs.Steps.{◌>>=◌, unless}

-- ---- a row

number_small : (k : ℕ) (cell : List ℕ) (n : ℕ) → number_or k cell (number_at 0 64 cell) ≡ Ok n → n ≤ 64
number_small k cell n e = by (number_at 0 64 cell) refl e
  where
    by : (r : Result ℕ WordFault) → number_at 0 64 cell ≡ r → number_or k cell r ≡ Ok n → n ≤ 64
    by (Ok m) q f =
        let same : m ≡ n = same_ok {E = ForecastFault} m n f in
        let within = number_within word.NoNumber (word.Outside 0 64) 0 64 m cell q in
        omega (arith, within.1)
    by (Err d) q f = absurd cc

cell_small : (k minute : ℕ) (h : Option Asked) (cell : List ℕ) (n : ℕ) → cell_at k minute h cell ≡ Ok n → n ≤ 64
unfolding cell_at empty_at asked_at
cell_small k minute None cell n e =
    let a = held (eqb (length cell) 0) _ _ _ e in
    let same : 0 ≡ n = same_ok {E = ForecastFault} 0 n a.1 in
    omega arith
cell_small k minute (Some a) cell n e = number_small k cell n ((passed (eqb (length cell) 0) _ _ _ e).1)

no_more : (k : ℕ) (ns : List ℕ) (cs : List (List ℕ)) (out : List ℕ) → empty_cells k ns cs ≡ Ok out → ns ≡ out
no_more k ns [] out e = same_ok {E = ForecastFault} ns out e
no_more k ns (c ∷ cs) out e = no_more k ns cs out ((bind_ok (empty_at k c) (λ (n : ℕ). empty_cells k ns cs) out e).2)

numbers_small : (k minute : ℕ) (hs : List (Option Asked)) (cs : List (List ℕ)) (ns out : List ℕ) → AreSmall ns → numbers_at k minute ns hs cs ≡ Ok out → AreSmall out
numbers_small k minute [] cs ns out small e = subst AreSmall (no_more k ns cs out e) small
numbers_small k minute (h ∷ hs) cs ns out small e =
    let b = bind_ok (cell_at k minute h (first_cell cs)) (λ (n : ℕ). numbers_at k minute (ns ++ n ∷ []) hs (drop 1 cs)) out e in
    numbers_small k minute hs (drop 1 cs) (ns ++ b.0 ∷ []) out
    (Each-push (λ (n : ℕ). n ≤ 64) ns b.0 small (cell_small k minute h (first_cell cs) b.0 b.1)) b.2

-- ---- the table

abbrev IsSmallTable : Table → Type 0
IsSmallTable t = Each AreSmall t.rows

row_small : (d : PlanDay) (k : ℕ) (t out : Table) (cells : List (List ℕ)) → IsSmallTable t → row_at d k t cells ≡ Ok out → IsSmallTable out
unfolding row_at
row_small d k t out cells small e =
    let a = bind_ok (minute_at k (first_cell cells)) _ out e in
    let b = bind_ok (step_at d k t (first_cell cells) (shown_behind d a.0)) _ out a.2 in
    let c = bind_ok (numbers_at k a.0 [] t.headings (drop 1 cells)) _ out b.2 in
    let same : with_row k t b.0 c.0 ≡ out = same_ok {E = ForecastFault} (with_row k t b.0 c.0) out c.2 in
    subst IsSmallTable same (Each-push AreSmall t.rows c.0 small (numbers_small k a.0 t.headings (drop 1 cells) [] c.0 tt c.1))

first_small : (k : ℕ) (p : Plan) (t out : Table) (separator : ℕ) (cells : List (List ℕ)) → IsSmallTable t → first_line_at k p t separator cells ≡ Ok out → IsSmallTable out
unfolding first_line_at
first_small k p t out separator cells small e =
    let a = bind_ok (headings_at k p separator cells) _ out e in
    let new : Table = record t { separator = Some separator; headings = a.0 } in
    let same : new ≡ out = same_ok {E = ForecastFault} new out a.2 in
    subst IsSmallTable same small

cells_small : (k : ℕ) (p : Plan) (t out : Table) (separator : ℕ) (cells : List (List ℕ)) → IsSmallTable t → line_of_cells k p t separator cells ≡ Ok out → IsSmallTable out
unfolding line_of_cells
cells_small k p t out separator cells small e = by _ e
  where
    some : (s : Option ℕ)
        → ◌≡◌ {A = Result Table ForecastFault} (elim s [ None ↦ first_line_at k p t separator cells | Some c ↦ row_at p.day k t cells ]) (Ok out) → IsSmallTable out
    some None f = first_small k p t out separator cells small f
    some (Some c) f = row_small p.day k t out cells small f

    by : (empty : Bool) → ◌≡◌ {A = Result Table ForecastFault} (cond empty (Ok t) (cells_at k p t separator cells)) (Ok out) → IsSmallTable out
    by true f = subst IsSmallTable (same_ok {E = ForecastFault} t out f) small
    by false f = some t.separator f

line_small : (p : Plan) (t out : Table) (l : NumberedLine) → IsSmallTable t → line_at p t l ≡ Ok out → IsSmallTable out
unfolding line_at
line_small p t out l small e =
    let a = bind_ok (line_cells l.number (separator_at t l.bytes) l.bytes) _ out e in
    cells_small l.number p t out (separator_at t l.bytes) a.0 small a.2

table_small : (p : Plan) (text : List ℕ) (t : Table) → table_of p text ≡ Ok t → IsSmallTable t
table_small p text t e =
    each_keeps (line_at p) IsSmallTable (λ s u l small f. line_small p s u l small f) no_table t (text_lines text) tt e

-- ---- columns

number_there : (ns : List ℕ) (place : ℕ) → AreSmall ns → get_or ns place 0 ≤ 64
number_there [] place h = omega arith
number_there (n ∷ ns) zero h = h.0
number_there (n ∷ ns) (suc place) h = number_there ns place h.1

numbers_of_small : (place : ℕ) (rows : List (List ℕ)) → Each AreSmall rows → AreSmall (numbers_of place rows)
numbers_of_small place [] h = tt
numbers_of_small place (ns ∷ rows) h = (number_there ns place h.0, numbers_of_small place rows h.1)

said_small : (t : Table) (code : ℕ) (k : Kind) → IsSmallTable t → IfSome (said t code k) AreSmall
said_small t code k small = by (position (asks code k) t.headings)
  where
    by : (place : Option ℕ) → IfSome (elim place [ None ↦ None | Some i ↦ Some (numbers_of i t.rows) ]) AreSmall
    by None = tt
    by (Some i) = numbers_of_small i t.rows small

need_small : (o : Option (List ℕ)) → IfSome o AreSmall → AreSmall (or_none o)
need_small None h = tt
need_small (Some ns) h = h

column_small : (t : Table) (code : ℕ) → IsSmallTable t → IsSmallColumn (column_of t code)
column_small t code small = record {
  need = need_small (said t code kind.Need) (said_small t code kind.Need small);
  least = said_small t code kind.Least small;
  most = said_small t code kind.Most small;
}

one_column : (d : PlanDay) (step : ℕ) (t : Table) (cs out : List Column) (n : Need) → IsSmallTable t → Each IsSmallColumn cs → column_at d step t cs n ≡ Ok out → Each IsSmallColumn out
unfolding column_at
one_column d step t cs out n small before e = by (above d step n.code (said t n.code kind.Least) (said t n.code kind.Most)) e
  where
    new : List Column
    new = cs ++ column_of t n.code ∷ []

    by : (o : Option ForecastFault) → unless o new ≡ Ok out → Each IsSmallColumn out
    by None f = subst (Each IsSmallColumn) (same_ok {E = ForecastFault} new out f) (Each-push IsSmallColumn cs (column_of t n.code) before (column_small t n.code small))
    by (Some d) f = absurd cc

-- ---- steps

day_some : (d : PlanDay) → 1 ≤ day_length d
day_some d = by d.end.next_day
  where
    behind : (n : ℕ) → 1 ≤ behind_begin n
    behind zero = omega arith
    behind (suc n) = omega arith

    by : (next : Bool) → 1 ≤ cond next (shown_next d d.end.minute) (behind_begin (shown_behind d d.end.minute))
    by true = omega (arith)
    by false = behind (shown_behind d d.end.minute)

step_some : (d : PlanDay) (t : Table) (step : ℕ) → step_of d t ≡ Ok step → 1 ≤ step
unfolding step_of
step_some d t step e =
    let a = passed (eqb (length t.rows) 0) _ _ _ e in
    let b = held (eqb (length t.rows * whole_step d t) (day_length d)) _ _ _ a.1 in
    let same : whole_step d t ≡ step = same_ok {E = ForecastFault} (whole_step d t) step b.1 in
    let whole : length t.rows * whole_step d t ≡ day_length d = same_number _ _ b.0 in
    by step (ap (λ (s : ℕ). length t.rows * s) (sym same) ∙ whole)
  where
    by : (s : ℕ) → length t.rows * s ≡ day_length d → 1 ≤ s
    by zero q = absurd (omega (arith, q, day_some d))
    by (suc s) q = omega arith

-- ---- the forecast

at_small : (p : Plan) (t : Table) (f : Forecast) → IsSmallTable t → forecast_at p t ≡ Ok f → IsSmallForecast f
unfolding forecast_at
at_small p t f small e =
    let a = bind_ok (step_of p.day t) _ f e in
    let b = bind_ok (columns_at p.day a.0 t p.needs) _ f a.2 in
    let new : Forecast = record { step = a.0; columns = b.0 } in
    let same : new ≡ f = same_ok {E = ForecastFault} new f b.2 in
    let columns = each_keeps (column_at p.day a.0 t) (Each IsSmallColumn) (λ cs ds n h g. one_column p.day a.0 t cs ds n small h g) [] b.0 p.needs tt b.1 in
    subst IsSmallForecast same (record { step = step_some p.day t a.0 a.1; columns = columns })

finish_small : (p : Plan) (t : Table) (f : Forecast) → IsSmallTable t → finish p t ≡ Ok f → IsSmallForecast f
unfolding finish
finish_small p t f small e = by t.separator e
  where
    by : (s : Option ℕ) → ◌≡◌ {A = Result Forecast ForecastFault} (elim s [ None ↦ Err NoLine | Some c ↦ forecast_at p t ]) (Ok f) → IsSmallForecast f
    by None g = absurd cc
    by (Some c) g = at_small p t f small g

-- what is read is small
pub read_small : (p : Plan) (text : List ℕ) (f : Forecast) → forecast_of p text ≡ Ok f → IsSmallForecast f
unfolding forecast_of
read_small p text f e =
    let a = passed (ltb 1048576 (length text)) TooLong (table_of p text >>= finish p) f e in
    let b = bind_ok (table_of p text) (finish p) f a.1 in
    finish_small p b.0 f (table_small p text b.0 b.1) b.2
