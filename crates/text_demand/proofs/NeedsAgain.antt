-- The lines of demands that were written are read again.
use Rattle.std.proofs.Common.{◌≡◌, ◌≢◌, ℕ, ◌+◌, ◌≤◌, ◌||◌, Bool, true, false, cond, eqb, List, [], ◌∷◌, ◌++◌, length, map, Ok, refl, sym, ap, ◌∙◌, arith, append_assoc, append-nil}
use Rattle.std.specs.Prelude.{codes}
use Rattle.std.proofs.lemmas.Bool.{eq-eqb, ne_eqb}
use Rattle.std.proofs.lemmas.List.{length-map}
use Rattle.std.proofs.lemmas.List.Folds.{list_any-append}
use Rattle.text_lines.specs.Written.{numbered}
use Rattle.model_rosters.specs.declared.grammar.CodeDef.{CodeDef}
use Rattle.model_rosters.specs.declared.grammar.Grammar.{Grammar}
use Rattle.model_rosters.specs.Demands.{PeriodDemand, Demand, cells_from, demand_cells, IsPeriodDemand, IsDemand, AreOnce}
use Rattle.model_rosters.specs.Folds.{Each}
use Rattle.model_rosters.specs.Sound.{AreCodes}
use Rattle.text_demand_lines.specs.declared.draft.Bound.{Bound}
use Rattle.text_demand_lines.specs.declared.draft.Draft.{Draft}
use Rattle.text_demand_lines.specs.declared.draft.Need as draft
use Rattle.text_demand_lines.specs.Steps.{each}
use Rattle.text_demand_lines.specs.declared.fault.DemandFault.TheVariants.{BadNumber, OutOfRange}
use Rattle.text_demand.specs.Lines.{has_need, has_bound, need_of, need_at, bound_at, line_at, item_at}
use Rattle.text_demand.specs.declared.number_of.NumberOf.{NumberOf}
use Rattle.text_demand.specs.declared.number_of.NumberOf.TheVariants.{Need, Floor, Ceiling}
use Rattle.text_demand.specs.Drafts.{AreCounts}
use Rattle.text_demand.specs.Written.{code_byte, numbers_of, are_all, need_line, bound_lines, code_lines, demand_lines}
use Rattle.text_demand.proofs.CellsAgain.{need_for, bound_for, bounds_for}
use Rattle.text_lines.proofs.WrittenLemmas.{parts_again}
use Rattle.text_demand.proofs.FieldsAgain.{work_again, counts_at_again, asked, numbers_are}
use Rattle.text_lines.proofs.FieldsLemmas.{number_at_again}
use Rattle.text_lines.proofs.StepsLemmas.{ok}

asked_within : (which : NumberOf) (p : PeriodDemand) → IsPeriodDemand p → asked which p ≤ 64
asked_within Need p h = h.need
asked_within Floor p h = h.floor
asked_within Ceiling p h = h.ceiling

pub counts_within : (which : NumberOf) (ps : List PeriodDemand) → Each IsPeriodDemand ps → AreCounts (map (asked which) ps)
counts_within which [] h = tt
counts_within which (p ∷ ps) h = (asked_within which p h.0, counts_within which ps h.1)

module _ (g : Grammar) (s : AreCodes g.codes) (e : Demand) (h : IsDemand g e) where
  whole : (which : NumberOf) → length (map (asked which) e.periods) ≡ g.periods
  whole which = length-map e.periods (asked which) ∙ h.whole

  need_again : (k : ℕ) (d : Draft) → has_need d.needs e.code ≡ false
      → line_at k g d (need_line (code_byte g.codes e.code) e.under e.over (demand_cells e)) ≡ Ok (record d { needs = d.needs ++ need_for e ∷ [] })
  unfolding line_at need_at need_of
  need_again k d new =
      rw (
        numbers_are Need e 1 e.periods,
        work_again k g e.code s h.work,
        new,
        number_at_again (BadNumber k) (OutOfRange k) 0 10000 e.under (omega arith) h.under (omega arith),
        number_at_again (BadNumber k) (OutOfRange k) 0 10000 e.over (omega arith) h.over (omega arith),
        counts_at_again k g.periods (map (asked Need) e.periods) (whole Need) (counts_within Need e.periods h.each),
      ) refl

  bound_again : (k : ℕ) (needs : List draft.Need) (bounds : List Bound) (which : NumberOf) → has_need needs e.code ≡ true → has_bound bounds e.code ≡ false
      → bound_at k g needs bounds ((code_byte g.codes e.code ∷ []) ∷ numbers_of which (demand_cells e)) ≡ Ok (bounds ++ record { code = e.code; counts = map (asked which) e.periods } ∷ [])
  unfolding bound_at
  bound_again k needs bounds which there new =
      rw (numbers_are which e 1 e.periods, work_again k g e.code s h.work, there, new, counts_at_again k g.periods (map (asked which) e.periods) (whole which) (counts_within which e.periods h.each)) refl

  least_line : (k : ℕ) (d : Draft) (ws : List (List ℕ)) (new : List Bound) → bound_at k g d.needs d.least ws ≡ Ok new → line_at k g d (codes "least" ∷ ws) ≡ Ok (record d { least = new })
  unfolding line_at
  least_line k d ws new q = rw q refl

  most_line : (k : ℕ) (d : Draft) (ws : List (List ℕ)) (new : List Bound) → bound_at k g d.needs d.most ws ≡ Ok new → line_at k g d (codes "most" ∷ ws) ≡ Ok (record d { most = new })
  unfolding line_at
  most_line k d ws new q = rw q refl

  least_again : (k : ℕ) (d : Draft) → has_need d.needs e.code ≡ true → has_bound d.least e.code ≡ false
      → each (item_at g) d (numbered k (bound_lines (codes "least") (code_byte g.codes e.code) Floor 0 (demand_cells e))) ≡ Ok (record d { least = d.least ++ bound_for Floor 0 e })
  least_again k d there new = by (are_all Floor 0 (demand_cells e)) (least_line k d ws _ (bound_again k d.needs d.least Floor there new))
    where
      ws : List (List ℕ)
      ws = (code_byte g.codes e.code ∷ []) ∷ numbers_of Floor (demand_cells e)

      one : Bound
      one = record { code = e.code; counts = map (asked Floor) e.periods }

      by : (t : Bool) → line_at k g d (codes "least" ∷ ws) ≡ Ok (record d { least = d.least ++ one ∷ [] })
          → each (item_at g) d (numbered k (cond t [] ((codes "least" ∷ ws) ∷ []))) ≡ Ok (record d { least = d.least ++ cond t [] (one ∷ []) })
      by true q = rw (append-nil d.least) refl
      by false q = rw q refl

  most_again : (k : ℕ) (d : Draft) → has_need d.needs e.code ≡ true → has_bound d.most e.code ≡ false
      → each (item_at g) d (numbered k (bound_lines (codes "most") (code_byte g.codes e.code) Ceiling 64 (demand_cells e))) ≡ Ok (record d { most = d.most ++ bound_for Ceiling 64 e })
  most_again k d there new = by (are_all Ceiling 64 (demand_cells e)) (most_line k d ws _ (bound_again k d.needs d.most Ceiling there new))
    where
      ws : List (List ℕ)
      ws = (code_byte g.codes e.code ∷ []) ∷ numbers_of Ceiling (demand_cells e)

      one : Bound
      one = record { code = e.code; counts = map (asked Ceiling) e.periods }

      by : (t : Bool) → line_at k g d (codes "most" ∷ ws) ≡ Ok (record d { most = d.most ++ one ∷ [] })
          → each (item_at g) d (numbered k (cond t [] ((codes "most" ∷ ws) ∷ []))) ≡ Ok (record d { most = d.most ++ cond t [] (one ∷ []) })
      by true q = rw (append-nil d.most) refl
      by false q = rw q refl

pub shape : (defs : List CodeDef) (e : Demand) → 1 ≤ length e.periods
    → code_lines defs (demand_cells e) ≡ (need_line (code_byte defs e.code) e.under e.over (demand_cells e) ∷ []) ++ (bound_lines (codes "least") (code_byte defs e.code) Floor 0 (demand_cells e) ++ bound_lines (codes "most") (code_byte defs e.code) Ceiling 64 (demand_cells e))
shape defs e lt = by e.periods lt
  where
    by : (ps : List PeriodDemand) → 1 ≤ length ps
        → code_lines defs (cells_from e 1 ps) ≡ (need_line (code_byte defs e.code) e.under e.over (cells_from e 1 ps) ∷ []) ++ (bound_lines (codes "least") (code_byte defs e.code) Floor 0 (cells_from e 1 ps) ++ bound_lines (codes "most") (code_byte defs e.code) Ceiling 64 (cells_from e 1 ps))
    by [] l = absurd (omega arith)
    by (p ∷ ps) l = refl

-- no line so far has the code of the demand
pub record IsNew (d : Draft) (e : Demand) : Type 0 where
  pub need : has_need d.needs e.code ≡ false
  pub least : has_bound d.least e.code ≡ false
  pub most : has_bound d.most e.code ≡ false

-- the draft after the lines of demands
abbrev pub after : Draft → List Demand → Draft
after d ds = record d { needs = d.needs ++ map need_for ds; least = d.least ++ bounds_for Floor 0 ds; most = d.most ++ bounds_for Ceiling 64 ds }

abbrev after_one : Draft → Demand → Draft
after_one d e = record d { needs = d.needs ++ need_for e ∷ []; least = d.least ++ bound_for Floor 0 e; most = d.most ++ bound_for Ceiling 64 e }

or_true : (b : Bool) → (b || true) ≡ true
or_true true = refl
or_true false = refl

has_last : (needs : List draft.Need) (e : Demand) → has_need (needs ++ need_for e ∷ []) e.code ≡ true
has_last needs e = list_any-append (λ (n : draft.Need). eqb n.code e.code) needs (need_for e ∷ []) ∙ (rw (eq-eqb e.code e.code refl) (or_true (has_need needs e.code)))

need_new : (needs : List draft.Need) (e f : Demand) → e.code ≢ f.code → has_need needs f.code ≡ false → has_need (needs ++ need_for e ∷ []) f.code ≡ false
need_new needs e f ne old = list_any-append (λ (n : draft.Need). eqb n.code f.code) needs (need_for e ∷ []) ∙ (rw (old, ne_eqb e.code f.code ne) refl)

bound_new : (which : NumberOf) (free : ℕ) (bounds : List Bound) (e f : Demand) → e.code ≢ f.code → has_bound bounds f.code ≡ false → has_bound (bounds ++ bound_for which free e) f.code ≡ false
bound_new which free bounds e f ne old = list_any-append (λ (b : Bound). eqb b.code f.code) bounds (bound_for which free e) ∙ (rw old (by (are_all which free (demand_cells e))))
  where
    by : (t : Bool) → has_bound (cond t [] (record { code = e.code; counts = map (asked which) e.periods } ∷ [])) f.code ≡ false
    by true = refl
    by false = rw (ne_eqb e.code f.code ne) refl

all_new : (d : Draft) (e : Demand) (fs : List Demand) → Each (λ (f : Demand). f.code ≢ e.code) fs → Each (IsNew d) fs → Each (IsNew (after_one d e)) fs
all_new d e [] n h = tt
all_new d e (f ∷ fs) n h =
    let ne : e.code ≢ f.code = λ same. n.0 (sym same) in (
      record { need = need_new d.needs e f ne h.0.need; least = bound_new Floor 0 d.least e f ne h.0.least; most = bound_new Ceiling 64 d.most e f ne h.0.most },
      all_new d e fs n.1 h.1,
    )

module _ (g : Grammar) (s : AreCodes g.codes) (some : 1 ≤ g.periods) where
  demand_again : (k : ℕ) (d : Draft) (e : Demand) → IsDemand g e → IsNew d e → each (item_at g) d (numbered k (code_lines g.codes (demand_cells e))) ≡ Ok (after_one d e)
  demand_again k d e h new =
      let n : List (List ℕ) = need_line (code_byte g.codes e.code) e.under e.over (demand_cells e) in
      let l : List (List (List ℕ)) = bound_lines (codes "least") (code_byte g.codes e.code) Floor 0 (demand_cells e) in
      let m : List (List (List ℕ)) = bound_lines (codes "most") (code_byte g.codes e.code) Ceiling 64 (demand_cells e) in
      let d1 : Draft = record d { needs = d.needs ++ need_for e ∷ [] } in
      let d2 : Draft = record d1 { least = d.least ++ bound_for Floor 0 e } in
      let first : each (item_at g) d (numbered k (n ∷ [])) ≡ Ok d1 = rw (need_again g s e h k d new.need) refl in
      let there : has_need d1.needs e.code ≡ true = has_last d.needs e in
      let second = least_again g s e h (k + 1) d1 there new.least in
      let third = most_again g s e h ((k + 1) + length l) d2 there new.most in
      let both : each (item_at g) d1 (numbered (k + 1) (l ++ m)) ≡ Ok (after_one d e) = parts_again (item_at g) d1 d2 (Ok (after_one d e)) (k + 1) l m second third in
      ap (λ (ls : List (List (List ℕ))). each (item_at g) d (numbered k ls)) (shape g.codes e (omega (arith, h.whole)))
      ∙ parts_again (item_at g) d d1 (Ok (after_one d e)) k (n ∷ []) (l ++ m) first both

  pub demands_again : (k : ℕ) (d : Draft) (ds : List Demand) → Each (IsDemand g) ds → AreOnce ds → Each (IsNew d) ds → each (item_at g) d (numbered k (demand_lines g.codes ds)) ≡ Ok (after d ds)
  demands_again k d [] h o new = rw (append-nil d.needs, append-nil d.least, append-nil d.most) refl
  demands_again k d (e ∷ ds) h o new =
      let ls : List (List (List ℕ)) = code_lines g.codes (demand_cells e) in
      let first = demand_again k d e h.0 new.0 in
      let more = demands_again (k + length ls) (after_one d e) ds h.1 o.1 (all_new d e ds o.0 new.1) in
      let needs : (d.needs ++ need_for e ∷ []) ++ map need_for ds ≡ d.needs ++ map need_for (e ∷ ds) = append_assoc d.needs (need_for e ∷ []) (map need_for ds) in
      let least : (d.least ++ bound_for Floor 0 e) ++ bounds_for Floor 0 ds ≡ d.least ++ bounds_for Floor 0 (e ∷ ds) = append_assoc d.least (bound_for Floor 0 e) (bounds_for Floor 0 ds) in
      let most : (d.most ++ bound_for Ceiling 64 e) ++ bounds_for Ceiling 64 ds ≡ d.most ++ bounds_for Ceiling 64 (e ∷ ds) = append_assoc d.most (bound_for Ceiling 64 e) (bounds_for Ceiling 64 ds) in
      let same : after (after_one d e) ds ≡ after d (e ∷ ds) = cc in
      parts_again (item_at g) d (after_one d e) (Ok (after d (e ∷ ds))) k ls (demand_lines g.codes ds) first (more ∙ ap (λ (x : Draft). ok x) same)

  pub none_new : (d : Draft) (ds : List Demand) → d.needs ≡ [] → d.least ≡ [] → d.most ≡ [] → Each (IsNew d) ds
  none_new d [] a b c = tt
  none_new d (e ∷ ds) a b c = (record { need = rw a refl; least = rw b refl; most = rw c refl }, none_new d ds a b c)
