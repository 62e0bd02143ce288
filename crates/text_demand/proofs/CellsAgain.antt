-- The cells of demands, from the lines that were written of them.
use Rattle.std.proofs.Common.{◌≡◌, ◌≢◌, ℕ, zero, suc, ◌+◌, Bool, true, false, cond, List, [], ◌∷◌, ◌++◌, map, refl, sym, ◌∙◌, arith}
use Rattle.std.specs.Prelude.{slice_index_or}
use Rattle.std.proofs.lemmas.Bool.{and_parts, eq-eqb, ne_eqb, eqb-true}
use Rattle.model_rosters.specs.Demands.{PeriodDemand, Demand, cells_from, demand_cells, AreOnce}
use Rattle.model_rosters.specs.Folds.{Each}
use Rattle.text_demand_lines.specs.declared.draft.Bound.{Bound}
use Rattle.text_demand_lines.specs.declared.draft.Need as draft
use Rattle.text_demand.specs.declared.number_of.NumberOf.{NumberOf}
use Rattle.text_demand.specs.declared.number_of.NumberOf.TheVariants.{Need, Floor, Ceiling}
use Rattle.text_demand.specs.InstanceOf.{bound_of, periods_from, demand_of}
use Rattle.text_demand.specs.Written.{are_all}
use Rattle.text_demand.proofs.FieldsAgain.{asked}

-- the need line of a demand
abbrev pub need_for : Demand → draft.Need
need_for d = record { code = d.code; under = d.under; over = d.over; counts = map (asked Need) d.periods }

-- the bounds of a demand, where a line has them
abbrev pub bound_for : NumberOf → ℕ → Demand → List Bound
bound_for which free d = cond (are_all which free (demand_cells d)) [] (record { code = d.code; counts = map (asked which) d.periods } ∷ [])

abbrev pub bounds_for : NumberOf → ℕ → List Demand → List Bound
bounds_for which free [] = []
bounds_for which free (d ∷ ds) = bound_for which free d ++ bounds_for which free ds

-- the lines give the bounds of the demand
abbrev Gives : NumberOf → ℕ → List Bound → Demand → Type 0
Gives which free bounds d = (k : ℕ) → bound_of bounds d.code k free ≡ slice_index_or (map (asked which) d.periods) k free

none_of : (which : NumberOf) (free code k : ℕ) (ds : List Demand) → Each (λ (e : Demand). e.code ≢ code) ds → bound_of (bounds_for which free ds) code k free ≡ free
none_of which free code k [] h = refl
none_of which free code k (d ∷ ds) h = by (are_all which free (demand_cells d)) (none_of which free code k ds h.1)
  where
    by : (t : Bool) → bound_of (bounds_for which free ds) code k free ≡ free
        → bound_of (cond t [] (record { code = d.code; counts = map (asked which) d.periods } ∷ []) ++ bounds_for which free ds) code k free ≡ free
    by true e = e
    by false e = rw (ne_eqb d.code code h.0) e

-- where all numbers are free, so is that of each period
all_free : (which : NumberOf) (free : ℕ) (d : Demand) (p k : ℕ) (ps : List PeriodDemand) → are_all which free (cells_from d p ps) ≡ true → slice_index_or (map (asked which) ps) k free ≡ free
all_free which free d p k [] e = refl
all_free Need free d p zero (x ∷ ps) e = eqb-true x.need free (and_parts _ _ e).0
all_free Floor free d p zero (x ∷ ps) e = eqb-true x.floor free (and_parts _ _ e).0
all_free Ceiling free d p zero (x ∷ ps) e = eqb-true x.ceiling free (and_parts _ _ e).0
all_free which free d p (suc k) (x ∷ ps) e = all_free which free d (p + 1) k ps (and_parts _ _ e).1

first_gives : (which : NumberOf) (free : ℕ) (d : Demand) (ds : List Demand) → Each (λ (e : Demand). e.code ≢ d.code) ds → Gives which free (bounds_for which free (d ∷ ds)) d
first_gives which free d ds h k = by (are_all which free (demand_cells d)) refl
  where
    by : (t : Bool) → are_all which free (demand_cells d) ≡ t
        → bound_of (cond t [] (record { code = d.code; counts = map (asked which) d.periods } ∷ []) ++ bounds_for which free ds) d.code k free ≡ slice_index_or (map (asked which) d.periods) k free
    by true e = none_of which free d.code k ds h ∙ sym (all_free which free d 1 k d.periods e)
    by false e = rw (eq-eqb d.code d.code refl) refl

later_gives : (which : NumberOf) (free : ℕ) (d e : Demand) (bounds : List Bound) → d.code ≢ e.code → Gives which free bounds e → Gives which free (bound_for which free d ++ bounds) e
later_gives which free d e bounds ne h k = by (are_all which free (demand_cells d)) (h k)
  where
    by : (t : Bool) → bound_of bounds e.code k free ≡ slice_index_or (map (asked which) e.periods) k free
        → bound_of (cond t [] (record { code = d.code; counts = map (asked which) d.periods } ∷ []) ++ bounds) e.code k free ≡ slice_index_or (map (asked which) e.periods) k free
    by true q = q
    by false q = rw (ne_eqb d.code e.code ne) q

all_later : (which : NumberOf) (free : ℕ) (d : Demand) (bounds : List Bound) (es : List Demand) → Each (λ (e : Demand). e.code ≢ d.code) es → Each (Gives which free bounds) es → Each (Gives which free (bound_for which free d ++ bounds)) es
all_later which free d bounds [] n h = tt
all_later which free d bounds (e ∷ es) n h = (later_gives which free d e bounds (λ same. n.0 (sym same)) h.0, all_later which free d bounds es n.1 h.1)

all_give : (which : NumberOf) (free : ℕ) (ds : List Demand) → AreOnce ds → Each (Gives which free (bounds_for which free ds)) ds
all_give which free [] h = tt
all_give which free (d ∷ ds) h = (first_gives which free d ds h.0, all_later which free d (bounds_for which free ds) ds h.0 (all_give which free ds h.1))

periods_again : (least most : List Bound) (code k : ℕ) (ps : List PeriodDemand)
    → ((j : ℕ) → bound_of least code (k + j) 0 ≡ slice_index_or (map (asked Floor) ps) j 0)
    → ((j : ℕ) → bound_of most code (k + j) 64 ≡ slice_index_or (map (asked Ceiling) ps) j 64)
    → periods_from least most code k (map (asked Need) ps) ≡ ps
periods_again least most code k [] l m = refl
periods_again least most code k (p ∷ ps) l m =
    let at : k + 0 ≡ k = omega arith in
    let low : bound_of least code k 0 ≡ p.floor = rw at at (l 0) in
    let high : bound_of most code k 64 ≡ p.ceiling = rw at at (m 0) in
    let rest : periods_from least most code (k + 1) (map (asked Need) ps) ≡ ps = periods_again least most code (k + 1) ps
    (λ j. let e : (k + 1) + j ≡ k + suc j = omega arith in rw e (l (suc j)))
    (λ j. let e : (k + 1) + j ≡ k + suc j = omega arith in rw e (m (suc j))) in
    rw (low, high, rest) refl

demand_again : (least most : List Bound) (d : Demand) → Gives Floor 0 least d → Gives Ceiling 64 most d → demand_of least most (need_for d) ≡ d
demand_again least most d l m =
    let zeroed : (j : ℕ) → 0 + j ≡ j = λ j. omega arith in
    let ps : periods_from least most d.code 0 (map (asked Need) d.periods) ≡ d.periods = periods_again least most d.code 0 d.periods (λ j. rw (zeroed j) (l j)) (λ j. rw (zeroed j) (m j)) in
    rw ps refl

demands_again : (least most : List Bound) (ds : List Demand) → Each (Gives Floor 0 least) ds → Each (Gives Ceiling 64 most) ds → map (demand_of least most) (map need_for ds) ≡ ds
demands_again least most [] l m = refl
demands_again least most (d ∷ ds) l m = rw (demand_again least most d l.0 m.0, demands_again least most ds l.1 m.1) refl

-- the demands that the lines make are those that were written
pub all_again : (ds : List Demand) → AreOnce ds → map (demand_of (bounds_for Floor 0 ds) (bounds_for Ceiling 64 ds)) (map need_for ds) ≡ ds
all_again ds h = demands_again (bounds_for Floor 0 ds) (bounds_for Ceiling 64 ds) ds (all_give Floor 0 ds h) (all_give Ceiling 64 ds h)
