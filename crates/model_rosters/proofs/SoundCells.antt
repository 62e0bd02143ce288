-- The cells of demands: how many they are, and what holds of each.
use Rattle.std.proofs.Common.{◌≡◌, ◌≢◌, ℕ, ◌+◌, ◌*◌, ◌≤◌, List, [], ◌∷◌, length, map, refl, ap, arith, All, length-append}
use Rattle.std.proofs.lemmas.Nat.{mul-le}
use Rattle.std.proofs.lemmas.List.Elements.{All-nil, All-cons, All-append, All-weaker, All-same}
use Rattle.model_rosters.specs.declared.grammar.CodeDef.{CodeDef}
use Rattle.model_rosters.specs.declared.grammar.Grammar.{Grammar}
use Rattle.model_rosters.specs.declared.instance.Cell.{Cell}
use Rattle.model_rosters.specs.Demands.{PeriodDemand, Demand, cells_from, demand_cells, all_cells, IsPeriodDemand, IsDemand, AreOnce, AreCells}
use Rattle.model_rosters.specs.Folds.{Each}
use Rattle.model_rosters.specs.Limits.{IsLimitedCell, IsDayCell}
use Rattle.model_rosters.specs.Sound.{AreCodes}
use Rattle.model_rosters.proofs.WorkCodes.{AreApart, Passes, positions-le}

pub length-cells_from : (d : Demand) (k : ℕ) (ps : List PeriodDemand) → length (cells_from d k ps) ≡ length ps
length-cells_from d k [] = refl
length-cells_from d k (p ∷ ps) = omega (arith, length-cells_from d (k + 1) ps)

pub length-all_cells : (g : Grammar) (ds : List Demand) → Each (IsDemand g) ds → length (all_cells ds) ≡ length ds * g.periods
length-all_cells g [] h = omega arith
length-all_cells g (d ∷ ds) h =
    omega (arith, length-append (demand_cells d) (all_cells ds), length-cells_from d 1 d.periods, h.0.whole, length-all_cells g ds h.1)

codes_of : List Demand → List ℕ
codes_of ds = map (λ (d : Demand). d.code) ds

length-codes_of : (ds : List Demand) → length (codes_of ds) ≡ length ds
unfolding codes_of
length-codes_of [] = refl
length-codes_of (d ∷ ds) = omega (arith, length-codes_of ds)

each_apart : (k : ℕ) (ds : List Demand) → Each (λ (e : Demand). e.code ≢ k) ds → Each (λ (j : ℕ). j ≢ k) (codes_of ds)
unfolding codes_of
each_apart k [] h = tt
each_apart k (d ∷ ds) h = (h.0, each_apart k ds h.1)

apart : (ds : List Demand) → AreOnce ds → AreApart (codes_of ds)
unfolding codes_of
apart [] h = tt
apart (d ∷ ds) h = (each_apart d.code ds h.0, apart ds h.1)

work : (g : Grammar) (ds : List Demand) → Each (IsDemand g) ds → Each (Passes (λ (c : CodeDef). c.work) g.codes) (codes_of ds)
unfolding codes_of
work g [] h = tt
work g (d ∷ ds) h = (h.0.work, work g ds h.1)

-- at most 8 codes are demanded
pub few_demands : (g : Grammar) (ds : List Demand) → AreCodes g.codes → Each (IsDemand g) ds → AreOnce ds → length ds ≤ 8
few_demands g ds codes each once =
    omega (arith, length-codes_of ds, codes.few_work, positions-le (λ (c : CodeDef). c.work) g.codes (codes_of ds) (work g ds each) (apart ds once))

-- of at most 96 periods
pub few_cells : (g : Grammar) (cells : List Cell) → AreCodes g.codes → g.periods ≤ 96 → AreCells g cells → length cells ≤ 768
few_cells g cells codes few c =
    let eight = few_demands g c.demands codes c.each c.once in
    omega (arith, ap length c.made, length-all_cells g c.demands c.each, mul-le (length c.demands) g.periods 8 96 eight few)

module _ (g : Grammar) where
  day_cells : (d : Demand) (k : ℕ) (ps : List PeriodDemand) → IsDemand g d → Each IsPeriodDemand ps → 1 ≤ k → k + length ps ≤ g.periods + 1
      → All (IsDayCell g) (cells_from d k ps)
  day_cells d k [] h e first last = All-nil (IsDayCell g)
  day_cells d k (p ∷ ps) h e first last =
      All-cons (IsDayCell g) _ (cells_from d (k + 1) ps)
      (record {
        work = h.work;
        first = first;
        last = omega arith;
        limited = record { need = e.0.need; under = h.under; over = h.over; floor = e.0.floor; ceiling = e.0.ceiling };
      })
      (day_cells d (k + 1) ps h e.1 (omega arith) (omega arith))

  all_day_cells : (ds : List Demand) → Each (IsDemand g) ds → All (IsDayCell g) (all_cells ds)
  all_day_cells [] h = All-nil (IsDayCell g)
  all_day_cells (d ∷ ds) h =
      All-append (IsDayCell g) (demand_cells d) (all_cells ds)
      (day_cells d 1 d.periods h.0 h.0.each (omega arith) (omega (arith, h.0.whole)))
      (all_day_cells ds h.1)

  -- each is a work code in a period of the day, within the limits
  pub cells_of_day : (cells : List Cell) → AreCells g cells → All (IsDayCell g) cells
  cells_of_day cells c = All-same (IsDayCell g) cells (all_cells c.demands) c.made (all_day_cells c.demands c.each)

  pub cells_limited : (cells : List Cell) → AreCells g cells → All IsLimitedCell cells
  cells_limited cells c = All-weaker (IsDayCell g) IsLimitedCell (λ c h. h.limited) cells (cells_of_day cells c)
