-- Cells seen as those of demands, one demand after another.
use Rattle.std.proofs.Common.{◌≡◌, ◌≢◌, ℕ, zero, suc, ◌+◌, ◌≤◌, ◌↔◌, List, [], ◌∷◌, ◌++◌, Some, length, take, drop, map, refl, sym, ap, subst, ◌∙◌, arith, All, length-append}
use Rattle.std.specs.Prelude.{slice_get}
use Rattle.std.proofs.lemmas.List.{drop_at, take-append-drop, length-take-le}
use Rattle.std.proofs.lemmas.List.Elements.{All-nil, All-cons, All-append, All-head, All-same, All-drop}
use Rattle.std.proofs.lemmas.Option.{same_Some, none-some}
use Rattle.std.proofs.Math.Seq.{take-append_seam}
use Rattle.model_rosters.specs.declared.grammar.Grammar.{Grammar}
use Rattle.model_rosters.specs.declared.instance.Cell.{Cell}
use Rattle.model_rosters.specs.Demands.{PeriodDemand, Demand, demand_cell, cells_from, demand_cells, all_cells, IsPeriodDemand, IsDemand, IsWork, AreOnce, AreCells, IsOneDemand, IsCellOf}
use Rattle.model_rosters.specs.Folds.{Each}
use Rattle.model_rosters.proofs.SoundCells.{length-cells_from}

-- what a cell asks of its period
abbrev period_demand : Cell → PeriodDemand
period_demand c = record { need = c.need; floor = c.floor; ceiling = c.ceiling }

cell-is : (d : Demand) (p : ℕ) (c : Cell) → IsCellOf d.code d.under d.over p c → c ≡ demand_cell d p (period_demand c)
cell-is d p c h = rw (← h.code_is, ← h.under_is, ← h.over_is, ← h.period_is) refl

moved : (code under over p q : ℕ) (c : Cell) → p ≡ q → IsCellOf code under over p c → IsCellOf code under over q c
moved code under over p q c e h = let P : ℕ → Type 0 = λ (n : ℕ). IsCellOf code under over n c in subst P e h

-- the cells, where each is of the demand
abbrev AreOf : Demand → ℕ → List Cell → Type 0
AreOf d p cells = (k : ℕ) (c : Cell) → slice_get cells k ≡ Some c → IsCellOf d.code d.under d.over (k + p) c

rest_of : (d : Demand) (p : ℕ) (c : Cell) (cs : List Cell) → AreOf d p (c ∷ cs) → AreOf d (p + 1) cs
rest_of d p c cs h k x e = moved d.code d.under d.over (suc k + p) (k + (p + 1)) x (omega arith) (h (suc k) x e)

cells-are : (d : Demand) (p : ℕ) (cells : List Cell) → AreOf d p cells → cells ≡ cells_from d p (map period_demand cells)
cells-are d p [] h = refl
cells-are d p (c ∷ cs) h =
    let first = cell-is d p c (moved d.code d.under d.over (0 + p) p c (omega arith) (h 0 c refl)) in
    let rest = cells-are d (p + 1) cs (rest_of d p c cs h) in
    cc

length-periods : (cells : List Cell) → length (map period_demand cells) ≡ length cells
length-periods [] = refl
length-periods (c ∷ cs) = omega (arith, length-periods cs)

each_period : (d : Demand) (p : ℕ) (cells : List Cell) → AreOf d p cells → Each IsPeriodDemand (map period_demand cells)
each_period d p [] h = tt
each_period d p (c ∷ cs) h =
    let first = h 0 c refl in
    (record { need = first.need; floor = first.floor; ceiling = first.ceiling }, each_period d (p + 1) cs (rest_of d p c cs h))

of_demand : (d : Demand) (p : ℕ) (ps : List PeriodDemand) → d.under ≤ 10000 → Each IsPeriodDemand ps → AreOf d p (cells_from d p ps)
of_demand d p [] u h k c e = absurd (none-some c e)
of_demand d p (x ∷ ps) u h zero c e =
    let P : Cell → Type 0 = λ (y : Cell). IsCellOf d.code d.under d.over (0 + p) y in
    subst P (same_Some _ c e)
    (record { code_is = refl; under_is = refl; over_is = refl; period_is = omega arith; need = h.0.need; floor = h.0.floor; ceiling = h.0.ceiling })
of_demand d p (x ∷ ps) u h (suc k) c e =
    moved d.code d.under d.over (k + (p + 1)) (suc k + p) c (omega arith) (of_demand d (p + 1) ps u h.1 k c e)

module _ (g : Grammar) (cells : List Cell) (whole : length cells ≡ g.periods) (first : Cell) where
  demand_of : Demand
  demand_of = record { code = first.code; under = first.under; over = first.over; periods = map period_demand cells }

  pub one_demand : IsWork g first.code → first.under ≤ 10000 → first.over ≤ 10000
      → ((k : ℕ) (c : Cell) → slice_get cells k ≡ Some c → IsCellOf first.code first.under first.over (k + 1) c) → IsOneDemand g cells
  unfolding demand_of
  one_demand work under over h = record {
    demand = demand_of;
    sound = record { work = work; under = under; over = over; whole = length-periods cells ∙ whole; each = each_period demand_of 1 cells h };
    made = cells-are demand_of 1 cells h;
  }

  -- what the first cell says of the demand
  pub first_of : 1 ≤ g.periods → slice_get cells 0 ≡ Some first → (h : IsOneDemand g cells) → IsCellOf h.demand.code h.demand.under h.demand.over 1 first
  first_of some at h =
      let all = of_demand (h.demand) 1 h.demand.periods h.sound.under h.sound.each in
      moved _ _ _ (0 + 1) 1 first (omega arith) (all 0 first (rw (← h.made) at))

  pub of_one_demand : 1 ≤ g.periods → slice_get cells 0 ≡ Some first → IsOneDemand g cells
      → IsWork g first.code × (first.under ≤ 10000) × (first.over ≤ 10000) × ((k : ℕ) (c : Cell) → slice_get cells k ≡ Some c → IsCellOf first.code first.under first.over (k + 1) c)
  of_one_demand some at h =
      let f = first_of some at h in
      let P : ℕ → Type 0 = λ (c : ℕ). IsWork g c in
      let all = of_demand (h.demand) 1 h.demand.periods h.sound.under h.sound.each in (
        subst P (sym f.code_is) h.sound.work,
        omega (arith, f.under_is, h.sound.under),
        omega (arith, f.over_is, h.sound.over),
        λ k c e. rw (f.code_is, f.under_is, f.over_is) (all k c (rw (← h.made) e)),
      )

module _ (g : Grammar) (some : 1 ≤ g.periods) where
  -- no cell of other demands has the code
  codes_differ : (code : ℕ) (d : Demand) (p : ℕ) (ps : List PeriodDemand) → d.code ≢ code → All (λ (c : Cell). c.code ≢ code) (cells_from d p ps)
  codes_differ code d p [] h = All-nil (λ (c : Cell). c.code ≢ code)
  codes_differ code d p (x ∷ ps) h = All-cons (λ (c : Cell). c.code ≢ code) _ _ h (codes_differ code d (p + 1) ps h)

  all_differ : (code : ℕ) (ds : List Demand) → Each (λ (e : Demand). e.code ≢ code) ds → All (λ (c : Cell). c.code ≢ code) (all_cells ds)
  all_differ code [] h = All-nil (λ (c : Cell). c.code ≢ code)
  all_differ code (d ∷ ds) h = All-append (λ (c : Cell). c.code ≢ code) (demand_cells d) (all_cells ds) (codes_differ code d 1 d.periods h.0) (all_differ code ds h.1)

  first_differs : (code : ℕ) (d : Demand) (ps : List PeriodDemand) (cs : List Cell) → 1 ≤ length ps → All (λ (c : Cell). c.code ≢ code) (cells_from d 1 ps ++ cs) → d.code ≢ code
  first_differs code d [] cs l h = absurd (omega arith)
  first_differs code d (p ∷ ps) cs l h = All-head (λ (c : Cell). c.code ≢ code) _ (cells_from d (1 + 1) ps ++ cs) h

  demands_differ : (code : ℕ) (ds : List Demand) → Each (IsDemand g) ds → All (λ (c : Cell). c.code ≢ code) (all_cells ds) → Each (λ (e : Demand). e.code ≢ code) ds
  demands_differ code [] e h = tt
  demands_differ code (d ∷ ds) e h = (
    first_differs code d d.periods (all_cells ds) (omega (arith, e.0.whole)) h,
    demands_differ code ds e.1
        (All-same (λ (c : Cell). c.code ≢ code) (all_cells ds) (drop (length (demand_cells d)) (demand_cells d ++ all_cells ds))
        (sym (drop_at (demand_cells d) (all_cells ds) _ refl)) (All-drop (λ (c : Cell). c.code ≢ code) (length (demand_cells d)) _ h)),
  )

  -- a demand and the cells of others
  pub more_demands : (cells first rest : List Cell) (one : IsOneDemand g first) → cells ≡ first ++ rest → All (λ (c : Cell). c.code ≢ one.demand.code) rest
      → AreCells g rest → AreCells g cells
  more_demands cells first rest one e h r = record {
    demands = one.demand ∷ r.demands;
    each = (one.sound, r.each);
    once = (demands_differ one.demand.code r.demands r.each (All-same (λ (c : Cell). c.code ≢ one.demand.code) (all_cells r.demands) rest (sym r.made) h), r.once);
    made = e ∙ ap (λ (xs : List Cell). xs ++ rest) one.made ∙ ap (λ (xs : List Cell). demand_cells one.demand ++ xs) r.made;
  }

  -- the first demand of some cells, and the others
  pub record IsSplit (cells : List Cell) : Type 0 where
    pub enough : g.periods ≤ length cells
    pub one : IsOneDemand g (take g.periods cells)
    pub differ : All (λ (c : Cell). c.code ≢ one.demand.code) (drop g.periods cells)
    pub rest : AreCells g (drop g.periods cells)

  split_of : (cells : List Cell) (ds : List Demand) → Each (IsDemand g) ds → AreOnce ds → cells ≡ all_cells ds → 1 ≤ length cells → IsSplit cells
  split_of cells [] e o m l = absurd (omega (arith, ap length m))
  split_of cells (d ∷ ds) e o m l =
      let long : length (demand_cells d) ≡ g.periods = length-cells_from d 1 d.periods ∙ e.0.whole in
      let front : take g.periods cells ≡ demand_cells d = rw (m, ← long) (take-append_seam (demand_cells d) (all_cells ds)) in
      let back : drop g.periods cells ≡ all_cells ds = rw (m, ← long) (drop_at (demand_cells d) (all_cells ds) _ refl) in
      record {
        enough = omega (arith, ap length m, length-append (demand_cells d) (all_cells ds), long);
        one = record { demand = d; sound = e.0; made = front };
        differ = All-same (λ (c : Cell). c.code ≢ d.code) _ (all_cells ds) back (all_differ d.code ds o.0);
        rest = record { demands = ds; each = e.1; once = o.1; made = back };
      }

  pub split : (cells : List Cell) → AreCells g cells → 1 ≤ length cells → IsSplit cells
  split cells c l = split_of cells c.demands c.each c.once c.made l

  pub no_cells : AreCells g []
  no_cells = record { demands = []; each = tt; once = tt; made = refl }

  module _ (cells first rest : List Cell) (front : first ≡ take g.periods cells) (back : rest ≡ drop g.periods cells) (enough : g.periods ≤ length cells)
      (head : Cell) (at : slice_get first 0 ≡ Some head) where
    whole : length first ≡ g.periods
    whole = ap length front ∙ length-take-le g.periods cells enough

    differ : (a b : ℕ) → a ≡ b → All (λ (c : Cell). c.code ≢ a) rest → All (λ (c : Cell). c.code ≢ b) rest
    differ a b e h = let P : ℕ → Type 0 = λ (x : ℕ). All (λ (c : Cell). c.code ≢ x) rest in subst P e h

    -- where the first cells are a demand's, and its code is not demanded again
    pub found : IsOneDemand g first → All (λ (c : Cell). c.code ≢ head.code) rest → AreCells g cells ↔ AreCells g rest
    found one h = (
      λ all. (let l : 1 ≤ length cells = omega arith in let P : List Cell → Type 0 = λ (xs : List Cell). AreCells g xs in subst P (sym back) (split cells all l).rest),
      λ others. more_demands cells first rest one (sym (rw (front, back) (take-append-drop g.periods cells)))
          (differ head.code one.demand.code (first_of g first whole head some at one).code_is h) others,
    )

    pub parted : AreCells g cells → IsOneDemand g first × All (λ (c : Cell). c.code ≢ head.code) rest
    parted all =
        let l : 1 ≤ length cells = omega arith in
        let s = split cells all l in
        let P : List Cell → Type 0 = λ (xs : List Cell). IsOneDemand g xs in
        let code = first_of g (take g.periods cells) (rw front at whole) head some (rw front at at) s.one in (
          subst P (sym front) s.one,
          differ s.one.demand.code head.code (sym code.code_is) (All-same (λ (c : Cell). c.code ≢ s.one.demand.code) rest _ back s.differ),
        )
