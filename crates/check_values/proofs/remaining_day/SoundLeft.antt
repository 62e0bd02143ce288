-- The remaining day of a sound day is sound, where somebody is left.
use Rattle.std.proofs.Common.{◌≡◌, ℕ, zero, suc, arith, ◌+◌, ◌-◌, ◌≤◌, ◌<◌, Bool, true, false, cond, List, [], ◌∷◌, ◌++◌, length, map, take, get_or, Some, refl, sym, ap, subst, ◌∙◌, ◌⊎◌, inl, inr}
use Rattle.std.specs.Prelude.{nat_eq, slice_get, All, ◌≢◌}
use Rattle.std.proofs.lemmas.Bool.Decides.{eqb_tells}
use Rattle.std.proofs.lemmas.List.Elements.{All-nil, All-cons, All-head, All-tail}
use Rattle.model_rosters.specs.declared.grammar.CodeDef.{CodeDef}
use Rattle.model_rosters.specs.declared.grammar.Grammar.{Grammar}
use Rattle.model_rosters.specs.declared.grammar.Rule.{Rule}
use Rattle.model_rosters.specs.declared.instance.Cell.{Cell}
use Rattle.model_rosters.specs.declared.instance.Group.{Group}
use Rattle.model_rosters.specs.declared.instance.Instance.{Instance}
use Rattle.model_rosters.specs.Coverage.{covered}
use Rattle.model_rosters.specs.Demands.{PeriodDemand, Demand, demand_cell, cells_from, demand_cells, all_cells, IsPeriodDemand, IsDemand, AreOnce, AreCells}
use Rattle.model_rosters.specs.Duties.{Duty}
use Rattle.model_rosters.specs.Extension.{extended}
use Rattle.model_rosters.specs.Folds.{sum_n, Each}
use Rattle.model_rosters.specs.Sound.{IsSound, IsPlain}
use Rattle.model_rosters.specs.SoundInstance.{IsGroup, AreGroups, HasGroups, IsSoundInstance}
use Rattle.text_demand_lines.specs.Teams.{most_heads}
use Rattle.text_demand.specs.InstanceOf.{day_grammar, least_heads}
use Rattle.text_demand.proofs.Extension.{extension_sound}
use Rattle.text_demand.proofs.GroupSums.{in_order}
use Rattle.check_values.specs.remaining_day.Remaining.{kept_of, ceiling_left, cell_left, group_left, groups_left, least_left, most_left, remaining}
use Rattle.check_values.proofs.remaining_day.DaysLeft.{day_some}
use Rattle.check_values.proofs.remaining_day.GroupsLeft.{apart_left}

-- ---- cells

module _ (g : Grammar) (kept : List Duty) (d : Demand) where
  -- what is asked of the periods from one on, beside the kept shifts
  abbrev periods_left : ℕ → List PeriodDemand → List PeriodDemand
  periods_left k [] = []
  periods_left k (p ∷ ps) =
      record {
        need = p.need - covered g (demand_cell d k p) kept;
        floor = p.floor - covered g (demand_cell d k p) kept;
        ceiling = ceiling_left p.ceiling (covered g (demand_cell d k p) kept);
      } ∷ periods_left (k + 1) ps

  ceiling_few : (ceiling n : ℕ) → ceiling ≤ 64 → ceiling_left ceiling n ≤ 64
  ceiling_few ceiling n h = by (nat_eq ceiling 64)
    where
      by : (b : Bool) → cond b 64 (ceiling - n) ≤ 64
      by true = omega arith
      by false = omega (arith, h)

  periods_fine : (k : ℕ) (ps : List PeriodDemand) → Each IsPeriodDemand ps → Each IsPeriodDemand (periods_left k ps)
  periods_fine k [] h = tt
  periods_fine k (p ∷ ps) h = (
    record {
      need = omega (arith, h.0.need);
      floor = omega (arith, h.0.floor);
      ceiling = ceiling_few p.ceiling (covered g (demand_cell d k p) kept) h.0.ceiling;
    },
    periods_fine (k + 1) ps h.1,
  )

  length-periods_left : (k : ℕ) (ps : List PeriodDemand) → length (periods_left k ps) ≡ length ps
  length-periods_left k [] = refl
  length-periods_left k (p ∷ ps) = omega (arith, length-periods_left (k + 1) ps)

  abbrev demand_left : Demand
  demand_left = record d { periods = periods_left 1 d.periods }

  cells_are : (k : ℕ) (ps : List PeriodDemand) → map (cell_left g kept) (cells_from d k ps) ≡ cells_from demand_left k (periods_left k ps)
  cells_are k [] = refl
  cells_are k (p ∷ ps) = ap (λ (cs : List Cell). cell_left g kept (demand_cell d k p) ∷ cs) (cells_are (k + 1) ps)

map_append : {A B : Type 0} (f : A → B) (xs ys : List A) → map f (xs ++ ys) ≡ map f xs ++ map f ys
map_append f [] ys = refl
map_append f (x ∷ xs) ys = ap (λ zs. f x ∷ zs) (map_append f xs ys)

module _ (g r : Grammar) (kept : List Duty) (codes : r.codes ≡ g.codes) (periods : r.periods ≡ g.periods) where
  all_are : (ds : List Demand) → map (cell_left g kept) (all_cells ds) ≡ all_cells (map (demand_left g kept) ds)
  all_are [] = refl
  all_are (d ∷ ds) =
      map_append (cell_left g kept) (demand_cells d) (all_cells ds)
      ∙ ap (λ (cs : List Cell). cs ++ map (cell_left g kept) (all_cells ds)) (cells_are g kept d 1 d.periods)
      ∙ ap (λ (cs : List Cell). demand_cells (demand_left g kept d) ++ cs) (all_are ds)

  demands_fine : (ds : List Demand) → Each (IsDemand g) ds → Each (IsDemand r) (map (demand_left g kept) ds)
  demands_fine [] h = tt
  demands_fine (d ∷ ds) h = (
    record {
      work = (h.0.work.0, ap (λ (cs : List CodeDef). slice_get cs d.code) codes ∙ h.0.work.1, h.0.work.2);
      under = h.0.under;
      over = h.0.over;
      whole = length-periods_left g kept d 1 d.periods ∙ h.0.whole ∙ sym periods;
      each = periods_fine g kept d 1 d.periods h.0.each;
    },
    demands_fine ds h.1,
  )

  others_left : (code : ℕ) (ds : List Demand) → Each (λ (e : Demand). e.code ≢ code) ds → Each (λ (e : Demand). e.code ≢ code) (map (demand_left g kept) ds)
  others_left code [] h = tt
  others_left code (d ∷ ds) h = (h.0, others_left code ds h.1)

  once_left : (ds : List Demand) → AreOnce ds → AreOnce (map (demand_left g kept) ds)
  once_left [] h = tt
  once_left (d ∷ ds) h = (others_left d.code ds h.0, once_left ds h.1)

  cells_sound : (cells : List Cell) → AreCells g cells → AreCells r (map (cell_left g kept) cells)
  cells_sound cells h = record {
    demands = map (demand_left g kept) h.demands;
    each = demands_fine h.demands h.each;
    once = once_left h.demands h.once;
    made = ap (map (cell_left g kept)) h.made ∙ all_are h.demands;
  }

-- ---- groups

module _ (kept : List Duty) where
  left_fine : (names k : ℕ) (gs : List Group) → All (IsGroup names) gs → All (IsGroup names) (groups_left k kept gs)
  left_fine names k [] h = All-nil (IsGroup names)
  left_fine names k (x ∷ gs) h = by (nat_eq (x.heads_max - kept_of k kept) 0) (eqb_tells (x.heads_max - kept_of k kept) 0) refl (left_fine names (k + 1) gs (All-tail (IsGroup names) x gs h))
    where
      own : IsGroup names x
      own = All-head (IsGroup names) x gs h

      by : (b : Bool) → ((nat_eq (x.heads_max - kept_of k kept) 0 ≡ true) × (x.heads_max - kept_of k kept ≡ 0)) ⊎ ((nat_eq (x.heads_max - kept_of k kept) 0 ≡ false) × (x.heads_max - kept_of k kept ≢ 0))
          → nat_eq (x.heads_max - kept_of k kept) 0 ≡ b
          → All (IsGroup names) (groups_left (k + 1) kept gs) → All (IsGroup names) (cond b (groups_left (k + 1) kept gs) (group_left k kept x ∷ groups_left (k + 1) kept gs))
      by true q e rest = rest
      by false (inl p) e rest = let f : true ≡ false = sym p.0 ∙ e in cc
      by false (inr p) e rest = All-cons (IsGroup names) (group_left k kept x) (groups_left (k + 1) kept gs)
          (record { name = own.name; order = omega (arith, own.order); some = omega (arith, p.1) }) rest

  pub left_few : (k : ℕ) (gs : List Group) → length (groups_left k kept gs) ≤ length gs
  left_few k [] = omega arith
  left_few k (x ∷ gs) = by (nat_eq (x.heads_max - kept_of k kept) 0) (left_few (k + 1) gs)
    where
      by : (b : Bool) → length (groups_left (k + 1) kept gs) ≤ length gs → length (cond b (groups_left (k + 1) kept gs) (group_left k kept x ∷ groups_left (k + 1) kept gs)) ≤ length (x ∷ gs)
      by true h = omega (arith, h)
      by false h = omega (arith, h)

  pub most_less : (k : ℕ) (gs : List Group) → most_heads (groups_left k kept gs) ≤ most_heads gs
  most_less k [] = omega arith
  most_less k (x ∷ gs) = by (nat_eq (x.heads_max - kept_of k kept) 0) (most_less (k + 1) gs)
    where
      by : (b : Bool) → most_heads (groups_left (k + 1) kept gs) ≤ most_heads gs → most_heads (cond b (groups_left (k + 1) kept gs) (group_left k kept x ∷ groups_left (k + 1) kept gs)) ≤ most_heads (x ∷ gs)
      by true h = omega (arith, h)
      by false h = omega (arith, h)

  pub least_less : (k : ℕ) (gs : List Group) → least_heads (groups_left k kept gs) ≤ least_heads gs
  least_less k [] = omega arith
  least_less k (x ∷ gs) = by (nat_eq (x.heads_max - kept_of k kept) 0) (least_less (k + 1) gs)
    where
      by : (b : Bool) → least_heads (groups_left (k + 1) kept gs) ≤ least_heads gs → least_heads (cond b (groups_left (k + 1) kept gs) (group_left k kept x ∷ groups_left (k + 1) kept gs)) ≤ least_heads (x ∷ gs)
      by true h = omega (arith, h)
      by false h = omega (arith, h)

-- somebody is left of some group
some_left : (gs : List Group) → 1 ≤ most_heads gs → 1 ≤ length gs
some_left [] h = omega (arith, h)
some_left (x ∷ gs) h = omega arith

-- ---- days

abbrev IsSoundLeft : Grammar → List Duty → Instance → Type 0
IsSoundLeft g kept i = i.grammar ≡ day_grammar g i.groups → IsSoundInstance i → 1 ≤ (remaining g i kept).heads_max → IsSoundInstance (remaining g i kept)

-- what groups make of an instance: the parts are those of its groups
made_groups : (r : Instance) (g : Grammar) (ls : List Group) → r.groups ≡ ls → 1 ≤ length ls → IsSound g → IsPlain g → AreGroups (length g.names) ls
    → r.grammar ≡ extended g ls → r.heads_min ≡ least_heads ls → r.heads_max ≡ most_heads ls → most_heads ls ≤ 64 → 1 ≤ most_heads ls → AreCells r.grammar r.cells → IsSoundInstance r
made_groups r g [] e n sound plain are eg least most few some cells = absurd (omega (arith, n))
made_groups r g (x ∷ ls) e n sound plain are eg least most few some cells = record {
  grammar = subst IsSound (sym eg) (extension_sound g (x ∷ ls) sound plain are (omega arith));
  order = omega (arith, least, most, in_order (length g.names) (x ∷ ls) are.each);
  some = omega (arith, most, some);
  few = omega (arith, most, few);
  groups = subst (HasGroups r) (sym e) (
    g,
    record {
      sound = sound;
      plain = plain;
      groups = subst (AreGroups (length g.names)) (sym e) are;
      grammar = eg ∙ ap (extended g) (sym e);
      least = least ∙ ap least_heads (sym e);
      most = most ∙ ap most_heads (sym e);
    },
  );
  cells = cells;
}

module _ (g : Grammar) (sound : IsSound g) (plain : IsPlain g) (kept : List Duty) where
  lone_sound : (i : Instance) → IsSoundLeft g kept (record i { groups = [] })
  lone_sound i by day some = record {
    grammar = sound;
    order = omega (arith, day.order);
    some = some;
    few = omega (arith, day.few);
    groups = plain;
    cells = cells_sound i.grammar g kept (ap (λ (q : Grammar). q.codes) (sym by)) (ap (λ (q : Grammar). q.periods) (sym by)) i.cells day.cells;
  }

  grouped_sound : (i : Instance) (x : Group) (xs : List Group) → IsSoundLeft g kept (record i { groups = x ∷ xs })
  grouped_sound i x xs by day some =
      let gs : List Group = x ∷ xs in
      let j : Instance = record i { groups = gs } in
      let ls : List Group = groups_left 1 kept gs in
      let r : Instance = remaining g j kept in
      let rules : r.grammar ≡ extended g ls = day_some g ls some in
      let b : Grammar = day.groups.0 in
      let names : length b.names ≡ length g.names = sym (ap (λ (q : Grammar). q.start) day.groups.1.grammar) ∙ ap (λ (q : Grammar). q.start) by in
      let are : AreGroups (length g.names) gs = subst (λ (n : ℕ). AreGroups n gs) names day.groups.1.groups in
      let left : AreGroups (length g.names) ls = record {
        few = omega (arith, left_few kept 1 gs, are.few);
        each = left_fine kept (length g.names) 1 gs are.each;
        apart = apart_left kept 1 gs are.apart;
      } in
      let codes : r.grammar.codes ≡ i.grammar.codes = ap (λ (q : Grammar). q.codes) rules ∙ sym (ap (λ (q : Grammar). q.codes) by) in
      let periods : r.grammar.periods ≡ i.grammar.periods = ap (λ (q : Grammar). q.periods) rules ∙ sym (ap (λ (q : Grammar). q.periods) by) in
      made_groups r g ls refl (some_left ls some) sound plain left rules refl refl (omega (arith, most_less kept 1 gs, day.groups.1.most, day.few)) some
      (cells_sound i.grammar r.grammar kept codes periods i.cells day.cells)

  pub sound-left : (i : Instance) → IsSoundLeft g kept i
  sound-left i = by i.groups
    where
      by : (gs : List Group) → IsSoundLeft g kept (record i { groups = gs })
      by [] = lone_sound i
      by (x ∷ xs) = grouped_sound i x xs
