-- The relaxed day of a sound day is sound.
use Rattle.std.proofs.Common.{◌≡◌, ℕ, ◌+◌, ◌≤◌, List, [], ◌∷◌, ◌++◌, refl, sym, ap, subst, ◌∙◌, arith, length, map}
use Rattle.std.specs.Prelude.{◌≢◌}
use Rattle.std.proofs.lemmas.List.{map-append}
use Rattle.model_rosters.specs.declared.grammar.Grammar.{Grammar}
use Rattle.model_rosters.specs.declared.instance.Cell.{Cell}
use Rattle.model_rosters.specs.declared.instance.Group.{Group}
use Rattle.model_rosters.specs.declared.instance.Instance.{Instance}
use Rattle.model_rosters.specs.Demands.{PeriodDemand, Demand, cells_from, demand_cells, all_cells, IsPeriodDemand, IsDemand, AreOnce, AreCells}
use Rattle.model_rosters.specs.Folds.{Each}
use Rattle.model_rosters.specs.SoundInstance.{IsSoundInstance, HasGroups, IsGroupedBy}
use Rattle.text_relaxed_days.specs.declared.kind.Kind.{Kind}
use Rattle.text_relaxed_days.specs.declared.kind.Kind.TheVariants.{Floors, Ceilings}
use Rattle.text_relaxed_days.specs.FreeRules.{free_rules}
use Rattle.text_relaxed_days.specs.Relaxed.{relaxed_cell, relaxed_demand, relaxed}
use Rattle.text_relaxed_days.proofs.FreeSound.{sound-free, plain-free, extended-free}

-- what is asked of a period
abbrev relaxed_period : Kind → PeriodDemand → PeriodDemand
relaxed_period Floors p = record { need = p.floor; floor = 0; ceiling = p.ceiling }
relaxed_period Ceilings p = record { need = p.ceiling; floor = p.floor; ceiling = 64 }

-- what is asked of a code
abbrev relaxed_code : Kind → Demand → Demand
relaxed_code Floors d = record { code = d.code; under = 1; over = 0; periods = map (relaxed_period Floors) d.periods }
relaxed_code Ceilings d = record { code = d.code; under = 0; over = 1; periods = map (relaxed_period Ceilings) d.periods }

period_fine : (kind : Kind) (ps : List PeriodDemand) → Each IsPeriodDemand ps → Each IsPeriodDemand (map (relaxed_period kind) ps)
period_fine kind [] h = tt
period_fine Floors (p ∷ ps) h = (record { need = h.0.floor; floor = omega arith; ceiling = h.0.ceiling }, period_fine Floors ps h.1)
period_fine Ceilings (p ∷ ps) h = (record { need = h.0.ceiling; floor = h.0.floor; ceiling = omega arith }, period_fine Ceilings ps h.1)

length-periods : (kind : Kind) (ps : List PeriodDemand) → length (map (relaxed_period kind) ps) ≡ length ps
length-periods kind [] = refl
length-periods kind (p ∷ ps) = omega (arith, length-periods kind ps)

cells_are : (kind : Kind) (d : Demand) (k : ℕ) (ps : List PeriodDemand)
    → map (relaxed_cell kind) (cells_from d k ps) ≡ cells_from (relaxed_code kind d) k (map (relaxed_period kind) ps)
cells_are kind d k [] = refl
cells_are Floors d k (p ∷ ps) = rw (cells_are Floors d (k + 1) ps) refl
cells_are Ceilings d k (p ∷ ps) = rw (cells_are Ceilings d (k + 1) ps) refl

demand_are : (kind : Kind) (d : Demand) → map (relaxed_cell kind) (demand_cells d) ≡ demand_cells (relaxed_code kind d)
demand_are Floors d = cells_are Floors d 1 d.periods
demand_are Ceilings d = cells_are Ceilings d 1 d.periods

all_are : (kind : Kind) (ds : List Demand) → map (relaxed_cell kind) (all_cells ds) ≡ all_cells (map (relaxed_code kind) ds)
all_are kind [] = refl
all_are kind (d ∷ ds) =
    map-append (relaxed_cell kind) (demand_cells d) (all_cells ds)
    ∙ ap (λ (cs : List Cell). cs ++ map (relaxed_cell kind) (all_cells ds)) (demand_are kind d)
    ∙ ap (λ (cs : List Cell). demand_cells (relaxed_code kind d) ++ cs) (all_are kind ds)

module _ (g r : Grammar) (codes : r.codes ≡ g.codes) (periods : r.periods ≡ g.periods) where
  demand_fine : (kind : Kind) (d : Demand) → IsDemand g d → IsDemand r (relaxed_code kind d)
  demand_fine Floors d h = record {
    work = (h.work.0, rw codes h.work.1, h.work.2);
    under = omega arith;
    over = omega arith;
    whole = length-periods Floors d.periods ∙ h.whole ∙ sym periods;
    each = period_fine Floors d.periods h.each;
  }
  demand_fine Ceilings d h = record {
    work = (h.work.0, rw codes h.work.1, h.work.2);
    under = omega arith;
    over = omega arith;
    whole = length-periods Ceilings d.periods ∙ h.whole ∙ sym periods;
    each = period_fine Ceilings d.periods h.each;
  }

  demands_fine : (kind : Kind) (ds : List Demand) → Each (IsDemand g) ds → Each (IsDemand r) (map (relaxed_code kind) ds)
  demands_fine kind [] h = tt
  demands_fine kind (d ∷ ds) h = (demand_fine kind d h.0, demands_fine kind ds h.1)

  same_code : (kind : Kind) (d : Demand) → (relaxed_code kind d).code ≡ d.code
  same_code Floors d = refl
  same_code Ceilings d = refl

  others : (kind : Kind) (code : ℕ) (ds : List Demand) → Each (λ (e : Demand). e.code ≢ code) ds → Each (λ (e : Demand). e.code ≢ code) (map (relaxed_code kind) ds)
  others kind code [] h = tt
  others kind code (d ∷ ds) h = ((λ e. h.0 (sym (same_code kind d) ∙ e)), others kind code ds h.1)

  once : (kind : Kind) (ds : List Demand) → AreOnce ds → AreOnce (map (relaxed_code kind) ds)
  once kind [] h = tt
  once kind (d ∷ ds) h =
      (subst (λ (c : ℕ). Each (λ (e : Demand). e.code ≢ c) (map (relaxed_code kind) ds)) (sym (same_code kind d)) (others kind d.code ds h.0), once kind ds h.1)

  cells_sound : (kind : Kind) (cells : List Cell) → AreCells g cells → AreCells r (map (relaxed_cell kind) cells)
  cells_sound kind cells h = record {
    demands = map (relaxed_code kind) h.demands;
    each = demands_fine kind h.demands h.each;
    once = once kind h.demands h.once;
    made = ap (map (relaxed_cell kind)) h.made ∙ all_are kind h.demands;
  }

pub demand-sound : (kind : Kind) (i : Instance) → IsSoundInstance i → IsSoundInstance (relaxed_demand kind i)
demand-sound kind i h = record {
  grammar = h.grammar;
  order = h.order;
  some = h.some;
  few = h.few;
  groups = by i.groups refl h.groups;
  cells = cells_sound i.grammar i.grammar refl refl kind i.cells h.cells;
}
  where
    by : (gs : List Group) → i.groups ≡ gs → HasGroups i gs → HasGroups (relaxed_demand kind i) gs
    by [] e k = k
    by (x ∷ gs) e k = (
      k.0,
      record {
        sound = k.1.sound;
        plain = k.1.plain;
        groups = k.1.groups;
        grammar = k.1.grammar;
        least = k.1.least;
        most = k.1.most;
      },
    )

pub relaxed-sound : (kind : Kind) (i : Instance) → IsSoundInstance i → IsSoundInstance (relaxed kind i)
relaxed-sound kind i h = record {
  grammar = sound-free i.grammar h.grammar;
  order = h.order;
  some = h.some;
  few = h.few;
  groups = by i.groups refl h.groups;
  cells = cells_sound i.grammar (free_rules i.grammar) refl refl kind i.cells h.cells;
}
  where
    by : (gs : List Group) → i.groups ≡ gs → HasGroups i gs → HasGroups (relaxed kind i) gs
    by [] e k = plain-free i.grammar k
    by (x ∷ gs) e k = (
      free_rules k.0,
      record {
        sound = sound-free k.0 k.1.sound;
        plain = plain-free k.0 k.1.plain;
        groups = k.1.groups;
        grammar = ap free_rules k.1.grammar ∙ extended-free k.0 i.groups;
        least = k.1.least;
        most = k.1.most;
      },
    )
