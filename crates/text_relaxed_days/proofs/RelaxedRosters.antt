-- The shifts, heads and cells of rosters of a day and of its relaxed day.
use Rattle.std.proofs.Common.{◌≡◌, ℕ, ◌+◌, ◌-◌, ◌*◌, ◌≤◌, List, [], ◌∷◌, refl, sym, ap, subst, ◌∙◌, arith, length, map}
use Rattle.model_rosters.specs.declared.instance.Cell.{Cell}
use Rattle.model_rosters.specs.declared.instance.Instance.{Instance}
use Rattle.model_rosters.specs.Coverage.{covered, covers_cell, penalty, IsWithinCell}
use Rattle.model_rosters.specs.Duties.{Duty}
use Rattle.model_rosters.specs.Folds.{sum_n, Each, In}
use Rattle.model_rosters.specs.Rosters.{ArePrices, HasHeads, IsTeamPrice}
use Rattle.model_rosters.specs.Sound.{IsSound}
use Rattle.model_rosters.specs.SoundInstance.{IsSoundInstance}
use Rattle.model_rosters.specs.Teams.{Team, teams, teams_of, teams_from}
use Rattle.model_rosters.proofs.arc_laws.FoldsLemmas.{count-le-length}
use Rattle.law_bounds.proofs.RosterTrees.{in_teams, heads}
use Rattle.law_bounds.proofs.SoundReady.{ready}
use Rattle.law_bounds.specs.least_values.Laws.{HaveLeastSums}
use Rattle.text_relaxed_days.specs.declared.kind.Kind.{Kind}
use Rattle.text_relaxed_days.specs.declared.kind.Kind.TheVariants.{Floors, Ceilings}
use Rattle.text_relaxed_days.specs.FreeRules.{free_rules}
use Rattle.text_relaxed_days.specs.Relaxed.{relaxed_cell, relaxed}
use Rattle.text_relaxed_days.specs.Rosters.{IsTeamShift, IsWithinOther, amiss}
use Rattle.text_relaxed_days.proofs.FreeTrees.{free-price, price-free, has-price}
use Rattle.text_relaxed_days.proofs.RelaxedSound.{relaxed-sound}

-- ---- shifts

-- shifts and the sum of their prices
pub record AreShiftsAt (i : Instance) (ds : List Duty) (paid : ℕ) : Type 0 where
  pub prices : List ℕ
  pub priced : ArePrices i ds prices
  pub sum : sum_n (λ p. p) prices ≡ paid

-- each word has a price
pub priced : HaveLeastSums → (i : Instance) → IsSound i.grammar → (ds : List Duty) → Each (IsTeamShift i) ds → (prices : List ℕ) × ArePrices i ds prices
priced sums i sound [] h = ([], tt)
priced sums i sound (d ∷ ds) h =
    let p = has-price sums i.grammar h.0.team.name d.word sound h.0.shift in
    let rest = priced sums i sound ds h.1 in
    (p.0 ∷ rest.0, (record { team = h.0.team; listed = h.0.listed; numbered = h.0.numbered; priced = p.1 }, rest.1))

module _ (i : Instance) where
  -- what has a price is a shift
  pub shifts : (ds : List Duty) (prices : List ℕ) → ArePrices i ds prices → Each (IsTeamShift i) ds
  shifts [] [] h = tt
  shifts [] (p ∷ ps) h = absurd h
  shifts (d ∷ ds) [] h = absurd h
  shifts (d ∷ ds) (p ∷ ps) h = (
    record {
      team = h.0.team;
      listed = h.0.listed;
      numbered = h.0.numbered;
      shift = (h.0.priced.attained.0, h.0.priced.attained.1);
    },
    shifts ds ps h.1,
  )

module _ (kind : Kind) (i : Instance) where
  same_teams : teams (relaxed kind i) ≡ teams i
  same_teams = by i.groups
    where
      by : (gs : List _) → teams_of (relaxed kind i) gs ≡ teams_of i gs
      by [] = refl
      by (g ∷ gs) = refl

  pub heads-same : (ds : List Duty) → Each (HasHeads ds) (teams (relaxed kind i)) → Each (HasHeads ds) (teams i)
  heads-same ds h = subst (λ (ts : List Team). Each (HasHeads ds) ts) same_teams h

  pub heads-again : (ds : List Duty) → Each (HasHeads ds) (teams i) → Each (HasHeads ds) (teams (relaxed kind i))
  heads-again ds h = subst (λ (ts : List Team). Each (HasHeads ds) ts) (sym same_teams) h

  one_free : (d : Duty) → IsTeamShift i d → IsTeamPrice (relaxed kind i) d 0
  one_free d h = record {
    team = h.team;
    listed = subst (λ (ts : List Team). In h.team ts) (sym same_teams) h.listed;
    numbered = h.numbered;
    priced = free-price i.grammar h.team.name d.word h.shift;
  }

  one_shift : (d : Duty) (p : ℕ) → IsTeamPrice (relaxed kind i) d p → IsTeamShift i d × (p ≡ 0)
  one_shift d p h =
      let k = price-free i.grammar h.team.name d.word p h.priced in (
        record {
          team = h.team;
          listed = subst (λ (ts : List Team). In h.team ts) same_teams h.listed;
          numbered = h.numbered;
          shift = k.0;
        },
        k.1,
      )

  -- the shifts cost nothing on the relaxed day
  pub free-shifts : (ds : List Duty) → Each (IsTeamShift i) ds → AreShiftsAt (relaxed kind i) ds 0
  free-shifts [] h = record { prices = []; priced = tt; sum = refl }
  free-shifts (d ∷ ds) h =
      let rest = free-shifts ds h.1 in
      record { prices = 0 ∷ rest.prices; priced = (one_free d h.0, rest.priced); sum = omega (arith, rest.sum) }

  pub shifts-free : (ds : List Duty) (prices : List ℕ) → ArePrices (relaxed kind i) ds prices → Each (IsTeamShift i) ds × (sum_n (λ p. p) prices ≡ 0)
  shifts-free [] [] h = (tt, refl)
  shifts-free [] (p ∷ ps) h = absurd h
  shifts-free (d ∷ ds) [] h = absurd h
  shifts-free (d ∷ ds) (p ∷ ps) h =
      let own = one_shift d p h.0 in
      let rest = shifts-free ds ps h.1 in
      ((own.0, rest.0), omega (arith, own.1, rest.1))

-- ---- a roster has at most 64 shifts

sum_most : (ts : List Team) (ds : List Duty) → Each (HasHeads ds) ts → in_teams ts ds ≤ sum_n (λ (t : Team). t.most) ts
sum_most [] ds h = omega arith
sum_most (t ∷ ts) ds h = omega (arith, h.0.most, sum_most ts ds h.1)

few_shifts : (i : Instance) → IsSoundInstance i → (ds : List Duty) (ps : List ℕ) → ArePrices i ds ps → Each (HasHeads ds) (teams i) → length ds ≤ 64
few_shifts i sound ds ps prices h =
    let all = heads i (ready i sound) ds ps prices in
    let most = sum_most (teams i) ds h in
    omega (arith, all, most, (ready i sound).most, sound.few)

-- so at most 64 work at a cell
pub few-covered : (kind : Kind) (i : Instance) → IsSoundInstance i → (ds : List Duty) → Each (IsTeamShift i) ds → Each (HasHeads ds) (teams i) → (c : Cell) → covered i.grammar c ds ≤ 64
few-covered kind i sound ds h k c =
    let free = free-shifts kind i ds h in
    let few = few_shifts (relaxed kind i) (relaxed-sound kind i sound) ds free.prices free.priced (heads-again kind i ds k) in
    omega (arith, few, count-le-length (λ (d : Duty). covers_cell i.grammar c d.word) ds)

-- ---- cells

module _ (i : Instance) (ds : List Duty) where
  -- how many employees work at a cell
  abbrev there : Cell → ℕ
  there c = covered i.grammar c ds

  cell_back : (kind : Kind) (c : Cell) → IsWithinCell (relaxed_cell kind c) (covered (free_rules i.grammar) (relaxed_cell kind c) ds) → IsWithinOther kind c (there c)
  cell_back Floors c h = h.ceiling
  cell_back Ceilings c h = h.floor

  pub cells-back : (kind : Kind) (cs : List Cell)
      → Each (λ (c : Cell). IsWithinCell c (covered (free_rules i.grammar) c ds)) (map (relaxed_cell kind) cs)
      → Each (λ (c : Cell). IsWithinOther kind c (there c)) cs
  cells-back kind [] h = tt
  cells-back kind (c ∷ cs) h = (cell_back kind c h.0, cells-back kind cs h.1)

  cell_on : (kind : Kind) (c : Cell) → there c ≤ 64 → IsWithinOther kind c (there c) → IsWithinCell (relaxed_cell kind c) (covered (free_rules i.grammar) (relaxed_cell kind c) ds)
  cell_on Floors c few h = record { floor = omega arith; ceiling = h }
  cell_on Ceilings c few h = record { floor = h; ceiling = few }

  pub cells-on : (kind : Kind) (cs : List Cell) → ((c : Cell) → there c ≤ 64)
      → Each (λ (c : Cell). IsWithinOther kind c (there c)) cs
      → Each (λ (c : Cell). IsWithinCell c (covered (free_rules i.grammar) c ds)) (map (relaxed_cell kind) cs)
  cells-on kind [] few h = tt
  cells-on kind (c ∷ cs) few h = (cell_on kind c (few c) h.0, cells-on kind cs few h.1)

  -- the penalty of a relaxed cell is what is amiss there
  cell_cost : (kind : Kind) (c : Cell) → penalty (relaxed_cell kind c) (covered (free_rules i.grammar) (relaxed_cell kind c) ds) ≡ amiss kind c (there c)
  cell_cost Floors c = omega arith
  cell_cost Ceilings c = omega arith

  pub cells-cost : (kind : Kind) (cs : List Cell)
      → sum_n (λ (c : Cell). penalty c (covered (free_rules i.grammar) c ds)) (map (relaxed_cell kind) cs) ≡ sum_n (λ (c : Cell). amiss kind c (there c)) cs
  cells-cost kind [] = refl
  cells-cost kind (c ∷ cs) = omega (arith, cell_cost kind c, cells-cost kind cs)

  -- within both bounds is within one, with nothing amiss of the other
  both : (kind : Kind) (c : Cell) → IsWithinOther kind c (there c) → amiss kind c (there c) ≡ 0 → IsWithinCell c (there c)
  both Floors c h e = record { floor = omega (arith, e); ceiling = h }
  both Ceilings c h e = record { floor = h; ceiling = omega (arith, e) }

  pub all-both : (kind : Kind) (cs : List Cell) → Each (λ (c : Cell). IsWithinOther kind c (there c)) cs
      → sum_n (λ (c : Cell). amiss kind c (there c)) cs ≡ 0 → Each (λ (c : Cell). IsWithinCell c (there c)) cs
  all-both kind [] h e = tt
  all-both kind (c ∷ cs) h e = (both kind c h.0 (omega (arith, e)), all-both kind cs h.1 (omega (arith, e)))

  one : (kind : Kind) (c : Cell) → IsWithinCell c (there c) → IsWithinOther kind c (there c) × (amiss kind c (there c) ≡ 0)
  one Floors c h = (h.ceiling, omega (arith, h.floor))
  one Ceilings c h = (h.floor, omega (arith, h.ceiling))

  pub all-one : (kind : Kind) (cs : List Cell) → Each (λ (c : Cell). IsWithinCell c (there c)) cs
      → Each (λ (c : Cell). IsWithinOther kind c (there c)) cs × (sum_n (λ (c : Cell). amiss kind c (there c)) cs ≡ 0)
  all-one kind [] h = (tt, refl)
  all-one kind (c ∷ cs) h =
      let own = one kind c h.0 in
      let rest = all-one kind cs h.1 in
      ((own.0, rest.0), omega (arith, own.1, rest.1))
