-- On a day without groups, floors and ceilings an allowed roster is a list of shifts in the heads' range.
use Rattle.std.proofs.Common.{◌≡◌, ℕ, arith, List, [], ◌∷◌, length, sym, refl, ap, subst, ◌∙◌, inl, inr}
use Rattle.std.proofs.lemmas.Bool.{eq-eqb}
use Rattle.model_rosters.specs.declared.instance.Group.{Group}
use Rattle.model_rosters.specs.declared.instance.Instance.{Instance}
use Rattle.model_rosters.specs.Folds.{count, Each, In}
use Rattle.model_rosters.specs.Duties.{Duty}
use Rattle.model_rosters.specs.Shifts.{IsPrice}
use Rattle.model_rosters.specs.Teams.{Team, teams, teams_of}
use Rattle.model_rosters.specs.Coverage.{covers_cell}
use Rattle.model_rosters.specs.Rosters.{ArePrices, is_in_team, HasHeads, IsRoster}
use Rattle.model_rosters.specs.SoundInstance.{IsSoundInstance}
use Rattle.model_rosters.proofs.EachLemmas.{Each-weaker}
use Rattle.model_rosters.proofs.arc_laws.FoldsLemmas.{count-le-length}
use Rattle.law_bounds.specs.Plain.{IsFree, IsPlainDay, AreShifts, IsPlainRoster}

-- the one team of the day
abbrev pub day_team : Instance → Team
day_team i = record { number = 0; name = i.grammar.start; least = i.heads_min; most = i.heads_max }

pub one-team : (i : Instance) → i.groups ≡ [] → teams i ≡ day_team i ∷ []
one-team i none = ap (λ (gs : List Group). teams_of i gs) none

pub only-team : (i : Instance) (t : Team) → i.groups ≡ [] → In t (teams i) → t ≡ day_team i
only-team i t none h = pick (subst (λ (ts : List Team). In t ts) (one-team i none) h)
  where
    pick : In t (day_team i ∷ []) → t ≡ day_team i
    pick (inl e) = e
    pick (inr k) = absurd k

module _ (i : Instance) (none : i.groups ≡ []) where
  to_shifts : (ds : List Duty) (ps : List ℕ) → ArePrices i ds ps → AreShifts i ds ps
  to_shifts [] [] h = tt
  to_shifts [] (p ∷ ps) h = h
  to_shifts (d ∷ ds) [] h = h
  to_shifts (d ∷ ds) (p ∷ ps) h =
      let same = only-team i h.0.team none h.0.listed in
      (sym h.0.numbered ∙ ap (λ (t : Team). t.number) same, subst (λ (t : Team). IsPrice i.grammar t.name d.word p) same h.0.priced, to_shifts ds ps h.1)

  to_prices : (ds : List Duty) (ps : List ℕ) → AreShifts i ds ps → ArePrices i ds ps
  to_prices [] [] h = tt
  to_prices [] (p ∷ ps) h = h
  to_prices (d ∷ ds) [] h = h
  to_prices (d ∷ ds) (p ∷ ps) h =
      (record { team = day_team i; listed = subst (λ (ts : List Team). In (day_team i) ts) (sym (one-team i none)) (inl refl); numbered = sym h.0; priced = h.1 }, to_prices ds ps h.2)

  -- all employees are of the one team
  all_in : (ds : List Duty) (ps : List ℕ) → AreShifts i ds ps → count (is_in_team (day_team i)) ds ≡ length ds
  all_in [] [] h = refl
  all_in [] (p ∷ ps) h = absurd h
  all_in (d ∷ ds) [] h = absurd h
  all_in (d ∷ ds) (p ∷ ps) h = rw (eq-eqb d.team 0 h.0) (omega (arith, all_in ds ps h.2))

pub roster-plain : (i : Instance) (ds : List Duty) (ps : List ℕ) → IsPlainDay i → IsRoster i ds ps → IsPlainRoster i ds ps
roster-plain i ds ps day r =
    let shifts = to_shifts i day.groups ds ps r.shifts in
    let all = all_in i day.groups ds ps shifts in
    let heads = subst (λ (ts : List Team). Each (HasHeads ds) ts) (one-team i day.groups) r.heads in
    let one = heads.0 in
    record { shifts = shifts; enough = omega (arith, all, one.least); few = omega (arith, all, one.most) }

pub plain-roster : (i : Instance) (ds : List Duty) (ps : List ℕ) → IsSoundInstance i → IsPlainDay i → IsPlainRoster i ds ps → IsRoster i ds ps
plain-roster i ds ps sound day r =
    let all = all_in i day.groups ds ps r.shifts in
    let one : HasHeads ds (day_team i) = record { least = omega (arith, all, r.enough); most = omega (arith, all, r.few) } in
    record {
      shifts = to_prices i day.groups ds ps r.shifts;
      heads = subst (λ (ts : List Team). Each (HasHeads ds) ts) (sym (one-team i day.groups)) (one, tt);
      coverage = Each-weaker IsFree _ i.cells
          (λ c free. let m = count-le-length (λ (d : Duty). covers_cell i.grammar c d.word) ds in record { floor = omega (arith, free.floor); ceiling = omega (arith, m, free.ceiling, r.few, sound.few) }) day.cells;
    }
