-- Plans and forecasts that fit a grammar: what makes their draft one of it.
use Rattle.std.specs.Prelude.{ℕ, ◌≡◌, ◌≢◌, ◌≤◌, ◌<◌, List, [], ◌∷◌, IfSome, length}
use Rattle.model_rosters.specs.declared.grammar.Grammar.{Grammar}
use Rattle.model_rosters.specs.Demands.{IsWork}
use Rattle.model_rosters.specs.Folds.{Each, sum_n}
use Rattle.plan_meaning.specs.declared.forecast.Forecast.{Forecast}
use Rattle.plan_meaning.specs.declared.plan.Need as plan
use Rattle.plan_meaning.specs.declared.plan.Plan.{Plan}
use Rattle.plan_meaning.specs.declared.plan.Staff.{Staff}
use Rattle.plan_meaning.specs.Times.{periods}
use Rattle.plan_forecast.specs.Sound.{IsSmallColumn}
use Rattle.plan_demand.specs.Demands.{IsSmallNeed, code_place, name_place}

-- a staff line within the limits, whose name is one of the grammar
pub record IsStaffed (g : Grammar) (s : Staff) : Type 0 where
  pub name : IfSome s.name (λ (name : List ℕ). name_place g name < length g.names)
  pub order : s.least ≤ s.greatest
  pub some : 1 ≤ s.greatest
  pub few : s.greatest ≤ 64

-- the names of two staff lines differ, where both have one
abbrev pub DifferInName : Staff → Staff → Type 0
DifferInName s t = IfSome s.name (λ (a : List ℕ). IfSome t.name (λ (b : List ℕ). a ≢ b))

abbrev pub AreNamedApart : List Staff → Type 0
AreNamedApart [] = Unit {0}
AreNamedApart (s ∷ ss) = Each (DifferInName s) ss × AreNamedApart ss

abbrev pub AreNeedsApart : List plan.Need → Type 0
AreNeedsApart [] = Unit {0}
AreNeedsApart (n ∷ ns) = Each (λ (m : plan.Need). m.code ≢ n.code) ns × AreNeedsApart ns

-- the grammar has the plan's periods, codes of work and names, and all numbers are within the limits
pub record IsDemandPlan (g : Grammar) (p : Plan) (f : Forecast) : Type 0 where
  pub periods : g.periods ≡ periods p
  pub staff : Each (IsStaffed g) p.staff
  pub few : length p.staff ≤ 8
  pub together : sum_n (λ (s : Staff). s.greatest) p.staff ≤ 64
  pub names : AreNamedApart p.staff
  pub small : Each (IsSmallNeed p) p.needs
  pub work : Each (λ (n : plan.Need). IsWork g (code_place g n.code)) p.needs
  pub apart : AreNeedsApart p.needs
  pub columns : Each IsSmallColumn f.columns
