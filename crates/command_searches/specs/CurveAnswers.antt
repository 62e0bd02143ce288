-- What `curve RULES DEMAND PROOF LIMIT` answers, and `curve RULES DEMAND PROOF LIMIT NAME`, by its statuses.
use Rattle.std.specs.Prelude.{ℕ, ◌≡◌, List, [], Option, None, Some}
use Rattle.model_rosters.specs.declared.instance.Instance.{Instance}
use Rattle.search_days.specs.declared.day_curve.staff.Staff.{Staff}
use Rattle.search_days.specs.day_curve.Named.{staff_of}
use Rattle.command_shelf.specs.Shelf.{Texts}
use Rattle.command_answers.specs.Says.{SaysDay, RefusesRules, RefusesDemand}
use Rattle.command_searches.specs.declared.limit.Limit.{Limit}
use Rattle.command_searches.specs.Curve.{SaysCurve, HasFirstPoints, MayStorePoints, SaysNoTeam}
use Rattle.command_searches.specs.Series.{Entry, End, answered, broken_off}
use Rattle.command_searches.specs.Solve.{MasterView, SaysTooManyArcs}

pub data CurveAnswers (held : Option Texts) (rules demand : List ℕ) (group : Option (List ℕ)) (proof : List ℕ)
    (m : MasterView) (limit : Limit) : End → List Entry → Type 0 where
  -- statuses 0, 1 and 8
  searched : (i : Instance) (status : ℕ) (output : List ℕ) (stored : List Entry) → SaysDay held rules demand i
      → SaysCurve i group proof m limit status output stored
      → CurveAnswers held rules demand group proof m limit (answered status output) stored
  -- statuses 6 and 7, where the text of a point is due under the name
  broken : (i : Instance) (due : List ℕ) (stored : List Entry) → SaysDay held rules demand i
      → HasFirstPoints i group proof m limit due stored
      → CurveAnswers held rules demand group proof m limit (broken_off due) stored
  rules_refused : (output : List ℕ) → RefusesRules held rules output
      → CurveAnswers held rules demand group proof m limit (answered 3 output) []
  demand_refused : (output : List ℕ) → RefusesDemand held rules demand output
      → CurveAnswers held rules demand group proof m limit (answered 4 output) []
  -- status 4 where no name is said and the day has groups, and 2 where the day has no group of the name
  no_team : (i : Instance) (status : ℕ) (output : List ℕ) → SaysDay held rules demand i → staff_of i group ≡ None
      → SaysNoTeam group status output → CurveAnswers held rules demand group proof m limit (answered status output) []
  too_many_arcs : (i : Instance) (output : List ℕ) (staff : Staff) → SaysDay held rules demand i
      → staff_of i group ≡ Some staff → SaysTooManyArcs i.grammar output
      → CurveAnswers held rules demand group proof m limit (answered 9 output) []

-- each point's certificate of the day of the rules and demand texts under two names may be stored
abbrev pub MayStoreDay : List ℕ → Option (List ℕ) → List ℕ → List ℕ → Option Texts → Type 0
MayStoreDay proof group rules demand held =
    (i : Instance) → SaysDay held rules demand i → MayStorePoints proof group i held
