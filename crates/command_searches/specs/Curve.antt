-- What `curve RULES DEMAND PROOF LIMIT` answers, and `curve RULES DEMAND PROOF LIMIT NAME`.
use Rattle.std.specs.Prelude.{ℕ, ◌≡◌, ◌≢◌, ◌<◌, ◌≤◌, ◌+◌, ◌++◌, Bool, true, false, cond, nat_eq, is_none, List, [], ◌∷◌, Option, None, Some, codes, length}
use Rattle.std.specs.Fmt.{decimal}
use Rattle.std.specs.List.{list_all}
use Rattle.command_searches.specs.declared.limit.Limit.{Limit}
use Rattle.command_searches.specs.Limits.{IsUsedUp}
use Rattle.model_rosters.specs.declared.grammar.Grammar.{Grammar}
use Rattle.model_rosters.specs.declared.instance.Instance.{Instance}
use Rattle.model_rosters.specs.declared.instance.Shift.{Shift}
use Rattle.model_rosters.specs.Folds.{Each}
use Rattle.search_primal.specs.OldRosters.{IsNoDearerThan}
use Rattle.search_days.specs.Solutions.{HasArcCount}
use Rattle.search_branch_price.specs.declared.found.Found.{Found}
use Rattle.search_days.specs.declared.day_curve.staff.Staff.{Staff}
use Rattle.search_days.specs.day_curve.Curves.{first_heads, point_count, IsNoDearer}
use Rattle.search_days.specs.day_curve.Named.{staff_of}
use Rattle.search_days.specs.day_curve.Staffs.{staff_most, with_heads}
use Rattle.search_days.specs.declared.day_curve.points.CurvePoint.{CurvePoint}
use Rattle.search_days.specs.day_curve.CurveText.{point_of, curve_text}
use Rattle.command_shelf.specs.Shelf.{Texts}
use Rattle.command_answers.specs.Readings.{IsInstanceOf, SaysDemandFault, IsGrammarOf, SaysFault}
use Rattle.command_answers.specs.Reader.{Holds, MayStore}
use Rattle.command_texts.specs.Start.{AnswersNoForm}
use Rattle.command_searches.specs.Series.{Entry, End, answered, broken_off}
use Rattle.command_searches.specs.Solve.{MasterView, lent, done_status, Finds, SaysTooManyArcs}

-- the name that a point's certificate is stored under: PROOF, a full stop and the head count
abbrev pub point_name : List ℕ → ℕ → List ℕ
point_name proof heads = proof ++ codes "." ++ decimal heads

-- a point: what was found, the text that is stored, and how many nodes the master had refused after it
pub record Point : Type 0 where
  pub found : Found
  pub stored : List ℕ
  pub refused : ℕ

-- Points from a greatest number of a team on, one for each: each is all that a search finds and stores on the day with
-- at most so many employees of the team, and it costs no more than the roster of the point before, where that is
-- allowed there. The master had refused so many nodes before the first, which was offered the kept shifts.
abbrev pub ArePoints : Instance → Staff → Bool → Limit → ℕ → ℕ → List Shift → List Point → Type 0
ArePoints i staff strict limit heads refused kept [] = Unit {0}
ArePoints i staff strict limit heads refused kept (p ∷ ps) =
    Finds (with_heads staff i heads) (lent strict refused p.refused) limit
    (done_status p.found.done) p.stored p.found
    × IsNoDearerThan (with_heads staff i heads) kept p.found.cert.cost
    × ArePoints i staff strict limit (heads + 1) p.refused p.found.cert.shifts ps

-- how many nodes the master had refused after the points
abbrev pub refused_after : ℕ → List Point → ℕ
refused_after refused [] = refused
refused_after refused (p ∷ ps) = refused_after p.refused ps

-- the shifts that are kept after the points
abbrev pub kept_after : List Shift → List Point → List Shift
kept_after kept [] = kept
kept_after kept (p ∷ ps) = kept_after p.found.cert.shifts ps

-- the texts of points from a greatest number on, under their names
abbrev pub point_entries : List ℕ → ℕ → List Point → List Entry
point_entries proof heads [] = []
point_entries proof heads (p ∷ ps) =
    record { name = point_name proof heads; text = p.stored } ∷ point_entries proof (heads + 1) ps

-- what is said of them
abbrev pub said_points : ℕ → List Point → List CurvePoint
said_points heads [] = []
said_points heads (p ∷ ps) = point_of heads p.found ∷ said_points (heads + 1) ps

abbrev pub is_same : Option ℕ → Option ℕ → Bool
is_same None None = true
is_same None (Some b) = false
is_same (Some a) None = false
is_same (Some a) (Some b) = nat_eq a b

-- the cost and the bound are one number, or both none
abbrev pub is_closed : CurvePoint → Bool
is_closed p = is_same p.cost p.bound

abbrev pub has_no_cost : CurvePoint → Bool
has_no_cost p = is_none p.cost

-- 8 where some point is not closed, else 1 where no point has a cost, and else 0
abbrev pub curve_status : List CurvePoint → ℕ
curve_status ps = cond (list_all is_closed ps) (cond (list_all has_no_cost ps) 1 0) 8

-- of two points the one with more employees at most costs no more, none being above all numbers
abbrev pub AreFalling : List CurvePoint → Type 0
AreFalling [] = Unit {0}
AreFalling (p ∷ ps) = Each (λ (q : CurvePoint). IsNoDearer q.cost p.cost) ps × AreFalling ps

-- status 0, 1 or 8: the certificate of each point is stored, and the points are said
pub record SaysCurve (i : Instance) (group : Option (List ℕ)) (proof : List ℕ) (m : MasterView) (limit : Limit)
    (status : ℕ) (output : List ℕ) (stored : List Entry) : Type 0 where
  pub staff : Staff
  pub team : staff_of i group ≡ Some staff
  pub arcs : ℕ
  pub few : HasArcCount i.grammar arcs
  -- one point for each greatest number of the team, in order
  pub points : List Point
  pub all : length points ≡ point_count staff i
  pub are : ArePoints i staff m.strict limit (first_heads staff i) m.before [] points
  pub counted : refused_after m.before points ≡ m.now
  pub stored_is : stored ≡ point_entries proof (first_heads staff i) points
  -- a point that is not closed used all its turns, where turns limit it
  pub ran_out : Each (λ (p : CurvePoint). p.bound ≢ p.cost → IsUsedUp limit p.processed)
      (said_points (first_heads staff i) points)
  pub falls : AreFalling (said_points (first_heads staff i) points)
  pub status_is : status ≡ curve_status (said_points (first_heads staff i) points)
  pub text : output ≡ curve_text group (said_points (first_heads staff i) points)

-- the search broke off behind the first points, before the text of the next one was stored
pub record HasFirstPoints (i : Instance) (group : Option (List ℕ)) (proof : List ℕ) (m : MasterView) (limit : Limit)
    (due : List ℕ) (stored : List Entry) : Type 0 where
  pub staff : Staff
  pub team : staff_of i group ≡ Some staff
  pub points : List Point
  pub fewer : length points < point_count staff i
  pub are : ArePoints i staff m.strict limit (first_heads staff i) m.before [] points
  pub stored_is : stored ≡ point_entries proof (first_heads staff i) points
  pub next : due ≡ point_name proof (first_heads staff i + length points)

-- the line of a day with groups, where no name is said
abbrev pub groups_line : List ℕ
groups_line = codes "demand: groups have no curve\n"

-- what is said of a day with groups
pub record AnswersGroups (status : ℕ) (output : List ℕ) : Type 0 where
  pub four : status ≡ 4
  pub line : output ≡ groups_line

-- what is said where there is no number to vary: that groups have no curve, or, where a name was said, that the words
-- have no form
abbrev pub SaysNoTeam : Option (List ℕ) → ℕ → List ℕ → Type 0
SaysNoTeam None status output = AnswersGroups status output
SaysNoTeam (Some name) status output = AnswersNoForm status output

-- the answers for an instance
pub data Curving (i : Instance) (group : Option (List ℕ)) (proof : List ℕ) (m : MasterView) (limit : Limit) :
    End → List Entry → Type 0 where
  found : (status : ℕ) (output : List ℕ) (stored : List Entry)
      → SaysCurve i group proof m limit status output stored
      → Curving i group proof m limit (answered status output) stored
  broken : (due : List ℕ) (stored : List Entry) → HasFirstPoints i group proof m limit due stored
      → Curving i group proof m limit (broken_off due) stored
  too_many : (output : List ℕ) (staff : Staff) → staff_of i group ≡ Some staff → SaysTooManyArcs i.grammar output
      → Curving i group proof m limit (answered 9 output) []
  no_team : (status : ℕ) (output : List ℕ) → staff_of i group ≡ None → SaysNoTeam group status output
      → Curving i group proof m limit (answered status output) []

-- the answers to a demand text
pub data CurvesDemand (g : Grammar) (text : List ℕ) (group : Option (List ℕ)) (proof : List ℕ) (m : MasterView)
    (limit : Limit) : End → List Entry → Type 0 where
  accepted : (i : Instance) (end : End) (stored : List Entry) → IsInstanceOf g text i
      → Curving i group proof m limit end stored → CurvesDemand g text group proof m limit end stored
  refused : (output : List ℕ) → SaysDemandFault g text output
      → CurvesDemand g text group proof m limit (answered 4 output) []

-- the same, where the demand text stands under a name
pub record AnswersCurveDemand (held : Option Texts) (g : Grammar) (name : List ℕ) (group : Option (List ℕ))
    (proof : List ℕ) (m : MasterView) (limit : Limit) (end : End) (stored : List Entry) : Type 0 where
  pub text : List ℕ
  pub holds : Holds held name text
  pub answers : CurvesDemand g text group proof m limit end stored

-- the answers to a rules text, and then to the demand text under a name
pub data CurvesRules (held : Option Texts) (text demand_name : List ℕ) (group : Option (List ℕ)) (proof : List ℕ)
    (m : MasterView) (limit : Limit) : End → List Entry → Type 0 where
  accepted : (g : Grammar) (end : End) (stored : List Entry) → IsGrammarOf text g
      → AnswersCurveDemand held g demand_name group proof m limit end stored
      → CurvesRules held text demand_name group proof m limit end stored
  refused : (output : List ℕ) → SaysFault text output
      → CurvesRules held text demand_name group proof m limit (answered 3 output) []

-- the same, where the rules text stands under a name
pub record AnswersCurve (held : Option Texts) (name demand_name : List ℕ) (group : Option (List ℕ)) (proof : List ℕ)
    (m : MasterView) (limit : Limit) (end : End) (stored : List Entry) : Type 0 where
  pub text : List ℕ
  pub holds : Holds held name text
  pub answers : CurvesRules held text demand_name group proof m limit end stored

-- each point's certificate may be stored under its name, where this team's number is varied
abbrev pub MayStoreTeam : List ℕ → Staff → Instance → Option Texts → Type 0
MayStoreTeam proof staff i held =
    (heads : ℕ) → first_heads staff i ≤ heads → heads ≤ staff_most staff i → MayStore (point_name proof heads) held

-- the same for the team of a name
abbrev pub MayStorePoints : List ℕ → Option (List ℕ) → Instance → Option Texts → Type 0
MayStorePoints proof group i held = (staff : Staff) → staff_of i group ≡ Some staff → MayStoreTeam proof staff i held

-- the same for the day of a demand text
abbrev pub MayStoreDemand : List ℕ → Option (List ℕ) → Grammar → List ℕ → Option Texts → Type 0
MayStoreDemand proof group g text held = (i : Instance) → IsInstanceOf g text i → MayStorePoints proof group i held

-- the same, where the demand text stands under a name
abbrev pub MayStoreHeldDemand : List ℕ → Option (List ℕ) → Grammar → List ℕ → Option Texts → Type 0
MayStoreHeldDemand proof group g name held =
    (text : List ℕ) → Holds held name text → MayStoreDemand proof group g text held

-- the same for the day of a rules text and of the demand text under a name
abbrev pub MayStoreRules : List ℕ → Option (List ℕ) → List ℕ → List ℕ → Option Texts → Type 0
MayStoreRules proof group text demand_name held =
    (g : Grammar) → IsGrammarOf text g → MayStoreHeldDemand proof group g demand_name held

-- the same, where the rules text stands under a name
abbrev pub MayStoreCurve : List ℕ → Option (List ℕ) → List ℕ → List ℕ → Option Texts → Type 0
MayStoreCurve proof group name demand_name held =
    (text : List ℕ) → Holds held name text → MayStoreRules proof group text demand_name held
