-- Searches over the same texts end alike.
use Rattle.std.specs.Prelude.{ℕ, ◌≡◌, ◌≢◌, List, [], ◌∷◌, ◌++◌, Option, None, Some, codes, map}
use Rattle.text_lines.specs.Written.{written}
use Rattle.text_certificates.specs.Written.{amount_words}
use Rattle.search_days.specs.declared.day_curve.points.CurvePoint.{CurvePoint}
use Rattle.search_days.specs.day_curve.CurveText.{curve_text}
use Rattle.command_searches.specs.Series.{Entry, answered, SeriesAnswers}
use Rattle.command_searches.specs.Solve.{MasterView}
use Rattle.command_searches.specs.Writer.{Answers}

-- lines of a text: some first ones, that of a cost, that of a bound which is the cost, and some more
abbrev pub lines_with_cost : List (List (List ℕ)) → ℕ → List (List (List ℕ)) → List (List (List ℕ))
lines_with_cost first cost more =
    first ++ amount_words (codes "cost") (Some cost) ∷ amount_words (codes "bound") (Some cost) ∷ more

-- two texts say one cost and one bound, which is that cost, in the same line, and the same before them
pub record SayOneCost (a b : List ℕ) : Type 0 where
  pub first : List (List (List ℕ))
  pub cost : ℕ
  pub more : List (List (List ℕ))
  pub others : List (List (List ℕ))
  pub one : a ≡ written (lines_with_cost first cost more)
  pub other : b ≡ written (lines_with_cost first cost others)

-- a point but for how it was searched
abbrev pub costs_of : CurvePoint → CurvePoint
costs_of p = record p { processed = 0; failed = 0 }

-- two texts say curves over one team, of the same greatest numbers, costs and bounds
pub record SayOneCurve (a b : List ℕ) : Type 0 where
  pub group : Option (List ℕ)
  pub points : List CurvePoint
  pub others : List CurvePoint
  pub one : a ≡ curve_text group points
  pub other : b ≡ curve_text group others
  pub same : map costs_of points ≡ map costs_of others

-- two answers of a command that searches: a refusal of the texts is the only answer to them, and two searches
-- end alike unless one of them used up its turns, and with status 0 both say one cost and one bound
pub record EndAlike (s t : ℕ) (a b : List ℕ) (x y : Option (List ℕ)) : Type 0 where
  pub refused : x ≡ None → (y ≡ None) × (s ≡ t) × (a ≡ b)
  pub found : s ≢ 8 → t ≢ 8 → s ≡ t
  pub cost : s ≡ 0 → t ≡ 0 → SayOneCost a b

-- whichever searches gave them
abbrev pub HaveOneEnd : (MasterView → Answers) → Type 0
HaveOneEnd A = (m n : MasterView) (s t : ℕ) (a b : List ℕ) (x y : Option (List ℕ)) → A m s a x → A n t b y
    → EndAlike s t a b x y

-- two answers of a command that searches several times: a refusal of the texts, which alone stores nothing, is the
-- only answer to them, else they end alike unless some search used up its turns, and with status 0 both say the same
-- costs and bounds
pub record EndsAlike (s t : ℕ) (a b : List ℕ) (x y : List Entry) : Type 0 where
  pub refused : x ≡ [] → (y ≡ []) × (s ≡ t) × (a ≡ b)
  pub found : s ≢ 8 → t ≢ 8 → s ≡ t
  pub costs : s ≡ 0 → t ≡ 0 → SayOneCurve a b

-- whichever searches gave them
abbrev pub HasOneEnd : (MasterView → SeriesAnswers) → Type 0
HasOneEnd A = (m n : MasterView) (s t : ℕ) (a b : List ℕ) (x y : List Entry) → A m (answered s a) x
    → A n (answered t b) y → EndsAlike s t a b x y
