-- The text of a curve.
use Rattle.std.specs.Prelude.{ℕ, List, [], ◌∷◌, ◌++◌, Option, None, Some, codes, length, map}
use Rattle.std.specs.Fmt.{decimal}
use Rattle.text_lines.specs.Written.{written}
use Rattle.text_certificates.specs.Written.{amount_word}
use Rattle.search_branch_price.specs.declared.found.Found.{Found}
use Rattle.search_days.specs.declared.day_curve.points.CurvePoint.{CurvePoint}

-- what is said of a point, by its greatest number and what was found
abbrev pub point_of : ℕ → Found → CurvePoint
point_of heads f = record {
  heads = heads;
  cost = f.cert.cost;
  bound = f.cert.bound;
  processed = f.processed;
  failed = f.failed;
}

-- the first word of a point's line, which says whose number it has: that of all employees, or of a group's
abbrev pub team_word : Option (List ℕ) → List ℕ
team_word None = codes "heads"
team_word (Some name) = codes "group"

-- and the name of the group
abbrev pub team_words : Option (List ℕ) → List (List ℕ)
team_words None = []
team_words (Some name) = name ∷ []

-- the words of a point behind these
abbrev pub found_words : CurvePoint → List (List ℕ)
found_words p =
    decimal p.heads ∷ codes "cost" ∷ amount_word p.cost ∷ codes "bound" ∷ amount_word p.bound
    ∷ codes "processed" ∷ decimal p.processed ∷ codes "failed" ∷ decimal p.failed ∷ []

-- the line of a point, of all employees or of the group of a name
abbrev pub point_words : Option (List ℕ) → CurvePoint → List (List ℕ)
point_words group p = team_word group ∷ (team_words group ++ found_words p)

-- the line of the number of points
abbrev pub count_words : ℕ → List (List ℕ)
count_words n = codes "curve" ∷ decimal n ∷ []

-- the text of a curve: one space between words, and a line feed after each line
abbrev pub curve_text : Option (List ℕ) → List CurvePoint → List ℕ
curve_text group ps = written (count_words (length ps) ∷ map (point_words group) ps)
