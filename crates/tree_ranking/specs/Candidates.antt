-- The trees of the day whose rule uses begin with those of a candidate.
use Rattle.std.specs.Prelude.{ℤ, pos, ◌≡◌, ◌+ℤ◌, ◌<ℤ◌, ◌⊎◌, List, [], ◌∷◌, ◌++◌, Some}
use Rattle.model_rosters.specs.declared.grammar.Grammar.{Grammar}
use Rattle.model_rosters.specs.declared.grammar.Step.{Step}
use Rattle.model_rosters.specs.Folds.{Each}
use Rattle.model_rosters.specs.Sums.{PriceView}
use Rattle.model_rosters.specs.Trees.{Parts, steps}
use Rattle.tree_ranking.specs.declared.candidate.Candidate.{Candidate}
use Rattle.tree_ranking.specs.declared.candidate.Child.{Child}
use Rattle.tree_ranking.specs.declared.frame.Frame.{Frame}
use Rattle.tree_ranking.specs.declared.ranking.Ranked.{Ranked}
use Rattle.tree_ranking.specs.Frames.{IsFrame, OnFrame, frame_sum, FrameLeast, after_part, use_of, inside_of}
use Rattle.tree_ranking.specs.Ranking.{UsesBefore, RankedBefore, IsRankedTree}

-- what is pending can be derived with these rule uses and this sum
abbrev pub Completes : Grammar → PriceView → List Frame → List Step → ℤ → Type 0
Completes g p [] more w = (more ≡ []) × (w ≡ pos 0)
Completes g p (f ∷ fs) more w =
    (t : Parts) × (a : ℤ) × (rest : List Step) × (b : ℤ) × OnFrame g f t
    × (frame_sum p f t ≡ Some a) × Completes g p fs rest b
    × (more ≡ steps f.span.start t ++ rest) × (w ≡ a +ℤ b)

-- the sum of the least sums of what is pending
abbrev pub Leasts : Grammar → PriceView → List Frame → ℤ → Type 0
Leasts g p [] z = z ≡ pos 0
Leasts g p (f ∷ fs) z =
    (a : ℤ) × (b : ℤ) × FrameLeast g p f (Some a) × Leasts g p fs b × (z ≡ a +ℤ b)

-- the tree's rule uses go on from those of the candidate, and its sum is above the candidate's by what
-- the sum of its further parts is above their least one
pub record Has (g : Grammar) (p : PriceView) (c : Candidate) (r : Ranked) : Type 0 where
  pub more : List Step
  pub sum : ℤ
  pub least : ℤ
  pub completes : Completes g p c.pending more sum
  pub leasts : Leasts g p c.pending least
  pub uses : r.tree ≡ c.steps ++ more
  pub above : r.sum +ℤ least ≡ c.sum +ℤ sum

-- a candidate: what is pending can be derived, and whatever derives it makes a tree of the day
pub record IsCandidate (g : Grammar) (p : PriceView) (c : Candidate) : Type 0 where
  pub least : ℤ
  pub leasts : Leasts g p c.pending least
  pub frames : Each (IsFrame g) c.pending
  pub of_day : (r : Ranked) → Has g p c r → IsRankedTree g p r

-- one of the candidates has the tree
abbrev pub OneHas : Grammar → PriceView → List Candidate → Ranked → Type 0
OneHas g p [] r = ⊥
OneHas g p (c ∷ cs) r = Has g p c r ⊎ OneHas g p cs r

-- neither list of rule uses goes on from the other
abbrev pub IsApart : List Step → List Step → Type 0
IsApart ss ts = UsesBefore ss ts ⊎ UsesBefore ts ss

-- the first candidate's least tree comes before all trees of the second, wherever they go on
pub record Comes (c d : Candidate) : Type 0 where
  pub apart : IsApart c.steps d.steps
  pub before : (c.sum <ℤ d.sum) ⊎ ((c.sum ≡ d.sum) × UsesBefore c.steps d.steps)

-- each candidate comes before all that follow it
abbrev pub AreOrdered : List Candidate → Type 0
AreOrdered [] = Unit {0}
AreOrdered (c ∷ cs) = Each (Comes c) cs × AreOrdered cs

-- the rule uses are apart from those of each candidate
abbrev pub IsAside : List Step → List Candidate → Type 0
IsAside ss cs = Each (λ (d : Candidate). IsApart ss d.steps) cs

-- the candidates of the first list are apart from each other and from those of the second
abbrev pub AreAside : List Candidate → List Candidate → Type 0
AreAside [] cs = Unit {0}
AreAside (e ∷ es) cs = IsAside e.steps cs × IsAside e.steps es × AreAside es cs

-- the candidate's least tree comes before the tree
abbrev pub Precedes : Candidate → Ranked → Type 0
Precedes c r = RankedBefore (record { sum = c.sum; tree = c.steps }) r

-- the candidate that goes on with a rule use for the first symbol of a frame
abbrev pub child_of : List Step → Frame → List Frame → Child → Candidate
child_of ss f fs ch = record {
  sum = ch.sum;
  steps = ss ++ use_of f ch.rule ch.len ∷ [];
  pending = inside_of (use_of f ch.rule ch.len) ∷ after_part f ch.len ∷ fs;
}
