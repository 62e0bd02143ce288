-- How far a ranking has come.
use Rattle.std.specs.Prelude.{ℕ, ◌≡◌, ◌+◌, ◌-◌, ◌*◌, ◌≤◌, ◌<◌, ◌⊎◌, List, [], ◌∷◌, ◌++◌, length, map}
use Rattle.model_rosters.specs.declared.grammar.Grammar.{Grammar}
use Rattle.model_rosters.specs.declared.grammar.Step.{Step}
use Rattle.model_rosters.specs.Folds.{Each, In}
use Rattle.model_rosters.specs.Sums.{PriceView}
use Rattle.tree_ranking.specs.declared.candidate.Candidate.{Candidate}
use Rattle.tree_ranking.specs.declared.candidate.Child.{Child}
use Rattle.tree_ranking.specs.declared.frame.Frame.{Frame}
use Rattle.tree_ranking.specs.declared.ranking.Ranked.{Ranked}
use Rattle.tree_ranking.specs.Candidates.{Has, IsCandidate, OneHas, Comes, AreOrdered, AreAside, Precedes, child_of}
use Rattle.tree_ranking.specs.Children.{TakesLeast}
use Rattle.model_rosters.specs.Room.{most_uses}
use Rattle.tree_ranking.specs.Ranking.{RankedBefore, IsRankedTree, AreAscending}

-- there is room for one more: the last was dropped where there were as many as there is room for
abbrev pub IsRoomMade : ℕ → List Candidate → List Candidate → Type 0
IsRoomMade room old new =
    ((length old < room) × (new ≡ old))
    ⊎ ((last : Candidate) × (length old ≡ room) × (old ≡ new ++ last ∷ []))

-- a candidate was put among others in their order
pub record IsAdded (room : ℕ) (e : Candidate) (old new : List Candidate) : Type 0 where
  pub front : List Candidate
  pub back : List Candidate
  pub from : old ≡ front ++ back
  pub to : new ≡ front ++ e ∷ back
  pub before : Each (λ (d : Candidate). Comes d e) front
  pub after : Each (Comes e) back
  pub space : length old < room

-- it was put among them, and the last of them was dropped, since there were as many as there is room for
pub record IsMoved (room : ℕ) (e : Candidate) (old new : List Candidate) : Type 0 where
  pub front : List Candidate
  pub back : List Candidate
  pub last : Candidate
  pub from : old ≡ front ++ (back ++ last ∷ [])
  pub to : new ≡ front ++ e ∷ back
  pub before : Each (λ (d : Candidate). Comes d e) front
  pub after : Each (Comes e) (back ++ last ∷ [])
  pub full : length old ≡ room

-- it was dropped itself
pub record IsDropped (room : ℕ) (e : Candidate) (old new : List Candidate) : Type 0 where
  pub same : new ≡ old
  pub before : Each (λ (d : Candidate). Comes d e) old
  pub full : length old ≡ room

abbrev pub IsOffered : ℕ → Candidate → List Candidate → List Candidate → Type 0
IsOffered room e old new = IsAdded room e old new ⊎ (IsMoved room e old new ⊎ IsDropped room e old new)

-- the tree comes after all that were given
abbrev pub IsAfter : List Ranked → Ranked → Type 0
IsAfter rs r = Each (λ (q : Ranked). RankedBefore q r) rs

-- a candidate whose trees come after all that were given
pub record IsGood (g : Grammar) (p : PriceView) (rs : List Ranked) (c : Candidate) : Type 0 where
  pub is : IsCandidate g p c
  pub later : (r : Ranked) → Has g p c r → IsAfter rs r

-- a tree that was dropped: the least trees of the candidates, as many as are still asked for, come before it
pub record IsBeyond (most : ℕ) (rs : List Ranked) (cs : List Candidate) (r : Ranked) : Type 0 where
  pub after : Each (λ (c : Candidate). Precedes c r) cs
  pub full : length rs + length cs ≡ most

-- Where a ranking stands: the first trees were given, the candidates are kept in their order, and others
-- are to be put among them. Each tree of the day is given, or a candidate has it, or it was dropped.
pub record IsProgress (g : Grammar) (p : PriceView) (most : ℕ) (rs : List Ranked)
    (cs es : List Candidate) : Type 0 where
  pub given : Each (IsRankedTree g p) rs
  pub ascending : AreAscending rs
  pub kept : Each (IsGood g p rs) cs
  pub offered : Each (IsGood g p rs) es
  pub ordered : AreOrdered cs
  pub aside : AreAside es cs
  pub covered : (r : Ranked) → IsRankedTree g p r
      → In r rs ⊎ (IsAfter rs r × (OneHas g p cs r ⊎ (OneHas g p es r ⊎ IsBeyond most rs cs r)))
  pub few : length rs + length cs ≤ most

-- a candidate that goes on with some rule uses: its trees are some of those of the first
pub record GoesOn (g : Grammar) (p : PriceView) (c d : Candidate) : Type 0 where
  pub is : IsCandidate g p d
  pub further : List Step
  pub steps : d.steps ≡ c.steps ++ further
  pub has : (r : Ranked) → Has g p d r → Has g p c r

-- the first candidate and the others share the trees of one, whose least tree the first one has
pub record IsSplit (g : Grammar) (p : PriceView) (c b : Candidate) (es : List Candidate) : Type 0 where
  pub first : GoesOn g p c b
  pub others : Each (GoesOn g p c) es
  pub sum : b.sum ≡ c.sum
  pub aside : AreAside es (b ∷ [])
  pub all : (r : Ranked) → Has g p c r → OneHas g p (b ∷ es) r

-- candidates were put among others, one after another
abbrev pub AreOffered : ℕ → List Candidate → List Candidate → List Candidate → Type 0
AreOffered room [] old new = new ≡ old
AreOffered room (e ∷ es) old new = (mid : List Candidate) × IsOffered room e old mid
    × AreOffered room es mid new

-- what is asked of those among which candidates are put
pub record CanTake (room : ℕ) (cs es : List Candidate) : Type 0 where
  pub ordered : AreOrdered cs
  pub aside : AreAside es cs
  pub few : length cs ≤ room

-- a candidate goes on with the first child of least sum, and the others are put among those that wait
pub record Branches (room : ℕ) (f : Frame) (chs : List Child) (old : Candidate) (ws : List Candidate)
    (new : Candidate) (vs : List Candidate) : Type 0 where
  pub taken : Child
  pub others : List Child
  pub takes : TakesLeast chs taken others
  pub goes_on : new ≡ child_of old.steps f old.pending taken
  pub offered : AreOffered room (map (child_of old.steps f old.pending) others) ws vs

-- how far a candidate may still go on at most
abbrev pub frames_left : List Frame → ℕ
frames_left [] = 0
frames_left (f ∷ fs) = 1 + f.span.len + frames_left fs

abbrev pub steps_left : Grammar → Candidate → ℕ
steps_left g c = 2 * (most_uses g - length c.steps) + frames_left c.pending
