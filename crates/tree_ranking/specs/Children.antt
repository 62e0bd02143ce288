-- The next rule uses of a candidate.
use Rattle.std.specs.Prelude.{ℕ, ℤ, ◌≡◌, ◌≤◌, ◌<◌, ◌+ℤ◌, ◌≤ℤ◌, ◌<ℤ◌, ◌⊎◌, List, [], ◌∷◌, ◌++◌, None, Some, pos, slice_index_or}
use Rattle.model_rosters.specs.declared.grammar.Grammar.{Grammar}
use Rattle.model_rosters.specs.declared.grammar.Rule.{Rule}
use Rattle.model_rosters.specs.Folds.{Each}
use Rattle.model_rosters.specs.Grammar.{rule_at, Stands}
use Rattle.model_rosters.specs.Sums.{PriceView, arc_sum}
use Rattle.model_rosters.specs.Trees.{Parts}
use Rattle.model_rosters.specs.tree_laws.Parts.{first, root}
use Rattle.tree_ranking.specs.declared.candidate.Child.{Child}
use Rattle.tree_ranking.specs.declared.frame.Frame.{Frame}
use Rattle.tree_ranking.specs.Frames.{OnFrame, frame_sum, FrameLeast, after_part, use_of, inside_of}

-- v is the least sum of what the frame derives by a use of rule q of m periods for its first symbol
pub record IsUseSum (g : Grammar) (p : PriceView) (f : Frame) (q m : ℕ) (v : ℤ) : Type 0 where
  pub rule : Rule
  pub at : rule_at g q ≡ Some rule
  pub stands : Stands g.periods rule f.span.start m
  pub inner : ℤ
  pub others : ℤ
  pub arc : ℤ
  pub inner_least : FrameLeast g p (inside_of (use_of f q m)) (Some inner)
  pub others_least : FrameLeast g p (after_part f m) (Some others)
  pub arcs : (t : Parts) → OnFrame g (after_part f m) t
      → arc_sum p f.suffix.rule f.suffix.from f.span.start m t ≡ arc
  pub sum : v ≡ (p.rule_of q +ℤ inner) +ℤ (arc +ℤ others)

-- nothing that the frame derives by such a use has a sum
abbrev pub HasNoSum : Grammar → PriceView → Frame → ℕ → ℕ → Type 0
HasNoSum g p f q m =
    (t : Parts) → OnFrame g f t → root t ≡ q → first t ≡ m → frame_sum p f t ≡ None

-- a rule use for the name x that is the first symbol of a frame, with its least sum above a base
pub record IsChild (g : Grammar) (p : PriceView) (f : Frame) (x : ℕ) (base : ℤ) (ch : Child) : Type 0 where
  pub some : 1 ≤ ch.len
  pub high : ch.len ≤ f.span.len
  pub value : ℤ
  pub use_sum : IsUseSum g p f ch.rule ch.len value
  pub left : use_sum.rule.left ≡ x
  pub sum : ch.sum ≡ base +ℤ value

-- a child by this rule and this length is among them
abbrev pub HasChild : List Child → ℕ → ℕ → Type 0
HasChild [] q m = ⊥
HasChild (ch ∷ chs) q m = ((ch.rule ≡ q) × (ch.len ≡ m)) ⊎ HasChild chs q m

-- a use of an earlier rule, or of the same rule and shorter
abbrev pub IsEarlier : ℕ → ℕ → ℕ → ℕ → Type 0
IsEarlier q m r n = (q < r) ⊎ ((q ≡ r) × (m < n))

abbrev pub ChildBefore : Child → Child → Type 0
ChildBefore a b = IsEarlier a.rule a.len b.rule b.len

-- each child comes before those that follow
abbrev pub AreInOrder : List Child → Type 0
AreInOrder [] = Unit {0}
AreInOrder (ch ∷ chs) = Each (ChildBefore ch) chs × AreInOrder chs

-- the children by uses that are earlier than one of rule r of n periods, in their order
pub record AreChildrenTo (g : Grammar) (p : PriceView) (f : Frame) (x : ℕ) (base : ℤ) (r n : ℕ)
    (chs : List Child) : Type 0 where
  pub each : Each (IsChild g p f x base) chs
  pub ordered : AreInOrder chs
  pub earlier : Each (λ (ch : Child). IsEarlier ch.rule ch.len r n) chs
  pub complete : (t : Parts) (z : ℤ) → OnFrame g f t → frame_sum p f t ≡ Some z
      → IsEarlier (root t) (first t) r n → HasChild chs (root t) (first t)

-- all children, in their order
pub record AreChildren (g : Grammar) (p : PriceView) (f : Frame) (x : ℕ) (base : ℤ)
    (chs : List Child) : Type 0 where
  pub each : Each (IsChild g p f x base) chs
  pub ordered : AreInOrder chs
  pub complete : (t : Parts) (z : ℤ) → OnFrame g f t → frame_sum p f t ≡ Some z
      → HasChild chs (root t) (first t)

-- the child at a place
abbrev pub child_at : List Child → ℕ → Child
child_at chs k = slice_index_or chs k (record { sum = pos 0; rule = 0; len = 0 })

-- the first child of least sum, those before it and those after it
pub record IsFirstLeast (b : Child) (front back : List Child) : Type 0 where
  pub before : Each (λ (ch : Child). b.sum <ℤ ch.sum) front
  pub after : Each (λ (ch : Child). b.sum ≤ℤ ch.sum) back

-- the first child of least sum was taken from the others
pub record TakesLeast (chs : List Child) (b : Child) (others : List Child) : Type 0 where
  pub front : List Child
  pub back : List Child
  pub from : chs ≡ front ++ b ∷ back
  pub to : others ≡ front ++ back
  pub least : IsFirstLeast b front back
