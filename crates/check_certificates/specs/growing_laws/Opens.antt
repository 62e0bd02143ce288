-- The open leaves of a growing tree, as the entries of a queue.
use Rattle.std.specs.Prelude.{ℕ, ◌≡◌, ◌≤◌, ◌+◌, ◌*◌, Bool, List, [], ◌∷◌, ◌++◌}
use Rattle.model_rosters.specs.declared.instance.Cut.{Cut}
use Rattle.model_rosters.specs.Folds.{count, Each}
use Rattle.check_certificates.specs.growing_laws.Grown.{Grown, tip, fork, Leaf, fresh, valued, fixed, OnTips, SomeTip, raised, tip_bound, put, times}
use Rattle.check_certificates.specs.growing_laws.Boxes.{IsOpenLeaf}

-- a leaf by its number, with the bound that it leaves
pub record Entry : Type 0 where
  pub seat : ℕ
  pub bound : ℕ

abbrev pub leaf_entries : ℕ → ℕ → Leaf → List Entry
leaf_entries above k fresh = record { seat = k; bound = tip_bound above fresh } ∷ []
leaf_entries above k (valued o) = record { seat = k; bound = tip_bound above (valued o) } ∷ []
leaf_entries above k (fixed v) = []

-- the open leaves in preorder
abbrev pub opens : ℕ → Grown → List Entry
opens above (tip k l) = leaf_entries above k l
opens above (fork k a b own low high) = opens (raised above own) low ++ opens (raised above own) high

-- the queue has these entries, in any order
abbrev pub SameEntries : List Entry → List Entry → Type 0
SameEntries xs ys = (q : Entry → Bool) → count q xs ≡ count q ys

-- how many open leaves pass a test once a tree stands in place of a leaf
abbrev pub PutOpens : Type 0
PutOpens =
    (q : Entry → Bool) (n m r above : ℕ) (cuts : List Cut) (new t : Grown)
    → OnTips (λ up path k l. k ≡ n → (count q (opens up new) ≡ m) × (count q (leaf_entries up k l) ≡ r))
    above cuts t
    → count q (opens above (put n new t)) + times n t * r ≡ count q (opens above t) + times n t * m

-- each entry is an open leaf
abbrev pub IsEntryOf : Entry → ℕ → List Cut → Grown → Type 0
IsEntryOf e above cuts t =
    SomeTip (λ up path k l. (k ≡ e.seat) × IsOpenLeaf l × (tip_bound up l ≡ e.bound)) above cuts t

abbrev pub OpensSound : Type 0
OpensSound = (above : ℕ) (cuts : List Cut) (t : Grown) → Each (λ e. IsEntryOf e above cuts t) (opens above t)

-- where no entry has a lesser bound, no open leaf leaves one
abbrev pub OpensLeast : Type 0
OpensLeast =
    (v above : ℕ) (cuts : List Cut) (t : Grown) → Each (λ (e : Entry). v ≤ e.bound) (opens above t)
    → OnTips (λ up path k l. IsOpenLeaf l → v ≤ tip_bound up l) above cuts t
