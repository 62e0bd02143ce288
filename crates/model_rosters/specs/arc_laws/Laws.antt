-- The laws of arcs that the crates above cite.
use Rattle.std.specs.Prelude.{ℕ, ◌≡◌, ◌≤◌, ◌*◌, ◌↔◌, true, List, length}
use Rattle.model_rosters.specs.declared.grammar.ArcKey.{ArcKey}
use Rattle.model_rosters.specs.declared.grammar.Grammar.{Grammar}
use Rattle.model_rosters.specs.declared.instance.Cut.{Cut}
use Rattle.model_rosters.specs.Trees.{Parts, IsDayTree}
use Rattle.model_rosters.specs.Folds.{sum_n, count, Each}
use Rattle.model_rosters.specs.Arcs.{Letter, arcs, cost, same_arc}
use Rattle.model_rosters.specs.Sound.{IsSound}
use Rattle.model_rosters.specs.Cuts.{arc_count, KeepsTo, lo, hi}
use Rattle.model_rosters.specs.arc_laws.OrNodes.{OrNode, leaf, same_node, made}
use Rattle.model_rosters.specs.arc_laws.Lists.{AreArcs, HoldsArcsOnce}
use Rattle.model_rosters.specs.arc_laws.Balance.{used_sum, IsBalanced}
use Rattle.model_rosters.specs.arc_laws.Counts.{top_cost, root_count}
use Rattle.model_rosters.specs.arc_laws.TreeLists.{has_letter, letters_of}

-- an arc stands at most once in a tree of the day
abbrev pub ArcOnce : Type 0
ArcOnce = (g : Grammar) (t : Parts) (a : ArcKey) → IsSound g → IsDayTree g t
    → count (same_arc a) (arcs 1 t) ≤ 1

-- at most one arc of a tree of the day makes a given name or suffix on a given span
abbrev pub MadeOnce : Type 0
MadeOnce = (g : Grammar) (t : Parts) (o : OrNode) → IsSound g → IsDayTree g t
    → count (λ a. same_node o (made g a)) (arcs 1 t) ≤ 1

-- the arcs of the instance have one list
abbrev pub OneList : Type 0
OneList = (g : Grammar) (xs ys : List ArcKey) → AreArcs g xs → AreArcs g ys → xs ≡ ys

-- how many of some trees of the day have each arc is balanced
abbrev pub TreesBalanced : Type 0
TreesBalanced = (g : Grammar) (ts : List Parts) (listed : List ArcKey) → Each (IsDayTree g) ts
    → AreArcs g listed → IsBalanced g listed (λ a. arc_count a ts)

-- the arcs that make the start name on the whole day count the trees
abbrev pub RootCounts : Type 0
RootCounts =
    (g : Grammar) (ts : List Parts) (listed : List ArcKey) → IsSound g → Each (IsDayTree g) ts
    → AreArcs g listed
    → root_count g listed (λ a. arc_count a ts) ≡ length ts

-- the arcs that use a letter count the trees that have it
abbrev pub LeavesCount : Type 0
LeavesCount =
    (g : Grammar) (ts : List Parts) (listed : List ArcKey) (l : Letter) → Each (IsDayTree g) ts
    → AreArcs g listed
    → used_sum g listed (λ a. arc_count a ts) (leaf l) ≡ count (has_letter l) (letters_of ts)

-- the arcs of whole right sides pay for the trees
abbrev pub ArcsPay : Type 0
ArcsPay =
    (g : Grammar) (ts : List Parts) (listed : List ArcKey) → Each (IsDayTree g) ts → AreArcs g listed
    → sum_n (λ a. arc_count a ts * top_cost g a) listed ≡ sum_n (cost g) ts

-- of counts up to `most`, the bounds that a path leaves an arc hold exactly those that keep to each
-- cut on it
abbrev pub PathBounds : Type 0
PathBounds =
    (most n : ℕ) (cuts : List Cut) (a : ArcKey) → n ≤ most
    → (((lo cuts a ≤ n) × (n ≤ hi most cuts a)) ↔ Each
    (λ (c : Cut). same_arc c.arc a ≡ true → KeepsTo c.side c.b n) cuts)

-- the list of the arcs in their order holds each of them once
abbrev pub ListHoldsOnce : Type 0
ListHoldsOnce = (g : Grammar) (listed : List ArcKey) → AreArcs g listed → HoldsArcsOnce g listed

-- the four laws on the counts of trees' arcs, over any list that holds each arc once
abbrev pub TreesBalancedOver : Type 0
TreesBalancedOver =
    (g : Grammar) (ts : List Parts) (listed : List ArcKey) → Each (IsDayTree g) ts → HoldsArcsOnce g listed
    → IsBalanced g listed (λ a. arc_count a ts)

abbrev pub RootCountsOver : Type 0
RootCountsOver =
    (g : Grammar) (ts : List Parts) (listed : List ArcKey) → IsSound g → Each (IsDayTree g) ts
    → HoldsArcsOnce g listed
    → root_count g listed (λ a. arc_count a ts) ≡ length ts

abbrev pub LeavesCountOver : Type 0
LeavesCountOver =
    (g : Grammar) (ts : List Parts) (listed : List ArcKey) (l : Letter) → Each (IsDayTree g) ts
    → HoldsArcsOnce g listed
    → used_sum g listed (λ a. arc_count a ts) (leaf l) ≡ count (has_letter l) (letters_of ts)

abbrev pub ArcsPayOver : Type 0
ArcsPayOver =
    (g : Grammar) (ts : List Parts) (listed : List ArcKey) → Each (IsDayTree g) ts → HoldsArcsOnce g listed
    → sum_n (λ a. arc_count a ts * top_cost g a) listed ≡ sum_n (cost g) ts
