-- The graph of all parses of an instance.
use Rattle.std.specs.Prelude.{ℕ, ◌≡◌, ◌+◌, ◌<◌, ◌≤◌, Bool, true, false, cond, List, [], ◌∷◌, Option, None, Some, length, slice_get}
use Rattle.model_rosters.specs.declared.grammar.ArcKey.{ArcKey}
use Rattle.model_rosters.specs.declared.grammar.Grammar.{Grammar}
use Rattle.model_rosters.specs.Trees.{Parts, IsDayTree}
use Rattle.model_rosters.specs.Folds.{In}
use Rattle.model_rosters.specs.Arcs.{IsArc}
use Rattle.model_rosters.specs.Sound.{IsSound}
use Rattle.model_rosters.specs.arc_laws.OrNodes.{OrNode, name, suffix, leaf, same_node, made, used, root_of}
use Rattle.model_rosters.specs.arc_laws.Lists.{AreArcs}
use Rattle.tree_graph.specs.declared.fault.GraphFault.{GraphFault}
use Rattle.tree_graph.specs.declared.fault.GraphFault.TheVariants.{TooManyArcs, Memory}
use Rattle.tree_graph.specs.declared.kid.Kid.{Kid}
use Rattle.tree_graph.specs.declared.kid.Kid.TheVariants.{Nothing, Letter, Node}

-- what a contract sees of a graph: the arcs in an order of the graph's own, the nodes that they make,
-- by these numbers the node that each arc makes, the first part of each arc, what follows that part, the
-- arcs that make and those that use each node, and the node of the start name on the whole day
pub record GraphView : Type 0 where
  pub arcs : List ArcKey
  pub nodes : List OrNode
  pub made_by : List ℕ
  pub first : List Kid
  pub rest : List Kid
  pub makers : List (List ℕ)
  pub users : List (List ℕ)
  pub root : Option ℕ

-- the places, from n on, of the items that pass the test
abbrev pub places_from : {A : Type 0} → ℕ → (A → Bool) → List A → List ℕ
places_from n p [] = []
places_from n p (x ∷ xs) = cond (p x) (n ∷ places_from (n + 1) p xs) (places_from (n + 1) p xs)

-- the places of the items that pass the test
abbrev pub places : {A : Type 0} → (A → Bool) → List A → List ℕ
places p xs = places_from 0 p xs

-- one of the nodes is this one
abbrev pub is_among : OrNode → List OrNode → Bool
is_among o [] = false
is_among o (x ∷ xs) = cond (same_node o x) true (is_among o xs)

-- the kid stands for the node: a letter for itself, and a name or a suffix for its number
abbrev pub IsKid : List OrNode → OrNode → Kid → Type 0
IsKid nodes (leaf l) kid = kid ≡ Letter l.code l.period
IsKid nodes (name x i l) kid = (n : ℕ) × (kid ≡ Node n) × (slice_get nodes n ≡ Some (name x i l))
IsKid nodes (suffix r k i l) kid = (n : ℕ) × (kid ≡ Node n) × (slice_get nodes n ≡ Some (suffix r k i l))

-- the kids stand for the nodes that an arc uses, one or two
abbrev pub AreKids : List OrNode → List OrNode → Kid × Kid → Type 0
AreKids nodes [] kids = ⊥
AreKids nodes (o ∷ []) kids = IsKid nodes o kids.0 × (kids.1 ≡ Nothing)
AreKids nodes (o ∷ p ∷ []) kids = IsKid nodes o kids.0 × IsKid nodes p kids.1
AreKids nodes (o ∷ p ∷ q ∷ os) kids = ⊥

-- the node of the start name on the whole day is there exactly where the day has a tree
abbrev pub IsRoot : Grammar → List OrNode → Option ℕ → Type 0
IsRoot g nodes None = (t : Parts) → IsDayTree g t → ⊥
IsRoot g nodes (Some n) = slice_get nodes n ≡ Some (root_of g)

-- the arcs of the instance, each once, each after all arcs that make what it uses
pub record HasArcs (g : Grammar) (listed : List ArcKey) : Type 0 where
  pub sound : (p : ℕ) (a : ArcKey) → slice_get listed p ≡ Some a → IsArc g a
  pub whole : (a : ArcKey) → IsArc g a → (p : ℕ) × (slice_get listed p ≡ Some a)
  pub once : (p q : ℕ) (a : ArcKey) → slice_get listed p ≡ Some a → slice_get listed q ≡ Some a → p ≡ q
  pub upward : (p q : ℕ) (a b : ArcKey) → slice_get listed p ≡ Some a → slice_get listed q ≡ Some b
      → In (made g b) (used g a) → q < p

-- the nodes that these arcs make, each once
pub record HasNodes (g : Grammar) (listed : List ArcKey) (nodes : List OrNode) : Type 0 where
  pub made : (n : ℕ) (o : OrNode) → slice_get nodes n ≡ Some o → (p : ℕ) × (a : ArcKey)
      × (slice_get listed p ≡ Some a) × (made g a ≡ o)
  pub once : (n m : ℕ) (o : OrNode) → slice_get nodes n ≡ Some o → slice_get nodes m ≡ Some o → n ≡ m

-- the graph is that of the grammar
pub record IsGraph (g : Grammar) (v : GraphView) : Type 0 where
  pub arcs : HasArcs g v.arcs
  pub few : length v.arcs ≤ 100000
  pub nodes : HasNodes g v.arcs v.nodes
  pub made_by : (p : ℕ) (a : ArcKey) → slice_get v.arcs p ≡ Some a → (n : ℕ)
      × (slice_get v.made_by p ≡ Some n) × (slice_get v.nodes n ≡ Some (made g a))
  pub kids : (p : ℕ) (a : ArcKey) → slice_get v.arcs p ≡ Some a → (k : Kid × Kid)
      × (slice_get v.first p ≡ Some k.0) × (slice_get v.rest p ≡ Some k.1) × AreKids v.nodes (used g a) k
  pub makers : (n : ℕ) (o : OrNode) → slice_get v.nodes n ≡ Some o
      → slice_get v.makers n ≡ Some (places (λ a. same_node o (made g a)) v.arcs)
  pub users : (n : ℕ) (o : OrNode) → slice_get v.nodes n ≡ Some o
      → slice_get v.users n ≡ Some (places (λ a. is_among o (used g a)) v.arcs)
  pub root : IsRoot g v.nodes v.root

-- the graph is that of a sound grammar
abbrev pub HasGrammar : GraphView → Type 0
HasGrammar v = (g : Grammar) × IsSound g × IsGraph g v

-- no graph is built: the instance has this many arcs, more than 100,000, or memory ran out
abbrev pub IsRefused : Grammar → GraphFault → Type 0
IsRefused g (TooManyArcs count) = (listed : List ArcKey) × AreArcs g listed × (count ≡ length listed)
    × (100000 < count)
IsRefused g Memory = Unit {0}
