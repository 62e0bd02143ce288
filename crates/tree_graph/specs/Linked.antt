-- The nodes of arcs and what joins them, as far as the arcs are linked.
use Rattle.std.specs.Prelude.{ℕ, ◌≡◌, ◌<◌, ◌≤◌, ◌⊎◌, ◌*◌, List, [], ◌∷◌, ◌++◌, Option, None, Some, All, length, map, slice_get}
use Rattle.model_rosters.specs.declared.grammar.ArcKey.{ArcKey}
use Rattle.model_rosters.specs.declared.grammar.Grammar.{Grammar}
use Rattle.model_rosters.specs.Folds.{In}
use Rattle.model_rosters.specs.arc_laws.OrNodes.{OrNode, name, suffix, leaf, same_node, made, used}
use Rattle.tree_graph.specs.declared.kid.Kid.{Kid}
use Rattle.tree_graph.specs.declared.kid.Kid.TheVariants.{Nothing, Letter, Node}
use Rattle.tree_graph.specs.declared.links.Links.{Links}
use Rattle.tree_graph.specs.declared.rows.Entry.{Entry}
use Rattle.tree_graph.specs.Graphs.{places, is_among, AreKids, HasNodes}
use Rattle.tree_graph.specs.Lists.{items_of}
use Rattle.tree_graph.specs.Nodes.{or_node}

-- a node that is no letter is one of the nodes
abbrev pub IsListed : List OrNode → OrNode → Type 0
IsListed nodes (leaf l) = Unit {0}
IsListed nodes (name x i l) = (n : ℕ) × (slice_get nodes n ≡ Some (name x i l))
IsListed nodes (suffix r k i l) = (n : ℕ) × (slice_get nodes n ≡ Some (suffix r k i l))

-- what the arc uses is among the nodes, letters aside
abbrev pub UsesListed : Grammar → List OrNode → ArcKey → Type 0
UsesListed g nodes a = (o : OrNode) → In o (used g a) → IsListed nodes o

-- the node has this number, which it was given if it had none
abbrev pub AddsNode : List OrNode → OrNode → List OrNode → ℕ → Type 0
AddsNode old o new n =
    ((new ≡ old) × (slice_get old n ≡ Some o))
    ⊎ ((new ≡ old ++ o ∷ []) × (n ≡ length old) × ((m : ℕ) → slice_get old m ≡ Some o → ⊥))

-- the number of the node, none where it is none of the nodes
abbrev pub IsPlaceOf : List OrNode → OrNode → Option ℕ → Type 0
IsPlaceOf nodes o None = (n : ℕ) → slice_get nodes n ≡ Some o → ⊥
IsPlaceOf nodes o (Some n) = slice_get nodes n ≡ Some o

-- the use of a kid that is a node
abbrev pub uses_of : Kid → ℕ → List Entry
uses_of Nothing arc = []
uses_of (Letter code period) arc = []
uses_of (Node n) arc = record { row = n; item = arc } ∷ []

-- the nodes that the arcs make, what each arc makes and uses, and for each node the arcs that make
-- and use it
pub record AreLinked (g : Grammar) (arcs : List ArcKey) (listed : List OrNode) (numbers : List ℕ)
    (firsts rests : List Kid) (made_entries used_entries : List Entry) : Type 0 where
  pub nodes : HasNodes g arcs listed
  pub few : length listed ≤ length arcs
  pub one_each : length numbers ≡ length arcs
  pub made_by : (p : ℕ) (a : ArcKey) → slice_get arcs p ≡ Some a → (n : ℕ) × (slice_get numbers p ≡ Some n)
      × (slice_get listed n ≡ Some (made g a))
  pub first_each : length firsts ≡ length arcs
  pub rest_each : length rests ≡ length arcs
  pub kids : (p : ℕ) (a : ArcKey) → slice_get arcs p ≡ Some a → (k : Kid × Kid)
      × (slice_get firsts p ≡ Some k.0) × (slice_get rests p ≡ Some k.1) × AreKids listed (used g a) k
  pub makers : (n : ℕ) (o : OrNode) → slice_get listed n ≡ Some o
      → items_of n made_entries ≡ places (λ a. same_node o (made g a)) arcs
  pub users : (n : ℕ) (o : OrNode) → slice_get listed n ≡ Some o
      → items_of n used_entries ≡ places (λ a. is_among o (used g a)) arcs
  pub maker_rows : All (λ (e : Entry). e.row < length listed) made_entries
  pub user_rows : All (λ (e : Entry). e.row < length listed) used_entries
  pub few_makers : length made_entries ≤ length arcs
  pub few_users : length used_entries ≤ 2 * length arcs

abbrev pub IsLinked : Grammar → List ArcKey → Links → Type 0
IsLinked g arcs l =
    AreLinked g arcs (map or_node l.nodes.keys) l.arcs.made_by l.arcs.first l.arcs.rest l.entries.makers
    l.entries.users
