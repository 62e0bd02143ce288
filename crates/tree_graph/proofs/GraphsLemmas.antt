-- The whole graph from its parts.
use Rattle.std.proofs.Common.{◌≡◌, ℕ, arith, ◌<◌, ◌≤◌, List, Option, None, Some, All, length, get_or, take, map, refl, sym, ap, subst, ◌∙◌}
use Rattle.std.specs.Prelude.{slice_get}
use Rattle.std.proofs.lemmas.Option.{slice_get-get_or, slice_get_within, get_or_from_slice_get}
use Rattle.std.proofs.lemmas.List.{get_or-take, length-take-le, length-map}
use Rattle.model_rosters.specs.declared.grammar.ArcKey.{ArcKey}
use Rattle.model_rosters.specs.declared.grammar.Grammar.{Grammar}
use Rattle.model_rosters.specs.Folds.{In}
use Rattle.model_rosters.proofs.EachLemmas.{get-in}
use Rattle.model_rosters.specs.arc_laws.Lists.{AreArcs}
use Rattle.model_rosters.specs.arc_laws.OrNodes.{OrNode, name, suffix, leaf, used, root_of}
use Rattle.tree_graph.specs.declared.kid.Kid.{Kid}
use Rattle.tree_graph.specs.declared.node.NodeKey.{NodeKey}
use Rattle.tree_graph.specs.declared.joints.Joints.{Joints}
use Rattle.tree_graph.specs.declared.links.Links.{Links}
use Rattle.tree_graph.specs.declared.rows.Entry.{Entry}
use Rattle.tree_graph.specs.Graphs.{IsGraph, IsRoot, HasArcs}
use Rattle.tree_graph.specs.Joined.{AreJoints}
use Rattle.tree_graph.specs.Lists.{AreRows}
use Rattle.tree_graph.specs.Linked.{UsesListed, IsPlaceOf, AreLinked, IsLinked}
use Rattle.tree_graph.specs.Nodes.{or_node}
use Rattle.tree_span_arcs.specs.Shapes.{IsShaped}
use Rattle.tree_span_arcs.proofs.ShapesLemmas.{arc-shaped}
use Rattle.tree_graph.proofs.ArcUsesLemmas.{used-made, root-made}

-- the items before a place
at-taken : (arcs : List ArcKey) (k q : ℕ) (b : ArcKey) → k ≤ length arcs → q < k → slice_get arcs q ≡ Some b → slice_get (take k arcs) q ≡ Some b
at-taken arcs k q b l less e =
    slice_get-get_or (take k arcs) q b (omega (arith, less, length-take-le k arcs l)) ∙ ap Some (get_or-take k arcs q b less ∙ get_or_from_slice_get arcs q b b e)

-- what an arc uses the arcs before it have made
pub uses-listed : (g : Grammar) (arcs : List ArcKey) (k : ℕ) (a : ArcKey) (listed : List OrNode) (numbers : List ℕ) (firsts rests : List Kid) (me ue : List Entry)
    → HasArcs g arcs → slice_get arcs k ≡ Some a → AreLinked g (take k arcs) listed numbers firsts rests me ue → UsesListed g listed a
uses-listed g arcs k a listed numbers firsts rests me ue has at h (leaf l) below = tt
uses-listed g arcs k a listed numbers firsts rests me ue has at h (name x i l) below =
    let b = used-made g a (name x i l) (has.sound k a at) below refl in
    let q = has.whole b.0 b.1 in
    let less = has.upward k q.0 a b.0 at q.1 (subst (λ (o : OrNode). In o (used g a)) (sym b.2) below) in
    let n = h.made_by q.0 b.0 (at-taken arcs k q.0 b.0 (omega (arith, slice_get_within arcs k a at)) less q.1) in
    (n.0, n.2 ∙ ap Some b.2)
uses-listed g arcs k a listed numbers firsts rests me ue has at h (suffix r j i l) below =
    let b = used-made g a (suffix r j i l) (has.sound k a at) below refl in
    let q = has.whole b.0 b.1 in
    let less = has.upward k q.0 a b.0 at q.1 (subst (λ (o : OrNode). In o (used g a)) (sym b.2) below) in
    let n = h.made_by q.0 b.0 (at-taken arcs k q.0 b.0 (omega (arith, slice_get_within arcs k a at)) less q.1) in
    (n.0, n.2 ∙ ap Some b.2)

root-is : (g : Grammar) (arcs : List ArcKey) (listed : List OrNode) (numbers : List ℕ) (firsts rests : List Kid) (me ue : List Entry) (root : Option ℕ)
    → HasArcs g arcs → AreLinked g arcs listed numbers firsts rests me ue → IsPlaceOf listed (root_of g) root → IsRoot g listed root
root-is g arcs listed numbers firsts rests me ue None has h none = λ t day.
    let b = root-made g t day in
    let q = has.whole b.0 b.1 in
    let n = h.made_by q.0 b.0 q.1 in
    none n.0 (n.2 ∙ ap Some b.2)
root-is g arcs listed numbers firsts rests me ue (Some n) has h at = at

-- the parts make the graph
pub graph-is : (g : Grammar) (arcs : List ArcKey) (keys : List NodeKey) (numbers : List ℕ) (firsts rests : List Kid) (me ue : List Entry) (makers users : List (List ℕ)) (root : Option ℕ)
    → HasArcs g arcs → length arcs ≤ 100000 → AreLinked g arcs (map or_node keys) numbers firsts rests me ue → AreRows (length keys) me makers → AreRows (length keys) ue users
    → IsPlaceOf (map or_node keys) (root_of g) root → IsGraph g (record { arcs = arcs; nodes = map or_node keys; made_by = numbers; first = firsts; rest = rests; makers = makers; users = users; root = root })
graph-is g arcs keys numbers firsts rests me ue makers users root has few h rows lists at = record {
  arcs = has;
  few = few;
  nodes = h.nodes;
  made_by = h.made_by;
  kids = h.kids;
  makers = λ n o e. rows.each n (omega (arith, slice_get_within (map or_node keys) n o e, length-map keys or_node)) ∙ ap Some (h.makers n o e);
  users = λ n o e. lists.each n (omega (arith, slice_get_within (map or_node keys) n o e, length-map keys or_node)) ∙ ap Some (h.users n o e);
  root = root-is g arcs (map or_node keys) numbers firsts rests me ue root has h at;
}

-- the arcs of the instance have their shape
pub all-shaped : (g : Grammar) (listed : List ArcKey) → AreArcs g listed → All (IsShaped g) listed
all-shaped g listed are = λ k d l. arc-shaped g (get_or listed k d) (are.sound _ (get-in listed k _ (slice_get-get_or listed k d l)))

-- what linked arcs and their rows make
pub joints-are : (g : Grammar) (arcs : List ArcKey) (links : Links) (j : Joints) → HasArcs g arcs → length arcs ≤ 100000 → IsLinked g arcs links → j.links ≡ links.arcs → j.nodes.keys ≡ links.nodes.keys
    → AreRows (length links.nodes.keys) links.entries.makers j.nodes.makers → AreRows (length links.nodes.keys) links.entries.users j.nodes.users → IsPlaceOf (map or_node links.nodes.keys) (root_of g) j.root → AreJoints g arcs j
joints-are g arcs links j has few h e f makers users root =
    let long = length-map links.nodes.keys or_node in
    let same = ap length f in
    record {
      graph = rw (e, f) (graph-is g arcs links.nodes.keys links.arcs.made_by links.arcs.first links.arcs.rest links.entries.makers links.entries.users j.nodes.makers j.nodes.users j.root has few h makers users root);
      lengths = record {
        few = omega (arith, same, long, h.few, few);
        made_by = rw e h.one_each;
        first = rw e h.first_each;
        rest = rw e h.rest_each;
        makers = omega (arith, same, makers.count);
        users = omega (arith, same, users.count);
      };
    }

-- the entries name nodes
pub rows-within : (keys : List NodeKey) (entries : List Entry) → All (λ (e : Entry). e.row < length (map or_node keys)) entries → All (λ (e : Entry). e.row < length keys) entries
rows-within keys entries h = λ k d l. let e = h k d l in omega (arith, e, length-map keys or_node)
