-- One arc is taken from what is left.
use Rattle.std.proofs.Common.{◌≡◌, ℕ, zero, suc, arith, ◌+◌, ◌-◌, ◌≤◌, ◌<◌, Bool, true, List, [], ◌∷◌, ◌++◌, Some, All, length, set, get_or, refl, ap, sym, subst, ◌∙◌}
use Rattle.std.specs.Prelude.{slice_get, slice_index}
use Rattle.std.proofs.lemmas.List.{append-nil, length-set}
use Rattle.std.proofs.lemmas.Option.{same_Some, slice_get_within, slice_get-get_or, get_or_from_slice_get}
use Rattle.model_rosters.specs.declared.grammar.ArcKey.{ArcKey}
use Rattle.model_rosters.specs.declared.grammar.Grammar.{Grammar}
use Rattle.model_rosters.specs.declared.grammar.Step.{Step}
use Rattle.model_rosters.specs.Trees.{Parts, steps}
use Rattle.model_rosters.specs.Folds.{count, In}
use Rattle.model_rosters.specs.Arcs.{arcs, same_arc}
use Rattle.model_rosters.proofs.EachLemmas.{get-in, in-get}
use Rattle.model_rosters.specs.arc_laws.OrNodes.{OrNode, name, suffix, leaf, same_node, made, used, root_of}
use Rattle.model_rosters.proofs.arc_laws.FoldsLemmas.{count-append}
use Rattle.model_rosters.proofs.arc_laws.ListEnds.{snoc-same, no-snoc}
use Rattle.model_rosters.specs.arc_laws.AtNodes.{steps_of}
use Rattle.model_rosters.proofs.arc_laws.StandOnceLemmas.{once-counted}
use Rattle.tree_graph.specs.Graphs.{GraphView, IsGraph, places, IsKid, AreKids}
use Rattle.tree_graph.specs.declared.kid.Kid.{Kid}
use Rattle.search_arc_counts.specs.roster_split.Nodes.{IsInner, push_inner, stack_after}
use Rattle.search_arc_counts.specs.roster_split.Filling.{AllAt, Filled, Walking}
use Rattle.search_arc_counts.proofs.roster_split.FillingLemmas.{advance}
use Rattle.search_arc_counts.proofs.roster_split.Shape.{Shape, arc-shape}
use Rattle.tree_graph.proofs.ArcUsesLemmas.{same-node, own-node}
use Rattle.search_arc_counts.proofs.roster_split.TakenCounts.{taken}
use Rattle.search_arc_counts.proofs.roster_split.OwingLemmas.{inner-made, Chosen, chosen}
use Rattle.tree_graph.proofs.PlacesLemmas.{in-graph}
use Rattle.search_arc_counts.specs.roster_split.Counts.{count_of}
use Rattle.search_arc_counts.specs.roster_split.Stacks.{AreStacked, pushed_kid}
use Rattle.search_arc_counts.specs.roster_split.Taking.{AsksArc, TakesArc, AsksTree, TakesTree, IsTaking, total}
use Rattle.search_arc_counts.proofs.roster_split.Places.{count-at, count-less, places-sound, places-whole}

module _ (g : Grammar) (v : GraphView) (graph : IsGraph g v) where
  pub shapes : (a : ArcKey) → In a v.arcs → Shape g a
  shapes a h = arc-shape g a (in-graph g v.arcs graph.arcs a h)

  pub once : (a : ArcKey) → In a v.arcs → count (same_arc a) v.arcs ≡ 1
  once = once-counted v.arcs graph.arcs.once

  -- a node of the graph is no letter
  pub node-inner : (n : ℕ) (o : OrNode) → slice_get v.nodes n ≡ Some o → IsInner o
  node-inner n o e = let m = graph.nodes.made n o e in subst IsInner m.3 (inner-made g m.1)

module _ (v : GraphView) (left : List ℕ) (number : ℕ) (asked : AsksArc v left number) where
  abbrev test : ArcKey → Bool
  test a = same_node asked.node (made asked.g a)

  pick : Chosen asked.g v.arcs (shapes asked.g v asked.graph) (once asked.g v asked.graph) (count_of v.arcs left) asked.node
  pick = chosen asked.g v.arcs (shapes asked.g v asked.graph) (once asked.g v asked.graph) (count_of v.arcs left) asked.node asked.pending (node-inner asked.g v asked.graph number asked.node asked.at) asked.owes

  module _ (makers : List ℕ) (are : slice_get v.makers number ≡ Some makers) where
    makers-are : makers ≡ places (λ a. same_node asked.node (made asked.g a)) v.arcs
    makers-are = same_Some makers _ (sym are ∙ asked.graph.makers number asked.node asked.at)

    -- each maker is an arc of the graph that makes the node
    pub maker-at : (k q : ℕ) → slice_get makers k ≡ Some q → (a : ArcKey) × (slice_get v.arcs q ≡ Some a) × (made asked.g a ≡ asked.node)
    maker-at k q e =
        let s = places-sound (λ a. same_node asked.node (made asked.g a)) 0 v.arcs k q (subst (λ (xs : List ℕ). slice_get xs k ≡ Some q) makers-are e) in
        let j : s.0 ≡ q = omega (arith, s.2) in
        (s.1, subst (λ (n : ℕ). slice_get v.arcs n ≡ Some s.1) j s.3, sym (same-node asked.node (made asked.g s.1) s.4))

    pub within : All (λ p. p < length left) makers
    within k d lt =
        let m = maker-at k (get_or makers k d) (slice_get-get_or makers k d lt) in
        let i = slice_get_within v.arcs (get_or makers k d) m.0 m.1 in
        let e = asked.each in
        omega (arith, i, e)

    -- and some maker has something left
    pub some-left : (k : ℕ) × (k < length makers) × (1 ≤ slice_index left (slice_index makers k))
    some-left =
        let p = pick in
        let q = in-get v.arcs p.arc p.is in
        let t : same_node asked.node (made asked.g p.arc) ≡ true = subst (λ (o : OrNode). same_node asked.node o ≡ true) (sym p.makes) (own-node asked.node) in
        let w = places-whole (λ a. same_node asked.node (made asked.g a)) 0 v.arcs q.0 p.arc q.1 t in
        let e : slice_get makers w.0 ≡ Some (0 + q.0) = subst (λ (xs : List ℕ). slice_get xs w.0 ≡ Some (0 + q.0)) (sym makers-are) w.1 in
        let z : 0 + q.0 ≡ q.0 = omega arith in
        let f : slice_index makers w.0 ≡ q.0 = get_or_from_slice_get makers w.0 (0 + q.0) 0 e ∙ z in
        let c = count-at v.arcs left asked.graph.arcs.once q.0 p.arc q.1 in
        let s = p.some in
        (w.0, slice_get_within makers w.0 (0 + q.0) e, subst (λ (n : ℕ). 1 ≤ slice_index left n) (sym f) (omega (arith, c, s)))

    pub takes : (arc : ℕ) (new : List ℕ) (k : ℕ) → slice_get makers k ≡ Some arc → 1 ≤ slice_index left arc → new ≡ set left arc (slice_index left arc - 1) → TakesArc asked.g v asked.node left new arc
    takes arc new k e some is = let m = maker-at k arc e in record { key = m.0; at = m.1; makes = m.2; some = some; taken = is }

total-set : (xs : List ℕ) (p : ℕ) → p < length xs → 1 ≤ slice_index xs p → total (set xs p (slice_index xs p - 1)) < total xs
total-set [] p lt some = absurd (omega (arith, lt))
total-set (x ∷ xs) zero lt some = omega (arith, some)
total-set (x ∷ xs) (suc p) lt some = omega (arith, total-set xs p (omega (arith, lt)) some)

kid-stacked : (nodes : List OrNode) (o : OrNode) (kid : Kid) (st : List ℕ) (os : List OrNode) → IsKid nodes o kid → AreStacked nodes st os → AreStacked nodes (pushed_kid st kid) (push_inner o os)
kid-stacked nodes (leaf l) kid st os is h = subst (λ (k : Kid). AreStacked nodes (pushed_kid st k) os) (sym is) h
kid-stacked nodes (name x i l) kid st os is h = subst (λ (k : Kid). AreStacked nodes (pushed_kid st k) (name x i l ∷ os)) (sym is.1) (is.0, st, refl, is.2, h)
kid-stacked nodes (suffix r k i l) kid st os is h = subst (λ (k2 : Kid). AreStacked nodes (pushed_kid st k2) (suffix r k i l ∷ os)) (sym is.1) (is.0, st, refl, is.2, h)

kids-stacked : (nodes : List OrNode) (used_nodes : List OrNode) (kids : Kid × Kid) (st : List ℕ) (os : List OrNode) → AreKids nodes used_nodes kids → AreStacked nodes st os
    → AreStacked nodes (pushed_kid (pushed_kid st kids.1) kids.0) (stack_after used_nodes os)
kids-stacked nodes [] kids st os are h = absurd are
kids-stacked nodes (o ∷ []) kids st os are h = kid-stacked nodes o kids.0 (pushed_kid st kids.1) os are.0 (subst (λ (k : Kid). AreStacked nodes (pushed_kid st k) os) (sym are.1) h)
kids-stacked nodes (o ∷ q ∷ []) kids st os are h = kid-stacked nodes o kids.0 (pushed_kid st kids.1) (push_inner q os) are.0 (kid-stacked nodes q kids.1 st os are.1 h)
kids-stacked nodes (o ∷ q ∷ s ∷ os2) kids st os are h = absurd are

module _ (v : GraphView) (old : List ℕ) (root : ℕ) (asked : AsksTree v old root) where
  abbrev State : List ℕ → List ℕ → List Step → Type 0
  State now stack written = IsTaking asked.g v asked.pending old now stack written

  pub begun : State old (root ∷ []) []
  begun = record {
    open_nodes = root_of asked.g ∷ [];
    stacked = (root, [], refl, asked.at, refl);
    each = asked.each;
    walking = record { owes = asked.owes; fills = λ ts h. fill ts h };
  }
    where
      fill : (ts : List Parts) → AllAt asked.g (root_of asked.g ∷ []) ts → Filled asked.g (root_of asked.g) (count_of v.arcs old) (count_of v.arcs old) (root_of asked.g ∷ []) [] ts
      fill [] h = absurd h
      fill (t ∷ u ∷ ts) h = absurd h.1
      fill (t ∷ []) h = record {
        whole = t;
        on = h.0;
        written = sym (append-nil (steps 1 t));
        counts = λ a. let e = count-append (same_arc a) (arcs 1 t) [] in omega (arith, e);
      }

  -- the node that was popped, and the others
  pub record Opened (now stack : List ℕ) (written : List Step) (node : ℕ) : Type 0 where
    pub top : OrNode
    pub others : List OrNode
    pub at : slice_get v.nodes node ≡ Some top
    pub stacked : AreStacked v.nodes stack others
    pub each : length now ≡ length v.arcs
    pub walking : Walking asked.g v.arcs (root_of asked.g) (count_of v.arcs old) (count_of v.arcs now) (top ∷ others) asked.pending written

  pub opened : (now before stack : List ℕ) (written : List Step) (node : ℕ) → State now before written → before ≡ stack ++ node ∷ [] → Opened now stack written node
  opened now before stack written node s e = by s.open_nodes s.stacked s.walking
    where
      by : (os : List OrNode) → AreStacked v.nodes before os → Walking asked.g v.arcs (root_of asked.g) (count_of v.arcs old) (count_of v.arcs now) os asked.pending written → Opened now stack written node
      by [] h w = absurd (no-snoc stack node (sym e ∙ h))
      by (o ∷ os) h w =
          let q = snoc-same h.1 stack h.0 node (sym h.2 ∙ e) in
          record {
            top = o;
            others = os;
            at = subst (λ (n : ℕ). slice_get v.nodes n ≡ Some o) q.1 h.3;
            stacked = subst (λ (xs : List ℕ). AreStacked v.nodes xs os) q.0 h.4;
            each = s.each;
            walking = w;
          }

  pub asks-arc : (now before stack : List ℕ) (written : List Step) (node : ℕ) → State now before written → before ≡ stack ++ node ∷ [] → AsksArc v now node
  asks-arc now before stack written node s e =
      let o = opened now before stack written node s e in
      record { g = asked.g; sound = asked.sound; graph = asked.graph; node = o.top; at = o.at; each = o.each; pending = o.others ++ asked.pending; owes = o.walking.owes }

  module _ (now before stack : List ℕ) (written : List Step) (node : ℕ) (s : State now before written) (e : before ≡ stack ++ node ∷ []) (arc : ℕ) (new : List ℕ)
      (takes_it : (a : AsksArc v now node) → TakesArc a.g v a.node now new arc) where
    pub took : TakesArc asked.g v (opened now before stack written node s e).top now new arc
    unfolding asks-arc opened
    took = takes_it (asks-arc now before stack written node s e)

    pub arc-inside : arc < length v.arcs
    arc-inside = slice_get_within v.arcs arc took.key took.at

    pub falls : total new < total now
    falls =
        let i = arc-inside in
        let h = s.each in
        subst (λ (xs : List ℕ). total xs < total now) (sym took.taken) (total-set now arc (omega (arith, i, h)) took.some)

    pub key-is : (d : ArcKey) → get_or v.arcs arc d ≡ took.key
    key-is d = get_or_from_slice_get v.arcs arc took.key d took.at

    pub next : (kids : Kid × Kid) → slice_get v.first arc ≡ Some kids.0 → slice_get v.rest arc ≡ Some kids.1 → (d : ArcKey)
        → State new (pushed_kid (pushed_kid stack kids.1) kids.0) (written ++ steps_of (get_or v.arcs arc d))
    next kids first rest d =
        let o = opened now before stack written node s e in
        let t = took in
        let c : Chosen asked.g v.arcs (shapes asked.g v asked.graph) (once asked.g v asked.graph) (count_of v.arcs now) o.top = record {
          arc = t.key;
          is = get-in v.arcs arc t.key t.at;
          some = let n = count-at v.arcs now asked.graph.arcs.once arc t.key t.at in let m = t.some in omega (arith, n, m);
          makes = t.makes;
        } in
        let less : (a : ArcKey) → taken t.key (count_of v.arcs now) a ≡ count_of v.arcs new a =
        λ a. count-less v.arcs now asked.graph.arcs.once arc t.key t.at s.each a ∙ ap (λ (xs : List ℕ). count_of v.arcs xs a) (sym t.taken) in
        let k = asked.graph.kids arc t.key t.at in
        let f : k.0.0 ≡ kids.0 = same_Some k.0.0 kids.0 (sym k.1 ∙ first) in
        let r : k.0.1 ≡ kids.1 = same_Some k.0.1 kids.1 (sym k.2 ∙ rest) in
        let st = kids-stacked v.nodes (used asked.g t.key) k.0 stack o.others k.3 o.stacked in
        record {
          open_nodes = stack_after (used asked.g t.key) o.others;
          stacked = subst (λ (y : Kid). AreStacked v.nodes (pushed_kid (pushed_kid stack kids.1) y) (stack_after (used asked.g t.key) o.others)) f
              (subst (λ (y : Kid). AreStacked v.nodes (pushed_kid (pushed_kid stack y) k.0.0) (stack_after (used asked.g t.key) o.others)) r st);
          each = ap length t.taken ∙ length-set now arc (slice_index now arc - 1) ∙ s.each;
          walking = subst (λ (y : ArcKey). Walking asked.g v.arcs (root_of asked.g) (count_of v.arcs old) (count_of v.arcs new) (stack_after (used asked.g t.key) o.others) asked.pending (written ++ steps_of y)) (sym (key-is d))
              (advance asked.g v.arcs (shapes asked.g v asked.graph) (once asked.g v asked.graph) (root_of asked.g) (count_of v.arcs old) (count_of v.arcs now) (count_of v.arcs new) o.top o.others asked.pending written o.walking c less);
        }

  pub ended : (now : List ℕ) (written : List Step) → State now [] written → TakesTree asked.g v asked.pending old now written
  ended now written s = by s.open_nodes s.stacked s.walking
    where
      by : (os : List OrNode) → AreStacked v.nodes [] os → Walking asked.g v.arcs (root_of asked.g) (count_of v.arcs old) (count_of v.arcs now) os asked.pending written → TakesTree asked.g v asked.pending old now written
      by (o ∷ os) h w = absurd (no-snoc h.1 h.0 (sym h.2))
      by [] h w =
          let f = w.fills [] tt in
          record {
            tree = f.whole;
            day = f.on;
            uses = sym (append-nil written) ∙ sym f.written;
            counts = λ a. let x = f.counts a in omega (arith, x);
            owes = w.owes;
            each = s.each;
          }
