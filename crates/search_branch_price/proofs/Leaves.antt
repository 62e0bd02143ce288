-- A leaf in hand: the arc of its plan, and its path.
use Rattle.std.proofs.Common.{◌≡◌, ℕ, arith, ◌≤◌, ◌<◌, ◌^◌, None, Some, List, [], ◌∷◌, ◌++◌, length, refl, sym, subst, ap, ◌∙◌, inl, inr}
use Rattle.std.specs.Prelude.{slice_get}
use Rattle.model_rosters.specs.declared.grammar.ArcKey.{ArcKey}
use Rattle.model_rosters.specs.declared.instance.Cut.{Cut}
use Rattle.model_rosters.specs.declared.instance.Instance.{Instance}
use Rattle.model_rosters.specs.Cuts.{base_cuts}
use Rattle.model_rosters.specs.Folds.{Each}
use Rattle.model_rosters.specs.SoundInstance.{IsSoundInstance}
use Rattle.model_rosters.proofs.EachLemmas.{Each-weaker}
use Rattle.check_certificates.specs.Nodes.{low_cut, high_cut}
use Rattle.law_bounds.specs.master_laws.Laws.{IsBelowHeads}
use Rattle.search_masters.specs.Ends.{IsNodeCut}
use Rattle.check_certificates.specs.growing_laws.Grown.{Grown, tip, fork, Leaf, fresh, valued, fixed, SomeTip, raised, tip_bound}
use Rattle.check_certificates.specs.growing_laws.Boxes.{IsOpenLeaf}
use Rattle.check_certificates.specs.growing_laws.States.{IsSplit, IsSplitAt}
use Rattle.check_certificates.proofs.growing_laws.GrownLemmas.{some-both, forks-map}
use Rattle.search_open_nodes.specs.declared.leaf.Plan.{Plan}
use Rattle.search_open_nodes.specs.declared.leaf.OpenLeaf.{OpenLeaf}
use Rattle.search_tree.specs.Views.{TreeView, Site, IsPlace}
use Rattle.search_tree.specs.Trees.{HasPlan, IsTree, IsPlan}
use Rattle.search_tree.proofs.TreeLaws.{queued-leaf, leaf-in-hand, few-seats, short-paths}
use Rattle.search_tree.specs.Asked.{AsksSplit, IsHalved}
use Rattle.std.proofs.lemmas.Option.{slice_get_within}
use Rattle.search_arc_counts.specs.node_path.Paths.{IsNode}
use Rattle.search_candidates.specs.Offers.{limit_of}
use Rattle.search_branch_price.specs.declared.progress.Progress.{Progress}
use Rattle.search_branch_price.specs.Searching.{site_of}
use Rattle.search_branch_price.specs.declared.turn_end.TurnEnd.{TurnEnd}
use Rattle.search_branch_price.specs.declared.turn_end.TurnEnd.TheVariants.{Done, Stopped, StoppedAtRoot}
use Rattle.search_branch_price.specs.declared.turn_end.RootPrices.{RootPrices}
use Rattle.search_branch_price.specs.Steps.{AsksTurn, AsksNode, AsksHalf, IsTurned, IsStopped, IsStoppedAtRoot, EndsTurn}
use Rattle.check_certificates.specs.declared.growing_laws.seat.Seat.{Seat}
use Rattle.search_branch_price.proofs.NodeCuts.{IsGoodCut, path-cuts, path-based, base-good, base-few}
use Rattle.tree_graph.specs.Graphs.{GraphView}
use Rattle.std.specs.Prelude.{Bool}

-- what holds of a leaf whatever it is
some-out : (X : Type 0) (above : ℕ) (cuts : List Cut) (t : Grown) → SomeTip (λ up path k l. X) above cuts t → X
some-out X above cuts (tip k l) h = h
some-out X above cuts (fork k a b own low high) (inl h) = some-out X (raised above own) (cuts ++ low_cut a b ∷ []) low h
some-out X above cuts (fork k a b own low high) (inr h) = some-out X (raised above own) (cuts ++ high_cut a b ∷ []) high h

-- the plan of a leaf in hand is on an arc of the graph
pub planned-arc : (s : Site) (limit now low : ℕ) (leaf : OpenLeaf) (w : TreeView) (t : Grown) (plan : Plan)
    → IsTree s limit now low (leaf ∷ []) w t → leaf.kept.plan ≡ Some plan
    → (key : ArcKey) × (slice_get s.graph.arcs plan.arc ≡ Some key)
planned-arc s limit now low leaf w t plan is e =
    let found = queued-leaf t leaf w.waiting (base_cuts s.day) is.queue in
    some-out Arc 0 (base_cuts s.day) t
    (some-both (λ up path k l. k ≡ leaf.kept.seat → HasPlan s.day s.graph limit path l leaf.kept.plan) (λ up path k l. (k ≡ leaf.kept.seat) × IsOpenLeaf l × (tip_bound up l ≡ leaf.bound))
    (λ up path k l. Arc) (λ up path k l p q. by path l (p q.0) q.1) 0 (base_cuts s.day) t is.planned.0 found)
  where
    Arc : Type 0
    Arc = (key : ArcKey) × (slice_get s.graph.arcs plan.arc ≡ Some key)

    by : (path : List Cut) (l : Leaf) → HasPlan s.day s.graph limit path l leaf.kept.plan → IsOpenLeaf l → Arc
    by path fresh p o = let q : Some plan ≡ None = rw (← e) refl ∙ p in cc
    by path (valued x) p o = let q : IsPlan s.day s.graph path x.prices plan = rw e at p in (q.key, q.at)
    by path (fixed v) p o = absurd o

-- a node of the tree whose seats these are
pub is-node : (s : Site) (limit now low : ℕ) (hand : List OpenLeaf) (w : TreeView) (t : Grown) (n : ℕ) (path : List Cut) (up : ℕ)
    → IsTree s limit now low hand w t → w.processed ≤ 10000 → IsPlace (base_cuts s.day) t n up path fresh → IsNode s.day w.seats n t path
is-node s limit now low hand w t n path up is few place = record {
  held = is.held;
  splits = forks-map (IsSplit s.day s.strict low) (λ cuts a b own. IsSplitAt s.day cuts a b) (λ cuts a b own h. h.0) (base_cuts s.day) t is.growing.forks;
  stands = place.stands;
  few = let f = few-seats s limit now low hand w t is in omega (arith, f, few);
}

-- what the cuts of a leaf in hand are
pub record AreLeafCuts (i : Instance) (cuts : List Cut) : Type 0 where
  pub node : Each (IsNodeCut i) cuts
  pub below : Each (IsBelowHeads i) cuts
  pub based : (more : List Cut) × (cuts ≡ base_cuts i ++ more)
  pub few : length cuts < 2 ^ 31

pub leaf-cuts : (i : Instance) (v : GraphView) (strict : Bool) (before now low : ℕ) (p : Progress) (leaf : OpenLeaf) (cuts : List Cut) → IsSoundInstance i
    → AsksNode i v strict before now low p leaf cuts → AreLeafCuts i cuts
leaf-cuts i v strict before now low p leaf cuts sound asked =
    let is = asked.is.tree in
    let splits = forks-map (IsSplit i strict low) (λ q a b own. IsSplitAt i q a b) (λ q a b own h. h.0) (base_cuts i) asked.tree is.growing.forks in
    let good = path-cuts i sound (base_cuts i) asked.tree leaf.kept.seat cuts (base-good i sound) splits asked.place.stands in
    let short = short-paths (base_cuts i) asked.tree leaf.kept.seat cuts asked.place.stands in
    let busy = is.processed in
    let few = asked.few in
    let base : length (base_cuts i) ≤ 16 = base-few i sound in
    record {
      node = Each-weaker (IsGoodCut i) (IsNodeCut i) cuts (λ c h. h.node) good;
      below = Each-weaker (IsGoodCut i) (IsBelowHeads i) cuts (λ c h. h.below) good;
      based = path-based (base_cuts i) asked.tree leaf.kept.seat cuts asked.place.stands;
      few = omega (arith, short, busy, few, base);
    }

-- a leaf with a plan can be split on its arc
abbrev pub asks-split : (i : Instance) (v : GraphView) (strict : Bool) (now : ℕ) (p : Progress) (leaf : OpenLeaf) (plan : Plan) (arc : ArcKey)
    → AsksTurn i v strict now p leaf → leaf.kept.plan ≡ Some plan → slice_get v.arcs plan.arc ≡ Some arc → AsksSplit p.tree leaf plan arc
asks-split i v strict now p leaf plan arc asked e at = record {
  site = site_of i v strict asked.before;
  limit = limit_of i p.best;
  now = now;
  tree = asked.tree;
  is = asked.is.tree;
  below = asked.below;
  kept = e;
  at = at;
  few = let f = asked.few in omega (arith, f);
}

pub plan-within : (i : Instance) (v : GraphView) (strict : Bool) (now : ℕ) (p : Progress) (leaf : OpenLeaf) (plan : Plan)
    → AsksTurn i v strict now p leaf → leaf.kept.plan ≡ Some plan → plan.arc < length v.arcs
plan-within i v strict now p leaf plan asked e =
    let w = planned-arc (site_of i v strict asked.before) (limit_of i p.best) now leaf.bound leaf p.tree asked.tree plan asked.is.tree e in
    slice_get_within v.arcs plan.arc w.0 w.1

-- the half in hand is not processed
pub half-asks : (i : Instance) (v : GraphView) (strict : Bool) (now : ℕ) (p : Progress) (leaf : OpenLeaf) (tree : TreeView) (half : OpenLeaf)
    → (asked : AsksTurn i v strict now p leaf) → IsHalved (site_of i v strict asked.before) (limit_of i p.best) now p.tree tree leaf half
    → AsksHalf i v strict asked.before now leaf.bound p (record { tree = tree; best = p.best }) half
half-asks i v strict now p leaf tree half asked halved =
    let e = halved.bound in
    let b = asked.below in
    let place = leaf-in-hand (site_of i v strict asked.before) (limit_of i p.best) now leaf.bound half tree halved.tree halved.is (omega (arith, e, b)) halved.fresh in
    record {
      path = place.0;
      node = record {
        tree = halved.tree;
        is = record { tree = halved.is; best = asked.is.best; start = asked.is.start };
        place = place.1;
        bound = e;
        few = let f = asked.few in let q = halved.processed in omega (arith, f, q);
      };
      processed = halved.processed;
      best = refl;
    }

-- a leaf without a plan is not processed
pub whole-asks : (i : Instance) (v : GraphView) (strict : Bool) (now : ℕ) (p : Progress) (leaf : OpenLeaf)
    → (asked : AsksTurn i v strict now p leaf) → leaf.kept.plan ≡ None → AsksHalf i v strict asked.before now leaf.bound p p leaf
whole-asks i v strict now p leaf asked e =
    let place = leaf-in-hand (site_of i v strict asked.before) (limit_of i p.best) now leaf.bound leaf p.tree asked.tree asked.is.tree asked.below e in
    record {
      path = place.0;
      node = record { tree = asked.tree; is = asked.is; place = place.1; bound = refl; few = asked.few };
      processed = refl;
      best = refl;
    }

pub half-is-node : (i : Instance) (v : GraphView) (strict : Bool) (before now low : ℕ) (old new : Progress) (half : OpenLeaf) (seats : List Seat)
    → (asked : AsksHalf i v strict before now low old new half) → seats ≡ new.tree.seats
    → IsNode i seats half.kept.seat asked.node.tree asked.path
half-is-node i v strict before now low old new half seats asked e =
    let few = asked.node.few in
    subst (λ (xs : List Seat). IsNode i xs half.kept.seat asked.node.tree asked.path) (sym e)
    (is-node (site_of i v strict before) (limit_of i new.best) now low (half ∷ []) new.tree asked.node.tree half.kept.seat asked.path half.bound
    asked.node.is.tree (omega (arith, few)) asked.node.place)

pub half-node : (i : Instance) (v : GraphView) (strict : Bool) (before now low : ℕ) (old new : Progress) (half : OpenLeaf) (seats : List Seat)
    → (asked : AsksHalf i v strict before now low old new half) → seats ≡ new.tree.seats
    → (t : Grown) × (path : List Cut) × IsNode i seats half.kept.seat t path
half-node i v strict before now low old new half seats asked e =
    (asked.node.tree, asked.path, half-is-node i v strict before now low old new half seats asked e)

pub half-at : (i : Instance) (v : GraphView) (strict : Bool) (before now low : ℕ) (old new : Progress) (half : OpenLeaf) (cuts : List Cut)
    → (asked : AsksHalf i v strict before now low old new half) → cuts ≡ asked.path → AsksNode i v strict before now low new half cuts
half-at i v strict before now low old new half cuts asked e =
    subst (λ (cs : List Cut). AsksNode i v strict before now low new half cs) (sym e) asked.node

pub half-turned : (i : Instance) (v : GraphView) (strict : Bool) (before now later low : ℕ) (old new last : Progress) (half : OpenLeaf)
    → AsksHalf i v strict before now low old new half → IsTurned i v strict before later low new last → IsTurned i v strict before later low old last
half-turned i v strict before now later low old new last half asked turned = record {
  tree = turned.tree;
  is = turned.is;
  processed = let p = turned.processed in let q = asked.processed in omega (arith, p, q);
  falls = let f = turned.falls in let e = ap (limit_of i) asked.best in omega (arith, f, e);
}

pub half-stopped : (i : Instance) (v : GraphView) (strict : Bool) (before now later low : ℕ) (patient : Bool) (old new last : Progress) (half left : OpenLeaf)
    → AsksHalf i v strict before now low old new half → IsStopped i v strict before later low patient new last left
    → IsStopped i v strict before later low patient old last left
half-stopped i v strict before now later low patient old new last half left asked stopped = record {
  restless = stopped.restless;
  tree = stopped.tree;
  is = stopped.is;
  bound = stopped.bound;
  processed = let p = stopped.processed in let q = asked.processed in omega (arith, p, q);
  falls = let f = stopped.falls in let e = ap (limit_of i) asked.best in omega (arith, f, e);
}

pub half-stopped-root : (i : Instance) (v : GraphView) (strict : Bool) (before now low : ℕ) (patient : Bool) (old new last : Progress) (half : OpenLeaf) (root : RootPrices)
    → AsksHalf i v strict before now low old new half → IsStoppedAtRoot i patient new last root → IsStoppedAtRoot i patient old last root
half-stopped-root i v strict before now low patient old new last half root asked stopped = record {
  restless = stopped.restless;
  halted = stopped.halted;
  falls = let f = stopped.falls in let e = ap (limit_of i) asked.best in omega (arith, f, e);
}

-- a turn of the half is one of the leaf
pub half-ends : (i : Instance) (v : GraphView) (strict : Bool) (before now later low : ℕ) (patient : Bool) (old new last : Progress) (half : OpenLeaf) (end : TurnEnd)
    → AsksHalf i v strict before now low old new half → EndsTurn i v strict before later low patient new last end
    → EndsTurn i v strict before later low patient old last end
half-ends i v strict before now later low patient old new last half Done asked turned = half-turned i v strict before now later low old new last half asked turned
half-ends i v strict before now later low patient old new last half (Stopped left) asked stopped = half-stopped i v strict before now later low patient old new last half left asked stopped
half-ends i v strict before now later low patient old new last half (StoppedAtRoot root) asked stopped = half-stopped-root i v strict before now low patient old new last half root asked stopped
