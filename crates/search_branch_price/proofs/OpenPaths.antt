-- A node's path leaves each arc a count.
use Rattle.std.proofs.Common.{ℕ, arith, ◌+◌, ◌≤◌, ◌<◌, Bool, List, [], ◌∷◌, ◌++◌, subst, inl, inr}
use Rattle.model_rosters.specs.declared.grammar.ArcKey.{ArcKey}
use Rattle.model_rosters.specs.declared.instance.Cut.{Cut}
use Rattle.model_rosters.specs.declared.instance.Instance.{Instance}
use Rattle.model_rosters.specs.Cuts.{lo, hi}
use Rattle.model_rosters.specs.Folds.{Each}
use Rattle.model_rosters.proofs.arc_laws.PathBounds.{Keeps, bounds-hold, bounds-keep}
use Rattle.model_rosters.proofs.arc_laws.SameArc.{Told, arc_tells}
use Rattle.check_certificates.specs.Nodes.{low_cut, high_cut}
use Rattle.check_certificates.specs.growing_laws.Grown.{Grown, tip, fork, OnForks}
use Rattle.check_certificates.specs.growing_laws.Seats.{StandsAt}
use Rattle.check_certificates.specs.growing_laws.States.{IsSplitAt}
use Rattle.model_rosters.specs.Cuts.{base_cuts}
use Rattle.model_rosters.specs.SoundInstance.{IsSoundInstance}
use Rattle.model_rosters.proofs.EachLemmas.{Each-append}
use Rattle.law_bounds.specs.Counted.{AsksForArc}
use Rattle.law_bounds.specs.Infeasible.{IsPlainlyInfeasible}
use Rattle.law_bounds.proofs.BaseCuts.{base-open, base-asks}
use Rattle.tree_graph.specs.Graphs.{GraphView}
use Rattle.check_certificates.specs.growing_laws.States.{IsSplit}
use Rattle.check_certificates.proofs.growing_laws.GrownLemmas.{forks-map}
use Rattle.search_open_nodes.specs.declared.leaf.OpenLeaf.{OpenLeaf}
use Rattle.search_branch_price.specs.declared.progress.Progress.{Progress}
use Rattle.search_branch_price.specs.Plans.{AskForArcs}
use Rattle.search_branch_price.specs.Steps.{AsksNode}
use Rattle.search_branch_price.proofs.NodeCuts.{hi-most, path-based}

abbrev pub IsOpen : ℕ → List Cut → Type 0
IsOpen most cuts = (x : ArcKey) → lo cuts x ≤ hi most cuts x

-- a count that all cuts leave the arc
held : (most n : ℕ) (cuts : List Cut) (c : Cut) (x : ArcKey) → n ≤ most → (lo cuts x ≤ n) × (n ≤ hi most cuts x) → Keeps x n c
    → lo (cuts ++ c ∷ []) x ≤ hi most (cuts ++ c ∷ []) x
held most n cuts c x le h k =
    let b = bounds-hold most n (cuts ++ c ∷ []) x le (Each-append (Keeps x n) cuts (c ∷ []) (bounds-keep most n cuts x h) (k, tt)) in
    let low = b.0 in
    let high = b.1 in
    omega (arith, low, high)

-- both halves of a split leave each arc a count
halves-open : (most : ℕ) (cuts : List Cut) (a : ArcKey) (b : ℕ) → IsOpen most cuts → lo cuts a ≤ b → b < hi most cuts a
    → IsOpen most (cuts ++ low_cut a b ∷ []) × IsOpen most (cuts ++ high_cut a b ∷ [])
halves-open most cuts a b wide low high = (λ x. lows x (arc_tells a x), λ x. highs x (arc_tells a x))
  where
    lows : (x : ArcKey) → Told a x → lo (cuts ++ low_cut a b ∷ []) x ≤ hi most (cuts ++ low_cut a b ∷ []) x
    lows x (inl t) =
        let w = wide x in
        let m = hi-most most cuts x in
        let l : lo cuts x ≤ b = subst (λ (y : ArcKey). lo cuts y ≤ b) t.2 low in
        held most (lo cuts x) cuts (low_cut a b) x (omega (arith, w, m)) (omega arith, w) (λ e. l)
    lows x (inr t) =
        let w = wide x in
        let m = hi-most most cuts x in
        held most (lo cuts x) cuts (low_cut a b) x (omega (arith, w, m)) (omega arith, w) (λ e. let f = t.0 in cc)

    highs : (x : ArcKey) → Told a x → lo (cuts ++ high_cut a b ∷ []) x ≤ hi most (cuts ++ high_cut a b ∷ []) x
    highs x (inl t) =
        let m = hi-most most cuts x in
        let l : lo cuts x ≤ b = subst (λ (y : ArcKey). lo cuts y ≤ b) t.2 low in
        let h : b < hi most cuts x = subst (λ (y : ArcKey). b < hi most cuts y) t.2 high in
        held most (b + 1) cuts (high_cut a b) x (omega (arith, h, m)) (omega (arith, l), omega (arith, h)) (λ e. omega arith)
    highs x (inr t) =
        let w = wide x in
        let m = hi-most most cuts x in
        held most (lo cuts x) cuts (high_cut a b) x (omega (arith, w, m)) (omega arith, w) (λ e. let f = t.0 in cc)

pub path-open : (i : Instance) (cuts : List Cut) (t : Grown) (n : ℕ) (path : List Cut) → IsOpen i.heads_max cuts
    → OnForks (λ q a b own. IsSplitAt i q a b) cuts t → StandsAt cuts t n path → IsOpen i.heads_max path
path-open i cuts (tip k l) n path wide forks at = subst (λ (p : List Cut). IsOpen i.heads_max p) at.1 wide
path-open i cuts (fork k a b own low high) n path wide forks (inl at) = subst (λ (p : List Cut). IsOpen i.heads_max p) at.1 wide
path-open i cuts (fork k a b own low high) n path wide forks (inr (inl at)) =
    path-open i (cuts ++ low_cut a b ∷ []) low n path (halves-open i.heads_max cuts a b wide forks.0.low forks.0.high).0 forks.1 at
path-open i cuts (fork k a b own low high) n path wide forks (inr (inr at)) =
    path-open i (cuts ++ high_cut a b ∷ []) high n path (halves-open i.heads_max cuts a b wide forks.0.low forks.0.high).1 forks.2 at

-- the cuts of a node's path ask for arcs alone
pub path-asks : (i : Instance) (cuts : List Cut) (t : Grown) (n : ℕ) (path : List Cut) → Each (AsksForArc i) cuts
    → OnForks (λ q a b own. IsSplitAt i q a b) cuts t → StandsAt cuts t n path → Each (AsksForArc i) path
path-asks i cuts (tip k l) n path asks forks at = subst (λ (p : List Cut). Each (AsksForArc i) p) at.1 asks
path-asks i cuts (fork k a b own low high) n path asks forks (inl at) = subst (λ (p : List Cut). Each (AsksForArc i) p) at.1 asks
path-asks i cuts (fork k a b own low high) n path asks forks (inr (inl at)) =
    path-asks i (cuts ++ low_cut a b ∷ []) low n path (Each-append (AsksForArc i) cuts (low_cut a b ∷ []) asks (λ e lacks. lacks forks.0.arc, tt)) forks.1 at
path-asks i cuts (fork k a b own low high) n path asks forks (inr (inr at)) =
    path-asks i (cuts ++ high_cut a b ∷ []) high n path (Each-append (AsksForArc i) cuts (high_cut a b ∷ []) asks (λ e lacks. lacks forks.0.arc, tt)) forks.2 at

pub leaf-asks : (i : Instance) (v : GraphView) (strict : Bool) (before now low : ℕ) (p : Progress) (leaf : OpenLeaf) (cuts : List Cut) → IsSoundInstance i
    → (IsPlainlyInfeasible i → ⊥) → AsksNode i v strict before now low p leaf cuts → AskForArcs i cuts
leaf-asks i v strict before now low p leaf cuts sound busy asked =
    let splits = forks-map (IsSplit i strict low) (λ q a b own. IsSplitAt i q a b) (λ q a b own h. h.0) (base_cuts i) asked.tree asked.is.tree.growing.forks in
    record {
      each = path-asks i (base_cuts i) asked.tree leaf.kept.seat cuts (base-asks i sound busy) splits asked.place.stands;
      based = path-based (base_cuts i) asked.tree leaf.kept.seat cuts asked.place.stands;
      wide = path-open i (base_cuts i) asked.tree leaf.kept.seat cuts (λ a. base-open i a sound) splits asked.place.stands;
    }
