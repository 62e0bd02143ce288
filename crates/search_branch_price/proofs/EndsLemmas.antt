-- The loop of a search: its begin, its next leaf, and its end.
use Rattle.std.proofs.Common.{◌≡◌, ℕ, arith, ◌≤◌, ◌<◌, Option, None, Some, IfSome, List, [], ◌∷◌, refl, sym, subst}
use Rattle.std.specs.Prelude.{MatchOption, IfNone}
use Rattle.model_rosters.specs.declared.instance.Instance.{Instance}
use Rattle.model_rosters.specs.Cuts.{base_cuts}
use Rattle.tree_graph.specs.Graphs.{GraphView}
use Rattle.check_certificates.specs.growing_laws.Grown.{Grown, OnTips, tip_bound}
use Rattle.check_certificates.specs.growing_laws.Boxes.{IsOpenLeaf}
use Rattle.search_open_nodes.specs.declared.leaf.OpenLeaf.{OpenLeaf}
use Rattle.search_tree.specs.Views.{Site, TreeView}
use Rattle.search_tree.specs.Trees.{IsTree}
use Rattle.search_tree.proofs.TreeLaws.{few-seats}
use Rattle.search_candidates.specs.declared.roster.Roster.{Roster}
use Rattle.search_candidates.specs.Rosters.{IsGoodRoster}
use Rattle.search_candidates.specs.Starts.{HasStart, StartsWith}
use Rattle.search_candidates.specs.Offers.{limit_of}
use Rattle.search_branch_price.specs.declared.progress.Progress.{Progress}
use Rattle.search_branch_price.specs.Searching.{site_of, IsSearching}
use Rattle.search_branch_price.specs.Steps.{IsBegun}
use Rattle.search_branch_price.specs.Ends.{LeavesReach, IsFinal, IsNext}
use Rattle.search_branch_price.proofs.EndedLeaves.{ended-leaves}

-- what is known of the tree, whatever is in hand
pub final-is : (s : Site) (now low : ℕ) (hand : List OpenLeaf) (p : Progress) (t : Grown)
    → IsSearching s now low hand p t → IsFinal s now low p t
final-is s now low hand p t is = record {
  growing = is.tree.growing;
  held = is.tree.held;
  leaves = ended-leaves s (limit_of s.day p.best) now low hand p.tree t is.tree;
  few = few-seats s (limit_of s.day p.best) now low hand p.tree t is.tree;
  processed = is.tree.processed;
  failed = is.tree.failed;
  counted = is.tree.counted;
  best = is.best;
  start = is.start;
}

pub next-is : (i : Instance) (old : Progress) (w : TreeView) (limit : ℕ) → limit ≡ limit_of i old.best
    → w.processed ≡ old.tree.processed → (result : Option OpenLeaf)
    → ((s : Site) (now low : ℕ) (t : Grown) → IsTree s limit now low [] old.tree t
    → MatchOption result
    (OnTips (λ up path k l. IsOpenLeaf l → limit ≤ tip_bound up l) 0 (base_cuts s.day) t)
    (λ leaf. (leaf.bound < limit) × IsTree s limit now leaf.bound (leaf ∷ []) w t))
    → ((s : Site) (now low : ℕ) (t : Grown) → IsTree s limit now low [] old.tree t
    → IfNone result ((hand : List OpenLeaf) × IsTree s limit now low hand w t))
    → IsNext i old (record { tree = w; best = old.best }) result
next-is i old w limit e same None taken left = record {
  best = refl;
  processed = same;
  taken = λ v strict before now low t is.
      let s = site_of i v strict before in
      let given : IsTree s limit now low [] old.tree t = subst (λ (n : ℕ). IsTree s n now low [] old.tree t) (sym e) is.tree in
      let shut : LeavesReach i limit t = taken s now low t given in
      let rest = left s now low t given in
      let tree : IsTree s (limit_of i old.best) now low rest.0 w t = subst (λ (n : ℕ). IsTree s n now low rest.0 w t) e rest.1 in (
        subst (λ (n : ℕ). LeavesReach i n t) e shut,
        final-is s now low rest.0 (record { tree = w; best = old.best }) t (record { tree = tree; best = is.best; start = is.start }),
      );
}
next-is i old w limit e same (Some leaf) taken left = record {
  best = refl;
  processed = same;
  taken = λ v strict before now low t is.
      let s = site_of i v strict before in
      let given : IsTree s limit now low [] old.tree t = subst (λ (n : ℕ). IsTree s n now low [] old.tree t) (sym e) is.tree in
      let got : (leaf.bound < limit) × IsTree s limit now leaf.bound (leaf ∷ []) w t = taken s now low t given in
      let tree : IsTree s (limit_of i old.best) now leaf.bound (leaf ∷ []) w t = subst (λ (n : ℕ). IsTree s n now leaf.bound (leaf ∷ []) w t) e got.1 in
      let below = got.0 in
      (omega (arith, e, below), record { tree = tree; best = is.best; start = is.start });
}

pub begun-is : (i : Instance) (v : GraphView) (w : TreeView) (best : Option Roster)
    → ((s : Site) (limit now : ℕ) → s.before ≤ now → (t : Grown) × IsTree s limit now 0 [] w t) → w.processed ≡ 0
    → IfSome best (IsGoodRoster i) → (HasStart i → StartsWith i best)
    → IsBegun i v (record { tree = w; best = best })
begun-is i v w best tree none good start = record {
  is = λ strict before. let t = tree (site_of i v strict before) (limit_of i best) before (omega arith) in
      (t.0, record { tree = t.1; best = good; start = start });
  none = none;
}
