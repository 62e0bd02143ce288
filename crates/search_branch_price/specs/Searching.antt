-- What a search knows between two steps.
use Rattle.std.specs.Prelude.{ℕ, Bool, IfSome, List}
use Rattle.model_rosters.specs.declared.instance.Instance.{Instance}
use Rattle.tree_graph.specs.Graphs.{GraphView}
use Rattle.check_certificates.specs.growing_laws.Grown.{Grown}
use Rattle.search_open_nodes.specs.declared.leaf.OpenLeaf.{OpenLeaf}
use Rattle.search_tree.specs.Views.{Site}
use Rattle.search_tree.specs.Trees.{IsTree}
use Rattle.search_candidates.specs.Rosters.{IsGoodRoster}
use Rattle.search_candidates.specs.Starts.{HasStart, StartsWith}
use Rattle.search_candidates.specs.Offers.{limit_of}
use Rattle.search_branch_price.specs.declared.progress.Progress.{Progress}

abbrev pub site_of : Instance → GraphView → Bool → ℕ → Site
site_of i v strict before = record { day = i; graph = v; strict = strict; before = before }

-- the tree is right for the cost of the best roster, which is allowed and no dearer than the first one
pub record IsSearching (s : Site) (now low : ℕ) (hand : List OpenLeaf) (p : Progress)
    (t : Grown) : Type 0 where
  pub tree : IsTree s (limit_of s.day p.best) now low hand p.tree t
  pub best : IfSome p.best (IsGoodRoster s.day)
  pub start : HasStart s.day → StartsWith s.day p.best
