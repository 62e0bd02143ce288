-- What holds before each turn of a search.
use Rattle.std.specs.Prelude.{ℕ, ◌≡◌, ◌≤◌, Bool, IsTrue, []}
use Rattle.model_rosters.specs.declared.instance.Instance.{Instance}
use Rattle.tree_graph.specs.Graphs.{GraphView}
use Rattle.check_certificates.specs.growing_laws.Grown.{Grown}
use Rattle.search_branch_price.specs.declared.progress.Progress.{Progress}
use Rattle.search_branch_price.specs.Searching.{site_of, IsSearching}

-- no leaf is in hand, no count fell, and no more nodes are processed than there are turns
pub record IsLooping (i : Instance) (v : GraphView) (strict : Bool) (before now turns : ℕ)
    (p : Progress) : Type 0 where
  pub low : ℕ
  pub tree : Grown
  pub is : IsSearching (site_of i v strict before) now low [] p tree
  pub rises : before ≤ now
  pub within : p.tree.processed ≤ turns

-- after so many turns a search of at most `turns` may end: one that a patient watch lets go on has used them all
abbrev pub MayStop : Bool → ℕ → ℕ → Type 0
MayStop patient turns processed = IsTrue patient → processed ≡ turns
