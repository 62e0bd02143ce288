-- What a search knows of its tree.
use Rattle.std.specs.Prelude.{ℕ, ◌≡◌, ◌≢◌, ◌≤◌, ◌+◌, ◌-◌, ◌^◌, ◌&&◌, nat_lt, Bool, Option, None, Some, MatchOption, List, ◌++◌, length, map, slice_get}
use Rattle.model_rosters.specs.declared.grammar.ArcKey.{ArcKey}
use Rattle.model_rosters.specs.declared.instance.Cut.{Cut}
use Rattle.model_rosters.specs.declared.instance.Instance.{Instance}
use Rattle.model_rosters.specs.declared.instance.Prices.{Prices}
use Rattle.model_rosters.specs.Cuts.{base_cuts}
use Rattle.model_rosters.specs.Folds.{count, Each}
use Rattle.check_certificates.specs.Kinds.{is_unpriced}
use Rattle.check_certificates.specs.Nodes.{Visit, visits}
use Rattle.tree_graph.specs.Graphs.{GraphView}
use Rattle.law_bounds.specs.master_laws.Rows.{rows_of}
use Rattle.law_bounds.specs.near_laws.NearSharp.{IsSharpFor}
use Rattle.check_certificates.specs.growing_laws.Grown.{Grown, Leaf, fresh, valued, fixed, OnTips, times, busy, missed, proof_of}
use Rattle.check_certificates.specs.growing_laws.States.{IsGrowing, IsSplitAt}
use Rattle.check_certificates.specs.growing_laws.Seats.{HoldTree, IsUnsplit}
use Rattle.check_certificates.specs.growing_laws.Opens.{opens, SameEntries}
use Rattle.search_open_nodes.specs.declared.leaf.Plan.{Plan}
use Rattle.search_open_nodes.specs.declared.leaf.OpenLeaf.{OpenLeaf}
use Rattle.search_tree.specs.Views.{TreeView, Site, entry_of}

-- the last value of a count of refusals
abbrev pub last_count : ℕ
last_count = 2 ^ 64 - 1

-- a split without prices whose master has more than 1,500 rows
abbrev pub is_too_long : Instance → Visit → Bool
is_too_long i v = is_unpriced v.node && nat_lt 1500 (length (rows_of i v.path))

-- a split on an arc of the graph, sharp or near-sharp for these prices
pub record IsPlan (i : Instance) (v : GraphView) (path : List Cut) (prices : Prices) (p : Plan) : Type 0 where
  pub key : ArcKey
  pub at : slice_get v.arcs p.arc ≡ Some key
  pub splits : IsSplitAt i path key p.b
  pub sharp : IsSharpFor i path prices key p.b

-- a leaf with prices has a plan, or they show no less than the limit; other leaves have none
abbrev pub HasPlan : Instance → GraphView → ℕ → List Cut → Leaf → Option Plan → Type 0
HasPlan i v limit path fresh plan = plan ≡ None
HasPlan i v limit path (valued o) plan = MatchOption plan (limit ≤ o.value) (IsPlan i v path o.prices)
HasPlan i v limit path (fixed x) plan = plan ≡ None

-- what is kept of a waiting leaf is right
abbrev pub IsPlanned : Instance → GraphView → ℕ → Grown → OpenLeaf → Type 0
IsPlanned i v limit t o =
    OnTips (λ up path k l. k ≡ o.kept.seat → HasPlan i v limit path l o.kept.plan) 0 (base_cuts i) t

-- The tree between two steps. `limit` is the cost of the best roster, or one more than the greatest cost;
-- `now` is the master's count of refusals; `low` is the least bound that a leaf had when it was taken last;
-- `hand` are open leaves that are taken and not processed yet.
pub record IsTree (s : Site) (limit now low : ℕ) (hand : List OpenLeaf) (w : TreeView)
    (t : Grown) : Type 0 where
  pub growing : IsGrowing s.day s.strict limit low (length w.seats) t
  pub held : HoldTree w.seats t
  pub unsplit : (n : ℕ) → 1 ≤ times n t → IsUnsplit n t
  pub queue : SameEntries (opens 0 t) (map entry_of (hand ++ w.waiting))
  pub planned : Each (IsPlanned s.day s.graph limit t) (hand ++ w.waiting)
  pub processed : w.processed ≡ busy t
  pub failed : w.failed ≡ missed t
  pub counted : now ≢ last_count
      → w.failed + s.before ≤ now + count (is_too_long s.day) (visits (base_cuts s.day) (proof_of t))
