-- How a search takes its next leaf, and how it ends.
use Rattle.std.specs.Prelude.{ℕ, ◌≡◌, ◌≢◌, ◌≤◌, ◌<◌, ◌+◌, ◌*◌, ◌⊎◌, Bool, Option, None, Some, IsSome, IfSome, MatchOption, List, [], ◌∷◌, length}
use Rattle.model_rosters.specs.declared.grammar.ArcKey.{ArcKey}
use Rattle.model_rosters.specs.declared.instance.Cut.{Cut}
use Rattle.model_rosters.specs.declared.instance.Done.{Done}
use Rattle.model_rosters.specs.declared.instance.Done.TheVariants.{Equal, NoRoster, TurnsOut}
use Rattle.model_rosters.specs.declared.instance.Instance.{Instance}
use Rattle.model_rosters.specs.Cuts.{base_cuts}
use Rattle.model_rosters.specs.Folds.{count}
use Rattle.model_rosters.specs.GreatestCost.{greatest_cost}
use Rattle.law_bounds.specs.Infeasible.{IsPlainlyInfeasible}
use Rattle.law_bounds.specs.Points.{IsPoints}
use Rattle.law_bounds.specs.near_laws.NearSharp.{IsSharpFor}
use Rattle.check_certificates.specs.Nodes.{visits, pinned}
use Rattle.check_certificates.specs.certificate_laws.Accepted.{bound_number}
use Rattle.tree_graph.specs.Graphs.{GraphView, IsGraph}
use Rattle.check_certificates.specs.growing_laws.Grown.{Grown, Leaf, fresh, valued, fixed, OnTips, tip_bound, busy, missed, shown, proof_of}
use Rattle.check_certificates.specs.growing_laws.Boxes.{IsOpenLeaf}
use Rattle.check_certificates.specs.growing_laws.Seats.{HoldTree}
use Rattle.check_certificates.specs.growing_laws.States.{IsGrowing}
use Rattle.search_open_nodes.specs.declared.leaf.OpenLeaf.{OpenLeaf}
use Rattle.search_tree.specs.Views.{Site}
use Rattle.search_tree.specs.Trees.{last_count, is_too_long}
use Rattle.model_rosters.specs.declared.instance.Shift.{Shift}
use Rattle.search_candidates.specs.declared.roster.Roster.{Roster}
use Rattle.search_candidates.specs.Rosters.{IsGoodRoster}
use Rattle.search_candidates.specs.Starts.{HasStart, StartsWith}
use Rattle.search_candidates.specs.Offers.{limit_of, cost_of}
use Rattle.search_branch_price.specs.declared.found.Found.{Found}
use Rattle.search_branch_price.specs.declared.progress.Progress.{Progress}
use Rattle.search_branch_price.specs.Searching.{site_of, IsSearching}
use Rattle.search_branch_price.specs.Found.{HasNoArc, IsFound, AreCounted}

-- the bound of each open leaf reaches the limit
abbrev pub LeavesReach : Instance → ℕ → Grown → Type 0
LeavesReach i limit t = OnTips (λ up path k l. IsOpenLeaf l → limit ≤ tip_bound up l) 0 (base_cuts i) t

-- prices of a leaf that show no less than the limit, or for which some split of it is sharp or near-sharp
abbrev pub IsEndedLeaf : Instance → ℕ → List Cut → Leaf → Type 0
IsEndedLeaf i limit path fresh = Unit {0}
IsEndedLeaf i limit path (valued o) =
    (limit ≤ o.value) ⊎ (a : ArcKey) × (b : ℕ) × IsSharpFor i path o.prices a b
IsEndedLeaf i limit path (fixed v) = Unit {0}

-- what is known of the tree at the end, whatever waits
pub record IsFinal (s : Site) (now low : ℕ) (p : Progress) (t : Grown) : Type 0 where
  pub growing : IsGrowing s.day s.strict (limit_of s.day p.best) low (length p.tree.seats) t
  pub held : HoldTree p.tree.seats t
  pub leaves : OnTips (λ up path k l. IsEndedLeaf s.day (limit_of s.day p.best) path l) 0 (base_cuts s.day) t
  pub few : length p.tree.seats ≤ 2 * p.tree.processed + 1
  pub processed : p.tree.processed ≡ busy t
  pub failed : p.tree.failed ≡ missed t
  pub counted : now ≢ last_count
      → p.tree.failed + s.before ≤ now + count (is_too_long s.day) (visits (base_cuts s.day) (proof_of t))
  pub best : IfSome p.best (IsGoodRoster s.day)
  pub start : HasStart s.day → StartsWith s.day p.best

-- a leaf was taken, or no open leaf leaves a bound below the limit; the tree is the same
pub record IsNext (i : Instance) (old new : Progress) (next : Option OpenLeaf) : Type 0 where
  pub best : new.best ≡ old.best
  pub processed : new.tree.processed ≡ old.tree.processed
  pub taken : (v : GraphView) (strict : Bool) (before now low : ℕ) (t : Grown)
      → IsSearching (site_of i v strict before) now low [] old t
      → MatchOption next
      (LeavesReach i (limit_of i old.best) t × IsFinal (site_of i v strict before) now low new t)
      (λ leaf. (leaf.bound < limit_of i old.best)
      × IsSearching (site_of i v strict before) now leaf.bound (leaf ∷ []) new t)

-- how the search ended, by cost and bound
abbrev pub IsDoneAt : Option ℕ → Option ℕ → Done → Type 0
IsDoneAt cost bound Equal = IsSome cost × (bound ≡ cost)
IsDoneAt cost bound NoRoster = (cost ≡ None) × (bound ≡ None)
IsDoneAt cost bound TurnsOut = bound ≢ cost

-- all turns were used, and they were too few for the points
pub record IsSpent (i : Instance) (turns : ℕ) (p : Progress) : Type 0 where
  pub all : p.tree.processed ≡ turns
  pub few : (points : ℕ) → IsPoints i points → turns + 1 < 2 * points

-- the search of a day that is not plainly infeasible is at its end, and its tree shows the bound
pub record IsEnd (i : Instance) (v : GraphView) (strict : Bool) (before now turns : ℕ) (p : Progress)
    (bound : Option ℕ) (done : Done) : Type 0 where
  pub low : ℕ
  pub tree : Grown
  pub final : IsFinal (site_of i v strict before) now low p tree
  pub busy : IsPlainlyInfeasible i → ⊥
  pub arcless : HasNoArc i → proof_of tree ≡ pinned
  pub shows : shown tree ≡ bound_number i bound
  pub small : IfSome bound (λ b. b ≤ greatest_cost i)
  pub within : p.tree.processed ≤ turns
  pub few : turns ≤ 10000
  pub ended : IsDoneAt (cost_of p.best) bound done
  pub spent : done ≡ TurnsOut → IsSpent i turns p

-- whose search it is, for how many turns
pub record AsksEnd (i : Instance) : Type 0 where
  pub graph : GraphView
  pub strict : Bool
  pub before : ℕ
  pub now : ℕ
  pub turns : ℕ

-- their search is at its end
abbrev pub IsEndOf : (i : Instance) → AsksEnd i → Progress → Option ℕ → Done → Type 0
IsEndOf i a p bound done = IsEnd i a.graph a.strict a.before a.now a.turns p bound done

-- what is found then, whoever asks
abbrev pub IsFoundAtEnd : Instance → Progress → Option ℕ → Done → Found → Type 0
IsFoundAtEnd i p bound done f = (a : AsksEnd i) → IsEndOf i a p bound done
    → IsFound i a.strict a.turns f × AreCounted i a.before a.now f

-- a search over so many turns has a leaf in hand, which leaves the least bound
pub record IsHalted (i : Instance) (a : AsksEnd i) (p : Progress) (leaf : OpenLeaf) : Type 0 where
  pub tree : Grown
  pub is : IsSearching (site_of i a.graph a.strict a.before) a.now leaf.bound (leaf ∷ []) p tree
  pub graph : IsGraph i.grammar a.graph
  pub busy : IsPlainlyInfeasible i → ⊥
  pub arcs : HasNoArc i → ⊥
  pub turns : p.tree.processed ≡ a.turns
  pub few : a.turns ≤ 10000

-- what is found then, whoever asks
abbrev pub IsFoundHalted : Instance → Progress → OpenLeaf → Found → Type 0
IsFoundHalted i p leaf f = (a : AsksEnd i) → IsHalted i a p leaf
    → IsFound i a.strict a.turns f × AreCounted i a.before a.now f

-- the shifts and the cost of the best roster
abbrev pub IsStatedBy : Option Roster → List Shift × Option ℕ → Type 0
IsStatedBy None said = said ≡ ([], None)
IsStatedBy (Some r) said = said ≡ (r.shifts, Some r.cost)

-- the bound of a closed search, and how it ended
abbrev pub IsClosedBy : Option Roster → Option ℕ × Done → Type 0
IsClosedBy None said = said ≡ (None, NoRoster)
IsClosedBy (Some r) said = said ≡ (Some r.cost, Equal)
