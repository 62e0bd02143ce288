-- What a search knows of its tree between two turns.
use Rattle.std.specs.Prelude.{ℕ, ◌≡◌, ◌≤◌, ◌<◌, ◌+◌, ◌*◌, ◌⊎◌, Bool, IsTrue, Option, None, Some, List, length}
use Rattle.model_rosters.specs.declared.grammar.ArcKey.{ArcKey}
use Rattle.model_rosters.specs.declared.instance.Cut.{Cut}
use Rattle.model_rosters.specs.declared.instance.Instance.{Instance}
use Rattle.model_rosters.specs.Arcs.{IsArc}
use Rattle.model_rosters.specs.Cuts.{lo, hi, base_cuts}
use Rattle.model_rosters.specs.Folds.{Each}
use Rattle.law_bounds.specs.BestPrices.{AreBest}
use Rattle.law_bounds.specs.Pinned.{IsPinned, IsPinnedValue}
use Rattle.law_bounds.specs.Priced.{IsPricedValue}
use Rattle.check_certificates.specs.Nodes.{visits, Visit}
use Rattle.check_certificates.specs.Sound.{AreFit, ListNoZero}
use Rattle.check_certificates.specs.certificate_laws.Accepted.{IsOnArc, LeavesBoth, IsTight}
use Rattle.check_certificates.specs.certificate_laws.Shown.{Shows}
use Rattle.law_bounds.specs.master_laws.Sharp.{IsHard}
use Rattle.law_bounds.specs.near_laws.NearSharp.{IsSharpFor}
use Rattle.check_certificates.specs.growing_laws.Boxes.{IsOpenLeaf}
use Rattle.law_bounds.specs.Points.{IsPoints}
use Rattle.model_rosters.specs.SoundInstance.{IsSoundInstance}
use Rattle.check_certificates.specs.growing_laws.Grown.{Grown, Leaf, fresh, valued, fixed, Own, OnTips, OnForks, tip_bound, times, proof_of, shown, put, SomeTip, busy}

-- prices at a path of cuts, and what they show
pub record IsPricedNode (i : Instance) (path : List Cut) (o : Own) : Type 0 where
  pub fit : AreFit i path o.prices
  pub listed : ListNoZero o.prices
  pub few : length o.prices.cell + length o.prices.mult ≤ 1498
  pub value : IsPricedValue i o.prices path o.value
  pub best : AreBest i o.prices path

-- the cuts leave some arc more than one count
abbrev pub IsLoosePath : Instance → List Cut → Type 0
IsLoosePath i path = (a : ArcKey) × IsArc i.grammar a × (lo path a < hi i.heads_max path a)

-- what is known of a leaf, no roster found yet costing less than the limit
abbrev pub IsLeaf : Instance → ℕ → List Cut → Leaf → Type 0
IsLeaf i limit path fresh = Unit {0}
IsLeaf i limit path (valued o) = IsPricedNode i path o × IsLoosePath i path
IsLeaf i limit path (fixed v) = IsPinned i path × IsPinnedValue i path v × (limit ≤ v)

-- a split on an arc at a number that leaves both halves a count
pub record IsSplitAt (i : Instance) (path : List Cut) (a : ArcKey) (b : ℕ) : Type 0 where
  pub arc : IsArc i.grammar a
  pub low : lo path a ≤ b
  pub high : b < hi i.heads_max path a

-- a split of a node whose master failed, or a sharp one of a node with prices, or one that is near-sharp for
-- them; they show at most `low`
abbrev pub IsOwn : Instance → Bool → ℕ → List Cut → ArcKey → ℕ → Option Own → Type 0
IsOwn i strict low path a b None = IsTrue strict → IsHard i path
IsOwn i strict low path a b (Some o) = IsPricedNode i path o × IsSharpFor i path o.prices a b
    × (o.value ≤ low)

abbrev pub IsSplit : Instance → Bool → ℕ → List Cut → ArcKey → ℕ → Option Own → Type 0
IsSplit i strict low path a b own = IsSplitAt i path a b × IsOwn i strict low path a b own

-- a leaf that leaves a bound of at least `low`, with a number below n that no other leaf has
pub record IsTip (i : Instance) (limit low n : ℕ) (t : Grown) (up : ℕ) (path : List Cut)
    (k : ℕ) (l : Leaf) : Type 0 where
  pub leaf : IsLeaf i limit path l
  pub bound : low ≤ tip_bound up l
  pub below : k < n
  pub once : times k t ≡ 1

-- the tree between two turns: `limit` is the cost of the best roster, or one more than the greatest cost;
-- `low` is the least bound that a leaf had when the last turn began; numbers below n are given
pub record IsGrowing (i : Instance) (strict : Bool) (limit low n : ℕ) (t : Grown) : Type 0 where
  pub tips : OnTips (IsTip i limit low n t) 0 (base_cuts i) t
  pub forks : OnForks (IsSplit i strict low) (base_cuts i) t

-- a tree that can stand in place of leaf k, with new numbers from m on beside k
pub record IsGraft (i : Instance) (strict : Bool) (limit low m n k : ℕ) (new : Grown) (up : ℕ)
    (path : List Cut) : Type 0 where
  pub tips : OnTips
      (λ above cuts j l. IsTip i limit low n new above cuts j l × ((j ≡ k) ⊎ (m ≤ j))) up path new
  pub forks : OnForks (IsSplit i strict low) path new

abbrev pub GrowingPut : Type 0
GrowingPut =
    (i : Instance) (strict : Bool) (limit low m n k : ℕ) (new t : Grown)
    → IsGrowing i strict limit low m t → m ≤ n → times k t ≡ 1
    → OnTips (λ up path j l. j ≡ k → IsGraft i strict limit low m n k new up path) 0 (base_cuts i) t
    → IsGrowing i strict limit low n (put k new t)

-- the best first rule: the limits move to the least bound that a leaf leaves
abbrev pub GrowingRaised : Type 0
GrowingRaised =
    (i : Instance) (strict : Bool) (limit less low more n : ℕ) (t : Grown)
    → IsGrowing i strict limit low n t → less ≤ limit → low ≤ more
    → OnTips (λ up path k l. more ≤ tip_bound up l) 0 (base_cuts i) t → IsGrowing i strict less more n t

-- a split's own prices show at most v
abbrev pub OwnShows : ℕ → Option Own → Type 0
OwnShows v None = Unit {0}
OwnShows v (Some o) = o.value ≤ v

-- what the tree proves at the end
pub record IsGrownProof (i : Instance) (t : Grown) : Type 0 where
  pub on_arcs : Each (λ (v : Visit). IsOnArc i v.node) (visits (base_cuts i) (proof_of t))
  pub halves : Each (λ (v : Visit). LeavesBoth i v.path v.node) (visits (base_cuts i) (proof_of t))
  pub tight : Each (λ (v : Visit). IsTight i v.path v.node) (visits (base_cuts i) (proof_of t))
  pub shows : Shows i (base_cuts i) (proof_of t) (shown t)
  pub owns : OnForks (λ path a b own. OwnShows (shown t) own) (base_cuts i) t

abbrev pub GrowingProves : Type 0
GrowingProves = (i : Instance) (strict : Bool) (limit low n : ℕ) (t : Grown)
    → IsGrowing i strict limit low n t → IsGrownProof i t

-- where no open leaf leaves a bound below the limit, the tree shows the limit
abbrev pub GrowingClosed : Type 0
GrowingClosed =
    (i : Instance) (strict : Bool) (limit low n : ℕ) (t : Grown) → IsGrowing i strict limit low n t
    → OnTips (λ up path k l. IsOpenLeaf l → limit ≤ tip_bound up l) 0 (base_cuts i) t → limit ≤ shown t

-- where some leaf is open, fewer nodes are processed than twice the points less one
abbrev pub GrowingFew : Type 0
GrowingFew =
    (i : Instance) (strict : Bool) (limit low n points : ℕ) (t : Grown) → IsSoundInstance i
    → IsGrowing i strict limit low n t → IsPoints i points
    → SomeTip (λ up path k l. IsOpenLeaf l) 0 (base_cuts i) t → busy t + 2 ≤ 2 * points
