-- What a search finds.
use Rattle.std.specs.Prelude.{ℕ, ◌≡◌, ◌≢◌, ◌≤◌, ◌<◌, ◌+◌, ◌*◌, ◌⊎◌, Bool, IsTrue, Option, None, Some, IsSome, IfSome, List, [], ◌∷◌, length}
use Rattle.model_rosters.specs.declared.instance.Instance.{Instance}
use Rattle.model_rosters.specs.declared.grammar.ArcKey.{ArcKey}
use Rattle.model_rosters.specs.declared.instance.Cut.{Cut}
use Rattle.model_rosters.specs.Arcs.{IsArc}
use Rattle.model_rosters.specs.Cuts.{base_cuts}
use Rattle.model_rosters.specs.Folds.{Each, count}
use Rattle.model_rosters.specs.GreatestCost.{greatest_cost}
use Rattle.check_certificates.specs.declared.cert.Cert.{Cert}
use Rattle.check_certificates.specs.declared.cert.Node.{Node}
use Rattle.check_certificates.specs.declared.cert.Node.TheVariants.{Split, Priced, Pinned, Bare}
use Rattle.model_rosters.specs.declared.instance.Prices.{Prices}
use Rattle.check_certificates.specs.Nodes.{Proof, preorder, Visit, visits}
use Rattle.check_certificates.specs.Sound.{IsSoundCert}
use Rattle.law_bounds.specs.BestPrices.{AreBest}
use Rattle.law_bounds.specs.Infeasible.{IsPlainlyInfeasible}
use Rattle.law_bounds.specs.Points.{IsPoints}
use Rattle.law_bounds.specs.Priced.{IsPricedValue}
use Rattle.check_certificates.specs.certificate_laws.Accepted.{Accepts, bound_number}
use Rattle.check_certificates.specs.certificate_laws.Shown.{Shows}
use Rattle.check_certificates.specs.growing_laws.States.{IsLoosePath}
use Rattle.law_bounds.specs.master_laws.Sharp.{IsHard}
use Rattle.law_bounds.specs.near_laws.NearSharp.{IsSharpFor}
use Rattle.model_rosters.specs.declared.instance.Done.{Done}
use Rattle.model_rosters.specs.declared.instance.Done.TheVariants.{Equal, NoRoster, TurnsOut}
use Rattle.search_branch_price.specs.declared.found.Found.{Found}
use Rattle.search_candidates.specs.Order.{AreAscending}
use Rattle.check_certificates.specs.Kinds.{is_processed, is_unpriced}
use Rattle.search_tree.specs.Trees.{last_count, is_too_long}
use Rattle.search_candidates.specs.Starts.{HasStart, IsAtMostStart}

-- how the certificate ended
abbrev pub IsDone : Cert → Done → Type 0
IsDone c Equal = IsSome c.cost × (c.bound ≡ c.cost)
IsDone c NoRoster = (c.cost ≡ None) × (c.bound ≡ None)
IsDone c TurnsOut = c.bound ≢ c.cost

-- prices that are best within the loss, and few enough for a written certificate
pub record ArePrices (i : Instance) (v : Visit) (p : Prices) : Type 0 where
  pub best : AreBest i p v.path
  pub few : length p.cell + length p.mult ≤ 1498

-- a split without prices is hard over a strict master; one with prices is sharp, or near-sharp for them, and they
-- show at most the bound
abbrev pub IsSplitNode : Instance → Bool → ℕ → Visit → Option Prices → Type 0
IsSplitNode i strict bound v None = IsTrue strict → IsHard i v.path
IsSplitNode i strict bound v (Some p) = ArePrices i v p × ((x : ℕ) → IsPricedValue i p v.path x → x ≤ bound)

-- prices of a leaf show no less than the limit, or some split of it is sharp, or near-sharp for them
abbrev pub IsOpenOrDear : Instance → ℕ → List Cut → Prices → Type 0
IsOpenOrDear i limit path p =
    ((x : ℕ) → IsPricedValue i p path x → limit ≤ x) ⊎ (a : ArcKey) × (b : ℕ) × IsSharpFor i path p a b

abbrev pub IsSharpNode : Instance → ℕ → Visit → Node → Type 0
IsSharpNode i limit v (Split a b (Some p)) = IsSharpFor i v.path p a b
IsSharpNode i limit v (Split a b None) = Unit {0}
IsSharpNode i limit v (Priced p) = IsOpenOrDear i limit v.path p
IsSharpNode i limit v Pinned = Unit {0}
IsSharpNode i limit v Bare = Unit {0}

abbrev pub IsFoundNode : Instance → Bool → ℕ → Visit → Node → Type 0
IsFoundNode i strict bound v (Split a b own) = IsSplitNode i strict bound v own
IsFoundNode i strict bound v (Priced p) = ArePrices i v p
IsFoundNode i strict bound v Pinned = Unit {0}
IsFoundNode i strict bound v Bare = Unit {0}

-- a priced leaf leaves some arc more than one count
abbrev pub IsLooseNode : Instance → Visit → Node → Type 0
IsLooseNode i v (Split a b own) = Unit {0}
IsLooseNode i v (Priced p) = IsLoosePath i v.path
IsLooseNode i v Pinned = Unit {0}
IsLooseNode i v Bare = Unit {0}

-- no tree of the day has an arc
abbrev pub HasNoArc : Instance → Type 0
HasNoArc i = (a : ArcKey) → IsArc i.grammar a → ⊥

-- one node, which is processed, shows that no roster is allowed
pub record IsOneNode (f : Found) : Type 0 where
  pub nodes : length f.cert.nodes ≡ 1
  pub processed : f.processed ≡ 1
  pub done : f.done ≡ NoRoster

-- the turns ran out, and they were too few for the points
pub record RanOut (i : Instance) (turns : ℕ) (f : Found) : Type 0 where
  pub all : f.processed ≡ turns
  pub few : (points : ℕ) → IsPoints i points → turns + 1 < 2 * points

-- Each node is right, at most as many are processed as there are turns, and all of these were used where they ran
-- out. Prices of a leaf show no less than the roster costs, or some split of it is sharp, or near-sharp for them.
pub record IsWhole (i : Instance) (strict : Bool) (turns : ℕ) (f : Found) (proof : Proof) : Type 0 where
  pub each : Each (λ (v : Visit). IsFoundNode i strict (bound_number i f.cert.bound) v v.node)
      (visits (base_cuts i) proof)
  pub sharp : Each (λ (v : Visit). IsSharpNode i (bound_number i f.cert.cost) v v.node)
      (visits (base_cuts i) proof)
  pub within : f.processed ≤ turns
  pub ran_out : f.done ≡ TurnsOut → RanOut i turns f

-- No turn was taken whole: the first one was stopped, and the root, which is the one node, has prices that are few
-- enough for a written certificate and need not be best.
pub record IsStoppedRoot (turns : ℕ) (f : Found) : Type 0 where
  pub none : turns ≡ 0
  pub prices : Prices
  pub nodes : f.cert.nodes ≡ Priced prices ∷ []
  pub few : length prices.cell + length prices.mult ≤ 1498
  pub done : f.done ≡ TurnsOut

-- The certificate is sound and accepted, and its bound is what its tree shows. A bound that it states is at most
-- the greatest cost. Each node is right, as a search of 1 turn or more finds it, or the first turn was stopped. A
-- plainly infeasible day has one node; on any other one a priced leaf leaves some arc more than one count. A day
-- without arcs has one pinned node, whatever its roster costs.
pub record IsFound (i : Instance) (strict : Bool) (turns : ℕ) (f : Found) : Type 0 where
  pub sound : IsSoundCert i f.cert
  pub accepted : Accepts i f.cert
  pub proof : Proof
  pub nodes : preorder proof ≡ f.cert.nodes
  pub shows : Shows i (base_cuts i) proof (bound_number i f.cert.bound)
  pub most : IfSome f.cert.bound (λ b. b ≤ greatest_cost i)
  pub ascending : AreAscending f.cert.shifts
  pub whole : IsWhole i strict turns f proof ⊎ IsStoppedRoot turns f
  pub loose : (IsPlainlyInfeasible i → ⊥)
      → Each (λ (v : Visit). IsLooseNode i v v.node) (visits (base_cuts i) proof)
  pub infeasible : IsPlainlyInfeasible i → IsOneNode f
  pub arcless : HasNoArc i → f.cert.nodes ≡ Pinned ∷ []
  pub processed : f.processed ≡ count is_processed f.cert.nodes
  pub failed : f.failed ≡ count is_unpriced f.cert.nodes
  pub done : IsDone f.cert f.done
  pub start : HasStart i → IsAtMostStart i f.cert.cost

-- each node that failed for another cause than its rows was counted by the master
abbrev pub AreCounted : Instance → ℕ → ℕ → Found → Type 0
AreCounted i before now f =
    now ≢ last_count → (proof : Proof) → preorder proof ≡ f.cert.nodes → f.failed + before ≤ now
    + count (is_too_long i) (visits (base_cuts i) proof)

-- it is found at the root, whatever the turns and the master's counts are
pub record IsFoundAtRoot (i : Instance) (f : Found) : Type 0 where
  pub found : (strict : Bool) (turns : ℕ) → 1 ≤ turns → IsFound i strict turns f
  pub counted : (before : ℕ) → AreCounted i before before f
