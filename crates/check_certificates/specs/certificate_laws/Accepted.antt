-- Accepted certificates.
use Rattle.std.specs.Prelude.{ℕ, ◌≡◌, ◌≤◌, ◌<◌, ◌+◌, Option, None, Some, IfSome, List}
use Rattle.model_rosters.specs.declared.instance.Cut.{Cut}
use Rattle.model_rosters.specs.declared.instance.Instance.{Instance}
use Rattle.model_rosters.specs.declared.instance.Shift.{Shift}
use Rattle.model_rosters.specs.Arcs.{IsArc}
use Rattle.model_rosters.specs.Cuts.{lo, hi, base_cuts}
use Rattle.model_rosters.specs.Folds.{Each}
use Rattle.model_rosters.specs.GreatestCost.{greatest_cost}
use Rattle.model_rosters.specs.Rosters.{IsRoster, roster_cost}
use Rattle.law_bounds.specs.Pinned.{IsPinned}
use Rattle.check_certificates.specs.declared.cert.Cert.{Cert}
use Rattle.check_certificates.specs.declared.cert.Node.{Node}
use Rattle.check_certificates.specs.declared.cert.Node.TheVariants.{Split, Priced, Pinned, Bare}
use Rattle.check_certificates.specs.Nodes.{Proof, preorder, Visit, visits}
use Rattle.check_certificates.specs.RosterCauses.{duties, stated_prices}
use Rattle.check_certificates.specs.certificate_laws.Shown.{Shows}

-- a split is on an arc of the instance
abbrev pub IsOnArc : Instance → Node → Type 0
IsOnArc i (Split a b own) = IsArc i.grammar a
IsOnArc i (Priced p) = Unit {0}
IsOnArc i Pinned = Unit {0}
IsOnArc i Bare = Unit {0}

-- the cuts leave each half of a split a count
abbrev pub LeavesBoth : Instance → List Cut → Node → Type 0
LeavesBoth i cuts (Split a b own) = (lo cuts a ≤ b) × (b < hi i.heads_max cuts a)
LeavesBoth i cuts (Priced p) = Unit {0}
LeavesBoth i cuts Pinned = Unit {0}
LeavesBoth i cuts Bare = Unit {0}

-- the cuts leave each arc one count at a pinned leaf
abbrev pub IsTight : Instance → List Cut → Node → Type 0
IsTight i cuts (Split a b own) = Unit {0}
IsTight i cuts (Priced p) = Unit {0}
IsTight i cuts Pinned = IsPinned i cuts
IsTight i cuts Bare = Unit {0}

-- the stated words are an allowed roster, at these prices and this cost
pub record IsStated (i : Instance) (shifts : List Shift) (amount : ℕ) : Type 0 where
  pub roster : IsRoster i (duties shifts) (stated_prices shifts)
  pub total : roster_cost i (duties shifts) (stated_prices shifts) ≡ amount

-- a bound as a number; none is one more than the greatest cost
abbrev pub bound_number : Instance → Option ℕ → ℕ
bound_number i None = greatest_cost i + 1
bound_number i (Some b) = b

-- the nodes of the tree are right, and it shows at least the bound
pub record IsProved (i : Instance) (bound : Option ℕ) (proof : Proof) : Type 0 where
  pub on_arcs : Each (λ (v : Visit). IsOnArc i v.node) (visits (base_cuts i) proof)
  pub halves : Each (λ (v : Visit). LeavesBoth i v.path v.node) (visits (base_cuts i) proof)
  pub tight : Each (λ (v : Visit). IsTight i v.path v.node) (visits (base_cuts i) proof)
  pub shown : ℕ
  pub shows : Shows i (base_cuts i) proof shown
  pub enough : bound_number i bound ≤ shown

-- the roster is as it states, and the tree of the nodes proves the bound
pub record Accepts (i : Instance) (c : Cert) : Type 0 where
  pub roster : IfSome c.cost (IsStated i c.shifts)
  pub proof : Proof
  pub nodes : preorder proof ≡ c.nodes
  pub proved : IsProved i c.bound proof
