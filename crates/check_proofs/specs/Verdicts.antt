-- Verdicts on certificates.
use Rattle.std.specs.Prelude.{ℕ, ◌≡◌, Option, None, Some, IfSome, List}
use Rattle.model_rosters.specs.declared.instance.Instance.{Instance}
use Rattle.model_rosters.specs.declared.instance.Cell.{Cell}
use Rattle.model_rosters.specs.declared.instance.Shift.{Shift}
use Rattle.model_rosters.specs.Cuts.{base_cuts}
use Rattle.model_rosters.specs.Folds.{Each}
use Rattle.model_rosters.specs.Coverage.{covered, IsWithinCell}
use Rattle.check_certificates.specs.declared.cert.Cert.{Cert}
use Rattle.check_certificates.specs.declared.cert.Node.{Node}
use Rattle.check_certificates.specs.Nodes.{Proof, preorder, visits}
use Rattle.check_certificates.specs.RosterCauses.{duties}
use Rattle.check_certificates.specs.certificate_laws.Accepted.{Accepts}
use Rattle.check_certificates.specs.certificate_laws.Causes.{IsFirstCause}
use Rattle.check_certificates.specs.certificate_laws.Shown.{Shows}
use Rattle.check_certificates.specs.certificate_laws.Right.{YesIsRight}
use Rattle.check_parts.specs.roster_part.Faults.{IsRightlyStated}
use Rattle.check_certificates.specs.declared.verdict.Verdict.{Verdict}
use Rattle.check_certificates.specs.declared.verdict.Verdict.TheVariants.{Yes, No}
use Rattle.check_proofs.specs.declared.walk.Walk.{Walk}
use Rattle.check_certificates.specs.Sound.{IsSoundProof}
use Rattle.check_proofs.specs.declared.walker.Walker.{Walker}
use Rattle.check_proofs.specs.Steps.{IsWalkerFor, IsWalking}
use Rattle.check_proofs.specs.Walked.{IsVisitsCause}

-- Yes comes where the certificate is accepted, with its cost and bound, and what it states is true. No
-- comes with the first cause for which it is not.
abbrev pub IsVerdict : Instance → Cert → Verdict → Type 0
IsVerdict i c (Yes cost bound) = Accepts i c × (cost ≡ c.cost) × (bound ≡ c.bound) × YesIsRight i c
IsVerdict i c (No why) = IsFirstCause i c why

-- the roster is stated rightly, if there is one
abbrev pub HasRightRoster : Instance → Option ℕ → List Shift → Type 0
HasRightRoster i cost shifts = IfSome cost (λ (amount : ℕ). IsRightlyStated i amount shifts)

-- the coverage is within each cell's floor and ceiling
abbrev pub IsCoverageRight : Instance → List Shift → Type 0
IsCoverageRight i shifts = Each (λ (c : Cell). IsWithinCell c (covered i.grammar c (duties shifts))) i.cells

-- the certificate states this roster
pub record States (c : Cert) (cost : Option ℕ) (shifts : List Shift) : Type 0 where
  pub same_cost : c.cost ≡ cost
  pub same_shifts : c.shifts ≡ shifts

-- all nodes were seen: the walk has the first cause among them, and where there is none it has what
-- their tree shows
pub record IsWalked (i : Instance) (nodes : List Node) (walk : Walk) : Type 0 where
  pub proof : Proof
  pub whole : preorder proof ≡ nodes
  pub why : IsVisitsCause i (visits (base_cuts i) proof) walk.why
  pub shown : walk.why ≡ None → (v : ℕ) × (walk.shown ≡ Some v) × Shows i (base_cuts i) proof v

-- a loop over the nodes: whatever their tree, so many were seen
pub record IsInWalk (i : Instance) (nodes : List Node) (k : ℕ) (old now : Walker) (walk : Walk) : Type 0 where
  pub bench : IsWalkerFor i now
  pub most : now.stack.most ≡ old.stack.most
  pub walking : (p : Proof) → IsSoundProof i nodes p → IsWalking i p k now.stack walk
