-- Texts that are judged piece by piece.
use Rattle.std.specs.Prelude.{ℕ, ◌≡◌, ◌+◌, ◌≤◌, List, ◌++◌, length, Ok, Err}
use Rattle.model_rosters.specs.declared.instance.Instance.{Instance}
use Rattle.check_certificates.specs.declared.cert.Cert.{Cert}
use Rattle.check_certificates.specs.declared.cert.Node.{Node}
use Rattle.check_certificates.specs.Nodes.{Proof}
use Rattle.check_certificates.specs.Sound.{IsSoundProof}
use Rattle.text_proof_pieces.specs.CertOf.{with_told, collected, proof_fault, proof_of}
use Rattle.text_proof_pieces.specs.PieceList.{Given, Place}
use Rattle.text_proof_pieces.specs.Told.{Told}
use Rattle.text_proof_pieces.specs.ToldSound.{place_with, shifts_with, AreToldSound}
use Rattle.check_proofs.specs.declared.walker.Walker.{Walker}
use Rattle.check_proofs.specs.declared.judged.Judged.{Judged}
use Rattle.check_proofs.specs.declared.judged.Judged.TheVariants.{Said, Fault}
use Rattle.check_proofs.specs.declared.seen.Seen.{Seen}
use Rattle.check_proofs.specs.declared.walk.Walk.{Walk}
use Rattle.check_proofs.specs.Stacks.{StackView, AreSmall, halves_of}
use Rattle.check_proofs.specs.Steps.{IsWalkerFor, way, IsWalking}
use Rattle.check_proofs.specs.Verdicts.{IsVerdict}

-- a verdict on the certificate that the text tells, or the fault of the text
abbrev pub IsJudged : Instance → List ℕ → Judged → Type 0
IsJudged i text (Said v) = (c : Cert) × (proof_of i text ≡ Ok c) × IsVerdict i c v
IsJudged i text (Fault e) = proof_of i text ≡ Err (proof_fault e)

-- how far the tree is seen
abbrev pub place_at : StackView → Walk → Place
place_at s w = record { nodes = w.nodes; halves = halves_of s.splits }

-- there is room for what comes next
pub record IsReady (i : Instance) (b : Walker) (s : Seen) : Type 0 where
  pub bench : IsWalkerFor i b
  pub most : b.stack.most ≡ 20001
  pub deep : length b.stack.splits ≤ s.walk.nodes
  pub small : AreSmall (way b.stack)

-- the certificate has the cost, the bound and the shifts that were seen, and its nodes are the first
-- that were seen of every tree that begins with them
pub record HasSeen (i : Instance) (c : Cert) (b : Walker) (s : Seen) : Type 0 where
  pub cost : c.cost ≡ s.cost
  pub bound : c.bound ≡ s.bound
  pub shifts : c.shifts ≡ s.shifts
  pub walking : (rest : List Node) (p : Proof) → IsSoundProof i (c.nodes ++ rest) p
      → IsWalking i p (length c.nodes) b.stack s.walk

-- one thing more was seen
pub record IsTaken (i : Instance) (old : Walker) (before : Seen) (t : Told) (new : Walker)
    (after : Seen) : Type 0 where
  pub ready : IsReady i new after
  pub place : place_at new.stack after.walk ≡ place_with t (place_at old.stack before.walk)
  pub count : length after.shifts ≡ shifts_with t (length before.shifts)
  pub seen : (c : Cert) → HasSeen i c old before → HasSeen i (with_told c t) new after

-- what the text tells is what was seen and what is left, which is sound
pub record IsJudging (i : Instance) (text : List ℕ) (left : Given) (b : Walker) (s : Seen) : Type 0 where
  pub cert : Cert
  pub value : proof_of i text ≡ collected cert left
  pub ready : IsReady i b s
  pub seen : HasSeen i cert b s
  pub sound : AreToldSound i (length s.shifts) (place_at b.stack s.walk) left
