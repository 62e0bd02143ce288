-- What a text tells before its fault.
use Rattle.std.specs.Prelude.{ℕ, ◌≡◌, ◌+◌, ◌≤◌, Bool, true, false, List, [], ◌∷◌, if◌then◌else◌, Ok, Err}
use Rattle.model_rosters.specs.declared.instance.Instance.{Instance}
use Rattle.model_rosters.specs.Folds.{Each}
use Rattle.model_rosters.specs.SoundInstance.{IsSoundInstance}
use Rattle.check_certificates.specs.declared.cert.Cert.{Cert}
use Rattle.check_certificates.specs.Sound.{most_nodes, IsSoundCert}
use Rattle.text_proof_pieces.specs.declared.fault.PieceFault.{PieceFault}
use Rattle.text_proof_pieces.specs.declared.fault.ProofFault.{ProofFault}
use Rattle.text_proof_pieces.specs.CertOf.{proof_fault, is_done, cert_pieces}
use Rattle.text_proof_pieces.specs.PieceList.{Given, Place, no_place, wants}
use Rattle.text_proof_pieces.specs.Told.{Told}
use Rattle.text_proof_pieces.specs.ToldSound.{place_with}

-- these things, told one after another, and what follows
abbrev pub told_then : List Told → Given → Given
told_then [] rest = rest
told_then (t ∷ ts) rest = Ok t ∷ told_then ts rest

-- things other than the end, and then the fault alone
pub record TellsFault (given : Given) (e : ProofFault) : Type 0 where
  pub before : List Told
  pub fault : PieceFault
  pub list : given ≡ told_then before (Err fault ∷ [])
  pub no_end : Each (λ (t : Told). is_done t ≡ false) before
  pub same : e ≡ proof_fault fault

-- how far the tree is read with all these things told
abbrev pub place_after : List Told → Place → Place
place_after [] p = p
place_after (t ∷ ts) p = place_after ts (place_with t p)

-- how many High halves are still to be read behind the half that is being read
abbrev pub halves_left : List Bool → ℕ
halves_left [] = 0
halves_left (true ∷ halves) = halves_left halves
halves_left (false ∷ halves) = halves_left halves + 1

-- how many halves are open, the one that is being read among them; the whole tree, where no node stands
-- before
abbrev pub open_halves : Place → ℕ
open_halves p = if wants p then halves_left p.halves + 1 else 0

-- with one node for each open half the tree has at most as many nodes as a certificate may have
abbrev pub HasRoom : Place → Type 0
HasRoom p = p.nodes + open_halves p ≤ most_nodes

-- what is told before a fault is a front of all that some certificate tells, and of all that a sound one
-- tells where there is room for the open halves
pub record TellsFront (i : Instance) (given : Given) : Type 0 where
  pub before : List Told
  pub fault : PieceFault
  pub list : given ≡ told_then before (Err fault ∷ [])
  pub cert : Cert
  pub rest : Given
  pub front : cert_pieces cert ≡ told_then before rest
  pub sound : IsSoundInstance i → HasRoom (place_after before no_place) → IsSoundCert i cert
