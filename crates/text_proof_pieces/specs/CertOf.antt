-- The certificate that a proof text tells.
use Rattle.std.specs.Prelude.{ℕ, Bool, true, false, None, List, [], ◌∷◌, ◌++◌, if◌then◌else◌, Result, Ok, Err}
use Rattle.model_rosters.specs.declared.instance.Instance.{Instance}
use Rattle.model_rosters.specs.declared.instance.Shift.{Shift}
use Rattle.check_certificates.specs.declared.cert.Cert.{Cert}
use Rattle.check_certificates.specs.declared.cert.Node.{Node}
use Rattle.text_lines.specs.Steps as steps
use Rattle.text_proof_pieces.specs.declared.fault.PieceFault.{PieceFault}
use Rattle.text_proof_pieces.specs.declared.fault.PieceFault.TheVariants as piece
use Rattle.text_proof_pieces.specs.declared.fault.ProofFault.{ProofFault}
use Rattle.text_proof_pieces.specs.declared.fault.ProofFault.TheVariants.{BadByte, UnknownLine, BadNumber, OutOfRange, BadHeader, CutShort, Trailing, TooManyNodes, TooLong, Memory}
use Rattle.text_proof_pieces.specs.PieceList.{Given, pieces_of}
use Rattle.text_proof_pieces.specs.Told.{Told, cost, bound, shift, node, done}

-- the fault of a text that a fault of its pieces is
abbrev pub proof_fault : PieceFault → ProofFault
proof_fault (piece.BadByte k) = BadByte k
proof_fault (piece.UnknownLine k) = UnknownLine k
proof_fault (piece.BadNumber k) = BadNumber k
proof_fault (piece.OutOfRange k) = OutOfRange k
proof_fault (piece.BadHeader k) = BadHeader k
proof_fault piece.CutShort = CutShort
proof_fault (piece.Trailing k) = Trailing k
proof_fault (piece.TooManyNodes k) = TooManyNodes k
proof_fault piece.TooLong = TooLong

-- nothing was told
abbrev pub no_cert : Cert
no_cert = record { shifts = []; cost = None; bound = None; nodes = [] }

-- one thing more was told
abbrev pub with_told : Cert → Told → Cert
with_told c (cost x) = record c { cost = x }
with_told c (bound x) = record c { bound = x }
with_told c (shift s) = record c { shifts = c.shifts ++ s ∷ [] }
with_told c (node n) = record c { nodes = c.nodes ++ n ∷ [] }
with_told c done = c

abbrev pub is_done : Told → Bool
is_done (cost x) = false
is_done (bound x) = false
is_done (shift s) = false
is_done (node n) = false
is_done done = true

-- what is told up to the end, behind what was told before, or the fault
abbrev pub collected : Cert → Given → Result Cert ProofFault
collected c [] = Err CutShort
collected c (Err e ∷ rest) = Err (proof_fault e)
collected c (Ok t ∷ rest) = if is_done t then Ok c else collected (with_told c t) rest

-- the certificate that a text says for an instance, or the text's first fault
unfoldable pub proof_of : Instance → List ℕ → Result Cert ProofFault
proof_of i text = collected no_cert (pieces_of i text)

-- the nodes, one after another, and the end
abbrev pub node_pieces : List Node → Given
node_pieces [] = Ok done ∷ []
node_pieces (n ∷ ns) = Ok (node n) ∷ node_pieces ns

-- the shifts, one after another, and what follows
abbrev pub shift_pieces : List Shift → Given → Given
shift_pieces [] rest = rest
shift_pieces (s ∷ ss) rest = Ok (shift s) ∷ shift_pieces ss rest

-- the cost, the bound, the shifts and the nodes of a certificate, and the end
abbrev pub cert_pieces : Cert → Given
cert_pieces c = Ok (cost c.cost) ∷ Ok (bound c.bound) ∷ shift_pieces c.shifts (node_pieces c.nodes)

-- what a call gave is what the text says, unless memory ran out
abbrev pub Reads : Result Cert ProofFault → Result Cert ProofFault → Type 0
Reads result said = steps.Reads Memory (λ c. c) result said
