-- What `solve` answers to the first bytes of a text, up to one above its limit, are answers to the text.
use Rattle.std.proofs.Common.{◌≡◌, ◌∙◌, ℕ, List, Option, Result, Ok, Err, ap, arith, sym}
use Rattle.model_rosters.specs.declared.grammar.Grammar.{Grammar}
use Rattle.model_rosters.specs.declared.instance.Instance.{Instance}
use Rattle.command_shelf.specs.Shelf.{Texts, front_to}
use Rattle.command_answers.specs.RulesFronts.{grammar-whole, fault-whole}
use Rattle.command_answers.specs.DemandFronts.{instance-whole, demand-fault-whole}
use Rattle.command_answers.specs.Fronts.{alike}
use Rattle.command_answers.specs.ProofFronts.{proof-alike}
use Rattle.check_certificates.specs.declared.cert.Cert.{Cert}
use Rattle.text_old_shifts.specs.FromOf.{either_of, from_of}
use Rattle.text_old_shifts.specs.ShiftsOf.{begun, shifts_of}
use Rattle.text_old_shifts.specs.declared.fault.OldFault.{OldFault}
use Rattle.text_old_shifts.specs.declared.fault.OldFault.TheVariants.{TooLong}
use Rattle.text_old_shifts.specs.declared.said.SaidShifts.{SaidShifts}
use Rattle.text_proof_pieces.specs.CertOf.{proof_of}
use Rattle.text_proof_pieces.specs.declared.fault.ProofFault.{ProofFault}
use Rattle.text_lines.specs.Lines.{text_items}
use Rattle.command_searches.specs.declared.limit.Limit.{Limit}
use Rattle.command_searches.specs.Solve.{MasterView, SolvesProof, SolvesDemand, SolvesRules}
use Rattle.command_searches.specs.Solve as solves

shifts-alike : (i : Instance) (text : List ℕ) → shifts_of i (front_to 1073741824 text) ≡ shifts_of i text
unfolding shifts_of
shifts-alike i text = alike 1073741824 1073741824 refusal reading text (omega arith)
  where
    refusal : Result SaidShifts OldFault
    refusal = Err TooLong

    reading : List ℕ → Result SaidShifts OldFault
    reading t = begun i (text_items t)

from-alike : (i : Instance) (text : List ℕ) → from_of i (front_to 1073741824 text) ≡ from_of i text
unfolding from_of
from-alike i text =
    ap (λ (p : Result Cert ProofFault). either_of p (shifts_of i (front_to 1073741824 text))) (proof-alike i text)
    ∙ ap (λ (s : Result SaidShifts OldFault). either_of (proof_of i text) s) (shifts-alike i text)

pub proof-whole : (i : Instance) (text : List ℕ) (m : MasterView) (limit : Limit) (s : ℕ) (o : List ℕ) (x : Option (List ℕ)) → SolvesProof i (front_to 1073741824 text) m limit s o x → SolvesProof i text m limit s o x
proof-whole i text m limit s o x (solves.SolvesProof.accepted c t p y e a) = solves.SolvesProof.accepted c t p y (sym (from-alike i text) ∙ e) a
proof-whole i text m limit s o x (solves.SolvesProof.refused p h) =
    solves.SolvesProof.refused p (record { fault = h.fault; reading = sym (from-alike i text) ∙ h.reading; line = h.line })

module _ (held : Option Texts) where
  pub demand-whole : (g : Grammar) (text : List ℕ) (from : Option (List ℕ)) (m : MasterView) (limit : Limit) (s : ℕ) (o : List ℕ) (x : Option (List ℕ))
      → SolvesDemand held g (front_to 1048576 text) from m limit s o x → SolvesDemand held g text from m limit s o x
  demand-whole g text from m limit s o x (solves.SolvesDemand.accepted i t p y day a) = solves.SolvesDemand.accepted i t p y (instance-whole g text i day) a
  demand-whole g text from m limit s o x (solves.SolvesDemand.refused p h) = solves.SolvesDemand.refused p (demand-fault-whole g text p h)

  pub rules-whole : (text demand : List ℕ) (from : Option (List ℕ)) (m : MasterView) (limit : Limit) (s : ℕ) (o : List ℕ) (x : Option (List ℕ))
      → SolvesRules held (front_to 1048576 text) demand from m limit s o x → SolvesRules held text demand from m limit s o x
  rules-whole text demand from m limit s o x (solves.SolvesRules.accepted g t p y is a) = solves.SolvesRules.accepted g t p y (grammar-whole text g is) a
  rules-whole text demand from m limit s o x (solves.SolvesRules.refused p h) = solves.SolvesRules.refused p (fault-whole text p h)
