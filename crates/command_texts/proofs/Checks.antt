-- The answers of commands that ask something of a third text, from what their parts answer.
use Rattle.std.proofs.Common.{◌≡◌, ℕ, List, Result, Ok, Err, IfOk, ap, ◌∙◌}
use Rattle.model_rosters.specs.declared.instance.Instance.{Instance}
use Rattle.model_rosters.specs.declared.memory.Memory.{Memory}
use Rattle.check_certificates.specs.declared.cert.Cert.{Cert}
use Rattle.check_certificates.specs.declared.verdict.Verdict.{Verdict}
use Rattle.check_certificates.specs.declared.verdict.Verdict.TheVariants.{Yes, No}
use Rattle.check_proofs.specs.declared.judged.Judged.TheVariants.{Said, Fault}
use Rattle.check_proofs.specs.Judging.{IsJudged}
use Rattle.check_proofs.specs.Verdicts.{IsVerdict}
use Rattle.text_answers.specs.VerdictText.{verdict_text}
use Rattle.text_proof_pieces.specs.declared.fault.PieceFault.{PieceFault}
use Rattle.text_proof_pieces.specs.CertOf.{proof_fault}
use Rattle.text_proof_pieces.specs.FaultLine as proof
use Rattle.command_answers.specs.declared.answer.Answer.{Answer}
use Rattle.command_answers.specs.Asked.{CertAnswers, ProofAnswers}
use Rattle.command_texts.specs.Check.{Judgement, yes, no, verdict_status}
use Rattle.command_answers.specs.Asked as asked

module _ (A : CertAnswers) where
  pub proof-refused : (i : Instance) (text : List ℕ) (fault : PieceFault) (r : Result Answer Memory) → IsJudged i text (Fault fault)
      → IfOk r (λ a. (a.status ≡ 5) × (a.output ≡ proof.fault_line (proof_fault fault))) → IfOk r (λ a. ProofAnswers A i text a.status a.output)
  proof-refused i text fault (Err e) judged h = tt
  proof-refused i text fault (Ok a) judged h = rw h.0 (asked.ProofAnswers.refused a.output (record { fault = proof_fault fault; reading = judged; line = h.1 }))

-- the answer to a certificate, from its verdict
judgement : (i : Instance) (c : Cert) (v : Verdict) → IsVerdict i c v → (output : List ℕ) → output ≡ verdict_text v → Judgement i c (verdict_status v) output
judgement i c (Yes cost bound) h output text =
    yes output (record { accepted = h.0; trusted = h.3; lines = text ∙ ap (λ x. verdict_text (Yes x bound)) h.1 ∙ ap (λ x. verdict_text (Yes c.cost x)) h.2 })
judgement i c (No why) h output text = no output (record { why = why; cause = h; line = text })

pub proof-judged : (i : Instance) (text : List ℕ) (v : Verdict) (r : Result Answer Memory) → IsJudged i text (Said v)
    → IfOk r (λ a. (a.status ≡ verdict_status v) × (a.output ≡ verdict_text v)) → IfOk r (λ a. ProofAnswers Judgement i text a.status a.output)
proof-judged i text v (Err e) judged h = tt
proof-judged i text v (Ok a) judged h = rw h.0 (asked.ProofAnswers.accepted judged.0 (verdict_status v) a.output judged.1 (judgement i judged.0 v judged.2 a.output h.1))
