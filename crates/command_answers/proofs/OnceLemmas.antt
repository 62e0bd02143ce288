-- The same texts have the same answer.
use Rattle.std.proofs.Common.{◌≡◌, ℕ, List, Some, refl, sym, ap, subst, ◌∙◌}
use Rattle.model_rosters.specs.declared.grammar.Grammar.{Grammar}
use Rattle.model_rosters.specs.declared.instance.Instance.{Instance}
use Rattle.check_certificates.specs.declared.cert.Cert.{Cert}
use Rattle.text_demand_lines.specs.declared.fault.DemandFault.{DemandFault}
use Rattle.text_demand_lines.specs.FaultLine as demand
use Rattle.text_demand.specs.InstanceOf.{instance_of}
use Rattle.text_proof_pieces.specs.declared.fault.ProofFault.{ProofFault}
use Rattle.text_proof_pieces.specs.CertOf.{proof_of}
use Rattle.text_proof_pieces.specs.FaultLine as proof
use Rattle.command_shelf.specs.Shelf.{Texts}
use Rattle.command_answers.specs.Asked.{CertAnswers, ProofAnswers, TextAnswers, AnswersThird, DemandAnswers, AnswersDemand, RulesAnswers, AnswersTexts}
use Rattle.command_answers.specs.Asked as asked
use Rattle.command_answers.proofs.OneReading.{same_text, same_ok, same_err, not_both, same_grammar, no_fault, faults_once}

-- equal statuses and equal texts
abbrev pub AreSame : ℕ → ℕ → List ℕ → List ℕ → Type 0
AreSame s t a b = (s ≡ t) × (a ≡ b)

-- where a certificate has one answer, the proof text has
module _ (A : CertAnswers) (once : (i : Instance) (c : Cert) (s t : ℕ) (a b : List ℕ) → A i c s a → A i c t b → AreSame s t a b) where
  pub proof-once : (i : Instance) (text : List ℕ) (s t : ℕ) (a b : List ℕ) → ProofAnswers A i text s a → ProofAnswers A i text t b → AreSame s t a b
  proof-once i text s t a b (asked.ProofAnswers.accepted c x xs e h) (asked.ProofAnswers.accepted d y ys f k) =
      once i d s t a b (subst (λ (z : Cert). A i z s a) (same_ok (proof_of i text) c d e f) h) k
  proof-once i text s t a b (asked.ProofAnswers.accepted c x xs e h) (asked.ProofAnswers.refused ys k) = absurd (not_both (proof_of i text) c k.fault e k.reading)
  proof-once i text s t a b (asked.ProofAnswers.refused xs h) (asked.ProofAnswers.accepted d y ys f k) = absurd (not_both (proof_of i text) d h.fault f h.reading)
  proof-once i text s t a b (asked.ProofAnswers.refused xs h) (asked.ProofAnswers.refused ys k) =
      (refl, h.line ∙ ap (λ (x : ProofFault). proof.fault_line x) (same_err (proof_of i text) h.fault k.fault h.reading k.reading) ∙ sym k.line)

-- where the third text has one answer, the three texts have
module _ (A : TextAnswers) (once : (i : Instance) (text : List ℕ) (s t : ℕ) (a b : List ℕ) → A i text s a → A i text t b → AreSame s t a b) where
  thirds_once : (held : Texts) (i : Instance) (name : List ℕ) (s t : ℕ) (a b : List ℕ) → AnswersThird A (Some held) i name s a → AnswersThird A (Some held) i name t b → AreSame s t a b
  thirds_once held i name s t a b h k =
      once i k.text s t a b (subst (λ (x : List ℕ). A i x s a) (same_text held name h.text k.text h.holds k.holds) h.answers) k.answers

  demand_once : (held : Texts) (g : Grammar) (text name : List ℕ) (s t : ℕ) (a b : List ℕ) → DemandAnswers A (Some held) g text name s a → DemandAnswers A (Some held) g text name t b → AreSame s t a b
  demand_once held g text name s t a b (asked.DemandAnswers.accepted i x xs e h) (asked.DemandAnswers.accepted j y ys f k) =
      thirds_once held j name s t a b
      (subst (λ (z : Instance). AnswersThird A (Some held) z name s a) (same_ok (instance_of g text) i j e.reading f.reading) h) k
  demand_once held g text name s t a b (asked.DemandAnswers.accepted i x xs e h) (asked.DemandAnswers.refused ys k) =
      absurd (not_both (instance_of g text) i k.fault e.reading k.reading)
  demand_once held g text name s t a b (asked.DemandAnswers.refused xs h) (asked.DemandAnswers.accepted j y ys f k) =
      absurd (not_both (instance_of g text) j h.fault f.reading h.reading)
  demand_once held g text name s t a b (asked.DemandAnswers.refused xs h) (asked.DemandAnswers.refused ys k) =
      (refl, h.line ∙ ap (λ (x : DemandFault). demand.fault_line x) (same_err (instance_of g text) h.fault k.fault h.reading k.reading) ∙ sym k.line)

  demands_once : (held : Texts) (g : Grammar) (name proof_name : List ℕ) (s t : ℕ) (a b : List ℕ) → AnswersDemand A (Some held) g name proof_name s a → AnswersDemand A (Some held) g name proof_name t b → AreSame s t a b
  demands_once held g name proof_name s t a b h k =
      demand_once held g k.text proof_name s t a b
      (subst (λ (x : List ℕ). DemandAnswers A (Some held) g x proof_name s a) (same_text held name h.text k.text h.holds k.holds) h.answers) k.answers

  rules_once : (held : Texts) (text demand proof : List ℕ) (s t : ℕ) (a b : List ℕ) → RulesAnswers A (Some held) text demand proof s a → RulesAnswers A (Some held) text demand proof t b → AreSame s t a b
  rules_once held text demand proof s t a b (asked.RulesAnswers.accepted g x xs e h) (asked.RulesAnswers.accepted f y ys q k) =
      demands_once held f demand proof s t a b
      (subst (λ (z : Grammar). AnswersDemand A (Some held) z demand proof s a) (same_grammar text g f e.reading q.reading) h) k
  rules_once held text demand proof s t a b (asked.RulesAnswers.accepted g x xs e h) (asked.RulesAnswers.refused ys k) =
      absurd (no_fault text g k.fault e.reading k.reading)
  rules_once held text demand proof s t a b (asked.RulesAnswers.refused xs h) (asked.RulesAnswers.accepted f y ys q k) =
      absurd (no_fault text f h.fault q.reading h.reading)
  rules_once held text demand proof s t a b (asked.RulesAnswers.refused xs h) (asked.RulesAnswers.refused ys k) = (refl, faults_once text a b h k)

  pub texts-once : (held : Texts) (rules demand proof : List ℕ) (s t : ℕ) (a b : List ℕ) → AnswersTexts A (Some held) rules demand proof s a → AnswersTexts A (Some held) rules demand proof t b → AreSame s t a b
  texts-once held rules demand proof s t a b h k =
      rules_once held k.text demand proof s t a b
      (subst (λ (x : List ℕ). RulesAnswers A (Some held) x demand proof s a) (same_text held rules h.text k.text h.holds k.holds) h.answers) k.answers
