-- A command's answers, one data a command, are those that its parts say one after another, and the other way round.
use Rattle.std.proofs.Common.{ℕ, List, [], ◌∷◌, Option}
use Rattle.command_shelf.specs.Shelf.{Texts, Told}
use Rattle.command_answers.specs.Asked.{CertAnswers, ProofAnswers, TextAnswers, AnswersTexts}
use Rattle.command_answers.specs.Asked as asked
use Rattle.command_answers.specs.Says.{CertCommand}
use Rattle.command_answers.specs.Says as says
use Rattle.command_answers.specs.TextCommands.{TextCommand}
use Rattle.command_answers.specs.TextCommands as text_commands
use Rattle.command_answers.specs.Reader.{IsReader}
use Rattle.command_answers.proofs.Readers.{widen}

module _ (A : TextAnswers) (held : Option Texts) (rules demand third : List ℕ) where
  pub as-text-command : (status : ℕ) (output : List ℕ) → AnswersTexts A held rules demand third status output → TextCommand A held rules demand third status output
  as-text-command status output h = by-rules status output h.answers
    where
      by-rules : (s : ℕ) (o : List ℕ) → asked.RulesAnswers A held h.text demand third s o → TextCommand A held rules demand third s o
      by-rules s o (asked.RulesAnswers.refused o2 k) = text_commands.rules_refused o2 (record { text = h.text; holds = h.holds; fault = k })
      by-rules s o (asked.RulesAnswers.accepted g s2 o2 is k) = by-demand s2 o2 k.answers
        where
          rules_say : says.SaysGrammar held rules g
          rules_say = record { text = h.text; holds = h.holds; says = is }

          by-demand : (s3 : ℕ) (o3 : List ℕ) → asked.DemandAnswers A held g k.text third s3 o3 → TextCommand A held rules demand third s3 o3
          by-demand s3 o3 (asked.DemandAnswers.refused o4 f) =
              text_commands.demand_refused o4 (record { grammar = g; rules_say = rules_say; text = k.text; holds = k.holds; fault = f })
          by-demand s3 o3 (asked.DemandAnswers.accepted i s4 o4 day p) =
              text_commands.answered i s4 o4 (record { grammar = g; rules_say = rules_say; text = k.text; holds = k.holds; says = day }) p

  pub as-texts : (status : ℕ) (output : List ℕ) → TextCommand A held rules demand third status output → AnswersTexts A held rules demand third status output
  as-texts status output (text_commands.answered i s o day a) = record {
    text = day.rules_say.text;
    holds = day.rules_say.holds;
    answers = asked.RulesAnswers.accepted day.grammar s o day.rules_say.says (record { text = day.text; holds = day.holds; answers = asked.DemandAnswers.accepted i s o day.says a });
  }
  as-texts status output (text_commands.rules_refused o r) = record { text = r.text; holds = r.holds; answers = asked.RulesAnswers.refused o r.fault }
  as-texts status output (text_commands.demand_refused o r) = record {
    text = r.rules_say.text;
    holds = r.rules_say.holds;
    answers = asked.RulesAnswers.accepted r.grammar 4 o r.rules_say.says (record { text = r.text; holds = r.holds; answers = asked.DemandAnswers.refused o r.fault });
  }

-- of a certificate's text
module _ (A : CertAnswers) (held : Option Texts) (rules demand proof : List ℕ) where
  as-cert : (status : ℕ) (output : List ℕ) → TextCommand (ProofAnswers A) held rules demand proof status output → CertCommand A held rules demand proof status output
  as-cert status output (text_commands.rules_refused o r) = says.rules_refused o r
  as-cert status output (text_commands.demand_refused o r) = says.demand_refused o r
  as-cert status output (text_commands.answered i s o day p) = by-proof s o p.answers
    where
      by-proof : (s2 : ℕ) (o2 : List ℕ) → ProofAnswers A i p.text s2 o2 → CertCommand A held rules demand proof s2 o2
      by-proof s2 o2 (asked.ProofAnswers.accepted c s3 o3 e a) = says.answered i c s3 o3 day (record { text = p.text; holds = p.holds; says = e }) a
      by-proof s2 o2 (asked.ProofAnswers.refused o3 f) = says.proof_refused i o3 day (record { text = p.text; holds = p.holds; fault = f })

  as-text : (status : ℕ) (output : List ℕ) → CertCommand A held rules demand proof status output → TextCommand (ProofAnswers A) held rules demand proof status output
  as-text status output (says.answered i c s o day cert a) = text_commands.answered i s o day (record { text = cert.text; holds = cert.holds; answers = asked.ProofAnswers.accepted c s o cert.says a })
  as-text status output (says.rules_refused o r) = text_commands.rules_refused o r
  as-text status output (says.demand_refused o r) = text_commands.demand_refused o r
  as-text status output (says.proof_refused i o day r) = text_commands.answered i 5 o day (record { text = r.text; holds = r.holds; answers = asked.ProofAnswers.refused o r.fault })

  pub as-cert-texts : (status : ℕ) (output : List ℕ) → CertCommand A held rules demand proof status output → AnswersTexts (ProofAnswers A) held rules demand proof status output
  as-cert-texts status output h = as-texts (ProofAnswers A) held rules demand proof status output (as-text status output h)

-- a command that asks something of a certificate
pub asks-cert : (A : CertAnswers) (rules demand proof : List ℕ) (before after : Told) (status : ℕ)
    → IsReader (TextCommand (ProofAnswers A) before.held rules demand proof) (rules ∷ demand ∷ proof ∷ []) before after status
    → IsReader (CertCommand A before.held rules demand proof) (rules ∷ demand ∷ proof ∷ []) before after status
asks-cert A rules demand proof before after status reader =
    widen (TextCommand (ProofAnswers A) before.held rules demand proof) (CertCommand A before.held rules demand proof) (as-cert A before.held rules demand proof)
    (rules ∷ demand ∷ proof ∷ []) (rules ∷ demand ∷ proof ∷ []) before after status (λ k. k) reader
