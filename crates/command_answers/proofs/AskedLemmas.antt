-- The answers of commands that ask something of a third text, from what their parts answer.
use Rattle.std.proofs.Common.{◌≡◌, ◌≢◌, ℕ, List, Option, Result, Ok, Err, IfOk, subst, ◌∙◌}
use Rattle.std.specs.Prelude.{Some, None, [], ◌∷◌}
use Rattle.model_rosters.specs.declared.grammar.Grammar.{Grammar}
use Rattle.model_rosters.specs.declared.instance.Instance.{Instance}
use Rattle.model_rosters.specs.declared.memory.Memory.{Memory}
use Rattle.model_rosters.specs.Sound.{IsSound}
use Rattle.model_rosters.specs.SoundInstance.{IsSoundInstance}
use Rattle.text_demand_lines.specs.declared.fault.DemandFault.{DemandFault}
use Rattle.text_demand_lines.specs.declared.fault.DemandFault.TheVariants as demand_faults
use Rattle.text_demand_lines.specs.FaultLine as demand
use Rattle.text_demand.specs.InstanceOf.{instance_of}
use Rattle.text_proof_pieces.specs.declared.fault.ProofFault.{ProofFault}
use Rattle.text_proof_pieces.specs.declared.fault.ProofFault.TheVariants as proof_faults
use Rattle.text_proof_pieces.specs.CertOf.{proof_of}
use Rattle.text_proof_pieces.specs.FaultLine as proof
use Rattle.text_rules.specs.FaultLine.{fault_line}
use Rattle.text_rules.specs.RulesOf.{IsReading}
use Rattle.text_rules.specs.declared.fault.RulesFault.{RulesFault}
use Rattle.text_rules.specs.declared.fault.RulesFault.TheVariants as rules_faults
use Rattle.command_shelf.specs.Shelf.{Texts, Told, front_to}
use Rattle.command_answers.specs.declared.answer.Answer.{Answer}
use Rattle.command_answers.specs.Asked.{CertAnswers, ProofAnswers, TextAnswers, AnswersThird, DemandAnswers, AnswersDemand, RulesAnswers, AnswersTexts, TextsAnswers}
use Rattle.command_answers.specs.Asked as asked
use Rattle.command_answers.specs.Fetch.{IsAnswer, IsFetchTo, NoAnswer}
use Rattle.command_answers.specs.Reader.{IsReader, HoldsAll}
use Rattle.command_answers.proofs.Readers.{widen, after_fetch, one_held}
use Rattle.command_answers.proofs.AskedFronts.{demand-whole, rules-whole}

pub no_names : (held : Option Texts) (names : List (List ℕ)) → HoldsAll held names → HoldsAll held []
no_names None names h = absurd h
no_names (Some texts) names h = tt

module _ (A : TextAnswers) where
  refused_demand : (held : Option Texts) (g : Grammar) (text name : List ℕ) (fault : DemandFault) (r : Result Answer Memory)
      → IfOk r (λ a. (fault ≢ demand_faults.Memory) × (a.status ≡ 4) × (a.output ≡ demand.fault_line fault)) → (fault ≢ demand_faults.Memory → instance_of g text ≡ Err fault)
      → (status : ℕ) (output : List ℕ) → IsAnswer r status output → DemandAnswers A held g text name status output
  refused_demand held g text name fault (Err e) h reading status output a = absurd a
  refused_demand held g text name fault (Ok x) h reading status output a =
      let s : status ≡ 4 = a.0 ∙ h.1 in
      rw s (asked.DemandAnswers.refused output (record { fault = fault; reading = reading h.0; line = a.1 ∙ h.2 }))

  refused_rules : (held : Option Texts) (text demand_name proof_name : List ℕ) (fault : RulesFault) (r : Result Answer Memory)
      → IfOk r (λ a. (fault ≢ rules_faults.Memory) × (a.status ≡ 3) × (a.output ≡ fault_line fault)) → (fault ≢ rules_faults.Memory → IsReading text (Err fault))
      → (status : ℕ) (output : List ℕ) → IsAnswer r status output → RulesAnswers A held text demand_name proof_name status output
  refused_rules held text demand_name proof_name fault (Err e) h reading status output a = absurd a
  refused_rules held text demand_name proof_name fault (Ok x) h reading status output a =
      let s : status ≡ 3 = a.0 ∙ h.1 in
      rw s (asked.RulesAnswers.refused output (record { fault = fault; reading = reading h.0; line = a.1 ∙ h.2 }))

  refused_texts : (held : Option Texts) (rules demand name : List ℕ) (fault : RulesFault) (r : Result Answer Memory)
      → IfOk r (λ a. (fault ≢ rules_faults.Memory) × (a.status ≡ 3) × (a.output ≡ fault_line fault)) → (fault ≢ rules_faults.Memory → IsReading rules (Err fault))
      → (status : ℕ) (output : List ℕ) → IsAnswer r status output → TextsAnswers A held rules demand name status output
  refused_texts held rules demand name fault (Err e) h reading status output a = absurd a
  refused_texts held rules demand name fault (Ok x) h reading status output a =
      let s : status ≡ 3 = a.0 ∙ h.1 in
      rw s (asked.TextsAnswers.refused output (record { fault = fault; reading = reading h.0; line = a.1 ∙ h.2 }))

module _ (A : CertAnswers) where
  pub text-refused : (i : Instance) (text : List ℕ) (fault : ProofFault) (r : Result Answer Memory) → (fault ≢ proof_faults.Memory → proof_of i text ≡ Err fault)
      → IfOk r (λ a. (fault ≢ proof_faults.Memory) × (a.status ≡ 5) × (a.output ≡ proof.fault_line fault)) → IfOk r (λ a. ProofAnswers A i text a.status a.output)
  text-refused i text fault (Err e) reading h = tt
  text-refused i text fault (Ok a) reading h = rw h.1 (asked.ProofAnswers.refused a.output (record { fault = fault; reading = reading h.0; line = h.2 }))

module _ (A : TextAnswers) (before after : Told) (status : ℕ) where
  pub demand-refused : (g : Grammar) (text name : List ℕ) (fault : DemandFault) (r : Result Answer Memory)
      → IfOk r (λ a. (fault ≢ demand_faults.Memory) × (a.status ≡ 4) × (a.output ≡ demand.fault_line fault)) → (fault ≢ demand_faults.Memory → instance_of g text ≡ Err fault)
      → IsReader (IsAnswer r) [] before after status → IsReader (DemandAnswers A before.held g text name) (name ∷ []) before after status
  demand-refused g text name fault r h reading reader =
      widen (IsAnswer r) (DemandAnswers A before.held g text name) (refused_demand A before.held g text name fault r h reading) (name ∷ []) [] before after status (no_names before.held (name ∷ [])) reader

  pub demand-accepted : (g : Grammar) (text name : List ℕ) (i : Instance) → instance_of g text ≡ Ok i → IsSoundInstance i
      → IsReader (AnswersThird A before.held i name) (name ∷ []) before after status → IsReader (DemandAnswers A before.held g text name) (name ∷ []) before after status
  demand-accepted g text name i reading sound reader =
      widen (AnswersThird A before.held i name) (DemandAnswers A before.held g text name) (λ s o a. asked.DemandAnswers.accepted i s o (record { reading = reading; sound = sound }) a) (name ∷ []) (name ∷ []) before after status (λ h. h) reader

  pub rules-refused : (text demand_name proof_name : List ℕ) (fault : RulesFault) (r : Result Answer Memory)
      → IfOk r (λ a. (fault ≢ rules_faults.Memory) × (a.status ≡ 3) × (a.output ≡ fault_line fault)) → (fault ≢ rules_faults.Memory → IsReading text (Err fault))
      → IsReader (IsAnswer r) [] before after status → IsReader (RulesAnswers A before.held text demand_name proof_name) (demand_name ∷ proof_name ∷ []) before after status
  rules-refused text demand_name proof_name fault r h reading reader =
      widen (IsAnswer r) (RulesAnswers A before.held text demand_name proof_name) (refused_rules A before.held text demand_name proof_name fault r h reading) (demand_name ∷ proof_name ∷ []) [] before after status
      (no_names before.held (demand_name ∷ proof_name ∷ [])) reader

  pub rules-accepted : (text demand_name proof_name : List ℕ) (g : Grammar) → IsReading text (Ok g) → IsSound g
      → IsReader (AnswersDemand A before.held g demand_name proof_name) (demand_name ∷ proof_name ∷ []) before after status
      → IsReader (RulesAnswers A before.held text demand_name proof_name) (demand_name ∷ proof_name ∷ []) before after status
  rules-accepted text demand_name proof_name g reading sound reader =
      widen (AnswersDemand A before.held g demand_name proof_name) (RulesAnswers A before.held text demand_name proof_name)
      (λ s o a. asked.RulesAnswers.accepted g s o (record { reading = reading; sound = sound }) a) (demand_name ∷ proof_name ∷ []) (demand_name ∷ proof_name ∷ []) before after status (λ h. h) reader

  pub texts-refused : (rules demand name : List ℕ) (fault : RulesFault) (r : Result Answer Memory)
      → IfOk r (λ a. (fault ≢ rules_faults.Memory) × (a.status ≡ 3) × (a.output ≡ fault_line fault)) → (fault ≢ rules_faults.Memory → IsReading rules (Err fault))
      → IsReader (IsAnswer r) [] before after status → IsReader (TextsAnswers A before.held rules demand name) (name ∷ []) before after status
  texts-refused rules demand name fault r h reading reader =
      widen (IsAnswer r) (TextsAnswers A before.held rules demand name) (refused_texts A before.held rules demand name fault r h reading) (name ∷ []) [] before after status (no_names before.held (name ∷ [])) reader

  pub texts-accepted : (rules demand name : List ℕ) (g : Grammar) → IsReading rules (Ok g) → IsSound g
      → IsReader (DemandAnswers A before.held g demand name) (name ∷ []) before after status
      → IsReader (TextsAnswers A before.held rules demand name) (name ∷ []) before after status
  texts-accepted rules demand name g reading sound reader =
      widen (DemandAnswers A before.held g demand name) (TextsAnswers A before.held rules demand name)
      (λ s o a. asked.TextsAnswers.accepted g s o (record { reading = reading; sound = sound }) a) (name ∷ []) (name ∷ []) before after status (λ h. h) reader

  -- a third text that was fetched, and what was said to its first bytes
  pub third-read : (most : ℕ) → ((i : Instance) (text : List ℕ) (s : ℕ) (o : List ℕ) → A i (front_to most text) s o → A i text s o)
      → (i : Instance) (name front : List ℕ) (middle : Told) (r : Result Answer Memory) → IsFetchTo most name before middle front → IfOk r (λ a. A i front a.status a.output)
      → IsReader (IsAnswer r) [] middle after status → IsReader (AnswersThird A before.held i name) (name ∷ []) before after status
  third-read most fronts i name front middle r f h reader =
      after_fetch (AnswersThird A before.held i name) name [] before middle after status f.text f.fetch
      (widen (IsAnswer r) (AnswersThird A before.held i name) (each r h) [] [] middle after status (λ k. k) reader)
    where
      each : (r : Result Answer Memory) → IfOk r (λ a. A i front a.status a.output) → (s : ℕ) (o : List ℕ) → IsAnswer r s o → AnswersThird A before.held i name s o
      each (Err e) h s o k = absurd k
      each (Ok a) h s o k = record {
        text = f.text;
        holds = f.fetch.holds;
        answers = fronts i f.text s o (subst (λ (t : List ℕ). A i t s o) f.front_is (rw (k.0, k.1) h));
      }

  -- a demand text that was fetched
  pub demand-read : (g : Grammar) (name proof_name front : List ℕ) (middle : Told) → IsFetchTo 1048576 name before middle front
      → IsReader (DemandAnswers A middle.held g front proof_name) (proof_name ∷ []) middle after status
      → IsReader (AnswersDemand A before.held g name proof_name) (name ∷ proof_name ∷ []) before after status
  demand-read g name proof_name front middle f reader =
      after_fetch (AnswersDemand A before.held g name proof_name) name (proof_name ∷ []) before middle after status f.text f.fetch
      (widen (DemandAnswers A middle.held g front proof_name) (AnswersDemand A before.held g name proof_name) each (proof_name ∷ []) (proof_name ∷ []) middle after status (λ h. h) reader)
    where
      each : (s : ℕ) (o : List ℕ) → DemandAnswers A middle.held g front proof_name s o → AnswersDemand A before.held g name proof_name s o
      each s o a = record {
        text = f.text;
        holds = f.fetch.holds;
        answers = demand-whole A before.held g f.text proof_name s o
            (subst (λ (t : List ℕ). DemandAnswers A before.held g t proof_name s o) f.front_is (subst (λ (h : Option Texts). DemandAnswers A h g front proof_name s o) f.fetch.held a));
      }

  -- a rules text that was fetched
  pub rules-read : (name demand_name proof_name front : List ℕ) (middle : Told) → IsFetchTo 1048576 name before middle front
      → IsReader (RulesAnswers A middle.held front demand_name proof_name) (demand_name ∷ proof_name ∷ []) middle after status
      → IsReader (AnswersTexts A before.held name demand_name proof_name) (name ∷ demand_name ∷ proof_name ∷ []) before after status
  rules-read name demand_name proof_name front middle f reader =
      after_fetch (AnswersTexts A before.held name demand_name proof_name) name (demand_name ∷ proof_name ∷ []) before middle after status f.text f.fetch
      (widen (RulesAnswers A middle.held front demand_name proof_name) (AnswersTexts A before.held name demand_name proof_name) each
      (demand_name ∷ proof_name ∷ []) (demand_name ∷ proof_name ∷ []) middle after status (λ h. h) reader)
    where
      each : (s : ℕ) (o : List ℕ) → RulesAnswers A middle.held front demand_name proof_name s o → AnswersTexts A before.held name demand_name proof_name s o
      each s o a = record {
        text = f.text;
        holds = f.fetch.holds;
        answers = rules-whole A before.held f.text demand_name proof_name s o
            (subst (λ (t : List ℕ). RulesAnswers A before.held t demand_name proof_name s o) f.front_is (subst (λ (h : Option Texts). RulesAnswers A h front demand_name proof_name s o) f.fetch.held a));
      }

-- a text that was not fetched
pub unread : (B : ℕ → List ℕ → Type 0) (name : List ℕ) (names : List (List ℕ)) (before after : Told) (status : ℕ) → IsReader NoAnswer (name ∷ []) before after status → IsReader B (name ∷ names) before after status
unread B name names before after status reader = widen NoAnswer B (λ s o k. absurd k) (name ∷ names) (name ∷ []) before after status (one_held before.held name names) reader
