-- Commands that read a rules text and answer a question about its day.
use Rattle.std.proofs.Common.{◌≡◌, ◌≢◌, ℕ, List, [], ◌∷◌, Result, Ok, Err, IfOk, sym, subst}
use Rattle.model_rosters.specs.declared.grammar.Grammar.{Grammar}
use Rattle.model_rosters.specs.declared.memory.Memory.{Memory}
use Rattle.text_rules.specs.FaultLine.{fault_line}
use Rattle.text_rules.specs.RulesOf.{IsReading}
use Rattle.text_rules.specs.declared.fault.RulesFault.{RulesFault}
use Rattle.text_rules.specs.declared.fault.RulesFault.TheVariants as faults
use Rattle.command_shelf.specs.Shelf.{Told, front_to}
use Rattle.command_answers.specs.declared.answer.Answer.{Answer}
use Rattle.command_texts.specs.Days.{DayAnswer, AnswersDay, accepted, refused}
use Rattle.command_answers.specs.Fetch.{IsFetchTo, NoAnswer}
use Rattle.command_answers.specs.RulesFronts.{grammar-whole, fault-whole}
use Rattle.command_answers.specs.Reader.{IsReader}
use Rattle.command_answers.proofs.Readers.{IsSaid, one-said, widen, after_fetch}

module _ (Answers : Grammar → ℕ → List ℕ → Type 0) where
  pub day-fault : (text : List ℕ) (fault : RulesFault) (r : Result Answer Memory) → (fault ≢ faults.Memory → IsReading text (Err fault))
      → IfOk r (λ a. (fault ≢ faults.Memory) × (a.status ≡ 3) × (a.output ≡ fault_line fault)) → IfOk r (λ a. DayAnswer Answers text a.status a.output)
  day-fault text fault (Err e) reading h = tt
  day-fault text fault (Ok a) reading h =
      subst (λ (n : ℕ). DayAnswer Answers text n a.output) (sym h.1) (refused a.output (record { fault = fault; reading = reading h.0; line = h.2 }))

  pub day-said : (text : List ℕ) (a : Answer) (before after : Told) (status : ℕ) → DayAnswer Answers text a.status a.output → IsSaid a before after status
      → IsReader (λ s o. DayAnswer Answers text s o) [] before after status
  day-said text a before after status h said = one-said (λ s o. DayAnswer Answers text s o) a before after status h said

  -- what is answered to the first bytes of a rules text, up to one above the limit, is an answer to the text
  day-whole : (text : List ℕ) (s : ℕ) (o : List ℕ) → DayAnswer Answers (front_to 1048576 text) s o → DayAnswer Answers text s o
  day-whole text s o (accepted g t x is a) = accepted g t x (grammar-whole text g is) a
  day-whole text s o (refused x f) = refused x (fault-whole text x f)

  pub day-read : (name front : List ℕ) (before middle after : Told) (status : ℕ) → IsFetchTo 1048576 name before middle front
      → IsReader (λ s o. DayAnswer Answers front s o) [] middle after status → IsReader (λ s o. AnswersDay Answers before.held name s o) (name ∷ []) before after status
  day-read name front before middle after status f reader =
      after_fetch (λ s o. AnswersDay Answers before.held name s o) name [] before middle after status f.text f.fetch
      (widen (λ s o. DayAnswer Answers front s o) (λ s o. AnswersDay Answers before.held name s o)
      (λ s o k. (f.text, f.fetch.holds, day-whole f.text s o (subst (λ (t : List ℕ). DayAnswer Answers t s o) f.front_is k))) [] [] middle after status (λ k. k) reader)

  pub day-unread : (name : List ℕ) (before after : Told) (status : ℕ) → IsReader NoAnswer (name ∷ []) before after status
      → IsReader (λ s o. AnswersDay Answers before.held name s o) (name ∷ []) before after status
  day-unread name before after status reader =
      widen NoAnswer (λ s o. AnswersDay Answers before.held name s o) (λ s o k. absurd k) (name ∷ []) (name ∷ []) before after status (λ k. k) reader
