-- The answers of commands that ask a day alone, from what their parts answer, and that there is one.
use Rattle.std.proofs.Common.{◌≡◌, ◌≢◌, ℕ, List, [], ◌∷◌, Option, Some, Result, Ok, Err, IfOk, refl, sym, ap, subst, ◌∙◌}
use Rattle.model_rosters.specs.declared.grammar.Grammar.{Grammar}
use Rattle.model_rosters.specs.declared.instance.Instance.{Instance}
use Rattle.model_rosters.specs.declared.memory.Memory.{Memory}
use Rattle.model_rosters.specs.Sound.{IsSound}
use Rattle.model_rosters.specs.SoundInstance.{IsSoundInstance}
use Rattle.text_rules.specs.FaultLine.{fault_line}
use Rattle.text_rules.specs.RulesOf.{IsReading}
use Rattle.text_rules.specs.declared.fault.RulesFault.{RulesFault}
use Rattle.text_rules.specs.declared.fault.RulesFault.TheVariants as rules_faults
use Rattle.text_demand_lines.specs.declared.fault.DemandFault.{DemandFault}
use Rattle.text_demand_lines.specs.declared.fault.DemandFault.TheVariants as demand_faults
use Rattle.text_demand_lines.specs.FaultLine as demand
use Rattle.text_demand.specs.InstanceOf.{instance_of}
use Rattle.text_demand.specs.Written.{AreDemandsOf}
use Rattle.command_shelf.specs.Shelf.{Texts, Told, front_to}
use Rattle.text_relaxed_days.specs.declared.kind.Kind.{Kind}
use Rattle.text_relaxed_days.specs.Relaxed.{relaxed_demand}
use Rattle.command_answers.specs.declared.answer.Answer.{Answer}
use Rattle.command_answers.specs.Fetch.{IsAnswer, IsFetchTo, NoAnswer}
use Rattle.command_answers.specs.Reader.{IsReader, Holds}
use Rattle.command_answers.specs.Readings.{SaysFault}
use Rattle.command_answers.specs.RulesFronts.{grammar-whole, fault-whole}
use Rattle.command_answers.specs.DemandFronts.{instance-whole, demand-fault-whole}
use Rattle.command_answers.proofs.AskedLemmas.{no_names}
use Rattle.command_answers.proofs.OnceLemmas.{AreSame}
use Rattle.command_answers.proofs.OneReading.{same_text, same_ok, same_err, not_both, same_grammar, no_fault, faults_once}
use Rattle.command_answers.proofs.Readers.{widen, after_fetch, one_held}
use Rattle.command_texts.specs.Days.{DayAnswer}
use Rattle.command_texts.specs.Days as days
use Rattle.command_texts.specs.relax.Answers.{RelaxedRules, RelaxedDemand}
use Rattle.command_texts.specs.relax.DayCommands.{DayAnswers, DemandAnswer, AnswersUnder, RulesAnswer, DayCommand}
use Rattle.command_texts.specs.relax.DayCommands as asked

-- an answer that was said at once
pub said-at-once : (B : ℕ → List ℕ → Type 0) (r : Result Answer Memory) (before after : Told) (status : ℕ) → IfOk r (λ a. B a.status a.output)
    → IsReader (IsAnswer r) [] before after status → IsReader B [] before after status
said-at-once B r before after status h reader = widen (IsAnswer r) B (each r h) [] [] before after status (λ k. k) reader
  where
    each : (r : Result Answer Memory) → IfOk r (λ a. B a.status a.output) → (s : ℕ) (o : List ℕ) → IsAnswer r s o → B s o
    each (Err e) h s o k = absurd k
    each (Ok a) h s o k = rw (k.0, k.1) h

-- a text that was not fetched
pub not-fetched : (B : ℕ → List ℕ → Type 0) (name : List ℕ) (names : List (List ℕ)) (before after : Told) (status : ℕ) → IsReader NoAnswer (name ∷ []) before after status
    → IsReader B (name ∷ names) before after status
not-fetched B name names before after status reader =
    widen NoAnswer B (λ s o k. absurd k) (name ∷ names) (name ∷ []) before after status (one_held before.held name names) reader

-- rules that were read
pub rules-freed : (text : List ℕ) (g : Grammar) (r : Result Answer Memory) → IsReading text (Ok g) → IsSound g
    → IfOk r (λ a. RelaxedRules g a.status a.output) → IfOk r (λ a. DayAnswer RelaxedRules text a.status a.output)
rules-freed text g (Err e) reading sound h = tt
rules-freed text g (Ok a) reading sound h = days.accepted g a.status a.output (record { reading = reading; sound = sound }) h

module _ (A : DayAnswers) where
  -- a demand text that was read
  pub demand-read : (g : Grammar) (text : List ℕ) (i : Instance) (r : Result Answer Memory) → instance_of g text ≡ Ok i → IsSoundInstance i
      → IfOk r (λ a. A i a.status a.output) → IfOk r (λ a. DemandAnswer A g text a.status a.output)
  demand-read g text i (Err e) reading sound h = tt
  demand-read g text i (Ok a) reading sound h = asked.DemandAnswer.accepted i a.status a.output (record { reading = reading; sound = sound }) h

  pub demand-refused : (g : Grammar) (text : List ℕ) (fault : DemandFault) (r : Result Answer Memory) → (fault ≢ demand_faults.Memory → instance_of g text ≡ Err fault)
      → IfOk r (λ a. (fault ≢ demand_faults.Memory) × (a.status ≡ 4) × (a.output ≡ demand.fault_line fault)) → IfOk r (λ a. DemandAnswer A g text a.status a.output)
  demand-refused g text fault (Err e) reading h = tt
  demand-refused g text fault (Ok a) reading h = rw h.1 (asked.DemandAnswer.refused a.output (record { fault = fault; reading = reading h.0; line = h.2 }))

  demand_whole : (g : Grammar) (text : List ℕ) (s : ℕ) (o : List ℕ) → DemandAnswer A g (front_to 1048576 text) s o → DemandAnswer A g text s o
  demand_whole g text s o (asked.DemandAnswer.accepted i t x day a) = asked.DemandAnswer.accepted i t x (instance-whole g text i day) a
  demand_whole g text s o (asked.DemandAnswer.refused x f) = asked.DemandAnswer.refused x (demand-fault-whole g text x f)

  rules_whole : (held : Option Texts) (text name : List ℕ) (s : ℕ) (o : List ℕ) → RulesAnswer A held (front_to 1048576 text) name s o → RulesAnswer A held text name s o
  rules_whole held text name s o (asked.RulesAnswer.accepted g t x is a) = asked.RulesAnswer.accepted g t x (grammar-whole text g is) a
  rules_whole held text name s o (asked.RulesAnswer.refused x f) = asked.RulesAnswer.refused x (fault-whole text x f)

  -- a demand text that was fetched
  pub demand-fetched : (g : Grammar) (name front : List ℕ) (before middle after : Told) (status : ℕ) → IsFetchTo 1048576 name before middle front
      → IsReader (λ s o. DemandAnswer A g front s o) [] middle after status → IsReader (AnswersUnder A before.held g name) (name ∷ []) before after status
  demand-fetched g name front before middle after status f reader =
      after_fetch (AnswersUnder A before.held g name) name [] before middle after status f.text f.fetch
      (widen (λ s o. DemandAnswer A g front s o) (AnswersUnder A before.held g name)
      (λ s o k. record { text = f.text; holds = f.fetch.holds; answers = demand_whole g f.text s o (subst (λ (t : List ℕ). DemandAnswer A g t s o) f.front_is k) })
      [] [] middle after status (λ k. k) reader)

  -- a rules text that was read
  pub rules-read : (text name : List ℕ) (g : Grammar) (before after : Told) (status : ℕ) → IsReading text (Ok g) → IsSound g
      → IsReader (AnswersUnder A before.held g name) (name ∷ []) before after status → IsReader (RulesAnswer A before.held text name) (name ∷ []) before after status
  rules-read text name g before after status reading sound reader =
      widen (AnswersUnder A before.held g name) (RulesAnswer A before.held text name)
      (λ s o a. asked.RulesAnswer.accepted g s o (record { reading = reading; sound = sound }) a) (name ∷ []) (name ∷ []) before after status (λ k. k) reader

  pub rules-refused : (text name : List ℕ) (fault : RulesFault) (r : Result Answer Memory) (before after : Told) (status : ℕ)
      → IfOk r (λ a. (fault ≢ rules_faults.Memory) × (a.status ≡ 3) × (a.output ≡ fault_line fault)) → (fault ≢ rules_faults.Memory → IsReading text (Err fault))
      → IsReader (IsAnswer r) [] before after status → IsReader (RulesAnswer A before.held text name) (name ∷ []) before after status
  rules-refused text name fault r before after status h reading reader =
      widen (IsAnswer r) (RulesAnswer A before.held text name) (each r h) (name ∷ []) [] before after status (no_names before.held (name ∷ [])) reader
    where
      each : (r : Result Answer Memory) → IfOk r (λ a. (fault ≢ rules_faults.Memory) × (a.status ≡ 3) × (a.output ≡ fault_line fault)) → (s : ℕ) (o : List ℕ) → IsAnswer r s o
          → RulesAnswer A before.held text name s o
      each (Err e) h s o k = absurd k
      each (Ok a) h s o k =
          let is : s ≡ 3 = k.0 ∙ h.1 in
          rw is (asked.RulesAnswer.refused o (record { fault = fault; reading = reading h.0; line = k.1 ∙ h.2 }))

  as_command : (held : Option Texts) (rules name text : List ℕ) → Holds held rules text → (s : ℕ) (o : List ℕ) → RulesAnswer A held text name s o → DayCommand A held rules name s o
  as_command held rules name text holds s o (asked.RulesAnswer.refused x f) = asked.DayCommand.rules_refused x (record { text = text; holds = holds; fault = f })
  as_command held rules name text holds s o (asked.RulesAnswer.accepted g t x is a) = by t x a.answers
    where
      by : (u : ℕ) (y : List ℕ) → DemandAnswer A g a.text u y → DayCommand A held rules name u y
      by u y (asked.DemandAnswer.accepted i v z day k) =
          asked.DayCommand.answered i v z (record { grammar = g; rules_say = record { text = text; holds = holds; says = is }; text = a.text; holds = a.holds; says = day }) k
      by u y (asked.DemandAnswer.refused z f) =
          asked.DayCommand.demand_refused z (record { grammar = g; rules_say = record { text = text; holds = holds; says = is }; text = a.text; holds = a.holds; fault = f })

  -- a rules text that was fetched
  pub rules-fetched : (rules name front : List ℕ) (before middle after : Told) (status : ℕ) → IsFetchTo 1048576 rules before middle front
      → IsReader (RulesAnswer A middle.held front name) (name ∷ []) middle after status → IsReader (DayCommand A before.held rules name) (rules ∷ name ∷ []) before after status
  rules-fetched rules name front before middle after status f reader =
      after_fetch (DayCommand A before.held rules name) rules (name ∷ []) before middle after status f.text f.fetch
      (widen (RulesAnswer A middle.held front name) (DayCommand A before.held rules name) each (name ∷ []) (name ∷ []) middle after status (λ k. k) reader)
    where
      each : (s : ℕ) (o : List ℕ) → RulesAnswer A middle.held front name s o → DayCommand A before.held rules name s o
      each s o a =
          as_command before.held rules name f.text f.fetch.holds s o
          (rules_whole before.held f.text name s o (subst (λ (t : List ℕ). RulesAnswer A before.held t name s o) f.front_is (subst (λ (h : Option Texts). RulesAnswer A h front name s o) f.fetch.held a)))

-- where a day has one answer, the texts have
module _ (A : DayAnswers) (once : (i : Instance) (s t : ℕ) (a b : List ℕ) → A i s a → A i t b → AreSame s t a b) (held : Texts) (rules demand_name : List ℕ) where
  one_rules : (x y : List ℕ) (g h : Grammar) → Holds (Some held) rules x → Holds (Some held) rules y → IsReading x (Ok g) → IsReading y (Ok h) → g ≡ h
  one_rules x y g h p q e f = same_grammar y g h (subst (λ (t : List ℕ). IsReading t (Ok g)) (same_text held rules x y p q) e) f

  no_rules : (x y : List ℕ) (g : Grammar) (fault : RulesFault) → Holds (Some held) rules x → Holds (Some held) rules y → IsReading x (Ok g) → IsReading y (Err fault) → ⊥
  no_rules x y g fault p q e f = no_fault y g fault (subst (λ (t : List ℕ). IsReading t (Ok g)) (same_text held rules x y p q) e) f

  same_reading : (x y : List ℕ) (g h : Grammar) → Holds (Some held) demand_name x → Holds (Some held) demand_name y → g ≡ h → instance_of g x ≡ instance_of h y
  same_reading x y g h p q e = ap (λ (k : Grammar). instance_of k x) e ∙ ap (λ (t : List ℕ). instance_of h t) (same_text held demand_name x y p q)

  pub day-once : (s t : ℕ) (a b : List ℕ) → DayCommand A (Some held) rules demand_name s a → DayCommand A (Some held) rules demand_name t b → AreSame s t a b
  day-once s t a b (asked.DayCommand.answered i x xs d h) (asked.DayCommand.answered j y ys e k) =
      let g = one_rules d.rules_say.text e.rules_say.text d.grammar e.grammar d.rules_say.holds e.rules_say.holds d.rules_say.says.reading e.rules_say.says.reading in
      let r = same_reading d.text e.text d.grammar e.grammar d.holds e.holds g in
      once j s t a b (subst (λ (z : Instance). A z s a) (same_ok (instance_of e.grammar e.text) i j (sym r ∙ d.says.reading) e.says.reading) h) k
  day-once s t a b (asked.DayCommand.answered i x xs d h) (asked.DayCommand.rules_refused ys k) =
      absurd (no_rules d.rules_say.text k.text d.grammar k.fault.fault d.rules_say.holds k.holds d.rules_say.says.reading k.fault.reading)
  day-once s t a b (asked.DayCommand.answered i x xs d h) (asked.DayCommand.demand_refused ys k) =
      let g = one_rules d.rules_say.text k.rules_say.text d.grammar k.grammar d.rules_say.holds k.rules_say.holds d.rules_say.says.reading k.rules_say.says.reading in
      let r = same_reading d.text k.text d.grammar k.grammar d.holds k.holds g in
      absurd (not_both (instance_of k.grammar k.text) i k.fault.fault (sym r ∙ d.says.reading) k.fault.reading)
  day-once s t a b (asked.DayCommand.rules_refused xs h) (asked.DayCommand.answered j y ys e k) =
      absurd (no_rules e.rules_say.text h.text e.grammar h.fault.fault e.rules_say.holds h.holds e.rules_say.says.reading h.fault.reading)
  day-once s t a b (asked.DayCommand.rules_refused xs h) (asked.DayCommand.rules_refused ys k) =
      (refl, faults_once k.text a b (subst (λ (x : List ℕ). SaysFault x a) (same_text held rules h.text k.text h.holds k.holds) h.fault) k.fault)
  day-once s t a b (asked.DayCommand.rules_refused xs h) (asked.DayCommand.demand_refused ys k) =
      absurd (no_rules k.rules_say.text h.text k.grammar h.fault.fault k.rules_say.holds h.holds k.rules_say.says.reading h.fault.reading)
  day-once s t a b (asked.DayCommand.demand_refused xs h) (asked.DayCommand.answered j y ys e k) =
      let g = one_rules e.rules_say.text h.rules_say.text e.grammar h.grammar e.rules_say.holds h.rules_say.holds e.rules_say.says.reading h.rules_say.says.reading in
      let r = same_reading e.text h.text e.grammar h.grammar e.holds h.holds g in
      absurd (not_both (instance_of h.grammar h.text) j h.fault.fault (sym r ∙ e.says.reading) h.fault.reading)
  day-once s t a b (asked.DayCommand.demand_refused xs h) (asked.DayCommand.rules_refused ys k) =
      absurd (no_rules h.rules_say.text k.text h.grammar k.fault.fault h.rules_say.holds k.holds h.rules_say.says.reading k.fault.reading)
  day-once s t a b (asked.DayCommand.demand_refused xs h) (asked.DayCommand.demand_refused ys k) =
      let g = one_rules h.rules_say.text k.rules_say.text h.grammar k.grammar h.rules_say.holds k.rules_say.holds h.rules_say.says.reading k.rules_say.says.reading in
      let r = same_reading h.text k.text h.grammar k.grammar h.holds k.holds g in
      let e = same_err (instance_of k.grammar k.text) h.fault.fault k.fault.fault (sym r ∙ h.fault.reading) k.fault.reading in
      (refl, h.fault.line ∙ ap (λ (x : DemandFault). demand.fault_line x) e ∙ sym k.fault.line)

-- rules at no cost, and a relaxed day, have one text
pub freed-once : (g : Grammar) (s t : ℕ) (a b : List ℕ) → RelaxedRules g s a → RelaxedRules g t b → AreSame s t a b
freed-once g s t a b h k = (h.status_is ∙ sym k.status_is, h.said.text ∙ sym k.said.text)

pub relaxed-once : (kind : Kind) (i : Instance) (s t : ℕ) (a b : List ℕ) → RelaxedDemand kind i s a → RelaxedDemand kind i t b → AreSame s t a b
relaxed-once kind i s t a b h k =
    let cells = h.said.sound.cells in
    let are : AreDemandsOf (relaxed_demand kind i) cells.demands = record { each = cells.each; once = cells.once; made = cells.made } in
    (h.status_is ∙ sym k.status_is, h.said.text cells.demands are ∙ sym (k.said.text cells.demands are))
