-- Readers that fetch the texts of a request, one after another.
use Rattle.std.proofs.Common.{◌≡◌, ◌≢◌, ◌<◌, ℕ, List, [], ◌∷◌, Option, None, Some, Result, Ok, Err, IfOk, length, subst, ◌∙◌, inl, inr}
use Rattle.model_rosters.specs.declared.grammar.Grammar.{Grammar}
use Rattle.model_rosters.specs.declared.instance.Instance.{Instance}
use Rattle.model_rosters.specs.declared.memory.Memory.{Memory}
use Rattle.model_rosters.specs.Sound.{IsSound}
use Rattle.text_rules.specs.FaultLine.{fault_line}
use Rattle.text_rules.specs.RulesOf.{IsReading}
use Rattle.text_rules.specs.declared.fault.RulesFault.{RulesFault}
use Rattle.text_rules.specs.declared.fault.RulesFault.TheVariants as rules_faults
use Rattle.command_shelf.specs.Shelf.{Texts, Told, front_to}
use Rattle.command_answers.specs.declared.answer.Answer.{Answer}
use Rattle.command_answers.specs.Asked.{TextAnswers, AnswersThird, DemandAnswers}
use Rattle.command_answers.specs.Asked as asked
use Rattle.command_answers.specs.DemandFronts.{demand-fault-whole, long-demand}
use Rattle.command_answers.specs.Fetch.{IsAnswer, IsFetchTo}
use Rattle.command_answers.specs.Fronts.{front-cases}
use Rattle.command_answers.specs.Reader.{IsReader}
use Rattle.command_answers.specs.RulesFronts.{fault-whole, long-rules}
use Rattle.command_answers.proofs.AskedLemmas.{no_names}
use Rattle.command_answers.proofs.Readers.{after_fetch, widen}
use Rattle.page_command.specs.Check.{AnswersBeside, AnswersBesideRules, AnswersDemand, AnswersLabelled, AnswersLabelsText, AnswersOldText, AnswersRequest, AnswersShown, Request, RequestAnswers, kind_by, requested}
use Rattle.page_command.specs.Check as check
use Rattle.page_command.specs.Fronts.{long-labels-whole, long-old-whole}
use Rattle.page_views.specs.declared.kind.FirstWord.{FirstWord}
use Rattle.page_views.specs.declared.kind.FirstWord.TheVariants.{Page}

-- a text that was fetched up to a limit, and what is answered by its first bytes
module _ (A : List ℕ → Option Texts → ℕ → List ℕ → Type 0) (B : Option Texts → ℕ → List ℕ → Type 0) (most : ℕ) (name front : List ℕ) (names : List (List ℕ)) where
  fetched-first : (before middle after : Told) (status : ℕ) → (f : IsFetchTo most name before middle front) → ((s : ℕ) (o : List ℕ) → A (front_to most f.text) before.held s o → B before.held s o)
      → IsReader (A front middle.held) names middle after status → IsReader (B before.held) (name ∷ names) before after status
  fetched-first before middle after status f each reader =
      after_fetch (B before.held) name names before middle after status f.text f.fetch
      (widen (A front middle.held) (B before.held)
      (λ s o a. each s o (subst (λ (t : List ℕ). A t before.held s o) f.front_is (subst (λ (h : Option Texts). A front h s o) f.fetch.held a))) names names middle after status (λ h. h) reader)

-- where the answers to the third text are others, so are those to a demand text
module _ (A B : TextAnswers) (each : (i : Instance) (text : List ℕ) (s : ℕ) (o : List ℕ) → A i text s o → B i text s o) (held : Option Texts) where
  third-map : (i : Instance) (name : List ℕ) (s : ℕ) (o : List ℕ) → AnswersThird A held i name s o → AnswersThird B held i name s o
  third-map i name s o h = record { text = h.text; holds = h.holds; answers = each i h.text s o h.answers }

  demand-map : (g : Grammar) (text name : List ℕ) (s : ℕ) (o : List ℕ) → DemandAnswers A held g text name s o → DemandAnswers B held g text name s o
  demand-map g text name s o (asked.DemandAnswers.accepted i x y day a) = asked.DemandAnswers.accepted i x y day (third-map i name x y a)
  demand-map g text name s o (asked.DemandAnswers.refused y f) = asked.DemandAnswers.refused y f

-- a demand text over the limit is refused, whatever is asked of the third text
long-demand-whole : (A B : TextAnswers) (held : Option Texts) (g : Grammar) (text name : List ℕ) (s : ℕ) (o : List ℕ) → 1048576 < length (front_to 1048576 text) → DemandAnswers A held g (front_to 1048576 text) name s o
    → DemandAnswers B held g text name s o
long-demand-whole A B held g text name s o lt (asked.DemandAnswers.accepted i x y day a) = absurd (long-demand g (front_to 1048576 text) i lt day)
long-demand-whole A B held g text name s o lt (asked.DemandAnswers.refused y f) = asked.DemandAnswers.refused y (demand-fault-whole g text y f)

-- the first bytes of a demand text are answered as the text is, whose sum is then theirs
demand-whole : (r : Request) (held : Option Texts) (g : Grammar) (text name : List ℕ) (s : ℕ) (o : List ℕ) → DemandAnswers (RequestAnswers r (front_to 1048576 text)) held g (front_to 1048576 text) name s o
    → DemandAnswers (RequestAnswers r text) held g text name s o
demand-whole r held g text name s o a = elim (front-cases 1048576 text) [
  | inl over ↦ long-demand-whole (RequestAnswers r (front_to 1048576 text)) (RequestAnswers r text) held g text name s o over.1 a
  | inr same ↦ subst (λ (t : List ℕ). DemandAnswers (RequestAnswers r t) held g t name s o) same a
]

-- what is asked under another labels text and beside another old text
module _ (w : FirstWord) (rules : List ℕ) (labels old m n : Option (List ℕ))
    (each : (demand : List ℕ) (i : Instance) (text : List ℕ) (s : ℕ) (o : List ℕ) → RequestAnswers (requested w rules labels old) demand i text s o → RequestAnswers (requested w rules m n) demand i text s o) (held : Option Texts) where
  request-map : (demand proof : List ℕ) (s : ℕ) (o : List ℕ) → AnswersRequest (requested w rules labels old) held demand proof s o → AnswersRequest (requested w rules m n) held demand proof s o
  request-map demand proof s o (check.AnswersRequest.accepted g x y is a) =
      check.AnswersRequest.accepted g x y is (record {
        text = a.text;
        holds = a.holds;
        answers = demand-map (RequestAnswers (requested w rules labels old) a.text) (RequestAnswers (requested w rules m n) a.text) (each a.text) held g a.text proof x y a.answers;
      })
  request-map demand proof s o (check.AnswersRequest.refused y f) = check.AnswersRequest.refused y f

-- the same of a rules text
module _ (w : FirstWord) (rules : List ℕ) (labels old : Option (List ℕ)) (held : Option Texts) (demand proof : List ℕ) where
  long-rules-whole : (s : ℕ) (o : List ℕ) → 1048576 < length (front_to 1048576 rules) → AnswersRequest (requested w (front_to 1048576 rules) labels old) held demand proof s o
      → AnswersRequest (requested w rules labels old) held demand proof s o
  long-rules-whole s o lt (check.AnswersRequest.accepted g x y is a) = absurd (long-rules (front_to 1048576 rules) g lt is)
  long-rules-whole s o lt (check.AnswersRequest.refused y f) = check.AnswersRequest.refused y (fault-whole rules y f)

  rules-whole : (s : ℕ) (o : List ℕ) → AnswersRequest (requested w (front_to 1048576 rules) labels old) held demand proof s o → AnswersRequest (requested w rules labels old) held demand proof s o
  rules-whole s o a = elim (front-cases 1048576 rules) [
    | inl over ↦ long-rules-whole s o over.1 a
    | inr same ↦ subst (λ (t : List ℕ). AnswersRequest (requested w t labels old) held demand proof s o) same a
  ]

-- the same of a labels text
labels-whole : (w : FirstWord) (rules labels : List ℕ) (old : Option (List ℕ)) (held : Option Texts) (demand proof : List ℕ) (s : ℕ) (o : List ℕ) → AnswersRequest (requested w rules (Some (front_to 65536 labels)) old) held demand proof s o
    → AnswersRequest (requested w rules (Some labels) old) held demand proof s o
labels-whole w rules labels old held demand proof s o a = elim (front-cases 65536 labels) [
  | inl over ↦ request-map w rules (Some (front_to 65536 labels)) old (Some labels) old
      (λ d i text t x b. long-labels-whole (kind_by (requested w rules (Some (front_to 65536 labels)) old) d text) (kind_by (requested w rules (Some labels) old) d text) labels old i text t x over.1 b) held demand proof s o a
  | inr same ↦ subst (λ (t : List ℕ). AnswersRequest (requested w rules (Some t) old) held demand proof s o) same a
]

-- the same of an old text
old-whole : (w : FirstWord) (rules labels old : List ℕ) (held : Option Texts) (demand proof : List ℕ) (s : ℕ) (o : List ℕ) → AnswersRequest (requested w rules (Some labels) (Some (front_to 1073741824 old))) held demand proof s o
    → AnswersRequest (requested w rules (Some labels) (Some old)) held demand proof s o
old-whole w rules labels old held demand proof s o a = elim (front-cases 1073741824 old) [
  | inl over ↦ request-map w rules (Some labels) (Some (front_to 1073741824 old)) (Some labels) (Some old)
      (λ d i text t x b. long-old-whole (kind_by (requested w rules (Some labels) (Some (front_to 1073741824 old))) d text) (kind_by (requested w rules (Some labels) (Some old)) d text) labels old i text t x over.1 b) held demand proof s o a
  | inr same ↦ subst (λ (t : List ℕ). AnswersRequest (requested w rules (Some labels) (Some t)) held demand proof s o) same a
]

module _ (r : Request) (before after : Told) (status : ℕ) (demand proof : List ℕ) where
  -- a demand text that was fetched
  pub demand-fetched : (g : Grammar) (front : List ℕ) (middle : Told) → IsFetchTo 1048576 demand before middle front
      → IsReader (DemandAnswers (RequestAnswers r front) middle.held g front proof) (proof ∷ []) middle after status
      → IsReader (AnswersDemand r before.held g demand proof) (demand ∷ proof ∷ []) before after status
  demand-fetched g front middle f reader =
      fetched-first (λ t held. DemandAnswers (RequestAnswers r t) held g t proof) (λ held. AnswersDemand r held g demand proof) 1048576 demand front (proof ∷ []) before middle after status f
      (λ s o a. record { text = f.text; holds = f.fetch.holds; answers = demand-whole r before.held g f.text proof s o a }) reader

  -- a rules text that was read
  pub request-accepted : (g : Grammar) → IsReading r.rules (Ok g) → IsSound g → IsReader (AnswersDemand r before.held g demand proof) (demand ∷ proof ∷ []) before after status
      → IsReader (AnswersRequest r before.held demand proof) (demand ∷ proof ∷ []) before after status
  request-accepted g reading sound reader =
      widen (AnswersDemand r before.held g demand proof) (AnswersRequest r before.held demand proof) (λ s o a. check.AnswersRequest.accepted g s o (record { reading = reading; sound = sound }) a) (demand ∷ proof ∷ []) (demand ∷ proof ∷ []) before after status
      (λ h. h) reader

  refused-answer : (fault : RulesFault) (x : Result Answer Memory) → IfOk x (λ a. (fault ≢ rules_faults.Memory) × (a.status ≡ 3) × (a.output ≡ fault_line fault)) → (fault ≢ rules_faults.Memory → IsReading r.rules (Err fault)) → (s : ℕ)
      (o : List ℕ) → IsAnswer x s o → AnswersRequest r before.held demand proof s o
  refused-answer fault (Err e) h reading s o a = absurd a
  refused-answer fault (Ok y) h reading s o a =
      let three : s ≡ 3 = a.0 ∙ h.1 in
      rw three (check.AnswersRequest.refused o (record { fault = fault; reading = reading h.0; line = a.1 ∙ h.2 }))

  -- a rules text that was refused
  pub request-refused : (fault : RulesFault) (x : Result Answer Memory) → IfOk x (λ a. (fault ≢ rules_faults.Memory) × (a.status ≡ 3) × (a.output ≡ fault_line fault)) → (fault ≢ rules_faults.Memory → IsReading r.rules (Err fault))
      → IsReader (IsAnswer x) [] before after status → IsReader (AnswersRequest r before.held demand proof) (demand ∷ proof ∷ []) before after status
  request-refused fault x h reading reader =
      widen (IsAnswer x) (AnswersRequest r before.held demand proof) (refused-answer fault x h reading) (demand ∷ proof ∷ []) [] before after status (no_names before.held (demand ∷ proof ∷ [])) reader

module _ (w : FirstWord) (before after : Told) (status : ℕ) (demand proof : List ℕ) where
  -- a rules text that was fetched
  pub rules-fetched : (name front : List ℕ) (middle : Told) → IsFetchTo 1048576 name before middle front
      → IsReader (AnswersRequest (requested w front None None) middle.held demand proof) (demand ∷ proof ∷ []) middle after status
      → IsReader (AnswersShown w before.held name demand proof) (name ∷ demand ∷ proof ∷ []) before after status
  rules-fetched name front middle f reader =
      fetched-first (λ t held. AnswersRequest (requested w t None None) held demand proof) (λ held. AnswersShown w held name demand proof) 1048576 name front (demand ∷ proof ∷ []) before middle after status f
      (λ s o a. record { text = f.text; holds = f.fetch.holds; answers = rules-whole w f.text None None before.held demand proof s o a }) reader

  -- a labels text that was fetched
  pub labels-fetched : (rules name front : List ℕ) (middle : Told) → IsFetchTo 65536 name before middle front
      → IsReader (AnswersRequest (requested w rules (Some front) None) middle.held demand proof) (demand ∷ proof ∷ []) middle after status
      → IsReader (AnswersLabelsText w before.held rules demand proof name) (name ∷ demand ∷ proof ∷ []) before after status
  labels-fetched rules name front middle f reader =
      fetched-first (λ t held. AnswersRequest (requested w rules (Some t) None) held demand proof) (λ held. AnswersLabelsText w held rules demand proof name) 65536 name front (demand ∷ proof ∷ []) before middle after status f
      (λ s o a. record { text = f.text; holds = f.fetch.holds; answers = labels-whole w rules f.text None before.held demand proof s o a }) reader

  -- a rules text that was fetched before
  pub rules-labelled : (name labels front : List ℕ) (middle : Told) → IsFetchTo 1048576 name before middle front
      → IsReader (AnswersLabelsText w middle.held front demand proof labels) (labels ∷ demand ∷ proof ∷ []) middle after status
      → IsReader (AnswersLabelled w before.held name demand proof labels) (name ∷ labels ∷ demand ∷ proof ∷ []) before after status
  rules-labelled name labels front middle f reader =
      fetched-first (λ t held. AnswersLabelsText w held t demand proof labels) (λ held. AnswersLabelled w held name demand proof labels) 1048576 name front (labels ∷ demand ∷ proof ∷ []) before middle after status f
      (λ s o a. record {
        text = f.text;
        holds = f.fetch.holds;
        answers = record { text = a.text; holds = a.holds; answers = rules-whole w f.text (Some a.text) None before.held demand proof s o a.answers };
      }) reader

-- an old text, and rules of which the first bytes were fetched
old-rules-whole : (held : Option Texts) (rules labels demand proof old : List ℕ) (s : ℕ) (o : List ℕ) → AnswersOldText held (front_to 1048576 rules) labels demand proof old s o → AnswersOldText held rules labels demand proof old s o
old-rules-whole held rules labels demand proof old s o a = record { text = a.text; holds = a.holds; answers = rules-whole Page rules (Some labels) (Some a.text) held demand proof s o a.answers }

-- an old text, and labels of which the first bytes were fetched
old-labels-whole : (held : Option Texts) (rules labels demand proof old : List ℕ) (s : ℕ) (o : List ℕ) → AnswersOldText held rules (front_to 65536 labels) demand proof old s o → AnswersOldText held rules labels demand proof old s o
old-labels-whole held rules labels demand proof old s o a = record { text = a.text; holds = a.holds; answers = labels-whole Page rules labels (Some a.text) held demand proof s o a.answers }

module _ (before after : Told) (status : ℕ) (demand proof : List ℕ) where
  -- an old text that was fetched
  pub old-fetched : (rules labels name front : List ℕ) (middle : Told) → IsFetchTo 1073741824 name before middle front
      → IsReader (AnswersRequest (requested Page rules (Some labels) (Some front)) middle.held demand proof) (demand ∷ proof ∷ []) middle after status
      → IsReader (AnswersOldText before.held rules labels demand proof name) (name ∷ demand ∷ proof ∷ []) before after status
  old-fetched rules labels name front middle f reader =
      fetched-first (λ t held. AnswersRequest (requested Page rules (Some labels) (Some t)) held demand proof) (λ held. AnswersOldText held rules labels demand proof name) 1073741824 name front (demand ∷ proof ∷ []) before middle after status f
      (λ s o a. record { text = f.text; holds = f.fetch.holds; answers = old-whole Page rules labels f.text before.held demand proof s o a }) reader

  -- a labels text that was fetched before
  pub labels-beside : (rules name old front : List ℕ) (middle : Told) → IsFetchTo 65536 name before middle front
      → IsReader (AnswersOldText middle.held rules front demand proof old) (old ∷ demand ∷ proof ∷ []) middle after status
      → IsReader (AnswersBesideRules before.held rules demand proof name old) (name ∷ old ∷ demand ∷ proof ∷ []) before after status
  labels-beside rules name old front middle f reader =
      fetched-first (λ t held. AnswersOldText held rules t demand proof old) (λ held. AnswersBesideRules held rules demand proof name old) 65536 name front (old ∷ demand ∷ proof ∷ []) before middle after status f
      (λ s o a. record { text = f.text; holds = f.fetch.holds; answers = old-labels-whole before.held rules f.text demand proof old s o a }) reader

  -- a rules text that was fetched before
  pub rules-beside : (name labels old front : List ℕ) (middle : Told) → IsFetchTo 1048576 name before middle front
      → IsReader (AnswersBesideRules middle.held front demand proof labels old) (labels ∷ old ∷ demand ∷ proof ∷ []) middle after status
      → IsReader (AnswersBeside before.held name demand proof labels old) (name ∷ labels ∷ old ∷ demand ∷ proof ∷ []) before after status
  rules-beside name labels old front middle f reader =
      fetched-first (λ t held. AnswersBesideRules held t demand proof labels old) (λ held. AnswersBeside held name demand proof labels old) 1048576 name front (labels ∷ old ∷ demand ∷ proof ∷ []) before middle after status f
      (λ s o a. record {
        text = f.text;
        holds = f.fetch.holds;
        answers = record { text = a.text; holds = a.holds; answers = old-rules-whole before.held f.text a.text demand proof old s o a.answers };
      }) reader
