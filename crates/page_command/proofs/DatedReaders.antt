-- Readers that fetch the texts of a calendar, one after another.
use Rattle.std.proofs.Common.{ℕ, List, [], ◌∷◌, Option, subst, inl, inr}
use Rattle.command_shelf.specs.Shelf.{Texts, Told, front_to}
use Rattle.command_answers.specs.Asked.{TextsAnswers}
use Rattle.command_answers.specs.Fetch.{IsFetchTo}
use Rattle.command_answers.specs.Fronts.{front-cases}
use Rattle.command_answers.proofs.AskedFronts.{texts-map, long-texts-demand, long-texts-rules}
use Rattle.command_answers.specs.Reader.{IsReader}
use Rattle.command_answers.proofs.Readers.{after_fetch, widen}
use Rattle.page_views.specs.declared.kind.CalendarDay.{CalendarDay}
use Rattle.page_command.specs.Dated.{AnswersDated, AnswersDatedLabels, AnswersDatedTexts, CalendarAnswers}
use Rattle.page_command.specs.DatedFronts.{calendar-labels-whole}

-- what is answered to the first bytes of a demand text, up to one above the limit, is answered to the text
demand-dated-whole : (day : CalendarDay) (held : Option Texts) (rules labels text proof : List ℕ) (s : ℕ) (o : List ℕ)
    → TextsAnswers (CalendarAnswers day labels) held rules (front_to 1048576 text) proof s o → TextsAnswers (CalendarAnswers day labels) held rules text proof s o
demand-dated-whole day held rules labels text proof s o a = elim (front-cases 1048576 text) [
  | inl over ↦ long-texts-demand (CalendarAnswers day labels) (CalendarAnswers day labels) held rules text proof s o over.1 a
  | inr same ↦ subst (λ (t : List ℕ). TextsAnswers (CalendarAnswers day labels) held rules t proof s o) same a
]

-- the same of a rules text
rules-dated-whole : (day : CalendarDay) (held : Option Texts) (text labels demand proof : List ℕ) (s : ℕ) (o : List ℕ)
    → TextsAnswers (CalendarAnswers day labels) held (front_to 1048576 text) demand proof s o → TextsAnswers (CalendarAnswers day labels) held text demand proof s o
rules-dated-whole day held text labels demand proof s o a = elim (front-cases 1048576 text) [
  | inl over ↦ long-texts-rules (CalendarAnswers day labels) (CalendarAnswers day labels) held text demand proof s o over.1 a
  | inr same ↦ subst (λ (t : List ℕ). TextsAnswers (CalendarAnswers day labels) held t demand proof s o) same a
]

module _ (day : CalendarDay) (before after : Told) (status : ℕ) (demand proof : List ℕ) where
  -- a demand text that was fetched
  pub demand-dated : (rules labels front : List ℕ) (middle : Told) → IsFetchTo 1048576 demand before middle front
      → IsReader (TextsAnswers (CalendarAnswers day labels) middle.held rules front proof) (proof ∷ []) middle after status
      → IsReader (AnswersDatedTexts day before.held rules labels demand proof) (demand ∷ proof ∷ []) before after status
  demand-dated rules labels front middle f reader =
      after_fetch (AnswersDatedTexts day before.held rules labels demand proof) demand (proof ∷ []) before middle after status f.text f.fetch
      (widen (TextsAnswers (CalendarAnswers day labels) middle.held rules front proof) (AnswersDatedTexts day before.held rules labels demand proof) each (proof ∷ []) (proof ∷ []) middle after status (λ h. h) reader)
    where
      each : (s : ℕ) (o : List ℕ) → TextsAnswers (CalendarAnswers day labels) middle.held rules front proof s o → AnswersDatedTexts day before.held rules labels demand proof s o
      each s o a = record {
        text = f.text;
        holds = f.fetch.holds;
        answers = demand-dated-whole day before.held rules labels f.text proof s o
            (subst (λ (t : List ℕ). TextsAnswers (CalendarAnswers day labels) before.held rules t proof s o) f.front_is
            (subst (λ (h : Option Texts). TextsAnswers (CalendarAnswers day labels) h rules front proof s o) f.fetch.held a));
      }

  -- a labels text that was fetched
  pub labels-dated : (rules name front : List ℕ) (middle : Told) → IsFetchTo 65536 name before middle front
      → IsReader (AnswersDatedTexts day middle.held rules front demand proof) (demand ∷ proof ∷ []) middle after status
      → IsReader (AnswersDatedLabels day before.held rules demand proof name) (name ∷ demand ∷ proof ∷ []) before after status
  labels-dated rules name front middle f reader =
      after_fetch (AnswersDatedLabels day before.held rules demand proof name) name (demand ∷ proof ∷ []) before middle after status f.text f.fetch
      (widen (AnswersDatedTexts day middle.held rules front demand proof) (AnswersDatedLabels day before.held rules demand proof name)
      (λ s o a. record {
        text = f.text;
        holds = f.fetch.holds;
        answers = whole s o (subst (λ (t : List ℕ). AnswersDatedTexts day before.held rules t demand proof s o) f.front_is (subst (λ (h : Option Texts). AnswersDatedTexts day h rules front demand proof s o) f.fetch.held a));
      }) (demand ∷ proof ∷ []) (demand ∷ proof ∷ []) middle after status (λ h. h) reader)
    where
      whole : (s : ℕ) (o : List ℕ) → AnswersDatedTexts day before.held rules (front_to 65536 f.text) demand proof s o → AnswersDatedTexts day before.held rules f.text demand proof s o
      whole s o a = record {
        text = a.text;
        holds = a.holds;
        answers = texts-map (CalendarAnswers day (front_to 65536 f.text)) (CalendarAnswers day f.text) (calendar-labels-whole day f.text) before.held rules a.text proof s o a.answers;
      }

  -- a rules text that was fetched
  pub rules-dated : (name labels front : List ℕ) (middle : Told) → IsFetchTo 1048576 name before middle front
      → IsReader (AnswersDatedLabels day middle.held front demand proof labels) (labels ∷ demand ∷ proof ∷ []) middle after status
      → IsReader (AnswersDated day before.held name demand proof labels) (name ∷ labels ∷ demand ∷ proof ∷ []) before after status
  rules-dated name labels front middle f reader =
      after_fetch (AnswersDated day before.held name demand proof labels) name (labels ∷ demand ∷ proof ∷ []) before middle after status f.text f.fetch
      (widen (AnswersDatedLabels day middle.held front demand proof labels) (AnswersDated day before.held name demand proof labels)
      (λ s o a. record {
        text = f.text;
        holds = f.fetch.holds;
        answers = whole s o (subst (λ (t : List ℕ). AnswersDatedLabels day before.held t demand proof labels s o) f.front_is (subst (λ (h : Option Texts). AnswersDatedLabels day h front demand proof labels s o) f.fetch.held a));
      }) (labels ∷ demand ∷ proof ∷ []) (labels ∷ demand ∷ proof ∷ []) middle after status (λ h. h) reader)
    where
      whole : (s : ℕ) (o : List ℕ) → AnswersDatedLabels day before.held (front_to 1048576 f.text) demand proof labels s o → AnswersDatedLabels day before.held f.text demand proof labels s o
      whole s o a = record {
        text = a.text;
        holds = a.holds;
        answers = record {
          text = a.answers.text;
          holds = a.answers.holds;
          answers = rules-dated-whole day before.held f.text a.text a.answers.text proof s o a.answers.answers;
        };
      }
