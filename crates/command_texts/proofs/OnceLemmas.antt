-- The same texts have the same answer.
use Rattle.std.proofs.Common.{◌≡◌, ℕ, List, Option, None, Some, refl, sym, ap, subst, ◌∙◌, inl, inr, arith}
use Rattle.model_rosters.specs.declared.grammar.Grammar.{Grammar}
use Rattle.model_rosters.specs.declared.instance.Instance.{Instance}
use Rattle.model_rosters.specs.Shifts.{IsPrice}
use Rattle.model_rosters.specs.Trees.{steps}
use Rattle.check_certificates.specs.declared.cert.Cert.{Cert}
use Rattle.check_certificates.specs.declared.why.Why.{Why}
use Rattle.check_certificates.specs.declared.verdict.Verdict.TheVariants.{No}
use Rattle.check_certificates.proofs.certificate_laws.NoCause.{refused as cause-refuses}
use Rattle.check_certificates.proofs.certificate_laws.OneCause.{one-first}
use Rattle.text_answers.specs.TreeText.{tree_text}
use Rattle.command_shelf.specs.Shelf.{Texts}
use Rattle.text_answers.specs.VerdictText.{verdict_text}
use Rattle.command_texts.specs.Check.{Judgement}
use Rattle.command_texts.specs.Check as checks
use Rattle.command_texts.specs.Explain.{Derivation, DerivationFrom}
use Rattle.command_texts.specs.Explain as explains
use Rattle.command_texts.specs.Days.{DayAnswer, AnswersDay}
use Rattle.command_texts.specs.Days as days
use Rattle.command_texts.specs.Start.{AnswersOf, AnswersFrom, grammar_from}
use Rattle.command_answers.proofs.OneReading.{same_text, same_grammar, no_fault, faults_once}
use Rattle.command_texts.specs.SameTexts.{AreSameButTree}
use Rattle.command_answers.proofs.OnceLemmas.{AreSame}

-- a certificate is judged in one way
pub judged-once : (i : Instance) (c : Cert) (s t : ℕ) (a b : List ℕ) → Judgement i c s a → Judgement i c t b → AreSame s t a b
judged-once i c s t a b (checks.yes x h) (checks.yes y k) = (refl, h.lines ∙ sym k.lines)
judged-once i c s t a b (checks.yes x h) (checks.no y k) = absurd (cause-refuses i c h.accepted k.why k.cause.holds)
judged-once i c s t a b (checks.no x h) (checks.yes y k) = absurd (cause-refuses i c k.accepted h.why h.cause.holds)
judged-once i c s t a b (checks.no x h) (checks.no y k) =
    (refl, h.line ∙ ap (λ (w : Why). verdict_text (No w)) (one-first i c h.why k.why h.cause k.cause) ∙ sym k.line)

-- a word has one price
one_price : (g : Grammar) (name : ℕ) (word : List ℕ) (p q : ℕ) → IsPrice g name word p → IsPrice g name word q → p ≡ q
one_price g name word p q h k =
    omega (arith, h.least k.attained.0 k.attained.1, k.least h.attained.0 h.attained.1, h.attained.2, k.attained.2)

derived_once : (g : Grammar) (word : List ℕ) (s t : ℕ) (a b : List ℕ) → Derivation g word s a → Derivation g word t b → (s ≡ t) × AreSameButTree word a b
derived_once g word s t a b (explains.shift x h) (explains.shift y k) =
    let same = one_price g g.start word h.price k.price h.is_price k.is_price in (
      refl,
      inr (record {
        grammar = g;
        price = k.price;
        one = steps 1 h.tree;
        other = steps 1 k.tree;
        first = h.text ∙ ap (λ (p : ℕ). tree_text g word p (steps 1 h.tree)) same;
        second = k.text;
      }),
    )
derived_once g word s t a b (explains.shift x h) (explains.no_shift y k) = absurd (k.no_shift (h.tree, h.derives))
derived_once g word s t a b (explains.no_shift x h) (explains.shift y k) = absurd (h.no_shift (k.tree, k.derives))
derived_once g word s t a b (explains.no_shift x h) (explains.no_shift y k) = (refl, inl (h.line ∙ sym k.line))

derived_of : (word : List ℕ) (o : Option Grammar) (s t : ℕ) (a b : List ℕ) → AnswersOf (λ g x xs. Derivation g word x xs) o s a → AnswersOf (λ g x xs. Derivation g word x xs) o t b
    → (s ≡ t) × AreSameButTree word a b
derived_of word None s t a b h k = (h.two ∙ sym k.two, inl (h.line ∙ sym k.line))
derived_of word (Some g) s t a b h k = derived_once g word s t a b h k

-- where a grammar has one answer, it has one from any name on
module _ (Answers : Grammar → ℕ → List ℕ → Type 0) (once : (g : Grammar) (s t : ℕ) (a b : List ℕ) → Answers g s a → Answers g t b → AreSame s t a b) where
  of_once : (o : Option Grammar) (s t : ℕ) (a b : List ℕ) → AnswersOf Answers o s a → AnswersOf Answers o t b → AreSame s t a b
  of_once None s t a b h k = (h.two ∙ sym k.two, h.line ∙ sym k.line)
  of_once (Some g) s t a b h k = once g s t a b h k

  pub from-once : (start : Option (List ℕ)) (g : Grammar) (s t : ℕ) (a b : List ℕ) → AnswersFrom Answers start g s a → AnswersFrom Answers start g t b → AreSame s t a b
  from-once start g s t a b = of_once (grammar_from g start) s t a b

-- where a grammar has one answer, but for what `R` lets differ, a rules text has
module _ (R : ℕ → ℕ → List ℕ → List ℕ → Type 0) (same : (s : ℕ) (a b : List ℕ) → a ≡ b → R s s a b) (Answers : Grammar → ℕ → List ℕ → Type 0)
    (once : (g : Grammar) (s t : ℕ) (a b : List ℕ) → Answers g s a → Answers g t b → R s t a b) where
  day_alike : (text : List ℕ) (s t : ℕ) (a b : List ℕ) → DayAnswer Answers text s a → DayAnswer Answers text t b → R s t a b
  day_alike text s t a b (days.accepted g x xs e h) (days.accepted f y ys q k) =
      once f s t a b (subst (λ (z : Grammar). Answers z s a) (same_grammar text g f e.reading q.reading) h) k
  day_alike text s t a b (days.accepted g x xs e h) (days.refused ys k) = absurd (no_fault text g k.fault e.reading k.reading)
  day_alike text s t a b (days.refused xs h) (days.accepted f y ys q k) = absurd (no_fault text f h.fault q.reading h.reading)
  day_alike text s t a b (days.refused xs h) (days.refused ys k) = same 3 xs ys (faults_once text xs ys h k)

  pub held-alike : (held : Texts) (rules : List ℕ) (s t : ℕ) (a b : List ℕ) → AnswersDay Answers (Some held) rules s a → AnswersDay Answers (Some held) rules t b → R s t a b
  held-alike held rules s t a b h k =
      day_alike k.0 s t a b (subst (λ (x : List ℕ). DayAnswer Answers x s a) (same_text held rules h.0 k.0 h.1 k.1) h.2) k.2

pub held-once : (Answers : Grammar → ℕ → List ℕ → Type 0) → ((g : Grammar) (s t : ℕ) (a b : List ℕ) → Answers g s a → Answers g t b → AreSame s t a b)
    → (held : Texts) (rules : List ℕ) (s t : ℕ) (a b : List ℕ) → AnswersDay Answers (Some held) rules s a → AnswersDay Answers (Some held) rules t b → AreSame s t a b
held-once Answers once held rules s t a b h k = held-alike AreSame (λ x o p e. (refl, e)) Answers once held rules s t a b h k

-- `explain` may say another tree of the same cost
pub explain-once : (held : Texts) (rules word : List ℕ) (start : Option (List ℕ)) (s t : ℕ) (a b : List ℕ) → AnswersDay (λ g x o. DerivationFrom word start g x o) (Some held) rules s a
    → AnswersDay (λ g x o. DerivationFrom word start g x o) (Some held) rules t b → (s ≡ t) × AreSameButTree word a b
explain-once held rules word start s t a b h k =
    held-alike (λ x y o p. (x ≡ y) × AreSameButTree word o p) (λ x o p e. (refl, inl e)) (λ g x o. DerivationFrom word start g x o)
    (λ g. derived_of word (grammar_from g start)) held rules s t a b h k
