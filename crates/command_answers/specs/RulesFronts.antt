-- A rules text and its first bytes, up to one above the limit, are read alike.
use Rattle.std.proofs.Common.{◌≡◌, ◌<◌, ℕ, List, Result, Ok, Err, length, arith, sym, subst}
use Rattle.model_rosters.specs.declared.grammar.Grammar.{Grammar}
use Rattle.text_rules.specs.RulesOf.{IsReading, IsOutcome, parsed_of, draft_of, finish}
use Rattle.text_rules.specs.Steps.{◌>>=◌}
use Rattle.text_rules.specs.declared.draft.Parsed.{Parsed}
use Rattle.text_rules.specs.declared.fault.RulesFault.{RulesFault}
use Rattle.text_rules.specs.declared.fault.RulesFault.TheVariants.{TooLong}
use Rattle.command_shelf.specs.Shelf.{front_to}
use Rattle.command_answers.specs.Fronts.{alike, over_limit}
use Rattle.command_answers.specs.Readings.{IsGrammarOf, SaysFault}

parsed-alike : (text : List ℕ) → parsed_of (front_to 1048576 text) ≡ parsed_of text
unfolding parsed_of
parsed-alike text = alike 1048576 1048576 refusal reading text (omega arith)
  where
    refusal : Result Parsed RulesFault
    refusal = Err TooLong

    reading : List ℕ → Result Parsed RulesFault
    reading t = draft_of t >>= finish

long-parsed : (text : List ℕ) → 1048576 < length text → parsed_of text ≡ Err TooLong
unfolding parsed_of
long-parsed text lt = over_limit 1048576 refusal reading text lt
  where
    refusal : Result Parsed RulesFault
    refusal = Err TooLong

    reading : List ℕ → Result Parsed RulesFault
    reading t = draft_of t >>= finish

-- a text over the limit has no grammar
pub long-rules : (text : List ℕ) (g : Grammar) → 1048576 < length text → IsGrammarOf text g → ⊥
long-rules text g lt h =
    let e : Ok g ≡ Err TooLong =
    subst (λ (p : Result Parsed RulesFault). IsOutcome p (Ok g)) (long-parsed text lt) h.reading in
    cc

pub reading-whole : (text : List ℕ) (r : Result Grammar RulesFault) → IsReading (front_to 1048576 text) r
    → IsReading text r
reading-whole text r h = subst (λ (p : Result Parsed RulesFault). IsOutcome p r) (parsed-alike text) h

pub reading-front : (text : List ℕ) (r : Result Grammar RulesFault) → IsReading text r
    → IsReading (front_to 1048576 text) r
reading-front text r h = subst (λ (p : Result Parsed RulesFault). IsOutcome p r) (sym (parsed-alike text)) h

pub grammar-whole : (text : List ℕ) (g : Grammar) → IsGrammarOf (front_to 1048576 text) g → IsGrammarOf text g
grammar-whole text g h = record { reading = reading-whole text (Ok g) h.reading; sound = h.sound }

pub grammar-front : (text : List ℕ) (g : Grammar) → IsGrammarOf text g → IsGrammarOf (front_to 1048576 text) g
grammar-front text g h = record { reading = reading-front text (Ok g) h.reading; sound = h.sound }

pub fault-whole : (text output : List ℕ) → SaysFault (front_to 1048576 text) output → SaysFault text output
fault-whole text output h =
    record { fault = h.fault; reading = reading-whole text (Err h.fault) h.reading; line = h.line }
