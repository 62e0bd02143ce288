-- The value of a rules text, or its first fault.
use Rattle.std.specs.Prelude.{ℕ, ◌≡◌, ◌+◌, List, [], ◌∷◌, length, nat_lt, slice_get, Option, Some, None, Result, Ok, Err, if◌then◌else◌}
use Rattle.model_rosters.specs.declared.grammar.Grammar.{Grammar}
use Rattle.model_rosters.specs.declared.grammar.Rule.{Rule}
use Rattle.model_rosters.specs.Sound.{has_rule}
use Rattle.model_rosters.specs.UnitRules.{IsOnCycle, IsFirstOnCycle}
use Rattle.text_lines.specs.Lines.{text_items}
use Rattle.text_rules.specs.declared.fault.RulesFault.{RulesFault}
use Rattle.text_rules.specs.declared.fault.RulesFault.TheVariants.{NoPeriods, NoStart, NoRule, UnitCycle, TooLong}
use Rattle.text_rules.specs.declared.draft.Draft.{Draft}
use Rattle.text_rules.specs.declared.draft.Parsed.{Parsed}
use Rattle.text_rules.specs.declared.draft.Start.{Start}
use Rattle.text_rules.specs.declared.place.Place.{Place}
use Rattle.text_rules.specs.Steps.{◌>>=◌, each}
use Rattle.text_rules.specs.Names.{has_name, place_of}
use Rattle.text_rules.specs.Lines.{item_at}

-- the first place from name x on whose name has no rule
abbrev pub unruled : List Rule → ℕ → List Place → Option Place
unruled rules x [] = None
unruled rules x (p ∷ ps) = if has_rule rules x then unruled rules (x + 1) ps else Some p

-- the fault of a name with no rule
abbrev pub no_rule : Place → RulesFault
no_rule p = NoRule p.line p.word

-- every name has a rule, or the first that has none
abbrev pub all_ruled : Option Place → Result Unit RulesFault
all_ruled None = Ok tt
all_ruled (Some p) = Err (no_rule p)

abbrev pub some_periods : Option ℕ → Result ℕ RulesFault
some_periods (Some n) = Ok n
some_periods None = Err NoPeriods

abbrev pub some_start : Option Start → Result Start RulesFault
some_start (Some s) = Ok s
some_start None = Err NoStart

-- the grammar of a draft, with these periods and this start
abbrev pub parsed : Draft → ℕ → ℕ → Parsed
parsed d periods start = record {
  grammar = record {
    periods = periods;
    codes = d.codes;
    names = d.rules.names.texts;
    rules = d.rules.rules;
    start = start;
  };
  places = d.rules.names.places;
}

-- the grammar of a draft, with the periods and the start that were found
abbrev pub with_start : Draft → Result (ℕ × ℕ) RulesFault → Result Parsed RulesFault
with_start d r = r >>= λ s. Ok (parsed d s.0 s.1)

-- the grammar that all lines make, with the places of its names
unfoldable pub finish : Draft → Result Parsed RulesFault
finish d = do
  periods ← some_periods d.periods
  start ← some_start d.start
  ruled ← all_ruled (unruled d.rules.rules 0 d.rules.names.places)
  if has_name d.rules.names.texts start.name then Ok
      (parsed d periods (place_of d.rules.names.texts start.name)) else Err (NoRule start.line 2)

-- nothing was said
abbrev pub no_draft : Draft
no_draft = record {
  periods = None;
  codes = [];
  start = None;
  rules = record { names = record { texts = []; places = [] }; rules = [] };
}

-- what all lines say, one after another
abbrev pub draft_of : List ℕ → Result Draft RulesFault
draft_of text = each item_at no_draft (text_items text)

-- what a text says, before its one-symbol rules are followed
unfoldable pub parsed_of : List ℕ → Result Parsed RulesFault
parsed_of text = if nat_lt 1048576 (length text) then Err TooLong else (draft_of text >>= finish)

-- one-symbol rules lead from no name back to it
abbrev pub HasNoCycle : Grammar → Type 0
HasNoCycle g = (x : ℕ) → IsOnCycle g x → ⊥

-- the fault of the first name on a cycle, at the place where it appears first
pub record IsCycleFault (p : Parsed) (e : RulesFault) : Type 0 where
  pub name : ℕ
  pub first : IsFirstOnCycle p.grammar name
  pub place : Place
  pub there : slice_get p.places name ≡ Some place
  pub fault : e ≡ UnitCycle place.line place.word

-- a grammar with no cycle, or the fault of one with a cycle
abbrev pub IsValue : Parsed → Result Grammar RulesFault → Type 0
IsValue p (Ok g) = (g ≡ p.grammar) × HasNoCycle g
IsValue p (Err e) = IsCycleFault p e

-- the value of what was parsed, or the fault that came before
abbrev pub IsOutcome : Result Parsed RulesFault → Result Grammar RulesFault → Type 0
IsOutcome (Ok p) r = IsValue p r
IsOutcome (Err e) r = r ≡ Err e

-- the grammar that a rules text says, or the first fault of a text that is refused
abbrev pub IsReading : List ℕ → Result Grammar RulesFault → Type 0
IsReading text r = IsOutcome (parsed_of text) r
