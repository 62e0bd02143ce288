-- A roster text and its first bytes, up to one above a limit, are read alike.
use Rattle.std.proofs.Common.{◌≡◌, ◌≤◌, ◌∙◌, ℕ, List, Result, Err, arith, sym}
use Rattle.model_rosters.specs.declared.instance.Instance.{Instance}
use Rattle.model_rosters.specs.declared.instance.Shift.{Shift}
use Rattle.text_lines.specs.Lines.{text_items}
use Rattle.check_values.specs.declared.stated_rosters.fault.RosterFault.{RosterFault}
use Rattle.check_values.specs.declared.stated_rosters.fault.RosterFault.TheVariants.{TooLong}
use Rattle.check_values.specs.stated_rosters.RosterOf.{roster_of, shifts_of}
use Rattle.command_shelf.specs.Shelf.{front_to}
use Rattle.command_answers.specs.Fronts.{alike}
use Rattle.command_texts.specs.what_if.Value.{SaysRosterFault, Valuation}
use Rattle.command_texts.specs.what_if.Value as value
use Rattle.command_texts.specs.what_if.Rest.{Resting}
use Rattle.command_texts.specs.what_if.Rest as rest

-- the limit of a front may be above that of a roster text
pub roster-alike-to : (most : ℕ) → 1048576 ≤ most → (i : Instance) (text : List ℕ)
    → roster_of i (front_to most text) ≡ roster_of i text
unfolding roster_of
roster-alike-to most le i text = alike most 1048576 refusal reading text le
  where
    refusal : Result (List Shift) RosterFault
    refusal = Err TooLong

    reading : List ℕ → Result (List Shift) RosterFault
    reading t = shifts_of i (text_items t)

pub roster-alike : (i : Instance) (text : List ℕ) → roster_of i (front_to 1048576 text) ≡ roster_of i text
roster-alike i text = roster-alike-to 1048576 (omega arith) i text

pub roster-fault-whole : (most : ℕ) → 1048576 ≤ most → (i : Instance) (text output : List ℕ)
    → SaysRosterFault i (front_to most text) output → SaysRosterFault i text output
roster-fault-whole most le i text output h =
    record { fault = h.fault; reading = sym (roster-alike-to most le i text) ∙ h.reading; line = h.line }

module _ (i : Instance) (text : List ℕ) where
  pub value-fronts : (s : ℕ) (output : List ℕ) → Valuation i (front_to 1048576 text) s output
      → Valuation i text s output
  value-fronts s output (value.accepted shifts t x e a) =
      value.accepted shifts t x (sym (roster-alike i text) ∙ e) a
  value-fronts s output (value.refused x h) =
      value.refused x (roster-fault-whole 1048576 (omega arith) i text x h)

  pub resting-fronts : (s : ℕ) (output : List ℕ) → Resting i (front_to 1048576 text) s output
      → Resting i text s output
  resting-fronts s output (rest.accepted kept t x e a) =
      rest.accepted kept t x (sym (roster-alike i text) ∙ e) a
  resting-fronts s output (rest.refused x h) =
      rest.refused x (roster-fault-whole 1048576 (omega arith) i text x h)
