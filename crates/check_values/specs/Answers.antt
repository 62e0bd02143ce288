-- What is answered to a stated roster.
use Rattle.std.specs.Prelude.{ℕ, ◌≡◌, List, ◌++◌}
use Rattle.text_lines.specs.Written.{written}
use Rattle.model_rosters.specs.declared.instance.Instance.{Instance}
use Rattle.model_rosters.specs.declared.instance.Shift.{Shift}
use Rattle.model_rosters.specs.Rosters.{Costs}
use Rattle.check_certificates.specs.RosterCauses.{duties}
use Rattle.check_values.specs.declared.cause.Cause.{Cause}
use Rattle.check_values.specs.declared.valued.Valued.{Valued}
use Rattle.check_values.specs.CauseText.{causes_text}
use Rattle.check_values.specs.Values.{IsValued, AreCauses}
use Rattle.check_values.specs.ValueText.{covered_lines, value_text}

-- status 0: the roster is allowed, and what it costs is said
pub record SaysValue (i : Instance) (shifts : List Shift) (output : List ℕ) : Type 0 where
  pub value : Valued
  pub is : IsValued i shifts value
  pub costs : Costs i (duties shifts) value.cost
  pub text : output ≡ value_text i value

-- status 1: the roster is not allowed, and each cause for that is said, and then how it covers the cells
pub record SaysCauses (i : Instance) (shifts : List Shift) (output : List ℕ) : Type 0 where
  pub causes : List Cause
  pub are : AreCauses i shifts causes
  pub text : output ≡ causes_text i shifts causes ++ written (covered_lines i shifts)

-- the answers to a stated roster
pub data StatedAnswer (i : Instance) (shifts : List Shift) : ℕ → List ℕ → Type 0 where
  allowed : (output : List ℕ) → SaysValue i shifts output → StatedAnswer i shifts 0 output
  refused : (output : List ℕ) → SaysCauses i shifts output → StatedAnswer i shifts 1 output
