-- The text of a remaining day is read as that day by whatever rules' grammar the day was made.
use Rattle.std.proofs.Common.{◌≡◌, ℕ, List, length, Result, Ok, Err, IfOk, refl, sym, ap, subst, ◌∙◌}
use Rattle.model_rosters.specs.declared.grammar.Grammar.{Grammar}
use Rattle.model_rosters.specs.declared.instance.Instance.{Instance}
use Rattle.model_rosters.specs.declared.instance.Shift.{Shift}
use Rattle.model_rosters.specs.declared.memory.Memory.{Memory}
use Rattle.model_rosters.specs.Demands.{Demand}
use Rattle.model_rosters.specs.Sound.{IsSound, IsPlain}
use Rattle.text_demand.specs.InstanceOf.{day_grammar, instance_of}
use Rattle.text_demand.specs.Written.{AreDemandsOf}
use Rattle.check_values.specs.declared.remaining_day.answer.Rest.{Rest}
use Rattle.check_values.specs.remaining_day.Answers.{IsRest, IsDaySaid}
use Rattle.check_values.specs.remaining_day.RestText.{rest_text, AreOf64Bits}
use Rattle.check_values.proofs.remaining_day.OneAnswer.{demands-of}
use Rattle.check_values.proofs.remaining_day.RestAgain.{rest-again}

module _ (i : Instance) (kept : List Shift) (rest : Rest) (is : IsRest i kept rest) where
  abbrev IsTextOf : List ℕ → Type 0
  IsTextOf output = (ds : List Demand) → AreDemandsOf rest.day ds → output ≡ rest_text (length kept) rest ds

  -- the remaining day is made by the same rules' grammar as the day
  made : (g : Grammar) → i.grammar ≡ day_grammar g i.groups → rest.day.grammar ≡ day_grammar g rest.day.groups
  made g by = subst (λ (r : Instance). r.grammar ≡ day_grammar g r.groups) (sym (is.day g by)) refl

  read : (output : List ℕ) → AreOf64Bits (length kept) rest.paid rest.penalty → IsTextOf output → (g : Grammar) → IsSound g → IsPlain g → i.grammar ≡ day_grammar g i.groups → instance_of g output ≡ Ok rest.day
  read output wide text g sound plain by =
      let ds = demands-of rest.day is.sound in
      ap (instance_of g) (text ds.0 ds.1)
      ∙ rest-again g rest ds.0 (length kept) sound plain (made g by) is.sound ds.1 wide.few wide.cheap wide.small

pub day-said : (i : Instance) (kept : List Shift) (rest : Rest) (r : Result (List ℕ) Memory) → IsRest i kept rest
    → IfOk r (λ output. (ds : List Demand) → AreDemandsOf rest.day ds → output ≡ rest_text (length kept) rest ds) → IfOk r (λ _. AreOf64Bits (length kept) rest.paid rest.penalty)
    → IfOk r (IsDaySaid i kept rest)
day-said i kept rest (Err e) is text wide = tt
day-said i kept rest (Ok output) is text wide = record { text = text; again = read i kept rest is output wide text }
