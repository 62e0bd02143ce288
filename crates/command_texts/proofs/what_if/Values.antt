-- The answers to a roster text, from what their parts answer, and that there is one.
use Rattle.std.proofs.Common.{◌≡◌, ◌≢◌, ℕ, List, Result, Ok, Err, IfOk, refl, sym, ap, subst, ◌∙◌}
use Rattle.model_rosters.specs.declared.instance.Instance.{Instance}
use Rattle.model_rosters.specs.declared.instance.Shift.{Shift}
use Rattle.model_rosters.specs.declared.memory.Memory.{Memory}
use Rattle.check_values.specs.Answers.{StatedAnswer}
use Rattle.check_values.proofs.OneAnswer.{stated-once}
use Rattle.check_values.specs.declared.stated_rosters.fault.RosterFault.{RosterFault}
use Rattle.check_values.specs.declared.stated_rosters.fault.RosterFault.TheVariants as faults
use Rattle.check_values.specs.stated_rosters.FaultLine.{fault_line}
use Rattle.check_values.specs.stated_rosters.RosterOf.{roster_of}
use Rattle.command_answers.specs.declared.answer.Answer.{Answer}
use Rattle.command_answers.proofs.OneReading.{same_ok, same_err, not_both}
use Rattle.command_answers.proofs.OnceLemmas.{AreSame}
use Rattle.command_texts.specs.what_if.Value.{Valuation}
use Rattle.command_texts.specs.what_if.Value as value

pub valued : (i : Instance) (text : List ℕ) (shifts : List Shift) (r : Result Answer Memory) → roster_of i text ≡ Ok shifts
    → IfOk r (λ a. StatedAnswer i shifts a.status a.output) → IfOk r (λ a. Valuation i text a.status a.output)
valued i text shifts (Err e) reading h = tt
valued i text shifts (Ok a) reading h = value.accepted shifts a.status a.output reading h

pub roster-refused : (i : Instance) (text : List ℕ) (fault : RosterFault) (r : Result Answer Memory) → (fault ≢ faults.Memory → roster_of i text ≡ Err fault)
    → IfOk r (λ a. (fault ≢ faults.Memory) × (a.status ≡ 5) × (a.output ≡ fault_line fault)) → IfOk r (λ a. Valuation i text a.status a.output)
roster-refused i text fault (Err e) reading h = tt
roster-refused i text fault (Ok a) reading h = rw h.1 (value.refused a.output (record { fault = fault; reading = reading h.0; line = h.2 }))

-- a roster text has one answer
pub value-once : (i : Instance) (text : List ℕ) (s t : ℕ) (a b : List ℕ) → Valuation i text s a → Valuation i text t b → AreSame s t a b
value-once i text s t a b (value.accepted c x xs e h) (value.accepted d y ys f k) =
    stated-once i d s t a b (subst (λ (z : List Shift). StatedAnswer i z s a) (same_ok (roster_of i text) c d e f) h) k
value-once i text s t a b (value.accepted c x xs e h) (value.refused ys k) = absurd (not_both (roster_of i text) c k.fault e k.reading)
value-once i text s t a b (value.refused xs h) (value.accepted d y ys f k) = absurd (not_both (roster_of i text) d h.fault f h.reading)
value-once i text s t a b (value.refused xs h) (value.refused ys k) =
    (refl, h.line ∙ ap (λ (x : RosterFault). fault_line x) (same_err (roster_of i text) h.fault k.fault h.reading k.reading) ∙ sym k.line)
