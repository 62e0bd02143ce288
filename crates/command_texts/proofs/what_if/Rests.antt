-- The answers to a roster text whose shifts are kept, from what their parts answer, and that there is one.
use Rattle.std.proofs.Common.{◌≡◌, ◌≢◌, ℕ, List, Result, Ok, Err, IfOk, refl, sym, ap, subst, ◌∙◌}
use Rattle.check_values.specs.remaining_day.Answers.{RestAnswer}
use Rattle.check_values.proofs.remaining_day.OneAnswer.{rest-once}
use Rattle.model_rosters.specs.declared.instance.Instance.{Instance}
use Rattle.model_rosters.specs.declared.instance.Shift.{Shift}
use Rattle.model_rosters.specs.declared.memory.Memory.{Memory}
use Rattle.check_values.specs.declared.stated_rosters.fault.RosterFault.{RosterFault}
use Rattle.check_values.specs.declared.stated_rosters.fault.RosterFault.TheVariants as faults
use Rattle.check_values.specs.stated_rosters.FaultLine.{fault_line}
use Rattle.check_values.specs.stated_rosters.RosterOf.{roster_of}
use Rattle.command_answers.specs.declared.answer.Answer.{Answer}
use Rattle.command_answers.proofs.OneReading.{same_ok, same_err, not_both}
use Rattle.command_answers.proofs.OnceLemmas.{AreSame}
use Rattle.command_texts.specs.what_if.Rest.{Resting}
use Rattle.command_texts.specs.what_if.Rest as rest

pub rested : (i : Instance) (text : List ℕ) (kept : List Shift) (r : Result Answer Memory) → roster_of i text ≡ Ok kept
    → IfOk r (λ a. RestAnswer i kept a.status a.output) → IfOk r (λ a. Resting i text a.status a.output)
rested i text kept (Err e) reading h = tt
rested i text kept (Ok a) reading h = rest.accepted kept a.status a.output reading h

pub kept-refused : (i : Instance) (text : List ℕ) (fault : RosterFault) (r : Result Answer Memory) → (fault ≢ faults.Memory → roster_of i text ≡ Err fault)
    → IfOk r (λ a. (fault ≢ faults.Memory) × (a.status ≡ 5) × (a.output ≡ fault_line fault)) → IfOk r (λ a. Resting i text a.status a.output)
kept-refused i text fault (Err e) reading h = tt
kept-refused i text fault (Ok a) reading h = rw h.1 (rest.refused a.output (record { fault = fault; reading = reading h.0; line = h.2 }))

-- a roster text has one answer
pub resting-once : (i : Instance) (text : List ℕ) (s t : ℕ) (a b : List ℕ) → Resting i text s a → Resting i text t b → AreSame s t a b
resting-once i text s t a b (rest.accepted c x xs e h) (rest.accepted d y ys f k) =
    rest-once i d s t a b (subst (λ (z : List Shift). RestAnswer i z s a) (same_ok (roster_of i text) c d e f) h) k
resting-once i text s t a b (rest.accepted c x xs e h) (rest.refused ys k) = absurd (not_both (roster_of i text) c k.fault e k.reading)
resting-once i text s t a b (rest.refused xs h) (rest.accepted d y ys f k) = absurd (not_both (roster_of i text) d h.fault f h.reading)
resting-once i text s t a b (rest.refused xs h) (rest.refused ys k) =
    (refl, h.line ∙ ap (λ (x : RosterFault). fault_line x) (same_err (roster_of i text) h.fault k.fault h.reading k.reading) ∙ sym k.line)
