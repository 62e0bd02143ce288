-- No answer to a roster text has the status of a refusal.
use Rattle.std.proofs.Common.{◌≢◌, ℕ, List, arith, refl, sym, ◌∙◌}
use Rattle.model_rosters.specs.declared.instance.Instance.{Instance}
use Rattle.model_rosters.specs.declared.instance.Shift.{Shift}
use Rattle.check_values.specs.Answers.{StatedAnswer}
use Rattle.check_values.specs.Answers as answers
use Rattle.check_values.specs.declared.remaining_day.answer.Remaining.{Remaining}
use Rattle.check_values.specs.declared.remaining_day.answer.Remaining.TheVariants.{Day, Nobody, Impossible}
use Rattle.check_values.specs.remaining_day.Answers.{rest_status}
use Rattle.command_answers.specs.Statuses.{ends_at}
use Rattle.command_texts.specs.what_if.Value.{Valuation}
use Rattle.command_texts.specs.what_if.Value as value
use Rattle.command_texts.specs.what_if.Rest.{Resting}
use Rattle.command_texts.specs.what_if.Rest as rest

stated_ends : (i : Instance) (shifts : List Shift) (s : ℕ) (output : List ℕ) → StatedAnswer i shifts s output
    → (s ≢ 6) × (s ≢ 7)
stated_ends i shifts s output (answers.allowed x h) = ends_at s 0 refl (omega arith)
stated_ends i shifts s output (answers.refused x h) = ends_at s 1 refl (omega arith)

pub value-ends : (i : Instance) (text : List ℕ) (s : ℕ) (output : List ℕ) → Valuation i text s output → (s ≢ 6)
    × (s ≢ 7)
value-ends i text s output (value.accepted shifts t x e a) = stated_ends i shifts s output a
value-ends i text s output (value.refused x h) = ends_at s 5 refl (omega arith)

rest_ends : (x : Remaining) → (rest_status x ≢ 6) × (rest_status x ≢ 7)
rest_ends (Day rest) = ends_at 0 0 refl (omega arith)
rest_ends Nobody = ends_at 1 1 refl (omega arith)
rest_ends (Impossible causes) = ends_at 1 1 refl (omega arith)

pub resting-ends : (i : Instance) (text : List ℕ) (s : ℕ) (output : List ℕ) → Resting i text s output
    → (s ≢ 6) × (s ≢ 7)
resting-ends i text s output (rest.accepted kept t x e a) =
    let h = rest_ends a.remaining in
    ((λ q. h.0 (sym a.status_is ∙ q)), (λ q. h.1 (sym a.status_is ∙ q)))
resting-ends i text s output (rest.refused x h) = ends_at s 5 refl (omega arith)
