use Rattle.std.proofs.Common.{[], ◌∷◌}
use Rattle.std.specs.Prelude.{codes}
use Rattle.std.specs.Fmt.{decimal}
use Rattle.std.proofs.lemmas.Result.{on_ok_weaker}
use Rattle.text_lines.specs.Written.{tail}
use Rattle.check_values.specs.CauseText.{word_at}
use Rattle.check_values.proofs.CauseLists.{four_parts}
use Rattle.check_values.proofs.cause_text.no_shift.Goals as goal

pub returns : goal.returns
returns c =
    on_ok_weaker c.put-2.result (λ e. four_parts c.args.out.now _ _ _ c.put-2.new.out (codes "shift") (tail (decimal c.args.number ∷ [])) (tail (word_at c.args.shifts.now c.args.number ∷ [])) (codes ": no shift\n")
    c.in_ok-put.ensures.ok c.in_ok-field.ensures (rw c.word_at.ensures at c.in_ok-word.ensures) e) c.put-2.ensures.ok
