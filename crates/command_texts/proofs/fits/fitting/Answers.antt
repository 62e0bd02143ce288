use Rattle.std.specs.Option.{option_copied}
use Rattle.command_texts.specs.Days.{FitsFrom, accepted}
use Rattle.command_texts.proofs.Days.{day-fault}
use Rattle.command_answers.proofs.Readers.{IfOk-map}
use Rattle.command_texts.proofs.fits.fitting.Goals as goal

pub returns-in-Ok : goal.returns-in-Ok
returns-in-Ok c = IfOk-map _ _ _ (λ a h. accepted c.in-Ok.grammar a.status a.output (record { reading = c.in-Ok.ensures.value; sound = c.in-Ok.ensures.sound }) h) (rw c.grammar_from.ensures.is at c.fitting_from.ensures)

pub returns-in-Err : goal.returns-in-Err
returns-in-Err c = day-fault (λ g s o. FitsFrom c.args.pattern.now (option_copied c.args.start) g s o) c.args.text.now c.in-Err.fault c.rules_refusal.result c.in-Err.ensures.value c.rules_refusal.ensures
