use Rattle.std.specs.Option.{option_copied}
use Rattle.command_texts.specs.Days.{NextFrom, accepted}
use Rattle.command_texts.proofs.Days.{day-fault}
use Rattle.command_answers.proofs.Readers.{IfOk-map}
use Rattle.command_texts.proofs.next.following.Goals as goal

pub returns-in-Ok : goal.returns-in-Ok
returns-in-Ok c = IfOk-map _ _ _ (λ a h. accepted c.in-Ok.grammar a.status a.output (record { reading = c.in-Ok.ensures.value; sound = c.in-Ok.ensures.sound }) h) (rw c.grammar_from.ensures.is at c.following_from.ensures)

pub returns-in-Err : goal.returns-in-Err
returns-in-Err c = day-fault (λ g s o. NextFrom c.args.prefix.now (option_copied c.args.start) g s o) c.args.text.now c.in-Err.fault c.rules_refusal.result c.in-Err.ensures.value c.rules_refusal.ensures
