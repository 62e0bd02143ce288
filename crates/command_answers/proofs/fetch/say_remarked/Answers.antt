use Rattle.command_answers.proofs.fetch.say_remarked.Goals as goal

pub returns : goal.returns
returns g c = rw c.note_remark.ensures at c.say_answer_to.ensures
