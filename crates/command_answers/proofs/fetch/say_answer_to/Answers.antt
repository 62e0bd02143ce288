use Rattle.command_answers.proofs.fetch.say_answer_to.Goals as goal

pub returns : goal.returns
returns g c = rw c.note_encoding.ensures at c.say_answer.ensures
