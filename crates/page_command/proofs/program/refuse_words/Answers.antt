use Rattle.page_command.proofs.program.refuse_words.Goals as goal

pub returns : goal.returns
returns g c = rw c.note.ensures at c.say_no_form.ensures
