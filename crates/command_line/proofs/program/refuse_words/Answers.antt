use Rattle.command_line.proofs.program.refuse_words.Goals as goal

pub returns : goal.returns
returns g c = rw c.note_forms.ensures at c.say_no_form.ensures
