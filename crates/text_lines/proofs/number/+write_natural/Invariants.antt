use Rattle.text_lines.proofs.number.+write_natural.Given as goal

abbrev pub decreases-write_natural : goal.decreases-write_natural
decreases-write_natural l = l.value
