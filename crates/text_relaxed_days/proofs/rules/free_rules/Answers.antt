use Rattle.text_relaxed_days.proofs.FreeSound.{sound-free, plain-free}
use Rattle.text_relaxed_days.proofs.rules.free_rules.Goals as goal

pub returns-clause-sound : goal.returns-clause-sound
returns-clause-sound c = λ h. rw (c.in_ok-add_free_rules.ensures, c.new-rules.ensures, c.as_slice.ensures) (sound-free c.args.grammar h)

pub returns-clause-plain : goal.returns-clause-plain
returns-clause-plain c = λ h. rw (c.in_ok-add_free_rules.ensures, c.new-rules.ensures, c.as_slice.ensures) (plain-free c.args.grammar h)
