use Rattle.check_values.proofs.stated_rosters.SoundRosters.{text_sound}
use Rattle.check_values.proofs.stated_rosters.read.read_roster.Goals as goal

pub returns-clause-sound : goal.returns-clause-sound
returns-clause-sound c = text_sound c.args.instance.now c.args.text.now c.begins_report.result c.lines.result c.lines.ensures
