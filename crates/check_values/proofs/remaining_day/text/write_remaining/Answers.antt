use Rattle.check_values.proofs.remaining_day.DaySaid.{day-said}
use Rattle.check_values.proofs.remaining_day.text.write_remaining.Goals as goal

pub returns-in-Day : goal.returns-in-Day
returns-in-Day c = rw c.in-Day.is (day-said c.args.instance.now c.args.kept.now c.in-Day.rest c.rest_text.result (rw c.in-Day.is at c.requires) c.rest_text.ensures.said c.rest_text.ensures.wide)
