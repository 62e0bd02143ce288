use Rattle.text_relaxed_days.proofs.SaidTexts.{day-said}
use Rattle.text_relaxed_days.proofs.text.write_relaxed_demand.Goals as goal

pub returns : goal.returns
returns c = day-said c.written_again.ensures c.relaxed_days_tell.ensures c.args.kind c.args.instance c.in_ok-day.day c.write_demand.result c.requires c.in_ok-day.ensures.is c.write_demand.ensures
