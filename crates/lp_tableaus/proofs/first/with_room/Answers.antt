use Rattle.std.proofs.Common.{◌+◌, length, rules, ap, ◌∙◌}
use Rattle.lp_tableaus.proofs.Starts.{zeros_long}
use Rattle.lp_tableaus.proofs.first.with_room.Goals as goal

pub returns-clause-room : goal.returns-clause-room
returns-clause-room c = record {
  entry = search rules;
  price = search rules;
  numbers = ap length c.in_ok-pivot.ensures ∙ zeros_long (c.args.count + 2);
}
