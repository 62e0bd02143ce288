use Rattle.text_rules.proofs.EndKept.{parsed_keeps}
use Rattle.text_rules.proofs.read.read_rules.Goals as goal

pub without_cycle-requires : goal.without_cycle-requires
without_cycle-requires c = parsed_keeps c.args.text.now c.in_ok-parsed.field-0 c.in_ok-parsed.ensures
