use Rattle.std.proofs.Common.{sym}
use Rattle.page_command.proofs.OldLemmas.{all-fit}
use Rattle.page_command.proofs.old.whole.Goals as goal

pub returns-in-None-clause-whole : goal.returns-in-None-clause-whole
returns-in-None-clause-whole c =
    all-fit c.args.instance.now.grammar.periods c.args.shifts (sym (rw c.as_slice.ensures at c.in-None.ensures.place))
