use Rattle.text_demand.proofs.DraftKept.{draft_keeps}
use Rattle.text_demand.proofs.read.read_demand.Goals as goal

pub finish-requires-clause-draft : goal.finish-requires-clause-draft
finish-requires-clause-draft c = draft_keeps c.args.grammar c.args.text.now c.in_ok-draft.draft c.in_ok-draft.ensures
