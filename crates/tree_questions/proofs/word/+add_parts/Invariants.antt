use Rattle.std.proofs.Common.{◌+◌, ◌*◌, length}
use Rattle.tree_questions.proofs.word.+add_parts.Given as goal

abbrev pub decreases-add_parts : goal.decreases-add_parts
decreases-add_parts l = length l.steps.now * 9 + length l.symbols.now
