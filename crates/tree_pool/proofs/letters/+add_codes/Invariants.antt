use Rattle.std.proofs.Common.{◌+◌, ◌*◌, length}
use Rattle.tree_pool.proofs.letters.+add_codes.Given as goal

abbrev pub decreases-add_codes : goal.decreases-add_codes
decreases-add_codes l = length l.steps.now * 9 + length l.symbols.now
