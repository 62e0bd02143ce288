use Rattle.std.proofs.Common.{◌≡◌, ◌≤◌, ℕ, ℤ, pos, Some, length}
use Rattle.std.specs.Prelude.{slice_get}
use Rattle.model_rosters.specs.Folds.{count}
use Rattle.tree_pool.specs.Pools.{letters_from}
use Rattle.lp_master_rows.specs.declared.rows.CellLetter.{CellLetter}
use Rattle.lp_master_rows.specs.NodeRows.{is_letter}
use Rattle.lp_master_rows.specs.Entries.{AreListed}
use Rattle.lp_master_rows.proofs.entries.Entries.add_letters.Given as goal

abbrev pub invariant-loop-letter : goal.invariant-loop-letter
invariant-loop-letter l = (entry : ℕ → ℤ) → AreListed 0 entry l.fn.self → length l.letters ≤ 1500
    → ((k : ℕ) (x : CellLetter) → slice_get l.letters k ≡ Some x → entry k ≡ pos (count (is_letter x) (letters_from 1 l.codes)))
    → AreListed l.letter-index entry l.self
