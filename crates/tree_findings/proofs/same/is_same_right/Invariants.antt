use Rattle.std.proofs.Common.{ℕ, ◌≡◌, ◌<◌, get_or}
use Rattle.model_rosters.specs.declared.grammar.Sym.{Sym}
use Rattle.tree_findings.proofs.same.is_same_right.Given as goal

abbrev pub invariant-loop-place : goal.invariant-loop-place
invariant-loop-place l = (k : ℕ) (d : Sym) → k < l.place → get_or l.right k d ≡ get_or l.other k d
