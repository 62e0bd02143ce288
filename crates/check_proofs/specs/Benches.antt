-- Benches at which certificates are judged.
use Rattle.std.specs.Prelude.{ℕ}
use Rattle.model_rosters.specs.declared.instance.Instance.{Instance}
use Rattle.check_proofs.specs.declared.bench.Bench.{Bench}
use Rattle.check_proofs.specs.Steps.{IsWalkerFor}

-- the bench was made for the instance
abbrev pub IsBenchFor : Instance → Bench → Type 0
IsBenchFor i b = IsWalkerFor i b.walker

-- how many nodes a certificate may have that is judged at the bench
abbrev pub node_room : Bench → ℕ
node_room b = b.walker.stack.most
