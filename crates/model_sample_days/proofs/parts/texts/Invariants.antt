use Rattle.std.proofs.Common.{◌≡◌, map, take}
use Rattle.model_sample_days.proofs.parts.texts.Given as goal

abbrev pub invariant-loop-name : goal.invariant-loop-name
invariant-loop-name l = l.texts ≡ map (λ n. n.now) (take l.name-index l.names)
