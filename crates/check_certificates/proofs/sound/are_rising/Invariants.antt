use Rattle.std.proofs.Common.{◌↔◌, drop}
use Rattle.check_certificates.specs.Walks.{RisesFrom}
use Rattle.check_certificates.proofs.sound.are_rising.Given as goal

abbrev pub invariant-loop-m : goal.invariant-loop-m
invariant-loop-m l = RisesFrom 0 l.mult ↔ RisesFrom l.last (drop l.m-index l.mult)
