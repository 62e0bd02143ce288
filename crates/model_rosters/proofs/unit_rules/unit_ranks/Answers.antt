use Rattle.std.proofs.Common.{arith, length, ◌≡◌, ◌≤◌}
use Rattle.std.proofs.lemmas.List.{length-take-le}
use Rattle.model_rosters.proofs.StepRules.{no_cycle}
use Rattle.model_rosters.proofs.NameRanks.{IsFirstOnCycle-found, IsRanked-by_reach}
use Rattle.model_rosters.proofs.unit_rules.unit_ranks.Goals as goal

pub returns-in-Some-clause-cycle : goal.returns-in-Some-clause-cycle
returns-in-Some-clause-cycle c =
    let e = c.reach_of-reach.ensures in
    let long : length c.reach_of-reach.result ≡ 33 = omega arith in
    let few : c.len.result ≤ 33 = omega (arith, c.requires.few) in
    let rows = length-take-le c.len.result c.reach_of-reach.result (omega arith) in
    IsFirstOnCycle-found c.args.grammar.now c.requires c.reach_of-reach.result long e.led e.steps e.closed c.len.result c.len.ensures c.in-Some.name
    (omega (arith, c.in-Some.ensures.exists)) c.in-Some.ensures.reached c.in-Some.ensures.first

pub returns-in-None-clause-ranked : goal.returns-in-None-clause-ranked
returns-in-None-clause-ranked c =
    let e = c.reach_of-reach.ensures in
    let long : length c.reach_of-reach.result ≡ 33 = omega arith in
    let few : c.len.result ≤ 33 = omega (arith, c.requires.few) in
    let rows = length-take-le c.len.result c.reach_of-reach.result (omega arith) in
    IsRanked-by_reach c.args.grammar.now c.requires c.reach_of-reach.result long e.led e.steps e.closed c.len.result c.len.ensures
    _ c.ranks.ensures (λ x lt. c.in-None.ensures.none x (omega arith))

pub returns-in-Some-clause-found : goal.returns-in-Some-clause-found
returns-in-Some-clause-found c = λ p.
    absurd (no_cycle c.args.grammar.now p.0 (length c.args.grammar.now.names) p.1 c.in-Some.name (returns-in-Some-clause-cycle c).within)
