use Rattle.std.proofs.Common.{◌≤◌, length, rules}
use Rattle.text_demand.proofs.LinesLeft.{enough, one, next, none_left}
use Rattle.text_demand.proofs.write.demand_lines.Goals as goal

pub split_at-requires : goal.split_at-requires
split_at-requires c =
    let some : 1 ≤ length c.loop-rest.rest.now = search rules in
    enough c.args.grammar.now c.loop-rest.rest.now _ _ some (c.loop-rest.invariant c.requires.cells.demands c.requires.cells.each c.requires.cells.made)

pub code_lines-requires-clause-one : goal.code_lines-requires-clause-one
code_lines-requires-clause-one c =
    let some : 1 ≤ length c.loop-rest.rest.now = search rules in
    one c.args.grammar.now c.loop-rest.rest.now c.split_at.result.0.now _ _ some c.split_at.ensures.front
    (c.loop-rest.invariant c.requires.cells.demands c.requires.cells.each c.requires.cells.made)

pub loop-rest-preserved : goal.loop-rest-preserved
loop-rest-preserved c =
    let some : 1 ≤ length c.loop-rest.rest.now = search rules in
    λ ds each made. next c.args.grammar.now c.loop-rest.rest.now c.split_at.result.0.now c.split_at.result.1.now c.loop-rest.out c.code_lines.new.out _ some c.split_at.ensures.front c.split_at.ensures.back
    c.in_ok-code_lines.ensures (c.loop-rest.invariant ds each made)

pub returns : goal.returns
returns c = λ ds each made. none_left c.args.grammar.now c.loop-rest.rest.now c.loop-rest.out _ (search rules) c.requires.sound.some_period (c.loop-rest.invariant ds each made)
