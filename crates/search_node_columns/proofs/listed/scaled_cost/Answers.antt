use Rattle.std.proofs.Common.{◌≡◌, arith, rules, to_z, of_z}
use Rattle.std.proofs.lemmas.Int.{ints}
use mir.Syntax.{w128}
use Rattle.search_node_columns.proofs.ReducedCosts.{cost_within}
use Rattle.search_node_columns.proofs.listed.scaled_cost.Goals as goal

pub overflow_mul-result : goal.overflow_mul-result
overflow_mul-result c =
    let k : to_z w128 (of_z w128 c.args.kappa) ≡ c.args.kappa = search rules in
    let e = c.from.ensures in
    let v : to_z w128 (of_z w128 c.from.result) ≡ c.args.cost = search rules in
    let w = cost_within c.args.kappa c.args.cost c.requires.some c.requires.narrow c.requires.cost.0 c.requires.cost.1 in
    rw (k, v) (omega (arith, ints, w.0, w.1))

pub returns-clause-value : goal.returns-clause-value
returns-clause-value c =
    let k : to_z w128 (of_z w128 c.args.kappa) ≡ c.args.kappa = search rules in
    let e = c.from.ensures in
    let v : to_z w128 (of_z w128 c.from.result) ≡ c.args.cost = search rules in
    let w = cost_within c.args.kappa c.args.cost c.requires.some c.requires.narrow c.requires.cost.0 c.requires.cost.1 in
    rw (k, v) (omega (arith, ints, w.0, w.1))

pub returns-clause-within : goal.returns-clause-within
returns-clause-within c =
    let k : to_z w128 (of_z w128 c.args.kappa) ≡ c.args.kappa = search rules in
    let e = c.from.ensures in
    let v : to_z w128 (of_z w128 c.from.result) ≡ c.args.cost = search rules in
    let w = cost_within c.args.kappa c.args.cost c.requires.some c.requires.narrow c.requires.cost.0 c.requires.cost.1 in
    rw (k, v) record { low = omega (arith, ints, w.0, w.1); high = omega (arith, ints, w.0, w.1) }
