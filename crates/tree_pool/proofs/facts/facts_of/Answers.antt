use Rattle.tree_pool.proofs.FactsLemmas.{day-ruled, day-few, facts-told}
use Rattle.tree_pool.proofs.facts.facts_of.Goals as goal

pub cost_of-cost-requires-clause-rules : goal.cost_of-cost-requires-clause-rules
cost_of-cost-requires-clause-rules c = day-ruled c.args.grammar.now c.requires.sound c.args.steps.now c.requires.steps

pub cost_of-cost-requires-clause-few : goal.cost_of-cost-requires-clause-few
cost_of-cost-requires-clause-few c = day-few c.args.grammar.now c.requires.sound c.args.steps.now c.requires.steps

pub returns : goal.returns
returns c =
    facts-told c.args.grammar.now c.requires.sound c.args.steps.now
    (record { codes = c.in_ok-codes.codes; arcs = c.in_ok-arcs.arcs; cost = c.cost_of-cost.result })
    c.in_ok-codes.ensures c.in_ok-arcs.ensures c.cost_of-cost.ensures
