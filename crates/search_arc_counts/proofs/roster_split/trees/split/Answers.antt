use Rattle.std.proofs.Common.{rules, ℕ, List}
use Rattle.model_rosters.specs.declared.grammar.Grammar.{Grammar}
use Rattle.tree_graph.specs.Graphs.{GraphView}
use Rattle.search_arc_counts.specs.declared.roster_split.fault.SplitFault.{SplitFault}
use Rattle.search_arc_counts.specs.declared.roster_split.fault.SplitFault.TheVariants.{Unbalanced, Memory}
use Rattle.search_arc_counts.specs.roster_split.Evens.{HasCounts, IsUneven, IsFault}
use Rattle.search_arc_counts.proofs.roster_split.EvensLemmas.{balanced}
use Rattle.search_arc_counts.proofs.roster_split.trees.split.Goals as goal

-- a fault that tells the first uneven node is one
uneven-fault : (g : Grammar) (v : GraphView) (counts : List ℕ) (fault : SplitFault) → IsUneven g v counts fault → IsFault g v counts fault
uneven-fault g v counts (Unbalanced node made used) h = h
uneven-fault g v counts Memory h = absurd h

pub take_trees-requires : goal.take_trees-requires
take_trees-requires c =
    let r = c.requires.graph in
    let a : HasCounts c.args.graph.now c.args.counts.now = record { g = r.0; sound = r.1; graph = r.2; each = c.requires.counts } in
    record { g = r.0; sound = r.1; graph = r.2; each = c.requires.counts; balanced = balanced c.args.graph.now c.args.counts.now a (c.in_ok-check_balance.ensures a) }

pub returns-in_err-check_balance-clause-trees : goal.returns-in_err-check_balance-clause-trees
returns-in_err-check_balance-clause-trees c = λ g sound graph.
    let a : HasCounts c.args.graph.now c.args.counts.now = record { g = g; sound = sound; graph = graph; each = c.requires.counts } in
    let f = uneven-fault g c.args.graph.now c.args.counts.now c.in_err-check_balance.field-0.0 (c.in_err-check_balance.ensures a) in
    let e = c.from_residual.ensures in
    search rules

pub returns-clause-trees : goal.returns-clause-trees
returns-clause-trees c = λ g sound graph.
    let a : HasCounts c.args.graph.now c.args.counts.now = record { g = g; sound = sound; graph = graph; each = c.requires.counts } in
    c.in_ok-take_trees.ensures (record { g = g; sound = sound; graph = graph; each = c.requires.counts; balanced = balanced c.args.graph.now c.args.counts.now a (c.in_ok-check_balance.ensures a) })

pub returns-clause-even : goal.returns-clause-even
returns-clause-even c = λ g sound graph.
    let a : HasCounts c.args.graph.now c.args.counts.now = record { g = g; sound = sound; graph = graph; each = c.requires.counts } in
    c.in_ok-check_balance.ensures a
