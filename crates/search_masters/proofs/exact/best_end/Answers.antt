use Rattle.std.proofs.Common.{◌≡◌, rules, to_z, of_z}
use mir.Syntax.{w128}
use Rattle.search_masters.proofs.EndsLemmas.{best_end, basics_below, narrow_end, out_end}
use Rattle.search_node_columns.proofs.RowPrices.{few_cuts}
use Rattle.search_masters.proofs.exact.best_end.Goals as goal

pub listed_weights-requires : goal.listed_weights-requires
listed_weights-requires g c =
    let s = c.args.columns.now in
    let e = c.args.end.now in
    rw c.as_slice.ensures (basics_below c.args.task.now.day.instance.now.grammar s.pool.now s.workspace.now.held _ e.basic _ c.requires.end.weights)

pub round-requires-clause-y : goal.round-requires-clause-y
round-requires-clause-y g c =
    let i = c.args.task.now.day.instance.now in
    let cuts = c.args.task.now.cuts.now in
    let e = c.args.end.now in
    let k : to_z w128 (of_z w128 e.kappa) ≡ e.kappa = search rules in
    record {
      long = rw c.as_slice-2.ensures c.requires.end.long;
      narrow = rw (k, c.as_slice-2.ensures) (narrow_end i cuts _ e.basic e.y e.kappa e.value c.requires.end);
      out = rw (k, c.as_slice-2.ensures) (out_end i cuts _ e.basic e.y e.kappa e.value c.requires.end);
    }

pub returns : goal.returns
returns g c = λ calm old new is.
    let i = c.args.task.now.day.instance.now in
    let cuts = c.args.task.now.cuts.now in
    let s = c.args.columns.now in
    let e = c.args.end.now in
    let k : to_z w128 (of_z w128 e.kappa) ≡ e.kappa = search rules in
    let r = rw (k, c.as_slice-2.ensures) at c.in_ok-prices.ensures.prices.rounded in
    let w = rw c.as_slice.ensures at (c.in_ok-weights.ensures i.grammar s.pool.now) in (
      c.requires.task.task.rows.few,
      best_end i cuts _ e.basic e.y e.kappa e.value s.pool.now c.in_ok-weights.weights c.in_ok-prices.prices c.requires.task.node.tree.0
          c.requires.task.task.day.sound c.requires.task.node.busy c.requires.task.node.tree.1 (few_cuts i cuts 1500 c.requires.task.task.rows.few) e.value.sound.positive c.requires.end w r c.in_ok-prices.ensures.prices.fit.fit c.in_ok-prices.ensures.prices.fit.positive,
    )
