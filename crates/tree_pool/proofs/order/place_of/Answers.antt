use Rattle.std.proofs.Common.{rules}
use Rattle.std.proofs.lemmas.Fn.{always_returns_same}
use Rattle.tree_pool.specs.Orders.{steps_of, steps_cmp}
use Rattle.tree_pool.proofs.OrdersLemmas.{placed}
use Rattle.tree_pool.proofs.order.place_of.Goals as goal

pub returns-clause-found : goal.returns-clause-found
returns-clause-found c =
    let facts = c.binary_search_by.ensures in
    let answer = facts.position (λ n. steps_cmp (steps_of c.args.entries.now n) c.args.steps.now) (always_returns_same _ _ _ (λ a r g called. search rules)) in
    (placed c.args.entries.now c.args.order.now c.requires c.args.steps.now c.binary_search_by.result facts.bound answer).0

pub returns-clause-place : goal.returns-clause-place
returns-clause-place c =
    let facts = c.binary_search_by.ensures in
    let answer = facts.position (λ n. steps_cmp (steps_of c.args.entries.now n) c.args.steps.now) (always_returns_same _ _ _ (λ a r g called. search rules)) in
    (placed c.args.entries.now c.args.order.now c.requires c.args.steps.now c.binary_search_by.result facts.bound answer).1
