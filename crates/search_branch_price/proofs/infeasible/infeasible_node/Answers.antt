use Rattle.std.proofs.Common.{Option, subst}
use Rattle.std.specs.Prelude.{ℤ}
use Rattle.search_branch_price.specs.Infeasible.{IsPlainLeast}
use Rattle.search_branch_price.proofs.PlainPrices.{none-arc}
use Rattle.search_branch_price.proofs.RootLemmas.{some-arc}
use Rattle.search_branch_price.proofs.infeasible.infeasible_node.Goals as goal

pub returns-in-None : goal.returns-in-None
returns-in-None c =
    let i = c.args.day.now.instance.now in
    none-arc i (subst (λ (z : Option ℤ). IsPlainLeast i z) c.in-None.is c.in_ok-least_cost.ensures)

pub returns-in_ok-plain_prices-in-Some : goal.returns-in_ok-plain_prices-in-Some
returns-in_ok-plain_prices-in-Some c =
    let some = rw c.arcs.ensures.arcs at (rw c.is_empty.ensures at c.if-is_empty.false) in (
      c.in_ok-plain_prices-in-Some.ensures,
      (c.in_ok-least_cost.field-0, c.in_ok-least_cost.ensures),
      some-arc c.args.day.now.instance.now c.args.day.now.graph.now c.requires.graph some,
    )
