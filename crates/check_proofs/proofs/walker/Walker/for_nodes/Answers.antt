use Rattle.std.proofs.Common.{ap}
use Rattle.check_proofs.specs.Stacks.{StackView}
use Rattle.check_proofs.proofs.walker.Walker.for_nodes.Goals as goal

pub returns-clause-walker : goal.returns-clause-walker
returns-clause-walker c = record {
  tables = c.in_ok-tables.ensures;
  rooms = c.in_ok-rooms.ensures;
  base = ap (λ (s : StackView). s.base) c.in_ok-stack.ensures;
}
