use Rattle.check_values.proofs.group_rules.NameTrees.{price_down, price_up}
use Rattle.check_values.proofs.group_rules.laws.same_prices.Goals as goal

pub returns : goal.returns
returns c = λ g groups x w price sound lt.
    (price_down g groups g.start sound x w price lt, price_up g groups g.start sound x w price lt)
