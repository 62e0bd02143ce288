use Rattle.check_values.proofs.OrdersLemmas.{any-order}
use Rattle.check_values.proofs.laws.costs_in_any_order.Goals as goal

pub returns : goal.returns
returns c = λ i ds es amount same h. any-order i ds es amount same h
