use Rattle.check_values.proofs.remaining_day.DaysLeft.{has-rest}
use Rattle.check_values.proofs.remaining_day.laws.rest_is_right.Goals as goal

pub returns : goal.returns
returns c = λ g i kept prices sound by day first within some. has-rest g sound kept i prices by day first within some
