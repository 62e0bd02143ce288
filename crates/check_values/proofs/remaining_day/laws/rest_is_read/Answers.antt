use Rattle.check_values.proofs.remaining_day.RestAgain.{rest-again}
use Rattle.check_values.proofs.remaining_day.laws.rest_is_read.Goals as goal

pub returns : goal.returns
returns c = λ g rest ds count sound plain day is are n p q. rest-again g rest ds count sound plain day is are n p q
