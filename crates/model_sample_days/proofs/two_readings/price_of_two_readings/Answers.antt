use Rattle.model_sample_days.proofs.Readings.{price_of_readings}
use Rattle.model_sample_days.proofs.two_readings.price_of_two_readings.Goals as goal

pub returns : goal.returns
returns c = price_of_readings
