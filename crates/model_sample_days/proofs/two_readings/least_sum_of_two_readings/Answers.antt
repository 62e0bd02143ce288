use Rattle.model_sample_days.proofs.Readings.{least_of_readings}
use Rattle.model_sample_days.proofs.two_readings.least_sum_of_two_readings.Goals as goal

pub returns : goal.returns
returns c = least_of_readings
