use Rattle.plan_forecast.proofs.SmallForecasts.{read_small as law}
use Rattle.plan_forecast.proofs.laws.forecasts_are_small.Goals as goal

pub returns : goal.returns
returns c = law
