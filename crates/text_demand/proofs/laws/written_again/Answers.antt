use Rattle.text_demand.proofs.TextAgain.{text_again}
use Rattle.text_demand.proofs.laws.written_again.Goals as goal

pub returns : goal.returns
returns c = λ g i ds sound plain same instance are. text_again g sound plain i ds same instance are
