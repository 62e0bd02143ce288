use Rattle.text_demand.proofs.TextAgain.{text_behind}
use Rattle.text_demand.proofs.laws.written_again_behind_comment.Goals as goal

pub returns : goal.returns
returns c = λ g i ds comment sound plain same instance are short one. text_behind g sound plain i ds same instance are comment short one
