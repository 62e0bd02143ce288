use Rattle.model_sample_days.proofs.Blocks.{tree_of_block}
use Rattle.model_sample_days.proofs.rest_and_work.tree_of_a_block.Goals as goal

pub returns : goal.returns
returns c = tree_of_block
