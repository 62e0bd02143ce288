use Rattle.law_bounds.proofs.Letters.{letters-le}
use Rattle.law_bounds.proofs.plain_counts.letters_within_heads.Goals as goal

pub returns : goal.returns
returns c = λ g listed value l are balanced first last. letters-le g value listed are balanced l first last
