use Rattle.page_parts.proofs.PaintLemmas.{same_paint}
use Rattle.page_parts.proofs.laws.paints_stay.Goals as goal

pub returns : goal.returns
returns c = same_paint
