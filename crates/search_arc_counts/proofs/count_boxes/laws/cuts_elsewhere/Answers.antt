use Rattle.search_arc_counts.proofs.count_boxes.PathsLemmas.{cuts-elsewhere}
use Rattle.search_arc_counts.proofs.count_boxes.laws.cuts_elsewhere.Goals as goal

pub returns : goal.returns
returns c = cuts-elsewhere
