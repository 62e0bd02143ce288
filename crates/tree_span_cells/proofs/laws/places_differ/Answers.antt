use Rattle.tree_span_cells.proofs.FormRows.{place-apart}
use Rattle.tree_span_cells.proofs.laws.places_differ.Goals as goal

pub returns : goal.returns
returns c = place-apart
