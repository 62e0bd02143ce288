use Rattle.page_csv.proofs.PieceLemmas.{give_all_back}
use Rattle.page_csv.proofs.laws.pieces_give_word_back.Goals as goal

pub returns : goal.returns
returns c = give_all_back
