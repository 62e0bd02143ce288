use Rattle.std.proofs.Common.{[], ◌++◌, ◌∙◌, sym, ap}
use Rattle.std.proofs.lemmas.List.{append-nil}
use Rattle.model_rosters.specs.Trees.{steps}
use Rattle.model_rosters.specs.tree_laws.Letters.{codes_of as codes_in}
use Rattle.tree_pool.proofs.letters.codes_of.Goals as goal

pub returns : goal.returns
returns c = λ t day e.
    (c.in_ok-add_codes.ensures 1 t [] day.0 (e ∙ sym (append-nil (steps 1 t)))).1 ∙ ap (λ xs. xs ++ codes_in t) c.new-codes.ensures
