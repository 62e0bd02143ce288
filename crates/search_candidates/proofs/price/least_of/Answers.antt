use Rattle.std.proofs.Common.{◌≡◌, [], ◌∷◌, ◌++◌, List, get_or, ap, ◌∙◌}
use Rattle.model_rosters.specs.declared.instance.Shift.{Shift}
use Rattle.search_candidates.proofs.AgainLemmas.{price-told}
use Rattle.search_candidates.proofs.price.least_of.Goals as goal

pub returns-clause-price : goal.returns-clause-price
returns-clause-price c =
    let own : Shift = record { group = c.args.group; word = c.args.word.now; price = 0 } in
    let e : c.index-shifts-0.result ≡ own =
    c.index-shifts-0.is ∙ ap (λ (q : List Shift). get_or q 0 c.index-shifts-0.result) (c.shifts.ensures ∙ c.keep.ensures ∙ ap (λ (q : List Shift). q ++ own ∷ []) c.requires.workspace.room) in
    price-told c.args.instance.now c.args.group c.args.word.now c.index-shifts-0.result e c.least_price-price.result c.least_price-price.ensures.value
