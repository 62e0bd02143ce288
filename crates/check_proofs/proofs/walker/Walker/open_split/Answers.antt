use Rattle.std.proofs.Common.{ap, ◌∙◌, ◌∷◌}
use Rattle.check_certificates.specs.Nodes.{low_cut}
use Rattle.check_proofs.specs.Stacks.{StackView}
use Rattle.check_proofs.specs.Views.{own_prices}
use Rattle.check_proofs.proofs.NextNodes.{split-shown}
use Rattle.check_proofs.proofs.walker.Walker.open_split.Goals as goal

pub returns-clause-shows : goal.returns-clause-shows
returns-clause-shows c =
    let same = ap (λ (s : StackView). record s { splits = record { cut = low_cut c.args.arc c.args.b; own = c.own_value-own.result; low = 0 } ∷ s.splits }) c.own_value-own.ensures.stack in
    split-shown c.args.instance.now c.args.self.now.stack c.args.is_right c.args.arc c.args.b (own_prices c.args.prices.now) c.own_value-own.result c.split.new.self c.requires.node c.own_value-own.ensures.value (c.split.ensures ∙ same)
