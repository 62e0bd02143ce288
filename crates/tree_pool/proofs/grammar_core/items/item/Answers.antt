use Rattle.std.proofs.Common.{◌<◌, length, arith, rules}
use Rattle.std.proofs.lemmas.Option.{slice_get-get_or}
use Rattle.model_rosters.specs.declared.grammar.Sym.TheVariants.{Code}
use Rattle.tree_pool.proofs.grammar_core.items.item.Goals as goal

pub returns : goal.returns
returns c =
    let lt : c.args.suffix < length c.args.right.now = omega arith in
    record { rule = search rules; suffix = search rules; first = slice_get-get_or c.args.right.now c.args.suffix (Code 0) lt; second = c.second.ensures }
