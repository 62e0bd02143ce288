use Rattle.std.proofs.Common.{◌^◌, ◌<◌, pos, arith, rules, ap, ◌∙◌}
use Rattle.tree_questions.proofs.Powers.{power-le, kept-natural, missed-by}
use Rattle.tree_questions.proofs.miss_prices.miss.Goals as goal

pub pow-requires : goal.pow-requires
pow-requires c = let le = power-le c.args.left c.requires in omega (arith, le)

pub overflow_cast-result : goal.overflow_cast-result
overflow_cast-result c =
    let le = power-le c.args.left c.requires in
    let small : c.pow.result < 2 ^ 127 = omega (arith, le, c.pow.ensures) in
    search (rules, small)

pub returns-in-Some : goal.returns-in-Some
returns-in-Some c =
    let le = power-le c.args.left c.requires in
    let small : c.pow.result < 2 ^ 127 = omega (arith, le, c.pow.ensures) in
    kept-natural c.pow.result small ∙ ap pos (c.pow.ensures ∙ missed-by c.args.wanted c.in-Some.wanted c.args.byte c.args.left c.in-Some.is c.if-wanted-byte.true)
