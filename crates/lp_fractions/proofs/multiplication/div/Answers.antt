use Rattle.lp_fractions.proofs.Inverses.{quotient_from_product, product_from_quotient}
use Rattle.lp_fractions.proofs.multiplication.div.Goals as goal

pub returns-in-Some-clause-ok : goal.returns-in-Some-clause-ok
returns-in-Some-clause-ok c =
    let a = c.args.a.now in let b = c.args.b.now in let i = c.inverse.result in
    quotient_from_product a.num a.den b.num b.den i.num i.den _ _ c.inverse.ensures c.in-Some.ensures.some

pub returns-in-None-clause-wide : goal.returns-in-None-clause-wide
returns-in-None-clause-wide c = λ x y h q.
    let a = c.args.a.now in let b = c.args.b.now in let i = c.inverse.result in
    c.in-None.ensures.none x y h (product_from_quotient a.num a.den b.num b.den i.num i.den x y c.inverse.ensures q)
