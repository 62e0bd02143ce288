use Rattle.std.proofs.Common.{arith, None}
use Rattle.std.proofs.lemmas.Option.{slice_get_within}
use Rattle.check_values.proofs.FoundPrices.{found-length, found-same}
use Rattle.check_values.proofs.found.price_after.Goals as goal

pub bounds-found-place : goal.bounds-found-place
bounds-found-place c =
    let within = slice_get_within c.args.before.now c.in-Some.place c.in-Some.ensures.0 c.in-Some.ensures.1 in
    let same = found-length c.args.instance.now c.args.before.now c.args.found.now c.requires.found in
    omega (arith, within, same)

pub returns-in-Some-clause-value : goal.returns-in-Some-clause-value
returns-in-Some-clause-value c =
    let same = c.in-Some.ensures in
    found-same c.args.instance.now c.args.before.now c.args.found.now c.in-Some.place same.0 c.args.shift.now None c.requires.found same.1 same.2
