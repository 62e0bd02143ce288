use Rattle.std.proofs.Common.{◌+◌, refl, get_or}
use Rattle.std.proofs.lemmas.Bool.{ne_eqb}
use Rattle.tree_questions.specs.Fitting.{SaysPeriod}
use Rattle.tree_questions.specs.Shifts.{any_code}
use Rattle.tree_questions.proofs.LinesLemmas.{added-none, added-more, added-all}
use Rattle.tree_questions.proofs.FittingLemmas.{open-next, closed-said}
use Rattle.tree_questions.proofs.fits.add_period_lines.Goals.{then-byte-eq-ANY+in_ok-add_code_lines, else-byte-eq-ANY}
use Rattle.tree_questions.proofs.fits.add_period_lines.Goals as goal

pub loop-place-init : goal.loop-place-init
loop-place-init c =
    let p = c.args.prices.now in
    added-none (SaysPeriod p.grammar.now p.pattern.now) 1 p.pattern.now c.args.out.now c.args.out.now refl

pub loop-place-preserved : goal.loop-place-preserved
loop-place-preserved c =
    let p = c.args.prices.now in
    let x = get_or p.pattern.now c.loop-place.place 0 in
    added-more (SaysPeriod p.grammar.now p.pattern.now) 1 c.loop-place.place p.pattern.now 0 x c.args.out.now c.loop-place.out c.if-byte-eq-ANY.out c.loop-place-test.true refl c.loop-place.invariant
    (elim c.if-byte-eq-ANY.branch [
      | then-byte-eq-ANY+in_ok-add_code_lines w ↦ open-next p.grammar.now c.requires.sound p.pattern.now c.requires.pattern c.loop-place.place x p.any c.loop-place.out w.add_code_lines.new.out c.if-byte-eq-ANY.out
          c.requires.any w.if-byte-eq-ANY.true w.out-is w.in_ok-add_code_lines.ensures
      | else-byte-eq-ANY w ↦ closed-said p.grammar.now c.requires.sound p.pattern.now c.requires.pattern (1 + c.loop-place.place) x c.loop-place.out c.if-byte-eq-ANY.out
          (ne_eqb x any_code w.if-byte-eq-ANY.false) w.out-is
    ])

pub returns : goal.returns
returns c =
    let p = c.args.prices.now in
    added-all (SaysPeriod p.grammar.now p.pattern.now) 1 p.pattern.now c.loop-place.place c.args.out.now c.loop-place.out c.loop-place-test.false c.loop-place.invariant
