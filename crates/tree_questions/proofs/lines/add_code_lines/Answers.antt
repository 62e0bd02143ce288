use Rattle.std.proofs.Common.{◌<◌, false, length, get_or, arith, refl, ap}
use Rattle.model_rosters.specs.declared.grammar.CodeDef.{CodeDef}
use Rattle.tree_questions.specs.Fronts.{front_words}
use Rattle.tree_questions.proofs.CodesLemmas.{code_says, code-said}
use Rattle.tree_questions.proofs.LinesLemmas.{added-none, added-more, added-all}
use Rattle.tree_questions.proofs.lines.add_code_lines.Goals as goal

pub loop-place-init : goal.loop-place-init
loop-place-init c =
    let p = c.args.prices.now in
    added-none (code_says p.grammar.now p.any p.pattern.now c.args.period (front_words c.args.front)) 0 p.grammar.now.codes c.args.out.now c.args.out.now refl

pub loop-place-preserved : goal.loop-place-preserved
loop-place-preserved c =
    let p = c.args.prices.now in
    let none : CodeDef = record { byte = 0; work = false } in
    let size = ap length c.as_slice-codes.ensures in
    let within : c.loop-place.place < length p.grammar.now.codes = omega (arith, size, c.loop-place-test.true) in
    added-more (code_says p.grammar.now p.any p.pattern.now c.args.period (front_words c.args.front)) 0 c.loop-place.place p.grammar.now.codes none
    (get_or p.grammar.now.codes c.loop-place.place none) c.args.out.now c.loop-place.out c.write_code.new.out within refl c.loop-place.invariant
    (code-said p.grammar.now c.requires.sound p.any p.pattern.now c.requires.pattern c.args.marginals.now c.requires.filled c.loop-place.place c.args.period within c.requires.first c.requires.last
    (front_words c.args.front) c.as_slice-codes.result.now none c.at.result c.loop-place.out c.write_code.new.out c.as_slice-codes.ensures c.at.ensures c.in_ok-write_code.ensures)

pub returns : goal.returns
returns c =
    let p = c.args.prices.now in
    let size = ap length c.as_slice-codes.ensures in
    added-all (code_says p.grammar.now p.any p.pattern.now c.args.period (front_words c.args.front)) 0 p.grammar.now.codes c.loop-place.place c.args.out.now c.loop-place.out
    (omega (arith, size, c.loop-place-test.false)) c.loop-place.invariant
