use Rattle.tree_questions.proofs.FittingLemmas.{fitting-answer}
use Rattle.tree_questions.proofs.fits.fitting.Goals as goal

pub returns : goal.returns
returns c =
    let p = c.args.prices.now in
    fitting-answer p.grammar.now c.requires.sound p.pattern.now c.requires.pattern c.args.least.now c.new-output.result c.put.new.out c.signed_field.new.out c.push.new.self c.add_period_lines.new.out
    c.requires.least c.new-output.ensures c.in_ok-put.ensures.ok c.in_ok-signed_field.ensures c.in_ok-push.ensures.ok c.in_ok-add_period_lines.ensures
