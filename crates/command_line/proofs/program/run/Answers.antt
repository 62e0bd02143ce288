use Rattle.std.specs.Prelude.{map, string_bytes}
use Rattle.command_line.specs.Form.{form_of}
use Rattle.command_line.proofs.OneAnswerLemmas.{has-one-answer}
use Rattle.command_line.proofs.program.run.Goals as goal

pub returns-in-Explain-clause-one_answer : goal.returns-in-Explain-clause-one_answer
returns-in-Explain-clause-one_answer g c = has-one-answer (form_of (map string_bytes c.args.words.now))

pub returns-in-Check-clause-one_answer : goal.returns-in-Check-clause-one_answer
returns-in-Check-clause-one_answer g c = has-one-answer (form_of (map string_bytes c.args.words.now))

pub returns-in-Solve-clause-one_answer : goal.returns-in-Solve-clause-one_answer
returns-in-Solve-clause-one_answer g c = has-one-answer (form_of (map string_bytes c.args.words.now))

pub returns-in-Make-clause-one_answer : goal.returns-in-Make-clause-one_answer
returns-in-Make-clause-one_answer g c = has-one-answer (form_of (map string_bytes c.args.words.now))

pub returns-in-Rank-clause-one_answer : goal.returns-in-Rank-clause-one_answer
returns-in-Rank-clause-one_answer g c = has-one-answer (form_of (map string_bytes c.args.words.now))

pub returns-in-Next-clause-one_answer : goal.returns-in-Next-clause-one_answer
returns-in-Next-clause-one_answer g c = has-one-answer (form_of (map string_bytes c.args.words.now))

pub returns-in-Fits-clause-one_answer : goal.returns-in-Fits-clause-one_answer
returns-in-Fits-clause-one_answer g c = has-one-answer (form_of (map string_bytes c.args.words.now))

pub returns-in-Reuse-clause-one_answer : goal.returns-in-Reuse-clause-one_answer
returns-in-Reuse-clause-one_answer g c = has-one-answer (form_of (map string_bytes c.args.words.now))

pub returns-in-Curve-clause-one_answer : goal.returns-in-Curve-clause-one_answer
returns-in-Curve-clause-one_answer g c = has-one-answer (form_of (map string_bytes c.args.words.now))

pub returns-in-Value-clause-one_answer : goal.returns-in-Value-clause-one_answer
returns-in-Value-clause-one_answer g c = has-one-answer (form_of (map string_bytes c.args.words.now))

pub returns-in-Rest-clause-one_answer : goal.returns-in-Rest-clause-one_answer
returns-in-Rest-clause-one_answer g c = has-one-answer (form_of (map string_bytes c.args.words.now))

pub returns-in-RelaxRules-clause-one_answer : goal.returns-in-RelaxRules-clause-one_answer
returns-in-RelaxRules-clause-one_answer g c = has-one-answer (form_of (map string_bytes c.args.words.now))

pub returns-in-RelaxDemand-clause-one_answer : goal.returns-in-RelaxDemand-clause-one_answer
returns-in-RelaxDemand-clause-one_answer g c = has-one-answer (form_of (map string_bytes c.args.words.now))
