use Rattle.law_bounds.specs.linear_programs.Example.{example_program, last_tableau}
use Rattle.law_bounds.proofs.linear_programs.Paths.{path_tied}
use Rattle.law_bounds.proofs.linear_programs.Solutions.{tied_value}
use Rattle.law_bounds.proofs.linear_programs.ExampleLemmas.{example_sound, example_path, example_priced_out}
use Rattle.law_bounds.proofs.linear_programs.laws.example_is_optimal.Goals as goal

pub returns-clause-sound : goal.returns-clause-sound
returns-clause-sound c = example_sound

pub returns-clause-path : goal.returns-clause-path
returns-clause-path c = example_path

pub returns-clause-priced : goal.returns-clause-priced
returns-clause-priced c = example_priced_out

pub returns-clause-value : goal.returns-clause-value
returns-clause-value c = tied_value example_program last_tableau (path_tied example_program example_sound 1 last_tableau example_path) example_priced_out
