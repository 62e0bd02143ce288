use Rattle.std.proofs.Common.{refl, ◌<◌, length, arith}
use Rattle.std.proofs.lemmas.Option.{slice_get-get_or}
use Rattle.text_rules.specs.declared.place.Place.{Place}
use Rattle.model_rosters.proofs.StepRules.{no_cycle}
use Rattle.text_rules.proofs.finish.without_cycle.Goals as goal

pub returns-in-Ok-clause-value : goal.returns-in-Ok-clause-value
returns-in-Ok-clause-value c = (refl, no_cycle c.args.parsed.grammar _ _ c.in-Ok.ensures.ranked)

abbrev nowhere : Place
nowhere = record { line = 0; word = 0 }

pub returns-in-Err-clause-value : goal.returns-in-Err-clause-value
returns-in-Err-clause-value c =
    let lt : c.in-Err.name < length c.args.parsed.places = omega (arith, c.in-Err.ensures.exists, c.requires.places) in
    rw c.as_slice.ensures (record {
      name = c.in-Err.name;
      first = c.in-Err.ensures.cycle;
      place = _;
      there = slice_get-get_or c.args.parsed.places c.in-Err.name nowhere lt;
      fault = refl;
    })
