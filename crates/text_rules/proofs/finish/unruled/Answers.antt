use Rattle.std.proofs.Common.{◌≡◌, ℕ, ◌+◌, ◌<◌, true, List, drop, length, refl, sym, ◌∙◌, add-one}
use Rattle.std.proofs.Math.Seq.{drop-cons}
use Rattle.model_rosters.specs.declared.grammar.Rule.{Rule}
use Rattle.text_rules.specs.declared.place.Place.{Place}
use Rattle.model_rosters.specs.Sound.{has_rule}
use Rattle.text_rules.specs.RulesOf.{unruled}
use Rattle.text_rules.proofs.finish.unruled.Goals as goal

abbrev nowhere : Place
nowhere = record { line = 0; word = 0 }

step : (rules : List Rule) (ps : List Place) (x : ℕ) → x < length ps → has_rule rules x ≡ true → unruled rules x (drop x ps) ≡ unruled rules (x + 1) (drop (x + 1) ps)
step rules ps x lt e = rw (drop-cons ps x nowhere lt, e, add-one x) refl

pub loop-x-preserved : goal.loop-x-preserved
loop-x-preserved c = c.loop-x.invariant ∙ step c.args.rules.now c.args.places.now c.loop-x.x c.loop-x-test.true (sym c.if-not-has_rule.ensures)
