use Rattle.model_made_days.proofs.MadeDay.{is_made, is_sound}
use Rattle.model_made_days.proofs.made.make_instance.Goals as goal

pub returns-clause-made : goal.returns-clause-made
returns-clause-made c =
    is_made c.args.number c.new-generator.result c.draw.new.self c.draw-cost.new.self c.draw-under.new.self
    c.draw.result c.draw-cost.result c.draw-under.result c.in_ok-grammar.field-0 c.new.result
    c.in_ok-cells.cells c.new-generator.ensures (c.draw.ensures.state, c.draw.ensures.value)
    (c.draw-cost.ensures.state, c.draw-cost.ensures.value)
    (c.draw-under.ensures.state, c.draw-under.ensures.value)
    c.in_ok-grammar.ensures c.new.ensures c.in_ok-cells.ensures

pub returns-clause-sound : goal.returns-clause-sound
returns-clause-sound c =
    is_sound c.args.number c.new-generator.result c.draw.new.self c.draw-cost.new.self c.draw-under.new.self
    c.draw.result c.draw-cost.result c.draw-under.result c.in_ok-grammar.field-0 c.new.result
    c.in_ok-cells.cells c.new-generator.ensures (c.draw.ensures.state, c.draw.ensures.value)
    (c.draw-cost.ensures.state, c.draw-cost.ensures.value)
    (c.draw-under.ensures.state, c.draw-under.ensures.value)
    c.in_ok-grammar.ensures c.new.ensures c.in_ok-cells.ensures
