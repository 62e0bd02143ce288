use Rattle.command_shelf.specs.Shelf.{Told}
use Rattle.command_texts.specs.relax.Answers.{RelaxedDemand}
use Rattle.command_texts.proofs.relax.Relaxings.{rules-read, rules-refused}
use Rattle.command_texts.proofs.relax.demand.relax_by_rules.Goals as goal

pub returns-in-Ok : goal.returns-in-Ok
returns-in-Ok g c =
    let before : Told = g.S.Shelf.told c.args.shelf.now in
    let after : Told = g.S.Shelf.told c.relax_under.new.shelf in
    rules-read (RelaxedDemand c.args.kind) c.args.text.now c.args.demand.now c.in-Ok.grammar before after c.relax_under.result c.in-Ok.ensures.value c.in-Ok.ensures.sound c.relax_under.ensures

pub returns-in-Err : goal.returns-in-Err
returns-in-Err g c =
    let before : Told = g.S.Shelf.told c.args.shelf.now in
    let after : Told = g.S.Shelf.told c.say_remarked.new.shelf in
    rules-refused (RelaxedDemand c.args.kind) c.args.text.now c.args.demand.now c.in-Err.fault c.rules_refusal.result before after c.say_remarked.result c.rules_refusal.ensures c.in-Err.ensures.value c.say_remarked.ensures
