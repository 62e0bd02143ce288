use Rattle.std.proofs.Common.{ℕ, ◌<◌, Option, length, subst}
use Rattle.std.specs.Prelude.{IfSome}
use Rattle.command_texts.proofs.StartLemmas.{started-sound}
use Rattle.command_texts.proofs.start.started.Goals as goal

pub returns-in-Some-clause-sound : goal.returns-in-Some-clause-sound
returns-in-Some-clause-sound c =
    started-sound c.args.grammar c.in-Some.place c.requires.sound c.requires.plain
    (subst (λ (o : Option ℕ). IfSome o (λ x. x < length c.args.grammar.names)) c.in-Some.is c.requires.within)
