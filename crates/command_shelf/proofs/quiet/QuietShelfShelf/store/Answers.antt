use Rattle.std.proofs.Common.{ap, ◌∙◌}
use Rattle.std.specs.FinMap.{get}
use Rattle.command_shelf.proofs.HeldTexts.{AgreesElsewhere-insert}
use Rattle.command_shelf.proofs.quiet.QuietShelfShelf.store.Goals as goal

pub returns-clause-others : goal.returns-clause-others
returns-clause-others c = λ other differs.
    ap (λ m. get m other) c.in_ok-put.ensures.ok
    ∙ AgreesElsewhere-insert c.self.inside.held c.args.name.now c.args.bytes.now other differs
    ∙ ap (λ s. get s.held other) c.self.view_is
