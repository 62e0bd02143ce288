use Rattle.std.proofs.Common.{◌≡◌, string_bytes, ◌∙◌, refl}
use Rattle.command_shelf.specs.Shelf.{texts_of}
use Rattle.command_shelf.proofs.HeldTexts.{texts_of-insert}
use Rattle.command_shelf.proofs.texts.TextMap.put.Goals as goal

pub returns-clause-ok : goal.returns-clause-ok
returns-clause-ok c =
    let key : string_bytes c.in_ok-key.key ≡ c.args.name.now = c.in_ok-key.ensures.ok in
    let kept : c.in_ok-kept.kept.items ≡ c.args.bytes.now = c.in_ok-kept.ensures.items in
    let held : texts_of c.self.inside.map ≡ c.args.self.now = c.self.view_is in
    texts_of-insert c.self.inside.map c.insert.new.self c.in_ok-key.key c.in_ok-kept.kept c.in_ok-insert.ensures.updates
    ∙ rw (key, kept, held) refl
