use Rattle.std.proofs.Common.{ap, sym, ◌∙◌, Some}
use Rattle.std.specs.Option.{option_map}
use Rattle.std.specs.FinMap.{get}
use Rattle.command_shelf.proofs.HeldTexts.{get-texts_of, bytes_of}
use Rattle.command_shelf.proofs.texts.TextMap.text.Goals as goal

pub returns-in-Some : goal.returns-in-Some
returns-in-Some c =
    ap Some c.as_slice.ensures.value
    ∙ ap (option_map bytes_of) c.in-Some.ensures.value
    ∙ sym (get-texts_of c.self.inside.map c.args.name.now)
    ∙ ap (λ m. get m c.args.name.now) c.self.view_is

pub returns-in-None : goal.returns-in-None
returns-in-None c =
    ap (option_map bytes_of) c.in-None.ensures.value
    ∙ sym (get-texts_of c.self.inside.map c.args.name.now)
    ∙ ap (λ m. get m c.args.name.now) c.self.view_is
