use Rattle.std.proofs.Common.{◌≡◌, ℕ, ◌++◌, ◌∷◌, [], length, false, List, ap, ◌∙◌, length-append}
use Rattle.text_rules.specs.Names.{texts, has_name}
use Rattle.text_rules.proofs.KeyTexts.{add-keys, texts-append}
use Rattle.text_rules.proofs.names.add.Goals as goal

pub returns-clause-names : goal.returns-clause-names
returns-clause-names c =
    let new : has_name (texts c.args.names.now.keys) c.in_ok-text.text.items ≡ false = rw c.in_ok-text.ensures.items c.requires in
    ap texts (c.in_ok-insert_full.ensures.keys ∙ add-keys c.args.names.now.keys c.in_ok-text.text new) ∙ texts-append c.args.names.now.keys (c.in_ok-text.text ∷ []) ∙ ap (λ (w : List ℕ). texts c.args.names.now.keys ++ w ∷ []) c.in_ok-text.ensures.items

pub returns-clause-len : goal.returns-clause-len
returns-clause-len c =
    let new : has_name (texts c.args.names.now.keys) c.in_ok-text.text.items ≡ false = rw c.in_ok-text.ensures.items c.requires in
    ap length (c.in_ok-insert_full.ensures.keys ∙ add-keys c.args.names.now.keys c.in_ok-text.text new) ∙ length-append _ _
