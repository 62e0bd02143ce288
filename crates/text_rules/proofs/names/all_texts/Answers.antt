use Rattle.std.proofs.Common.{◌≡◌, ℕ, ◌++◌, ◌∷◌, [], List, true, false, take, sym, ◌∙◌, ap, arith, add-one}
use Rattle.text_rules.specs.Names.{texts}
use Rattle.text_rules.proofs.KeyTexts.{texts_more}
use Rattle.text_rules.proofs.names.all_texts.Goals as goal
use Rattle.text_rules.proofs.names.all_texts.Goals.{in-Some+in_ok-copy+in_ok-push, in_default}

pub loop-i-preserved : goal.loop-i-preserved
loop-i-preserved c = elim c.match-get_index.branch [
  | in-Some+in_ok-copy+in_ok-push w ↦
      let ks = c.args.names.now.keys in
      let more = texts_more ks c.loop-i.i w.in-Some.name.now (sym w.in-Some.ensures.key) in
      rw (w.list-is, add-one c.loop-i.i)
      (w.in_ok-push.ensures.ok
      ∙ ap (λ (l : List (List ℕ)). l ++ w.in_ok-copy.field-0 ∷ []) c.loop-i.invariant
      ∙ ap (λ (t : List ℕ). texts (take c.loop-i.i ks) ++ t ∷ []) (w.in_ok-copy.ensures ∙ w.as_slice.ensures.value)
      ∙ sym more)
  | in_default w ↦
      let there : false ≡ true = w.in_default.ensures.found.1 (omega (arith, c.len-i-end.ensures.len)) in
      absurd cc
]
