-- A text for each place, and lines for each.
use Rattle.std.proofs.Common.{◌≡◌, ℕ, ◌+◌, List, [], ◌∷◌, ◌++◌, map, sym, ap, ◌∙◌, add-one, append_assoc, append-nil}
use Rattle.std.proofs.lemmas.Grind.{flat_map-append}
use Rattle.std.proofs.lemmas.List.{map-append}
use Rattle.std.specs.List.{flat_map}
use Rattle.page_parts.specs.Elements.{places}
use Rattle.page_tables.specs.declared.line.MomentLine.{MomentLine}

-- the text of one more place
pub texts_more : (f : ℕ → List ℕ) (n : ℕ) (before after : List (List ℕ)) → before ≡ map f (places n) → after ≡ before ++ f n ∷ [] → after ≡ map f (places (n + 1))
texts_more f n before after e h =
    rw (add-one n) (h ∙ ap (λ (t : List (List ℕ)). t ++ f n ∷ []) e ∙ sym (map-append f (places n) (n ∷ [])))

-- the lines of one more place
pub lines_more : (f : ℕ → List MomentLine) (n : ℕ) (start before after : List MomentLine) → before ≡ start ++ flat_map f (places n) → after ≡ before ++ f n
    → after ≡ start ++ flat_map f (places (n + 1))
lines_more f n start before after e h =
    let whole : flat_map f (places n ++ n ∷ []) ≡ flat_map f (places n) ++ f n = flat_map-append f (places n) (n ∷ []) ∙ ap (λ (t : List MomentLine). flat_map f (places n) ++ t) (append-nil (f n)) in
    rw (add-one n) (h ∙ ap (λ (t : List MomentLine). t ++ f n) e ∙ append_assoc start (flat_map f (places n)) (f n) ∙ ap (λ (t : List MomentLine). start ++ t) (sym whole))
