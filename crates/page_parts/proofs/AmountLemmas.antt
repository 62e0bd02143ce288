-- The marks of an amount do not depend on what it is counted in.
use Rattle.std.proofs.Common.{◌≡◌, ℕ, List, [], ◌∷◌, ◌++◌, Bool, true, false, length, refl, sym, ap, subst, ◌∙◌}
use Rattle.std.proofs.lemmas.List.{map-append}
use Rattle.std.specs.Prelude.{codes, if◌then◌else◌, nat_lt}
use Rattle.page_parts.specs.Amounts.{AreSaidAlike, unit_behind}
use Rattle.page_parts.specs.Elements.{Element, given, marks}
use Rattle.page_parts.specs.Escapes.{mark_of, marks_of}
use Rattle.page_parts.specs.declared.money.Money.{Money}

-- the words of both, or none
either : (t : Bool) (m n : List ℕ) → marks_of (if t then marks (codes " ") ∷ given m ∷ [] else []) ≡ marks_of (if t then marks (codes " ") ∷ given n ∷ [] else [])
either true m n = refl
either false m n = refl

pub unit_same : (m n : Money) → AreSaidAlike m n → marks_of (unit_behind n.words) ≡ marks_of (unit_behind m.words)
unfolding unit_behind
unit_same m n h =
    subst (λ (t : Bool). marks_of (if t then marks (codes " ") ∷ given n.words ∷ [] else []) ≡ marks_of (unit_behind m.words)) (sym h.same) (either (nat_lt 0 (length m.words)) n.words m.words)

-- the same with elements behind it
pub behind_same : (m n : Money) (es fs : List Element) → AreSaidAlike m n → marks_of fs ≡ marks_of es → marks_of (unit_behind n.words ++ fs) ≡ marks_of (unit_behind m.words ++ es)
behind_same m n es fs said h =
    map-append mark_of (unit_behind n.words) fs ∙ ap (λ (t : List Element). t ++ marks_of fs) (unit_same m n said) ∙ ap (λ (t : List Element). marks_of (unit_behind m.words) ++ t) h ∙ sym (map-append mark_of (unit_behind m.words) es)
