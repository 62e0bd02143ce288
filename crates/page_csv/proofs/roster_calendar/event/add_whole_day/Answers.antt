use Rattle.std.proofs.Common.{◌≡◌, ◌++◌, [], ◌∷◌, List, ℕ, ap, ◌∙◌, append_assoc}
use Rattle.std.proofs.lemmas.Result.{on_ok_weaker}
use Rattle.page_csv.specs.roster_calendar.Events.{property, whole_day_lines}
use Rattle.page_csv.proofs.roster_calendar.event.add_whole_day.Goals as goal

-- two lines more, the first of a value that is known
two_more : (before between after : List (List ℕ)) (n v d m w : List ℕ) → v ≡ d → between ≡ before ++ property n v ∷ []
    → after ≡ between ++ property m w ∷ [] → after ≡ before ++ property n d ∷ property m w ∷ []
two_more before between after n v d m w e f g =
    g ∙ ap (λ (t : List (List ℕ)). t ++ property m w ∷ []) (f ∙ ap (λ (x : List ℕ). before ++ property n x ∷ []) e)
    ∙ append_assoc before (property n d ∷ []) (property m w ∷ [])

pub returns : goal.returns
unfolding whole_day_lines
returns c =
    on_ok_weaker c.add_property-2.result (λ h. two_more _ _ _ _ _ _ _ _ (c.as_slice.ensures ∙ c.in_ok-date.ensures) c.in_ok-add_property.ensures h) c.add_property-2.ensures
