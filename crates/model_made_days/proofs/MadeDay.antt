-- The day of a number, by its first three draws.
use Rattle.std.proofs.Common.{◌≡◌, ℕ, ◌+◌, List, [], refl, sym, subst, ap, ◌∙◌}
use Rattle.model_rosters.specs.declared.grammar.Grammar.{Grammar}
use Rattle.model_rosters.specs.declared.instance.Cell.{Cell}
use Rattle.model_rosters.specs.declared.instance.Group.{Group}
use Rattle.model_rosters.specs.declared.instance.Instance.{Instance}
use Rattle.model_rosters.specs.SoundInstance.{IsSoundInstance}
use Rattle.model_made_days.specs.Draws.{next, answer, after}
use Rattle.model_made_days.specs.Made.{made_grammar, made_instance}
use Rattle.model_made_days.proofs.Draws.{state_cells, number_cells, cells_after}
use Rattle.model_made_days.proofs.SoundDay.{sound_day}

abbrev pub day : Grammar → List Group → List Cell → Instance
day grammar groups cells =
    record { grammar = grammar; heads_min = 0; heads_max = 10; groups = groups; cells = cells }

-- a state and what it answers, after a state
abbrev pub Draws : ℕ → ℕ → ℕ → ℕ → Type 0
Draws old new m value = (new ≡ next old) × (value ≡ answer new m)

module _ (number s a b c : ℕ) (x y z : ℕ) (grammar : Grammar) (groups : List Group) (cells : List Cell)
    (start : s ≡ number) (first : Draws s a 13 x) (second : Draws a b 11 y) (third : Draws b c 11 z)
    (grammar_is : grammar ≡ made_grammar (24 + x) (10 + y)) (groups_is : groups ≡ [])
    (cells_is : cells ≡ state_cells c (20 + z) (24 + x)) where
  pub is_made : day grammar groups cells ≡ made_instance number
  is_made =
      let one : a ≡ after number 1 = first.0 ∙ ap (λ (k : ℕ). next k) start in
      let two : b ≡ after number 2 = second.0 ∙ ap (λ (k : ℕ). next k) one in
      let three : c ≡ after number 3 = third.0 ∙ ap (λ (k : ℕ). next k) two in
      let n : x ≡ answer (after number 1) 13 = rw (first.1, one) refl in
      let cost : y ≡ answer (after number 2) 11 = rw (second.1, two) refl in
      let under : z ≡ answer (after number 3) 11 = rw (third.1, three) refl in
      let all = cells_after number (20 + z) (24 + x) in
      let are : cells ≡ number_cells number (20 + z) (24 + x) = rw (cells_is, three) all in
      rw (grammar_is, groups_is, are, n, cost, under) refl

  pub is_sound : IsSoundInstance (day grammar groups cells)
  is_sound = let P : Instance → Type 0 = λ i. IsSoundInstance i in subst P (sym is_made) (sound_day number)
