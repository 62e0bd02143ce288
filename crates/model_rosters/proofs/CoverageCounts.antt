-- Coverage, counted over stated shifts.
use Rattle.std.proofs.Common.{◌≡◌, ℕ, ◌+◌, ◌-◌, ◌<◌, cond, length, get_or, List, [], ◌∷◌, map, refl, sym, ◌∙◌, ap, count_by}
use Rattle.std.proofs.lemmas.Option.{slice_get-get_or}
use Rattle.std.proofs.lemmas.List.Sums.{sum_by-cons}
use Rattle.model_rosters.specs.declared.grammar.CodeDef.{CodeDef}
use Rattle.model_rosters.specs.declared.grammar.Grammar.{Grammar}
use Rattle.model_rosters.specs.declared.instance.Cell.{Cell}
use Rattle.model_rosters.specs.declared.instance.Shift.{Shift}
use Rattle.model_rosters.specs.Coverage.{code_byte, has_at, covered}
use Rattle.model_rosters.specs.Duties.{duty}

-- the byte of a code that exists
pub code_byte-read : (g : Grammar) (xs : List CodeDef) (c : ℕ) (d : CodeDef) → xs ≡ g.codes → c < length g.codes → code_byte g c ≡ (get_or xs c d).byte
code_byte-read g xs c d same within = rw (same, code_byte, slice_get-get_or g.codes c d within) refl

module _ (g : Grammar) (c : Cell) (byte : ℕ) (is : code_byte g c.code ≡ byte) where
  pub covered_shifts : (ss : List Shift) → count_by (λ (s : Shift). has_at byte s.word (c.period - 1)) ss ≡ covered g c (map duty ss)
  covered_shifts [] = refl
  covered_shifts (s ∷ ss) =
      sum_by-cons (λ (x : Shift). cond (has_at byte x.word (c.period - 1)) 1 0) s ss
      ∙ ap (λ (n : ℕ). cond (has_at byte s.word (c.period - 1)) 1 0 + n) (covered_shifts ss)
      ∙ ap (λ (b : ℕ). cond (has_at b s.word (c.period - 1)) 1 0 + covered g c (map duty ss)) (sym is)
