-- What is answered of the shifts that fit.
use Rattle.std.proofs.Common.{◌≡◌, ℕ, ℤ, pos, ◌+◌, ◌==◌, Bool, true, false, Option, None, Some, List, [], ◌∷◌, ◌++◌, Result, Ok, Err, IfOk, length, append_assoc, append-nil, eq-eqb, arith, refl, sym, ap, subst, ◌∙◌}
use Rattle.std.specs.Prelude.{codes}
use Rattle.std.proofs.lemmas.Option.{same_Some}
use Rattle.model_rosters.specs.declared.grammar.Grammar.{Grammar}
use Rattle.model_rosters.specs.declared.memory.Memory.{Memory}
use Rattle.model_rosters.specs.Shifts.{IsShift}
use Rattle.model_rosters.specs.Sound.{IsSound}
use Rattle.model_rosters.specs.Sums.{IsLeast, tree_sum}
use Rattle.model_rosters.specs.Trees.{IsDayTree}
use Rattle.text_lines.specs.Numbers.{number_text}
use Rattle.text_lines.specs.Written.{written, tail}
use Rattle.text_lines.proofs.WrittenLemmas.{line_then}
use Rattle.tree_questions.specs.declared.day_answer.DayAnswer.{DayAnswer}
use Rattle.tree_questions.specs.Lines.{Line}
use Rattle.tree_questions.specs.Prices.{pattern_view}
use Rattle.tree_questions.specs.Shifts.{any_code, Fits, IsLeastPrice}
use Rattle.tree_questions.specs.Codes.{AddsCodeLines}
use Rattle.tree_questions.specs.Fitting.{SaysWhere, SaysPeriod, AddsOpenLines, FitsAnswer, IsLeastSum, at_words, some, none}
use Rattle.tree_questions.specs.Laws.{TakesWith, IsSumOf}
use Rattle.tree_questions.proofs.ShiftQuestions.{fitting-codes, least-fitting}

module _ (g : Grammar) (sound : IsSound g) (pattern : List ℕ) (long : length pattern ≡ g.periods) where
  -- the lines of an open period
  pub open-said : (i x : ℕ) (mid new : List ℕ) → x ≡ any_code → AddsCodeLines g (at_words i) (TakesWith (Some any_code) pattern i) mid new
      → (own : List Line) × SaysPeriod g pattern i x own × (new ≡ mid ++ written own)
  open-said i x mid new is h =
      let fits = fitting-codes g sound pattern long (at_words i) i mid new h in
      let hit : (x == any_code) ≡ true = eq-eqb x any_code is in
      (fits.lines, subst (λ (t : Bool). SaysWhere t g pattern i fits.lines) (sym hit) fits.each, fits.text)

  -- a closed period has none
  pub closed-said : (i x : ℕ) (mid new : List ℕ) → (x == any_code) ≡ false → new ≡ mid → (own : List Line) × SaysPeriod g pattern i x own × (new ≡ mid ++ written own)
  closed-said i x mid new closed same = ([], subst (λ (t : Bool). SaysWhere t g pattern i []) (sym closed) refl, same ∙ sym (append-nil mid))

  pub open-next : (place x : ℕ) (any : Option ℕ) (mid made new : List ℕ) → any ≡ Some any_code → x ≡ any_code → new ≡ made
      → AddsCodeLines g (at_words (place + 1)) (TakesWith any pattern (place + 1)) mid made
      → (own : List Line) × SaysPeriod g pattern (1 + place) x own × (new ≡ mid ++ written own)
  open-next place x any mid made new wild is same h =
      let e : place + 1 ≡ 1 + place = omega arith in
      open-said (1 + place) x mid new is (rw same (rw (wild, e) at h))

  -- the whole answer
  pub fitting-answer : (z : ℤ) (o0 o1 o2 o3 o4 : List ℕ) → IsLeastSum g pattern z → o0 ≡ [] → o1 ≡ o0 ++ codes "least" → o2 ≡ o1 ++ tail (number_text z ∷ []) → o3 ≡ o2 ++ 10 ∷ []
      → AddsOpenLines g pattern o3 o4 → FitsAnswer g pattern 0 o4
  fitting-answer z o0 o1 o2 o3 o4 least e0 e1 e2 e3 h = by (least-fitting g sound pattern long (Some z) least)
    where
      by : (price : Option ℕ) × IsSumOf (Some z) price × IsLeastPrice g (Fits pattern) price → FitsAnswer g pattern 0 o4
      by (None, is, h2) = absurd (none_some z is)
        where
          none_some : (z : ℤ) → Some z ≡ None → ⊥
          none_some z e = cc
      by (Some price, is, h2) =
          let sum : z ≡ pos price = same_Some z (pos price) is in
          let first : o3 ≡ o0 ++ written ((codes "least" ∷ number_text z ∷ []) ∷ []) = line_of o0 o1 o2 o3 (codes "least") (number_text z) e1 e2 e3 in
          let whole = line_then o0 o3 o4 (codes "least" ∷ number_text z ∷ []) h.lines first h.text in
          some price h.lines o4 h2 h.each
          (whole ∙ ap (λ (t : List ℕ). t ++ written ((codes "least" ∷ number_text z ∷ []) ∷ h.lines)) e0 ∙ ap (λ (y : ℤ). written ((codes "least" ∷ number_text y ∷ []) ∷ h.lines)) sum)
        where
          line_of : (o0 o1 o2 o3 w n : List ℕ) → o1 ≡ o0 ++ w → o2 ≡ o1 ++ tail (n ∷ []) → o3 ≡ o2 ++ 10 ∷ [] → o3 ≡ o0 ++ written ((w ∷ n ∷ []) ∷ [])
          line_of o0 o1 o2 o3 w n e1 e2 e3 = rw (e3, e2, e1) (simp (append_assoc, append-nil))

  -- no shift fits where there is no sum
  pub none-fits : IsLeast (IsDayTree g) (tree_sum (pattern_view g (Some any_code) pattern) 1) None → (w : List ℕ) → Fits pattern w → IsShift g g.start w → ⊥
  none-fits least = by (least-fitting g sound pattern long None least)
    where
      by : (price : Option ℕ) × IsSumOf None price × IsLeastPrice g (Fits pattern) price → (w : List ℕ) → Fits pattern w → IsShift g g.start w → ⊥
      by (None, is, h) = h
      by (Some price, is, h) = absurd (none_some (pos price) is)
        where
          none_some : (z : ℤ) → None ≡ Some z → ⊥
          none_some z e = cc

pub ok-none : (g : Grammar) (pattern : List ℕ) (r : Result DayAnswer Memory) → ((w : List ℕ) → Fits pattern w → IsShift g g.start w → ⊥)
    → IfOk r (λ a. (a.status ≡ 1) × (a.output ≡ codes "no shift\n"))
    → IfOk r (λ a. FitsAnswer g pattern a.status a.output)
ok-none g pattern (Err e) nothing h = tt
ok-none g pattern (Ok a) nothing h = subst (λ (n : ℕ). FitsAnswer g pattern n a.output) (sym h.0) (none a.output nothing h.1)
