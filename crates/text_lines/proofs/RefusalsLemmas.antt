-- A text whose lines do not all stand has a first line that is refused.
use Rattle.std.proofs.Common.{◌≡◌, ℕ, Bool, true, false, cond, ◌||◌, List, [], ◌∷◌, Option, Some, Result, Ok, Err, refl, sym, ap, ◌∙◌, ltb}
use Rattle.text_lines.specs.declared.line.BadByte.{BadByte}
use Rattle.text_lines.specs.declared.number.NumberFault.{NumberFault}
use Rattle.text_lines.specs.declared.number.NumberFault.TheVariants.{Form, Wide}
use Rattle.text_lines.specs.Fields.{in_range, number_at}
use Rattle.text_lines.specs.Lines.{TextLine}
use Rattle.text_lines.specs.Numbers.{natural_of}
use Rattle.text_lines.specs.Refusals.{number_of, IsFirstRefused}
use Rattle.text_lines.specs.Steps.{◌>>=◌, each}
use Rattle.text_lines.proofs.StepsLemmas.{err}

-- a refusal carries this line
pub record At {E A : Type 0} (line_of : E → Option ℕ) (k : ℕ) (r : Result A E) : Type 0 where
  pub at : (e : E) → r ≡ Err e → line_of e ≡ Some k

module _ {E : Type 0} (line_of : E → Option ℕ) where
  pub at_ok : {A : Type 0} (k : ℕ) (x : A) → At {A = A} line_of k (Ok x)
  at_ok k x = record { at = λ e h. absurd cc }

  pub at_err : {A : Type 0} (k : ℕ) (d : E) → line_of d ≡ Some k → At {A = A} line_of k (Err d)
  at_err k d h = record { at = λ e q. let same : d ≡ e = cc in ap line_of (sym same) ∙ h }

  pub at_cond : {A : Type 0} (k : ℕ) (t : Bool) (r s : Result A E) → At line_of k r → At line_of k s → At line_of k (cond t r s)
  at_cond k true r s h g = h
  at_cond k false r s h g = g

  pub at_bind : {A B : Type 0} (k : ℕ) (r : Result A E) (f : A → Result B E) → At line_of k r → ((x : A) → At line_of k (f x)) → At line_of k (r >>= f)
  at_bind k (Ok x) f h g = g x
  at_bind {A} k (Err d) f h g = record { at = λ e q. let same : d ≡ e = cc in h.at e (ap refused same) }
    where
      refused : E → Result A E
      refused c = Err c

  -- a test that refuses
  pub refuse : {A : Type 0} (k : ℕ) (t : Bool) (d : E) (r : Result A E) → line_of d ≡ Some k → At line_of k r → At line_of k (cond t (err d) r)
  refuse k t d r h g = at_cond k t (err d) r (at_err k d h) g

  -- a test that is due
  pub demand : {A : Type 0} (k : ℕ) (t : Bool) (d : E) (r : Result A E) → At line_of k r → line_of d ≡ Some k → At line_of k (cond t r (err d))
  demand k t d r g h = at_cond k t r (err d) g (at_err k d h)

  pub at_each : {S W : Type 0} (k : ℕ) (f : S → W → Result S E) → ((s : S) (w : W) → At line_of k (f s w)) → (s : S) (ws : List W) → At line_of k (each f s ws)
  at_each k f h s [] = at_ok k s
  at_each {S} k f h s (w ∷ ws) = at_bind k (f s w) (λ (t : S). each f t ws) (h s w) (λ t. at_each k f h t ws)

  pub number_line : (k : ℕ) (none outside : E) → line_of none ≡ Some k → line_of outside ≡ Some k → (low high : ℕ) (w : List ℕ) → At line_of k (number_at none outside low high w)
  unfolding number_at
  number_line k none outside n o low high w = by (natural_of w)
    where
      by : (r : Result ℕ NumberFault) → At line_of k (in_range none outside low high r)
      by (Ok m) = refuse k (ltb m low || ltb high m) outside _ o (at_ok k m)
      by (Err Form) = at_err k none n
      by (Err Wide) = at_err k outside o

  module _ {S : Type 0} (step : S → Result TextLine BadByte → Result S E) (carries : (s : S) (i : Result TextLine BadByte) → At line_of (number_of i) (step s i)) where
    pub first_refused : (s : S) (items : List (Result TextLine BadByte)) (e : E) → each step s items ≡ Err e → IsFirstRefused step line_of s items e
    first_refused s [] e h = absurd cc
    first_refused s (i ∷ is) e h = by (step s i) refl h (λ t q. first_refused t is e q)
      where
        by : (r : Result S E) → step s i ≡ r → (r >>= λ (t : S). each step t is) ≡ Err e → ((t : S) → each step t is ≡ Err e → IsFirstRefused step line_of t is e) → IsFirstRefused step line_of s (i ∷ is) e
        by (Err c) g q more =
            let here : step s i ≡ Err e = g ∙ q in
            record { before = []; line = i; after = is; draft = s; split = refl; stand = refl; refused = here; carried = (carries s i).at e here }
        by (Ok t) g q more =
            let m = more t q in
            record {
              before = i ∷ m.before;
              line = m.line;
              after = m.after;
              draft = m.draft;
              split = ap (λ (l : List (Result TextLine BadByte)). i ∷ l) m.split;
              stand = rw g m.stand;
              refused = m.refused;
              carried = m.carried;
            }
