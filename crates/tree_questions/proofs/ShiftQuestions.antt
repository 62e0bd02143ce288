-- What is asked of shifts, in other words.
use Rattle.std.proofs.Common.{◌≡◌, ◌⊎◌, inl, inr, ℕ, suc, ◌+◌, ◌≤◌, ◌==◌, Bool, true, false, Option, None, Some, List, [], ◌∷◌, ◌++◌, length, length-append, add-one, eq-eqb, arith, refl, sym, ap, ◌∙◌}
use Rattle.std.specs.Prelude.{slice_get, ◌||◌}
use Rattle.std.proofs.lemmas.Bool.{eqb-true}
use Rattle.std.proofs.lemmas.Option.{same_Some}
use Rattle.model_rosters.specs.declared.grammar.CodeDef.{CodeDef}
use Rattle.model_rosters.specs.declared.grammar.Grammar.{Grammar}
use Rattle.model_rosters.specs.Shifts.{IsShift, IsPrice}
use Rattle.model_rosters.specs.Sound.{IsSound}
use Rattle.model_rosters.specs.Sums.{IsLeast, tree_sum}
use Rattle.model_rosters.specs.Trees.{IsDayTree}
use Rattle.model_rosters.proofs.word_prices.Costs.{shift-length}
use Rattle.tree_questions.specs.Prices.{at_period, takes, pattern_view}
use Rattle.tree_questions.specs.Shifts.{Begins, Fits, any_code, TakesFront, IsLeastPrice}
use Rattle.tree_questions.specs.Lines.{Line, AreLines}
use Rattle.tree_questions.specs.Codes.{SaysCode, AddsCodeLines}
use Rattle.tree_questions.specs.Fitting.{FitsWith}
use Rattle.tree_questions.specs.Laws.{TakesWith, IsSumOf}
use Rattle.tree_questions.proofs.LinesLemmas.{added-other, lines-none}
use Rattle.tree_questions.proofs.PatternLaws.{least-sums}

-- shifts that meet the same have the same least price
pub same-price : (g : Grammar) (P Q : List ℕ → Type 0) → ((w : List ℕ) → IsShift g g.start w → P w → Q w) → ((w : List ℕ) → IsShift g g.start w → Q w → P w)
    → (price : Option ℕ) → IsLeastPrice g P price → IsLeastPrice g Q price
same-price g P Q there back None h = λ w q shift. h w (back w shift q) shift
same-price g P Q there back (Some price) h = record {
  attained = (h.attained.0, there h.attained.0 (shift_of h.attained.0 price h.attained.2) h.attained.1, h.attained.2);
  least = λ w other q is. h.least w other (back w (shift_of w other is) q) is;
}
  where
    shift_of : (w : List ℕ) (price : ℕ) → IsPrice g g.start w price → IsShift g g.start w
    shift_of w price is = (is.attained.0, is.attained.1)

pub same-codes : (g : Grammar) (front : Line) (P Q : ℕ → List ℕ → Type 0) → ((b : ℕ) (w : List ℕ) → IsShift g g.start w → P b w → Q b w) → ((b : ℕ) (w : List ℕ) → IsShift g g.start w → Q b w → P b w)
    → (old new : List ℕ) → AddsCodeLines g front P old new → AddsCodeLines g front Q old new
same-codes g front P Q there back old new h =
    added-other (λ (k : ℕ) (d : CodeDef). SaysCode g front (P d.byte) d.byte) (λ (k : ℕ) (d : CodeDef). SaysCode g front (Q d.byte) d.byte)
    (λ j d own s. (s.0, same-price g (P d.byte) (Q d.byte) (there d.byte) (back d.byte) s.0 s.1, s.2)) 0 g.codes old new h

-- ---- prefixes

takes_begins : (xs w : List ℕ) (b : ℕ) → TakesFront None xs w → slice_get w (length xs) ≡ Some b → Begins (xs ++ b ∷ []) w
takes_begins [] [] b h e = cc
takes_begins [] (y ∷ ys) b h e = let same = same_Some y b e in (ys, cc same)
takes_begins (x ∷ xs) [] b h e = absurd h
takes_begins (x ∷ xs) (y ∷ ys) b h e =
    let same : x ≡ y = eqb-true x y h.0 in
    let rest = takes_begins xs ys b h.1 e in
    let tail = rest.1 in
    (rest.0, cc (same, tail))

begins_takes : (xs w : List ℕ) (b : ℕ) → Begins (xs ++ b ∷ []) w → TakesFront None xs w × (slice_get w (length xs) ≡ Some b)
begins_takes [] [] b k = let e = k.1 in let no : ◌≡◌ {A = List ℕ} [] (b ∷ k.0) = e in cc
begins_takes [] (y ∷ ys) b k = let e : ◌≡◌ {A = List ℕ} (y ∷ ys) (b ∷ k.0) = k.1 in (tt, ap (λ (n : ℕ). Some n) (head y b ys k.0 e))
  where
    head : (y b : ℕ) (ys bs : List ℕ) → y ∷ ys ≡ b ∷ bs → y ≡ b
    head y b ys bs e = cc
begins_takes (x ∷ xs) [] b k = let no : ◌≡◌ {A = List ℕ} [] (x ∷ ((xs ++ b ∷ []) ++ k.0)) = k.1 in cc
begins_takes (x ∷ xs) (y ∷ ys) b k =
    let e : ◌≡◌ {A = List ℕ} (y ∷ ys) (x ∷ ((xs ++ b ∷ []) ++ k.0)) = k.1 in
    let rest = begins_takes xs ys b (k.0, tail y x ys ((xs ++ b ∷ []) ++ k.0) e) in
    ((eq-eqb x y (head y x ys ((xs ++ b ∷ []) ++ k.0) e), rest.0), rest.1)
  where
    head : (y x : ℕ) (ys bs : List ℕ) → y ∷ ys ≡ x ∷ bs → x ≡ y
    head y x ys bs e = cc

    tail : (y x : ℕ) (ys bs : List ℕ) → y ∷ ys ≡ x ∷ bs → ys ≡ bs
    tail y x ys bs e = cc

pub next-codes : (g : Grammar) (front : Line) (prefix : List ℕ) (old new : List ℕ) → AddsCodeLines g front (TakesWith None prefix (length prefix + 1)) old new
    → AddsCodeLines g front (λ b. Begins (prefix ++ b ∷ [])) old new
next-codes g front prefix old new h = same-codes g front (TakesWith None prefix (length prefix + 1)) (λ b. Begins (prefix ++ b ∷ [])) there back old new h
  where
    one : length prefix + 1 ≡ suc (length prefix)
    one = add-one (length prefix)

    there : (b : ℕ) (w : List ℕ) → IsShift g g.start w → TakesWith None prefix (length prefix + 1) b w → Begins (prefix ++ b ∷ []) w
    there b w shift k = takes_begins prefix w b k.front (sym (ap (at_period w) one) ∙ k.there)

    back : (b : ℕ) (w : List ℕ) → IsShift g g.start w → Begins (prefix ++ b ∷ []) w → TakesWith None prefix (length prefix + 1) b w
    back b w shift k = let r = begins_takes prefix w b k in record { front = r.0; there = ap (at_period w) one ∙ r.1 }

-- no code follows a whole day
pub past-day : (g : Grammar) → IsSound g → (front : Line) (prefix : List ℕ) → g.periods ≤ length prefix
    → AreLines (λ (k : ℕ) (d : CodeDef). SaysCode g front (Begins (prefix ++ d.byte ∷ [])) d.byte) 0 g.codes []
past-day g sound front prefix long =
    lines-none (λ (k : ℕ) (d : CodeDef). SaysCode g front (Begins (prefix ++ d.byte ∷ [])) d.byte) (λ j d. (None, none d.byte, refl)) 0 g.codes
  where
    none : (b : ℕ) (w : List ℕ) → Begins (prefix ++ b ∷ []) w → IsShift g g.start w → ⊥
    none b w k shift =
        let size = shift-length g g.start w sound shift in
        let whole = ap length k.1 in
        let a = length-append (prefix ++ b ∷ []) k.0 in
        let c = length-append prefix (b ∷ []) in
        absurd (omega (arith, size, whole, a, c, long))

-- ---- patterns

takes_is : (x b : ℕ) → takes (Some any_code) (Some x) b ≡ true → (x ≡ any_code) ⊎ (x ≡ b)
takes_is x b e = by (x == any_code) (x == b) refl refl e
  where
    by : (s t : Bool) → (x == any_code) ≡ s → (x == b) ≡ t → (s || t) ≡ true → (x ≡ any_code) ⊎ (x ≡ b)
    by true t h k e = inl (eqb-true x any_code h)
    by false true h k e = inr (eqb-true x b k)
    by false false h k e = cc

is_takes : (x b : ℕ) → (x ≡ any_code) ⊎ (x ≡ b) → takes (Some any_code) (Some x) b ≡ true
is_takes x b (inl e) = let t = eq-eqb x any_code e in rw t refl
is_takes x b (inr e) = let t = eq-eqb x b e in rw t (either (x == any_code))
  where
    either : (s : Bool) → (s || true) ≡ true
    either true = refl
    either false = refl

pub takes-fits : (xs w : List ℕ) → length w ≡ length xs → TakesFront (Some any_code) xs w → Fits xs w
takes-fits [] [] e h = tt
takes-fits [] (b ∷ bs) e h = absurd (omega arith)
takes-fits (x ∷ xs) [] e h = absurd h
takes-fits (x ∷ xs) (b ∷ bs) e h = (takes_is x b h.0, takes-fits xs bs (omega (arith, e)) h.1)

pub fits-takes : (xs w : List ℕ) → Fits xs w → TakesFront (Some any_code) xs w
fits-takes [] [] h = tt
fits-takes [] (b ∷ bs) h = absurd h
fits-takes (x ∷ xs) [] h = absurd h
fits-takes (x ∷ xs) (b ∷ bs) h = (is_takes x b h.0, fits-takes xs bs h.1)

pub fits-long : (xs w : List ℕ) → Fits xs w → length w ≡ length xs
fits-long [] [] h = refl
fits-long [] (b ∷ bs) h = absurd h
fits-long (x ∷ xs) [] h = absurd h
fits-long (x ∷ xs) (b ∷ bs) h = let e = fits-long xs bs h.1 in omega (arith, e)

module _ (g : Grammar) (sound : IsSound g) (pattern : List ℕ) (long : length pattern ≡ g.periods) where
  fits_shift : (w : List ℕ) → IsShift g g.start w → TakesFront (Some any_code) pattern w → Fits pattern w
  fits_shift w shift h = takes-fits pattern w (shift-length g g.start w sound shift ∙ sym long) h

  pub fitting-codes : (front : Line) (i : ℕ) (old new : List ℕ) → AddsCodeLines g front (TakesWith (Some any_code) pattern i) old new → AddsCodeLines g front (FitsWith pattern i) old new
  fitting-codes front i old new h =
      same-codes g front (TakesWith (Some any_code) pattern i) (FitsWith pattern i)
      (λ b w shift k. record { fits = fits_shift w shift k.front; there = k.there })
      (λ b w shift k. record { front = fits-takes pattern w k.fits; there = k.there }) old new h

  pub least-fitting : (v : Option _) → IsLeast (IsDayTree g) (tree_sum (pattern_view g (Some any_code) pattern) 1) v → (price : Option ℕ) × IsSumOf v price × IsLeastPrice g (Fits pattern) price
  least-fitting v h =
      let r = least-sums g (Some any_code) pattern v sound (omega (arith, long)) h in
      (r.0, r.1, same-price g (TakesFront (Some any_code) pattern) (Fits pattern) fits_shift (λ w shift k. fits-takes pattern w k) r.0 r.2)

-- no shift fits a pattern of another length
pub other-length : (g : Grammar) → IsSound g → (pattern : List ℕ) → (length pattern ≡ g.periods → ⊥) → (w : List ℕ) → Fits pattern w → IsShift g g.start w → ⊥
other-length g sound pattern differs w h shift = differs (sym (fits-long pattern w h) ∙ shift-length g g.start w sound shift)
