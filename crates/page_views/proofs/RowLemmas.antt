-- Rows and derivations, one after another.
use Rattle.std.proofs.Common.{◌≡◌, ℕ, suc, ◌+◌, ◌<◌, ◌≤◌, All, List, [], ◌∷◌, ◌++◌, length, length-append, map, take, get_or, arith, refl, sym, ap, ◌∙◌, append-nil, add-one}
use Rattle.std.proofs.lemmas.Grind.{flat_map-append}
use Rattle.std.proofs.lemmas.List.{map-append, take_more}
use Rattle.std.specs.List.{flat_map}
use Rattle.std.specs.Prelude.{None, Some, slice_get}
use Rattle.model_rosters.specs.declared.instance.Instance.{Instance}
use Rattle.model_rosters.specs.declared.instance.Shift.{Shift}
use Rattle.model_rosters.specs.Folds.{Each}
use Rattle.model_rosters.proofs.EachLemmas.{Each-weaker, each_all}
use Rattle.check_certificates.specs.Sound.{IsSoundShift}
use Rattle.page_parts.specs.Elements.{places}
use Rattle.page_text.specs.declared.row.Row.{Row}
use Rattle.page_labels.specs.declared.labels.Labels.{Labels}
use Rattle.page_views.specs.declared.compare.Comparison.{Comparison}
use Rattle.page_views.specs.Rows.{AreDerived, IsDerived, own_row, rows_at}

-- the rows behind so many shifts, where there is a shift and where there is none
pub row-there : (i : Instance) (d : Labels) (c : Comparison) (shifts : List Shift) (k : ℕ) (s : Shift) → slice_get shifts k ≡ Some s → own_row i d c shifts k s ≡ rows_at i d c shifts k
row-there i d c shifts k s e = rw (e, rows_at) refl

pub row-past : (i : Instance) (d : Labels) (c : Comparison) (shifts : List Shift) (k : ℕ) (rows : List Row) → slice_get shifts k ≡ None → rows ≡ rows ++ rows_at i d c shifts k
row-past i d c shifts k rows e = rw (e, rows_at) (sym (append-nil rows))

-- one more place
pub rows_more : (f : ℕ → List Row) (ks : List ℕ) (i : ℕ) (before after : List Row) → i < length ks → before ≡ flat_map f (take i ks) → after ≡ before ++ f (get_or ks i 0)
    → after ≡ flat_map f (take (i + 1) ks)
rows_more f ks i before after lt e h =
    let k = get_or ks i 0 in
    h ∙ ap (λ (t : List Row). t ++ f k) e ∙ ap (λ (t : List Row). flat_map f (take i ks) ++ t) (sym (append-nil (f k))) ∙ sym (flat_map-append f (take i ks) (k ∷ []))
    ∙ ap (λ (t : List ℕ). flat_map f t) (sym (take_more ks i 0 lt))

-- the words of sound shifts are short
pub short_words : (i : Instance) (shifts : List Shift) → Each (IsSoundShift i) shifts → All (λ (s : Shift). length s.word ≤ 96) shifts
short_words i shifts h =
    each_all (λ (s : Shift). length s.word ≤ 96) shifts (Each-weaker (IsSoundShift i) (λ (s : Shift). length s.word ≤ 96) shifts (λ s q. q.short) h)

-- one more text
pub count_more : (before after : List (List ℕ)) (text : List ℕ) (k : ℕ) → length before ≡ k → after ≡ before ++ text ∷ [] → length after ≡ k + 1
count_more before after text k h e = rw e (omega (arith, h, length-append before (text ∷ [])))

module _ (i : Instance) where
  push : (rows : List Row) (texts : List (List ℕ)) (row : Row) (text : List ℕ) → AreDerived i rows texts → IsDerived i row text → AreDerived i (rows ++ row ∷ []) (texts ++ text ∷ [])
  push [] [] row text h d = (d, tt)
  push [] (t ∷ ts) row text h d = absurd h
  push (r ∷ rs) [] row text h d = absurd h
  push (r ∷ rs) (t ∷ ts) row text h d = (h.0, push rs ts row text h.1 d)

  -- one more row
  pub derived_more : (rows : List Row) (k : ℕ) (none : Row) (before after : List (List ℕ)) (text : List ℕ) → k < length rows → AreDerived i (take k rows) before → IsDerived i (get_or rows k none) text
      → after ≡ before ++ text ∷ [] → AreDerived i (take (k + 1) rows) after
  derived_more rows k none before after text lt h d e =
      let pushed = push (take k rows) before (get_or rows k none) text h d in
      rw (e, take_more rows k none lt) pushed

  -- there is a text for each row
  pub as_many : (rows : List Row) (texts : List (List ℕ)) → AreDerived i rows texts → length texts ≡ length rows
  as_many [] [] h = refl
  as_many [] (t ∷ ts) h = absurd h
  as_many (r ∷ rs) [] h = absurd h
  as_many (r ∷ rs) (t ∷ ts) h = ap suc (as_many rs ts h.1)

-- one more text, by its place
pub words_more : (f : ℕ → List ℕ) (n : ℕ) (before after : List (List ℕ)) → before ≡ map f (places n) → after ≡ before ++ f n ∷ [] → after ≡ map f (places (n + 1))
words_more f n before after e h =
    rw (add-one n) (h ∙ ap (λ (t : List (List ℕ)). t ++ f n ∷ []) e ∙ sym (map-append f (places n) (n ∷ [])))
