-- Columns that are listed row by row, and the letters of a word.
use Rattle.std.proofs.Common.{◌≡◌, ◌≢◌, ℕ, ℤ, zero, suc, arith, pos, ◌+◌, ◌-◌, ◌<◌, ◌≤◌, ◌⊎◌, inl, inr, Bool, true, false, cond, Option, Some, None, List, [], ◌∷◌, ◌++◌, length, get_or, sym, ap, ◌∙◌, refl, append-nil}
use Rattle.std.specs.Prelude.{nat_eq, ◌&&◌, slice_get}
use Rattle.std.proofs.lemmas.Bool.Decides.{eqb_tells}
use Rattle.std.proofs.lemmas.Option.{slice_get-get_or, slice_get_past}
use Rattle.model_rosters.specs.Folds.{Each, count}
use Rattle.model_rosters.proofs.EachLemmas.{Each-weaker, Each-append}
use Rattle.lp_fractions.specs.declared.pivot_rows.column.Place.{Place}
use Rattle.lp_fractions.specs.pivot_rows.Columns.{IsColumn, AreRising, AreWithin, number_in}
use Rattle.tree_pool.specs.Pools.{letters_from}
use Rattle.lp_master_rows.specs.declared.entries.Entries.{Entries}
use Rattle.lp_master_rows.specs.declared.rows.CellLetter.{CellLetter}
use Rattle.lp_master_rows.specs.NodeRows.{is_letter}
use Rattle.lp_master_rows.specs.Entries.{with_entry, AreListed}

-- ---- the letter of a cell in a word
apart : (b : Bool) (x k : ℕ) → x ≢ k → ◌≡◌ {A = ℕ} (cond (b && nat_eq x k) 1 0) 0
apart b x k n = elim (eqb_tells x k) [
  | inl p ↦ absurd (n p.1)
  | inr p ↦ rw p.0 (by b)
]
  where
    by : (b : Bool) → ◌≡◌ {A = ℕ} (cond (b && false) 1 0) 0
    by true = refl
    by false = refl

here : (b : Bool) (x k : ℕ) → x ≡ k → ◌≡◌ {A = ℕ} (cond (b && nat_eq x k) 1 0) (cond b 1 0)
here b x k e = elim (eqb_tells x k) [
  | inl p ↦ rw p.0 (by b)
  | inr p ↦ absurd (p.1 e)
]
  where
    by : (b : Bool) → ◌≡◌ {A = ℕ} (cond (b && true) 1 0) (cond b 1 0)
    by true = refl
    by false = refl

pub none_before : (l : CellLetter) (k : ℕ) (codes : List ℕ) → l.period < k → count (is_letter l) (letters_from k codes) ≡ 0
none_before l k [] h = refl
none_before l k (c ∷ cs) h = omega (arith, apart (nat_eq l.code c) l.period k (λ e. omega (arith, e)), none_before l (suc k) cs (omega arith))

-- the code at a place is this one
abbrev pub is_code : ℕ → Option ℕ → Bool
is_code c None = false
is_code c (Some d) = nat_eq c d

pub letter_at : (l : CellLetter) (j k : ℕ) (codes : List ℕ) → l.period ≡ k + j → count (is_letter l) (letters_from k codes) ≡ cond (is_code l.code (slice_get codes j)) 1 0
letter_at l zero k [] e = refl
letter_at l (suc j) k [] e = refl
letter_at l zero k (c ∷ cs) e = omega (arith, here (nat_eq l.code c) l.period k (omega arith), none_before l (suc k) cs (omega arith))
letter_at l (suc j) k (c ∷ cs) e = omega (arith, apart (nat_eq l.code c) l.period k (λ q. omega (arith, q)), letter_at l j (suc k) cs (omega arith))

-- ---- one place more
other : (ps : List Place) (p : Place) (r : ℕ) → p.row ≢ r → number_in (ps ++ p ∷ []) r ≡ number_in ps r
other [] p r ne = elim (eqb_tells p.row r) [
  | inl q ↦ absurd (ne q.1)
  | inr q ↦ rw q.0 refl
]
other (q ∷ ps) p r ne = ap (λ (z : ℤ). cond (nat_eq q.row r) q.value z) (other ps p r ne)

own : (ps : List Place) (p : Place) → Each (λ (q : Place). q.row < p.row) ps → number_in (ps ++ p ∷ []) p.row ≡ p.value
own [] p h = elim (eqb_tells p.row p.row) [
  | inl q ↦ rw q.0 refl
  | inr q ↦ absurd (q.1 refl)
]
own (q ∷ ps) p h = elim (eqb_tells q.row p.row) [
  | inl e ↦ let l = h.0 in absurd (omega (arith, e.1))
  | inr e ↦ rw e.0 (own ps p h.1)
]

absent : (ps : List Place) (n : ℕ) → AreWithin n ps → number_in ps n ≡ pos 0
absent [] n h = refl
absent (q ∷ ps) n h = elim (eqb_tells q.row n) [
  | inl e ↦ let l = h.0 in absurd (omega (arith, e.1))
  | inr e ↦ rw e.0 (absent ps n h.1)
]

rising_more : (ps : List Place) (p : Place) → AreRising ps → Each (λ (q : Place). q.row < p.row) ps → AreRising (ps ++ p ∷ [])
rising_more [] p h l = (tt, tt)
rising_more (q ∷ ps) p h l = (Each-append (λ (s : Place). q.row < s.row) ps (p ∷ []) h.0 (l.0, tt), rising_more ps p h.1 l.1)

more_within : (n : ℕ) (ps : List Place) → AreWithin n ps → AreWithin (n + 1) ps
more_within n ps h = Each-weaker (λ (p : Place). p.row < n) (λ (p : Place). p.row < n + 1) ps (λ (p : Place) l. omega (arith, l)) h

below_or : (r n : ℕ) → r < n + 1 → (r < n) ⊎ (r ≡ n)
below_or r n h = grind arith

pub column_0 : (entry : ℕ → ℤ) → IsColumn 0 entry []
column_0 entry = record { within = tt; rising = tt; numbers = λ r l. absurd (omega arith) }

column_same : (n : ℕ) (entry : ℕ → ℤ) (ps : List Place) → IsColumn n entry ps → entry n ≡ pos 0 → IsColumn (n + 1) entry ps
column_same n entry ps h e = record {
  within = more_within n ps h.within;
  rising = h.rising;
  numbers = λ r l. elim (below_or r n l) [
    | inl b ↦ h.numbers r b
    | inr b ↦ rw b (e ∙ sym (absent ps n h.within))
  ];
}

column_more : (n : ℕ) (entry : ℕ → ℤ) (ps : List Place) → IsColumn n entry ps → entry n ≡ pos 1 → IsColumn (n + 1) entry (ps ++ record { row = n; value = pos 1 } ∷ [])
column_more n entry ps h e =
    let p : Place = record { row = n; value = pos 1 } in
    record {
      within = Each-append (λ (q : Place). q.row < n + 1) ps (p ∷ []) (more_within n ps h.within) (omega arith, tt);
      rising = rising_more ps p h.rising h.within;
      numbers = λ r l. elim (below_or r n l) [
        | inl b ↦ h.numbers r b ∙ sym (other ps p r (λ q. absurd (omega (arith, b, q))))
        | inr b ↦ rw b (e ∙ sym (own ps p h.within))
      ];
    }

pub listed_0 : (entry : ℕ → ℤ) → AreListed 0 entry (record { places = []; rows = 0 })
listed_0 entry = record { rows = refl; column = column_0 entry }

pub listed_step : (n : ℕ) (entry : ℕ → ℤ) (e : Entries) (b : Bool) → n < 1500 → AreListed n entry e → entry n ≡ pos (cond b 1 0) → AreListed (n + 1) entry (with_entry e b)
listed_step n entry e true l h q = record { rows = omega (arith, h.rows); column = rw h.rows (column_more n entry e.places h.column q) }
listed_step n entry e false l h q = record { rows = omega (arith, h.rows); column = rw (append-nil e.places) (column_same n entry e.places h.column q) }

pub letter_some : (l : CellLetter) (codes : List ℕ) (d : ℕ) → (l.period ≡ 0 → ⊥) → l.period - 1 < length codes → d ≡ get_or codes (l.period - 1) d
    → count (is_letter l) (letters_from 1 codes) ≡ cond (nat_eq l.code d) 1 0
letter_some l codes d some lt is =
    let at : slice_get codes (l.period - 1) ≡ Some d = slice_get-get_or codes (l.period - 1) d lt ∙ ap (λ (x : ℕ). Some x) (sym is) in
    letter_at l (l.period - 1) 1 codes (omega arith) ∙ ap (λ (o : Option ℕ). cond (is_code l.code o) 1 0) at

pub letter_none : (l : CellLetter) (codes : List ℕ) → (l.period ≡ 0 → ⊥) → length codes ≤ l.period - 1 → count (is_letter l) (letters_from 1 codes) ≡ 0
letter_none l codes some le = letter_at l (l.period - 1) 1 codes (omega arith) ∙ ap (λ (o : Option ℕ). cond (is_code l.code o) 1 0) (slice_get_past codes (l.period - 1) le)
