-- Whose name stands in the lines of the table of shifts, and which lines a shift has.
use Rattle.std.proofs.Common.{◌≡◌, ℕ, ◌<◌, List, [], ◌∷◌, Bool, true, false, Option, length, map, refl, sym, ap, subst}
use Rattle.std.proofs.lemmas.Bool.{lt-ltb}
use Rattle.std.specs.List.{flat_map}
use Rattle.std.specs.Prelude.{None, Some, if◌then◌else◌, nat_lt, slice_get}
use Rattle.model_rosters.proofs.EachLemmas.{Each-append}
use Rattle.model_rosters.specs.Folds.{Each}
use Rattle.model_rosters.specs.declared.instance.Instance.{Instance}
use Rattle.model_rosters.specs.declared.instance.Shift.{Shift}
use Rattle.page_labels.specs.declared.labels.Labels.{Labels}
use Rattle.page_tables.specs.declared.line.ShiftLine.{ShiftLine}
use Rattle.model_shift_figures.specs.Order.{drawn_order}
use Rattle.model_shift_figures.specs.declared.stretch.Stretch.{Stretch}
use Rattle.page_rosters.specs.Moments.{begin_text, end_text}
use Rattle.page_rosters.specs.ShiftLaws.{AreItsStretches, HasItsName, IsOfShift, firsts}
use Rattle.page_rosters.specs.ShiftLines.{line_at, line_of, lines_by, lines_of, marked_bytes, parts_of, shift_lines, spans_of}

module _ (i : Instance) (d : Labels) (marked : List ℕ) where
  parts_named : (k : ℕ) (s : Shift) (first : Bool) (ts : List Stretch) → Each (HasItsName d) (parts_of i d marked k s first ts)
  parts_named k s first [] = tt
  parts_named k s first (t ∷ ts) = (record { who = refl }, parts_named k s false ts)

  named_if : (b : Bool) (k : ℕ) (s : Shift) (ts : List Stretch) → Each (HasItsName d) (if b then parts_of i d marked k s true ts else line_of i d marked k s ∷ [])
  named_if true k s ts = parts_named k s true ts
  named_if false k s ts = (record { who = refl }, tt)

  named_by : (k : ℕ) (s : Shift) (ts : List Stretch) → Each (HasItsName d) (lines_by i d marked k s ts)
  unfolding lines_by
  named_by k s ts = named_if (nat_lt 0 (length ts)) k s ts

  named_in : (shifts : List Shift) (k : ℕ) (o : Option Shift) → Each (HasItsName d) (elim o [ None ↦ [] | Some s ↦ shift_lines i d marked k s ])
  named_in shifts k None = tt
  named_in shifts k (Some s) = named_by k s (spans_of d.off s.word)

  named_at : (shifts : List Shift) (places : List ℕ) → Each (HasItsName d) (flat_map (line_at i d marked shifts) places)
  named_at shifts [] = tt
  named_at shifts (k ∷ ks) =
      Each-append (HasItsName d) (line_at i d marked shifts k) (flat_map (line_at i d marked shifts) ks) (named_in shifts k (slice_get shifts k)) (named_at shifts ks)

  parts_of_shift : (k : ℕ) (s : Shift) (first : Bool) (ts : List Stretch) → Each (IsOfShift k) (parts_of i d marked k s first ts)
  parts_of_shift k s first [] = tt
  parts_of_shift k s first (t ∷ ts) = (record { number = refl }, parts_of_shift k s false ts)

  begins_of : (k : ℕ) (s : Shift) (first : Bool) (ts : List Stretch) → map (λ (l : ShiftLine). l.begin) (parts_of i d marked k s first ts) ≡ map (λ (t : Stretch). begin_text d.clock t.first) ts
  begins_of k s first [] = refl
  begins_of k s first (t ∷ ts) = ap (λ (xs : List (List ℕ)). begin_text d.clock t.first ∷ xs) (begins_of k s false ts)

  ends_of : (k : ℕ) (s : Shift) (first : Bool) (ts : List Stretch) → map (λ (l : ShiftLine). l.end) (parts_of i d marked k s first ts) ≡ map (λ (t : Stretch). end_text d.clock t.last) ts
  ends_of k s first [] = refl
  ends_of k s first (t ∷ ts) = ap (λ (xs : List (List ℕ)). end_text d.clock t.last ∷ xs) (ends_of k s false ts)

  firsts_of : (k : ℕ) (s : Shift) (first : Bool) (ts : List Stretch) → map (λ (l : ShiftLine). l.first) (parts_of i d marked k s first ts) ≡ firsts first ts
  firsts_of k s first [] = refl
  firsts_of k s first (t ∷ ts) = ap (λ (xs : List Bool). first ∷ xs) (firsts_of k s false ts)

  parts_stretches : (k : ℕ) (s : Shift) (ts : List Stretch) → AreItsStretches d k ts (parts_of i d marked k s true ts)
  parts_stretches k s ts = record {
    shift = parts_of_shift k s true ts;
    begins = begins_of k s true ts;
    ends = ends_of k s true ts;
    first = firsts_of k s true ts;
  }

  its_stretches : (k : ℕ) (s : Shift) (ts : List Stretch) → 0 < length ts → AreItsStretches d k ts (lines_by i d marked k s ts)
  unfolding lines_by
  its_stretches k s ts h =
      subst (λ (b : Bool). AreItsStretches d k ts (if b then parts_of i d marked k s true ts else line_of i d marked k s ∷ []))
      (sym (lt-ltb 0 (length ts) h)) (parts_stretches k s ts)

  pub stretch_lines_by : (k : ℕ) (s : Shift) → 0 < length (spans_of d.off s.word) → AreItsStretches d k (spans_of d.off s.word) (shift_lines i d marked k s)
  stretch_lines_by k s h = its_stretches k s (spans_of d.off s.word) h

pub named_lines : (i : Instance) (d : Labels) (shifts : List Shift) → Each (HasItsName d) (lines_of i d shifts)
named_lines i d shifts = named_at i d (marked_bytes i.grammar.codes d.paid) shifts (drawn_order i.grammar.codes shifts)

pub stretch_lines : (i : Instance) (d : Labels) (marked : List ℕ) (k : ℕ) (s : Shift) → 0 < length (spans_of d.off s.word)
    → AreItsStretches d k (spans_of d.off s.word) (shift_lines i d marked k s)
stretch_lines i d marked k s h = stretch_lines_by i d marked k s h
