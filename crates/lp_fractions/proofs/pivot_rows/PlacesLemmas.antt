-- The places of the numbers that are not 0, one more at a time.
use Rattle.std.proofs.Common.{◌≡◌, ℕ, ℤ, pos, ◌+◌, ◌<◌, arith, List, [], ◌∷◌, ◌++◌, length, get_or, refl, sym, ap, ◌∙◌, inl, inr, ◌⊎◌}
use Rattle.std.proofs.lemmas.List.{length_push, get_or_push}
use Rattle.std.proofs.Math.ListN.{get_or-append}
use Rattle.lp_fractions.specs.Row.{at}
use Rattle.lp_fractions.specs.pivot_rows.Places.{AreListed}

pub listed_none : (numbers : List ℤ) → AreListed numbers 0 []
listed_none numbers = record {
  within = λ i h. absurd (omega arith);
  rising = λ i j l h. absurd (omega arith);
  counted = λ i h. absurd (omega arith);
  complete = λ k h. absurd (omega arith);
}

-- the last index, or one before it
last_or_before : (n k : ℕ) → k < n + 1 → (k < n) ⊎ (k ≡ n)
last_or_before n k h = grind arith

pub listed_skip : (numbers : List ℤ) (n : ℕ) (ps : List ℕ) → AreListed numbers n ps → at numbers n ≡ pos 0 → AreListed numbers (n + 1) ps
listed_skip numbers n ps x e = record {
  within = λ i h. let l = x.within i h in omega arith;
  rising = x.rising;
  counted = x.counted;
  complete = λ k h no. elim (last_or_before n k h) [
    | inl l ↦ x.complete k l no
    | inr s ↦ absurd (no (ap (at numbers) s ∙ e))
  ];
}

pub listed_more : (numbers : List ℤ) (n : ℕ) (ps : List ℕ) → AreListed numbers n ps → (at numbers n ≡ pos 0 → ⊥) → AreListed numbers (n + 1) (ps ++ n ∷ [])
listed_more numbers n ps x e = record {
  within = λ i h. elim (last_or_before (length ps) i (long i h)) [
    | inl l ↦ let w = x.within i l in let s = before i l in omega arith
    | inr s ↦ let t = end i s in omega arith
  ];
  rising = λ i j l h. elim (last_or_before (length ps) j (long j h)) [
    | inl m ↦ rw (before i (omega arith), before j m) (x.rising i j l m)
    | inr s ↦ rw (before i (omega arith), end j s) (x.within i (omega arith))
  ];
  counted = λ i h. elim (last_or_before (length ps) i (long i h)) [
    | inl l ↦ rw (before i l) (x.counted i l)
    | inr s ↦ rw (end i s) e
  ];
  complete = λ k h no. elim (last_or_before n k h) [
    | inl l ↦ let found = x.complete k l no in (found.0, omega (arith, length_push ps n, found.1), before found.0 found.1 ∙ found.2)
    | inr s ↦ (length ps, omega (arith, length_push ps n), end (length ps) refl ∙ sym s)
  ];
}
  where
    long : (i : ℕ) → i < length (ps ++ n ∷ []) → i < length ps + 1
    long i h = omega (arith, length_push ps n)

    before : (i : ℕ) → i < length ps → get_or (ps ++ n ∷ []) i 0 ≡ get_or ps i 0
    before i l = get_or-append ps (n ∷ []) 0 i l

    end : (i : ℕ) → i ≡ length ps → get_or (ps ++ n ∷ []) i 0 ≡ n
    end i s = get_or_push ps n 0 i (sym s)
