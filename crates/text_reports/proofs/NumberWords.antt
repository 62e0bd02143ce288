-- The words of numbers in a report.
use Rattle.std.proofs.Common.{◌≡◌, ℕ, ◌^◌, ◌<◌, ◌≤◌, true, false, Bool, List, Result, Ok, Err, Some, None, refl, sym, ap, ◌∙◌, arith, leb, cond}
use Rattle.std.specs.Fmt.{decimal}
use Rattle.std.proofs.lemmas.Bool.{leb-true, le-leb}
use Rattle.text_lines.specs.declared.number.NumberFault.{NumberFault}
use Rattle.text_lines.specs.Numbers.{natural_of}
use Rattle.text_lines.proofs.NumbersLemmas.{natural_again}
use Rattle.text_certificates.proofs.NumberWords.{natural_is}
use Rattle.text_reports.specs.LineWords.{at_most, number_word}

-- a word that says a number that is no greater than this
pub number_is : (most : ℕ) (w : List ℕ) (n : ℕ) → number_word most w ≡ Some n → (n ≤ most) × (decimal n ≡ w)
unfolding number_word
number_is most w n h = by (natural_of w) refl h
  where
    by : (r : Result ℕ NumberFault) → natural_of w ≡ r → at_most most r ≡ Some n → (n ≤ most) × (decimal n ≡ w)
    by (Err e) at k = absurd cc
    by (Ok m) at k = fits (leb m most) refl k
      where
        fits : (t : Bool) → leb m most ≡ t → cond t (Some m) None ≡ Some n → (n ≤ most) × (decimal n ≡ w)
        fits false e q = absurd cc
        fits true e q =
            let same : m ≡ n = cc in
            let le = leb-true m most e in
            (omega (arith, le, same), ap decimal (sym same) ∙ natural_is w m at)

pub number_whole : (most n : ℕ) → n ≤ most → most < 2 ^ 127 → number_word most (decimal n) ≡ Some n
unfolding number_word
number_whole most n le small = rw (natural_again n (omega (arith, le, small)), le-leb n most le) refl
