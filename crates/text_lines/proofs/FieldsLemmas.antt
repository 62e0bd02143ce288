-- Numbers that were read lie in their range, and a written number is read again.
use Rattle.std.proofs.Common.{◌≡◌, ℕ, ◌<◌, ◌≤◌, ◌^◌, Bool, ◌||◌, List, length, Some, Result, Ok, Err, refl, arith, ltb}
use Rattle.std.specs.Prelude.{position}
use Rattle.std.specs.List.{position_or_len}
use Rattle.std.specs.Fmt.{decimal}
use Rattle.std.proofs.lemmas.Bool.{or_parts, le-ltb, lt-ltb}
use Rattle.text_lines.specs.declared.number.NumberFault.{NumberFault}
use Rattle.text_lines.specs.declared.number.NumberFault.TheVariants.{Form, Wide}
use Rattle.text_lines.specs.Numbers.{natural_of}
use Rattle.text_lines.specs.Fields.{in_range, number_at}
use Rattle.text_lines.proofs.NumbersLemmas.{natural_again}
use Rattle.text_lines.proofs.ListLemmas.{at_least}
use Rattle.text_lines.proofs.StepsLemmas.{passed, same_ok}

pub number_within : {E : Type 0} (none outside : E) (low high n : ℕ) (w : List ℕ) → number_at none outside low high w ≡ Ok n → (low ≤ n) × (n ≤ high)
unfolding number_at
number_within {E} none outside low high n w e = by (natural_of w) e
  where
    by : (r : Result ℕ NumberFault) → in_range none outside low high r ≡ Ok n → (low ≤ n) × (n ≤ high)
    by (Err Form) q = absurd cc
    by (Err Wide) q = absurd cc
    by (Ok m) q =
        let a = passed (ltb m low || ltb high m) _ _ _ q in
        let b = or_parts (ltb m low) (ltb high m) a.0 in
        let same : m ≡ n = same_ok {E = E} m n a.1 in
        let ge : low ≤ m = at_least m low b.0 in
        let le : m ≤ high = at_least high m b.1 in
        (omega arith, omega arith)

pub number_at_again : {E : Type 0} (none outside : E) (low high n : ℕ) → low ≤ n → n ≤ high → high < 2 ^ 127 → number_at none outside low high (decimal n) ≡ Ok n
unfolding number_at
number_at_again none outside low high n le ge small = rw (natural_again n (omega arith), le-ltb n low le, le-ltb high n ge) refl

pub position_at : {X : Type 0} (p : X → Bool) (xs : List X) (c : ℕ) → position_or_len p xs ≡ c → c < length xs → position p xs ≡ Some c
position_at p xs c e lt = rw (e, lt-ltb c (length xs) lt) refl
