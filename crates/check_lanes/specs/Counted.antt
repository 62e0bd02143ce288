-- Counting, place by place, the words that have a byte.
use Rattle.std.specs.Prelude.{ℕ, ◌+◌, List, cond, nat_eq}
use Rattle.std.specs.Simd.Lanes.{zip2}

-- 1 where the letter is the byte
abbrev pub matched : ℕ → ℕ → ℕ
matched byte letter = cond (nat_eq letter byte) 1 0

-- the counts, each raised by 1 where the word has the byte
abbrev pub counted : List ℕ → List ℕ → ℕ → List ℕ
counted counts word byte = zip2 (λ n letter. n + matched byte letter) counts word
