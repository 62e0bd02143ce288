-- Numbers that are drawn, one after another, from a first number.
use Rattle.std.specs.Prelude.{ℕ, zero, suc, ◌+◌, ◌*◌, ◌/◌, ◌%◌, ◌^◌}

-- the state of 64 bits that follows a state
unfoldable pub next : ℕ → ℕ
next x = (x * 6364136223846793005 + 1442695040888963407) % 2 ^ 64

-- what a state answers to a draw below m: its higher bits, modulo m
unfoldable pub answer : ℕ → ℕ → ℕ
answer x m = x / 2 ^ 33 % m

-- the state after so many draws, where the number is the first state
abbrev pub after : ℕ → ℕ → ℕ
after number zero = number
after number (suc k) = next (after number k)

-- what the k-th draw answers, from 1, where it is one below m
abbrev pub draw : ℕ → ℕ → ℕ → ℕ
draw number k m = answer (after number k) m
