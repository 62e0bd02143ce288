-- What the stretches of a word say of it.
use Rattle.std.specs.Prelude.{ℕ, zero, suc, ◌+◌, ◌-◌, Bool, not, List, [], ◌∷◌, ◌++◌, length, take, drop, nat_eq}
use Rattle.model_shift_figures.specs.declared.stretch.Stretch.{Stretch}

-- so many letters
abbrev pub letters : ℕ → ℕ → List ℕ
letters zero byte = []
letters (suc n) byte = byte ∷ letters n byte

-- the letters of a stretch
abbrev pub stretch_letters : List ℕ → Stretch → List ℕ
stretch_letters word t = take (t.last + 1 - t.first) (drop (t.first - 1) word)

-- stretches with their letters, from behind so many periods on, and time off before, between and behind them
abbrev pub pasted : List ℕ → ℕ → ℕ → List Stretch → List ℕ
pasted word off k [] = letters (length word - k) off
pasted word off k (t ∷ ts) = letters (t.first - 1 - k) off ++ (stretch_letters word t ++ pasted word off t.last ts)

-- a letter is not that of time off
abbrev pub is_on : ℕ → ℕ → Bool
is_on off byte = not (nat_eq off byte)
