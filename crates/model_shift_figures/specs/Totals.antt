-- How often a code is had, and how many shifts a group has.
use Rattle.std.specs.Prelude.{ℕ, ◌+◌, Bool, List, [], ◌∷◌, count_by, nat_eq}
use Rattle.model_rosters.specs.declared.instance.Shift.{Shift}

abbrev pub is_byte : ℕ → ℕ → Bool
is_byte byte letter = nat_eq letter byte

-- a sum to which the periods with a code are added
abbrev pub code_total : ℕ → List Shift → ℕ → ℕ
code_total byte [] sum = sum
code_total byte (s ∷ ss) sum = code_total byte ss (sum + count_by (is_byte byte) s.word)

abbrev pub is_of_group : ℕ → Shift → Bool
is_of_group group s = nat_eq s.group group

-- how many of the shifts are of a group
abbrev pub group_count : ℕ → List Shift → ℕ
group_count group shifts = count_by (is_of_group group) shifts
