-- A sum under free prices, as a flag: 0, or none.
use Rattle.std.specs.Prelude.{ℤ, pos, ◌≡◌, Bool, cond, Option, None, Some, IfSome}

-- the sum that a flag stands for: 0, or none
abbrev pub free_sum : Bool → Option ℤ
free_sum b = cond b (Some (pos 0)) None

-- a sum that is 0 where it is there
abbrev pub IsFree : Option ℤ → Type 0
IsFree v = IfSome v (λ z. z ≡ pos 0)
