-- Which texts may be stored over.
use Rattle.std.specs.Prelude.{ℕ, Bool, true, ◌||◌, ◌==◌, List, Option, None, Some, codes, length, nat_eq}
use Rattle.std.specs.FinMap as fin
use Rattle.std.specs.List.{starts_with}
use Rattle.command_shelf.specs.Shelf.{Texts}

-- an empty text, or one that begins with a first line `proof 1` or `proof 2`, which a line feed or a carriage
-- return ends
abbrev pub is_replaceable : List ℕ → Bool
is_replaceable text = (length text == 0)
    || starts_with nat_eq text (codes "proof 1\n") || starts_with nat_eq text (codes "proof 1\r")
    || starts_with nat_eq text (codes "proof 2\n") || starts_with nat_eq text (codes "proof 2\r")

-- whether a name that holds this may be stored under
abbrev pub may_replace : Option (List ℕ) → Bool
may_replace None = true
may_replace (Some text) = is_replaceable text

-- whether a text may be stored under the name: it is free, or what it holds may be stored over
abbrev pub may_store : Texts → List ℕ → Bool
may_store held name = may_replace (fin.get held name)
