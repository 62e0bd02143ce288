-- The first bytes of a text.
use Rattle.std.proofs.Common.{◌≡◌, ◌≤◌, ◌+◌, ℕ, List, length, take, sym, arith}
use Rattle.std.proofs.lemmas.List.{take_all}
use Rattle.command_shelf.specs.Shelf.{front_to}

pub front_whole : (most : ℕ) (text : List ℕ) → length text ≤ most → text ≡ front_to most text
front_whole most text few = sym (take_all (most + 1) text (omega (arith, few)))
