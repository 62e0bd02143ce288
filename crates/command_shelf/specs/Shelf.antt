use Rattle.std.specs.Prelude.{◌≡◌, ◌≢◌, ◌≤◌, ◌+◌, ◌-◌, ◌^◌, ℕ, min, Bool, List, ◌++◌, take, Option, Some, Result, Ok, Err, map, String, Vec, string_bytes}
use Rattle.std.specs.Coded.{Coded, coded_ℕ, coded_list}
use Rattle.std.specs.Global.{Global}
use Rattle.std.specs.Ordering.{nat_cmp}
use Rattle.std.specs.Cmp.Lexicographic.{slice_cmp}
use Rattle.std.specs.BTreeMap.{BTreeMap}
use Rattle.std.specs.FinMap as fin
use Rattle.command_shelf.specs.declared.fault.ShelfFault.{ShelfFault}
use Rattle.command_shelf.specs.declared.fault.ShelfFault.TheVariants.{Failed, Memory}

-- the bytes under each name
abbrev pub Texts : Type 0
Texts = fin.FinMap (slice_cmp nat_cmp) (List ℕ)

-- texts are told apart by their entries
abbrev pub texts_code : Coded Texts
texts_code = fin.code (coded_list coded_ℕ) (coded_list coded_ℕ)

-- What a shelf tells of itself at one moment: the bytes under each name and all bytes that were said,
-- where it tells them; how often the outside refused a call; and whether it is steady, so that no
-- further call fails but the fetch of an absent name and the store over a text that is no certificate.
pub record Told : Type 0 where
  pub held : Option Texts
  pub said : Option (List ℕ)
  pub faults : ℕ
  pub steady : Bool

-- the last value of a count of faults
abbrev pub most_faults : ℕ
most_faults = 2 ^ 64 - 1

-- the name and the bytes of an entry
abbrev pub entry_of : String Global × Vec ℕ Global → List ℕ × List ℕ
entry_of e = (string_bytes e.0, e.1.items)

-- the bytes under each name of a map of the program
abbrev pub texts_of : BTreeMap (String Global) (Vec ℕ Global) → Texts
texts_of m = fin.from_entries (map entry_of m.entries)

-- a count of 64 bits after one more, which stops at its last value
abbrev pub one_more : ℕ → ℕ
one_more n = min (n + 1) (2 ^ 64 - 1)

-- the count of faults never falls, and a call that failed raised it or found it at its last value
pub record HasCause (before now : ℕ) (result : Result (Unit {0}) ShelfFault) : Type 0 where
  pub never_falls : before ≤ now
  pub failed : result ≡ Err Failed → one_more before ≤ now

-- the count of faults after a call with this answer
abbrev pub count_after : Result (Unit {0}) ShelfFault → ℕ → ℕ
count_after (Ok done) faults = faults
count_after (Err Failed) faults = one_more faults
count_after (Err Memory) faults = faults

-- The first bytes of a text, up to one above a limit: the text itself where it is no longer than the limit, and else
-- a front that is longer too.
abbrev pub front_to : ℕ → List ℕ → List ℕ
front_to most text = take (most + 1) text

-- the new bytes are the old ones, and then the first of those that stand under the name, up to one above a limit
abbrev pub Fetched : Texts → List ℕ → ℕ → List ℕ → List ℕ → Type 0
Fetched held name most old new =
    (bytes : List ℕ) × (fin.get held name ≡ Some bytes) × (new ≡ old ++ front_to most bytes)

-- the new bytes begin with the old ones
abbrev pub Begins : List ℕ → List ℕ → Type 0
Begins old new = (rest : List ℕ) × (new ≡ old ++ rest)

-- each other name holds what it held
abbrev pub AgreesElsewhere : List ℕ → Texts → Texts → Type 0
AgreesElsewhere name old new = (other : List ℕ) → other ≢ name → fin.get new other ≡ fin.get old other

-- what was said has grown by a front of the bytes
abbrev pub SaidPart : List ℕ → List ℕ → List ℕ → Type 0
SaidPart bytes old new = (part : List ℕ) × (rest : List ℕ) × (bytes ≡ part ++ rest) × (new ≡ old ++ part)
