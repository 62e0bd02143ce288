-- What a call of the program does to the shelf that it was lent.
use Rattle.std.specs.Prelude.{ℕ, ◌≡◌, ◌≢◌, ◌⊎◌, ◌<◌, ◌≤◌, IsTrue, List, ◌++◌, Option, Some, IfSome, IsSome, IsSomeAnd}
use Rattle.std.specs.FinMap as fin
use Rattle.command_shelf.specs.Shelf.{Texts, Told, one_more, most_faults}
use Rattle.command_shelf.specs.Stores.{may_store}
use Rattle.model_rosters.specs.Folds.{Each}

-- the text stands under the name, where the shelf tells what it holds
abbrev pub Holds : Option Texts → List ℕ → List ℕ → Type 0
Holds held name text = IfSome held (λ texts. fin.get texts name ≡ Some text)

-- some text stands under each of the names
abbrev pub HoldsAll : Option Texts → List (List ℕ) → Type 0
HoldsAll held names = IsSomeAnd held (λ texts. Each (λ name. IsSome (fin.get texts name)) names)

-- a text may be stored under the name, by what the shelf holds
abbrev pub MayStore : List ℕ → Option Texts → Type 0
MayStore name held = IsSomeAnd held (λ texts. IsTrue (may_store texts name))

-- all of the output was said, and nothing else
abbrev pub Said : Option (List ℕ) → Option (List ℕ) → List ℕ → Type 0
Said before after output = IfSome before (λ said. after ≡ Some (said ++ output))

-- a front of an output that some status allows was said, and nothing else
pub record SaidFront (Answers : ℕ → List ℕ → Type 0) (before after : List ℕ) : Type 0 where
  pub status : ℕ
  pub output : List ℕ
  pub answers : Answers status output
  pub front : List ℕ
  pub rest : List ℕ
  pub whole : output ≡ front ++ rest
  pub said : after ≡ before ++ front

-- nothing was said, or a front of an allowed output
abbrev pub SaidLittle : (ℕ → List ℕ → Type 0) → List ℕ → List ℕ → Type 0
SaidLittle Answers before after = (after ≡ before) ⊎ SaidFront Answers before after

-- What a command does that stores nothing. `Answers` says with which statuses it may end, and what
-- it says then; `names` are those of the texts that it fetches. Status 6 is a refusal of the shelf,
-- and 7 want of memory.
pub record IsReader (Answers : ℕ → List ℕ → Type 0) (names : List (List ℕ)) (before after : Told)
    (status : ℕ) : Type 0 where
  -- nothing is stored, whatever the status
  pub held : after.held ≡ before.held
  -- an answer is one of the allowed ones, and is said whole
  pub answer : status ≢ 6 → status ≢ 7 → (output : List ℕ) × Answers status output
      × Said before.said after.said output
  -- after a refusal no more than a front of an allowed answer was said
  pub front : IfSome before.said (λ said. IsSomeAnd after.said (SaidLittle Answers said))
  -- the shelf refuses only where it counts a fault, or its count stands at its last value
  pub never_falls : before.faults ≤ after.faults
  pub cause : status ≡ 6 → one_more before.faults ≤ after.faults
  -- a steady shelf that holds the texts refuses nothing
  pub steady : IsTrue before.steady → HoldsAll before.held names → before.faults < most_faults → status ≢ 6
