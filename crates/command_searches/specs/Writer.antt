-- Parts of a command that stores one text and then says one answer.
use Rattle.std.specs.Prelude.{ℕ, ◌≡◌, ◌≢◌, ◌⊎◌, ◌<◌, ◌≤◌, false, IsTrue, List, ◌++◌, Option, None, Some, Result, Ok, Err, IfSome, IsSomeAnd}
use Rattle.std.specs.FinMap as fin
use Rattle.model_rosters.specs.declared.memory.Memory.{Memory}
use Rattle.command_shelf.specs.Shelf.{Texts, Told, AgreesElsewhere, one_more, most_faults}
use Rattle.command_shelf.specs.Stores.{may_store}
use Rattle.command_answers.specs.declared.answer.Answer.{Answer}
use Rattle.command_answers.specs.Reader.{HoldsAll, MayStore, Said}

-- answers by status, by what is said and by what is stored before, if anything is
abbrev pub Answers : Type 1
Answers = ℕ → List ℕ → Option (List ℕ) → Type 0

-- each text that may not be stored over stands
abbrev pub Keeps : Option Texts → Option Texts → Type 0
Keeps before after = IfSome before (λ old. IsSomeAnd after (λ new. (name : List ℕ)
    → may_store old name ≡ false → fin.get new name ≡ fin.get old name))

-- nothing was stored, or this text under the name and nothing else
abbrev pub IsStored : Option Texts → Option Texts → List ℕ → Option (List ℕ) → Type 0
IsStored before after name None = after ≡ before
IsStored before after name (Some text) = IfSome before (λ texts. after ≡ Some (fin.insert texts name text))

-- the shelf refused to store what goes with an output: the command ends with status 6, and all is held as before
pub record IsUnstored (before after : Option Texts) (ended : ℕ) : Type 0 where
  pub six : ended ≡ 6
  pub same : after ≡ before

-- a front of an output that some status allows was said, and what goes with it is stored, or the shelf refused to
-- store it; nothing else is stored
pub record WroteFront (A : Answers) (name : List ℕ) (ended : ℕ) (before after : Told) (old new : List ℕ)
    : Type 0 where
  pub status : ℕ
  pub output : List ℕ
  pub stored : Option (List ℕ)
  pub answers : A status output stored
  pub front : List ℕ
  pub rest : List ℕ
  pub whole : output ≡ front ++ rest
  pub said : new ≡ old ++ front
  pub held : IsStored before.held after.held name stored ⊎ IsUnstored before.held after.held ended

-- what goes with an output that some status allows is stored, and nothing else
pub record StoredAllowed (A : Answers) (name : List ℕ) (before after : Option Texts) : Type 0 where
  pub status : ℕ
  pub output : List ℕ
  pub stored : Option (List ℕ)
  pub answers : A status output stored
  pub held : IsStored before after name stored

-- nothing was said, or a front of an allowed output
abbrev pub WroteLittle : Answers → List ℕ → ℕ → Told → Told → List ℕ → List ℕ → Type 0
WroteLittle A name ended before after old new = (new ≡ old) ⊎ WroteFront A name ended before after old new

-- What a command does that stores a text under a name. `A` says with which statuses it may end, what it
-- says then and what it stores before; `names` are those of the texts that it fetches. Status 6 is a
-- refusal of the shelf, and 7 want of memory.
pub record IsWriter (A : Answers) (names : List (List ℕ)) (name : List ℕ) (before after : Told)
    (status : ℕ) : Type 0 where
  -- no other name changes, whatever the status
  pub others : IfSome before.held (λ texts. IsSomeAnd after.held (AgreesElsewhere name texts))
  -- no text is lost but an empty one and one that begins as a proof text does
  pub kept : Keeps before.held after.held
  -- an answer is one of the allowed ones: it is said whole, and what goes with it is stored
  pub answer : status ≢ 6 → status ≢ 7 → (output : List ℕ) × (stored : Option (List ℕ))
      × A status output stored
      × Said before.said after.said output × IsStored before.held after.held name stored
  -- after a refusal no more was said than a front of an allowed answer, once what goes with it was stored, or once
  -- the shelf had refused to store it, and then all is held as before
  pub front : IfSome before.said (λ said. IsSomeAnd after.said (WroteLittle A name status before after said))
  -- where memory ran out, all is held as before, or what goes with an allowed answer is stored
  pub memory : status ≡ 7 → (after.held ≡ before.held) ⊎ StoredAllowed A name before.held after.held
  -- the shelf refuses only where it counts a fault, or its count stands at its last value
  pub never_falls : before.faults ≤ after.faults
  pub cause : status ≡ 6 → one_more before.faults ≤ after.faults
  -- a steady shelf that holds the texts, and under the name only what may be stored over, refuses nothing
  pub steady : IsTrue before.steady → HoldsAll before.held names → MayStore name before.held
      → before.faults < most_faults → status ≢ 6

-- the one answer that was made, once the text was stored, unless memory ran out
abbrev pub IsStoredAnswer : Result Answer Memory → List ℕ → Answers
IsStoredAnswer (Ok a) text status output stored = (status ≡ a.status) × (output ≡ a.output)
    × (stored ≡ Some text)
IsStoredAnswer (Err e) text status output stored = ⊥

-- the shelf was asked whether texts may be stored, by what it holds, and nothing else was done
pub record IsAsked (may : Option Texts → Type 0) (before after : Told) : Type 0 where
  pub held : after.held ≡ before.held
  pub said : after.said ≡ before.said
  pub never_falls : before.faults ≤ after.faults
  pub stays_steady : IsTrue before.steady → IsTrue after.steady
  pub quiet : IsTrue before.steady → may before.held → after.faults ≡ before.faults

-- the same, and some text may not be stored, or memory ran out
pub record IsTurnedDown (may : Option Texts → Type 0) (before after : Told) (status : ℕ) : Type 0 where
  pub asked : IsAsked may before after
  pub refused : (status ≡ 6) ⊎ (status ≡ 7)
  pub cause : status ≡ 6 → one_more before.faults ≤ after.faults

-- answers that store nothing
abbrev pub StoresNothing : (ℕ → List ℕ → Type 0) → Answers
StoresNothing A status output stored = A status output × (stored ≡ None)
