-- Parts of a command that stores several texts, one after another, and then says one answer.
use Rattle.std.specs.Prelude.{ℕ, ◌≡◌, ◌≢◌, ◌⊎◌, ◌<◌, ◌≤◌, IsTrue, List, [], ◌∷◌, ◌++◌, Option, Some, IfSome, IsSomeAnd}
use Rattle.std.specs.FinMap as fin
use Rattle.command_shelf.specs.Shelf.{Texts, Told, AgreesElsewhere, one_more, most_faults}
use Rattle.command_shelf.specs.Stores.{may_store}
use Rattle.command_answers.specs.Reader.{HoldsAll, Said}
use Rattle.command_searches.specs.Writer.{Keeps}

-- a text and the name that it is stored under
pub record Entry : Type 0 where
  pub name : List ℕ
  pub text : List ℕ

-- what is held once the texts are stored, in their order
abbrev pub with_entries : Texts → List Entry → Texts
with_entries texts [] = texts
with_entries texts (e ∷ es) = with_entries (fin.insert texts e.name e.text) es

-- how storing ends: all texts are stored and the command may end with this status, saying this; or it breaks
-- off where a text was due under this name
pub data End : Type 0 where
  answered : ℕ → List ℕ → End
  broken_off : List ℕ → End

-- how storing may end, and which texts are stored by then
abbrev pub SeriesAnswers : Type 1
SeriesAnswers = End → List Entry → Type 0

-- these texts were stored, and nothing else
abbrev pub AreStored : Option Texts → Option Texts → List Entry → Type 0
AreStored before after entries = IfSome before (λ texts. after ≡ Some (with_entries texts entries))

-- these texts were stored, and it is untold what the name holds where storing broke off; no other name changes
abbrev pub IsHeldAt : End → Texts → List Entry → Texts → Type 0
IsHeldAt (answered status output) before entries after = after ≡ with_entries before entries
IsHeldAt (broken_off name) before entries after = AgreesElsewhere name (with_entries before entries) after

-- the first texts of an allowed series were stored
pub record StoredFirst (A : SeriesAnswers) (before after : Texts) : Type 0 where
  pub end : End
  pub entries : List Entry
  pub allowed : A end entries
  pub held : IsHeldAt end before entries after

-- nothing was stored, or the first texts of an allowed series
abbrev pub StoredSome : SeriesAnswers → Texts → Texts → Type 0
StoredSome A before after = (after ≡ before) ⊎ StoredFirst A before after

-- The first texts of an allowed series were stored, and nothing else: where it broke off, the name that a text was due
-- under holds what it held.
pub record StoredWhole (A : SeriesAnswers) (before after : Texts) : Type 0 where
  pub end : End
  pub entries : List Entry
  pub allowed : A end entries
  pub held : after ≡ with_entries before entries

-- nothing was stored, or whole texts alone
abbrev pub StoredOnly : SeriesAnswers → Texts → Texts → Type 0
StoredOnly A before after = (after ≡ before) ⊎ StoredWhole A before after

-- a front of an output that some status allows was said, and all that goes with it is stored
pub record SeriesFront (A : SeriesAnswers) (before after : Told) (old new : List ℕ) : Type 0 where
  pub status : ℕ
  pub output : List ℕ
  pub entries : List Entry
  pub allowed : A (answered status output) entries
  pub front : List ℕ
  pub rest : List ℕ
  pub whole : output ≡ front ++ rest
  pub said : new ≡ old ++ front
  pub held : AreStored before.held after.held entries

-- nothing was said, or a front of an allowed output
abbrev pub SaidSome : SeriesAnswers → Told → Told → List ℕ → List ℕ → Type 0
SaidSome A before after old new = (new ≡ old) ⊎ SeriesFront A before after old new

-- What a command does that stores several texts. `A` says with which statuses it may end, what it says then and
-- which texts it stores before, and where storing may break off; `names` are those of the texts that it
-- fetches, and `may` says of what a shelf holds that all texts may be stored. Status 6 is a refusal of the shelf,
-- and 7 want of memory.
pub record IsSeriesWriter (A : SeriesAnswers) (names : List (List ℕ)) (may : Option Texts → Type 0)
    (before after : Told) (status : ℕ) : Type 0 where
  -- whatever the status, the texts that were stored stand, and no other name changes
  pub held : IfSome before.held (λ texts. IsSomeAnd after.held (StoredSome A texts))
  -- after want of memory they stand alone: the name where storing broke off holds what it held
  pub memory : status ≡ 7 → IfSome before.held (λ texts. IsSomeAnd after.held (StoredOnly A texts))
  -- no text is lost but an empty one and one that begins as a proof text does
  pub kept : Keeps before.held after.held
  -- an answer is one of the allowed ones: it is said whole, and all that goes with it is stored
  pub answer : status ≢ 6 → status ≢ 7 → (output : List ℕ) × (entries : List Entry)
      × A (answered status output) entries × Said before.said after.said output
      × AreStored before.held after.held entries
  -- after a refusal no more was said than a front of an allowed answer, once all that goes with it was stored
  pub front : IfSome before.said (λ said. IsSomeAnd after.said (SaidSome A before after said))
  -- the shelf refuses only where it counts a fault, or its count stands at its last value
  pub never_falls : before.faults ≤ after.faults
  pub cause : status ≡ 6 → one_more before.faults ≤ after.faults
  -- a steady shelf that holds the texts, and under the names only what may be stored over, refuses nothing
  pub steady : IsTrue before.steady → HoldsAll before.held names → may before.held
      → before.faults < most_faults → status ≢ 6

-- answers that store nothing
abbrev pub StoresNoEntry : (ℕ → List ℕ → Type 0) → SeriesAnswers
StoresNoEntry A (answered status output) entries = A status output × (entries ≡ [])
StoresNoEntry A (broken_off name) entries = ⊥

-- these texts were stored by now, and nothing else was done
pub record IsStoredBy (entries : List Entry) (before after : Told) : Type 0 where
  pub held : AreStored before.held after.held entries
  pub kept : Keeps before.held after.held
  pub said : after.said ≡ before.said
  pub never_falls : before.faults ≤ after.faults
  pub stays_steady : IsTrue before.steady → IsTrue after.steady
  pub quiet : IsTrue before.steady → after.faults ≡ before.faults

-- what is held where the store under a name was refused, after these texts
abbrev pub BreaksOff : Option Texts → Option Texts → List Entry → List ℕ → Type 0
BreaksOff before after entries name =
    IfSome before (λ texts. IsSomeAnd after (AgreesElsewhere name (with_entries texts entries)))

-- a text may be stored under the name once these texts were
abbrev pub MayStoreAfter : List Entry → List ℕ → Option Texts → Type 0
MayStoreAfter entries name held =
    IsSomeAnd held (λ texts. IsTrue (may_store (with_entries texts entries) name))

-- these texts were stored, and then the store under the name was refused, or memory ran out, after which the name
-- holds what it held
pub record IsBrokenOff (entries : List Entry) (name : List ℕ) (before after : Told)
    (status : ℕ) : Type 0 where
  pub refused : (status ≡ 6) ⊎ (status ≡ 7)
  pub held : BreaksOff before.held after.held entries name
  pub memory : status ≡ 7 → AreStored before.held after.held entries
  pub kept : Keeps before.held after.held
  pub said : after.said ≡ before.said
  pub never_falls : before.faults ≤ after.faults
  pub cause : status ≡ 6 → one_more before.faults ≤ after.faults
  pub quiet : IsTrue before.steady → MayStoreAfter entries name before.held → after.faults ≡ before.faults
