-- A text whose first bytes were fetched.
use Rattle.std.proofs.Common.{◌≡◌, ◌≤◌, ◌+◌, ℕ, List, [], Option, None, Some, length, sym}
use Rattle.std.specs.Prelude.{IfSome, IsSome, IsTrue}
use Rattle.std.specs.FinMap as fin
use Rattle.std.proofs.lemmas.List.{take_all}
use Rattle.command_shelf.specs.Shelf.{Texts, Told, Fetched, front_to}
use Rattle.command_answers.specs.Fetch.{IsFetchTo}
use Rattle.command_answers.specs.Reader.{Holds}

-- what a call of the shelf did that fetched the first bytes of a text
pub record IsCalled (most : ℕ) (name : List ℕ) (before after : Told) (front : List ℕ) : Type 0 where
  pub fetched : IfSome before.held (λ h. Fetched h name most [] front)
  pub few : length front ≤ most + 1
  pub held : after.held ≡ before.held
  pub said : after.said ≡ before.said
  pub never_falls : before.faults ≤ after.faults
  pub stays_steady : IsTrue before.steady → IsTrue after.steady
  pub quiet : IsTrue before.steady → IfSome before.held (λ texts. IsSome (fin.get texts name) → after.faults ≡ before.faults)

-- the text that is held, or where that is untold the front itself
whole : (most : ℕ) (name front : List ℕ) (held : Option Texts) → IfSome held (λ h. Fetched h name most [] front) → length front ≤ most + 1
    → (text : List ℕ) × Holds held name text × (front ≡ front_to most text)
whole most name front None h few = (front, tt, sym (take_all (most + 1) front few))
whole most name front (Some texts) h few = (h.0, h.1, h.2)

pub fetched-to : (most : ℕ) (name : List ℕ) (before after : Told) (front : List ℕ) → IsCalled most name before after front → IsFetchTo most name before after front
fetched-to most name before after front c =
    let w = whole most name front before.held c.fetched c.few in
    record {
      text = w.0;
      fetch = record { holds = w.1; held = c.held; said = c.said; never_falls = c.never_falls; stays_steady = c.stays_steady; quiet = c.quiet };
      front_is = w.2;
    }
