-- Parts of a command that reads texts and then says one answer.
use Rattle.std.specs.Prelude.{ℕ, ◌≡◌, ◌≤◌, IsTrue, IfSome, IsSome, List, Result, Ok, Err}
use Rattle.std.specs.FinMap as fin
use Rattle.model_rosters.specs.declared.memory.Memory.{Memory}
use Rattle.command_answers.specs.declared.answer.Answer.{Answer}
use Rattle.command_shelf.specs.Shelf.{Told, front_to}
use Rattle.command_answers.specs.Reader.{Holds}

-- a text was fetched, and nothing else was done
pub record IsFetch (name : List ℕ) (before after : Told) (text : List ℕ) : Type 0 where
  pub holds : Holds before.held name text
  pub held : after.held ≡ before.held
  pub said : after.said ≡ before.said
  pub never_falls : before.faults ≤ after.faults
  pub stays_steady : IsTrue before.steady → IsTrue after.steady
  pub quiet : IsTrue before.steady → IfSome before.held
      (λ texts. IsSome (fin.get texts name) → after.faults ≡ before.faults)

-- the first bytes of a text were fetched, up to one above a limit, and nothing else was done
pub record IsFetchTo (most : ℕ) (name : List ℕ) (before after : Told) (front : List ℕ) : Type 0 where
  pub text : List ℕ
  pub fetch : IsFetch name before after text
  pub front_is : front ≡ front_to most text

-- a command that was refused has no answer
abbrev pub NoAnswer : ℕ → List ℕ → Type 0
NoAnswer status output = ⊥

-- the one answer that was made, unless memory ran out
abbrev pub IsAnswer : Result Answer Memory → ℕ → List ℕ → Type 0
IsAnswer (Ok a) status output = (status ≡ a.status) × (output ≡ a.output)
IsAnswer (Err e) status output = ⊥
