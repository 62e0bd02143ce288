-- What holds for the turns that a watched search takes.
use Rattle.std.specs.Prelude.{ℕ, ◌≡◌, ◌≤◌, Bool, IsTrue}

-- A fact on a number of turns holds for one from 0 to this, and for this one where the watch is patient.
pub record IsWithin (patient : Bool) (turns : ℕ) (P : ℕ → Type 0) : Type 0 where
  pub used : ℕ
  pub few : used ≤ turns
  pub whole : IsTrue patient → used ≡ turns
  pub holds : P used
