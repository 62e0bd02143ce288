use Rattle.std.specs.Prelude.{ℕ, ◌+◌, List, Bool, nat_eq, nat_le, refl}
use Rattle.std.specs.List.{list_any, list_all}
use Rattle.std.specs.Coded.{Coded, coded_ℕ, coded_list, coded×, code_by}
use Rattle.command_shelf.specs.Shelf.{Texts, texts_code, one_more}

-- a shelf in memory without failing calls: what it holds, all that was said, and its count of faults
pub record QuietState : Type 0 where
  pub held : Texts
  pub said : List ℕ
  pub faults : ℕ

-- a state is stored as its fields
abbrev pub quiet_code : Coded QuietState
quiet_code =
    code_by (Texts × (List ℕ × ℕ)) (coded× texts_code (coded× (coded_list coded_ℕ) coded_ℕ))
    (λ s. (s.held, (s.said, s.faults))) (λ p. record { held = p.0; said = p.1.0; faults = p.1.1 }) (λ _. refl)

-- the same with failing calls: how many calls were made, and the numbers of the calls that fail, from 1
pub record MemoryState : Type 0 where
  pub held : Texts
  pub said : List ℕ
  pub faults : ℕ
  pub calls : ℕ
  pub failing : List ℕ

-- a state is stored as its fields
abbrev pub memory_code : Coded MemoryState
memory_code =
    code_by (Texts × (List ℕ × (ℕ × (ℕ × List ℕ))))
    (coded× texts_code (coded× (coded_list coded_ℕ) (coded× coded_ℕ (coded× coded_ℕ (coded_list coded_ℕ)))))
    (λ s. (s.held, (s.said, (s.faults, (s.calls, s.failing)))))
    (λ p. record { held = p.0; said = p.1.0; faults = p.1.1.0; calls = p.1.1.1.0; failing = p.1.1.1.1 })
    (λ _. refl)

-- whether the number of the next call is listed
abbrev pub next_fails : MemoryState → Bool
next_fails s = list_any (λ n. nat_eq n (s.calls + 1)) s.failing

-- whether no listed number is above the number of calls made
abbrev pub is_steady : MemoryState → Bool
is_steady s = list_all (λ n. nat_le n s.calls) s.failing

-- the state after a call that changes nothing
abbrev pub called : MemoryState → MemoryState
called s = record s { calls = one_more s.calls }

-- the state after a call that was refused
abbrev pub refused : MemoryState → MemoryState
refused s = record (called s) { faults = one_more s.faults }
