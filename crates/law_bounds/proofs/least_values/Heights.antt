-- Parts that are not too deep.
use Rattle.std.proofs.Common.{◌≤◌, ◌+◌, ◌*◌, ℕ, zero, suc, List, [], ◌∷◌, length, arith}
use Rattle.std.proofs.Math.Nat.{mul-le-mul_right}
use Rattle.model_rosters.specs.declared.grammar.Grammar.{Grammar}
use Rattle.model_rosters.specs.declared.grammar.Sym.{Sym}
use Rattle.model_rosters.specs.declared.grammar.Sym.TheVariants.{Code, Name}
use Rattle.model_rosters.specs.Sound.{IsSound}
use Rattle.model_rosters.specs.Trees.{Parts, done, letter, uses, span_length, Derive, IsTreeOf}
use Rattle.model_rosters.specs.tree_laws.Parts.{use_count}
use Rattle.model_rosters.proofs.tree_laws.Size.{few}

-- at most n letters and rule uses stand on each way into the parts
abbrev pub IsWithinHeight : Parts → ℕ → Type 0
IsWithinHeight done n = Unit {0}
IsWithinHeight (letter c rest) zero = ⊥
IsWithinHeight (letter c rest) (suc n) = IsWithinHeight rest n
IsWithinHeight (uses r l inner rest) zero = ⊥
IsWithinHeight (uses r l inner rest) (suc n) = IsWithinHeight inner n × IsWithinHeight rest n

module _ (g : Grammar) where
  -- no way is longer than the number of letters and uses
  within_height : (t : Parts) (ss : List Sym) (i n : ℕ) → Derive g ss i t → use_count t + span_length t ≤ n → IsWithinHeight t n
  within_height done ss i n h le = tt
  within_height (letter c rest) [] i n h le = absurd h
  within_height (letter c rest) (Name x ∷ ss) i n h le = absurd h
  within_height (letter c rest) (Code d ∷ ss) i zero h le = absurd (omega (arith, le))
  within_height (letter c rest) (Code d ∷ ss) i (suc n) h le = within_height rest ss (i + 1) n h.1 (omega (arith, le))
  within_height (uses r l inner rest) [] i n h le = absurd h
  within_height (uses r l inner rest) (Code d ∷ ss) i n h le = absurd h
  within_height (uses r l inner rest) (Name x ∷ ss) i zero h le = absurd (omega (arith, le))
  within_height (uses r l inner rest) (Name x ∷ ss) i (suc n) h le =
      (within_height inner h.0.right i n h.6 (omega (arith, le, h.5)), within_height rest ss (i + l) n h.7 (omega (arith, le)))

-- how deep a tree of the day is at most
abbrev pub most_height : Grammar → ℕ
most_height g = 2 * (g.periods * length g.names) + g.periods

pub tree-height : (g : Grammar) (sound : IsSound g) (x : ℕ) (t : Parts) → IsTreeOf g x t → IsWithinHeight t (most_height g)
tree-height g sound x t h =
    let uses_few = (few g sound.ranks.0 (length g.names) sound.ranks.1 t (Name x ∷ []) 1 h.0).0 in
    let span : span_length t ≤ g.periods = omega (arith, h.1) in
    let names : span_length t * length g.names ≤ g.periods * length g.names = mul-le-mul_right (length g.names) span in
    within_height g t (Name x ∷ []) 1 (most_height g) h.0 (omega (arith, uses_few, names, span))
