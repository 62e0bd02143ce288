-- A day of two groups: its base cuts, reduced costs and Lagrangian values.
use Rattle.std.specs.Prelude.{ℕ, ◌≡◌, pos, negsuc, List, [], ◌∷◌, Some, true, false, codes}
use Rattle.model_rosters.specs.declared.grammar.Rule.{Rule}
use Rattle.model_rosters.specs.declared.grammar.Sym.{Sym}
use Rattle.model_rosters.specs.declared.grammar.Sym.TheVariants.{Code, Name}
use Rattle.model_rosters.specs.declared.instance.Instance.{Instance}
use Rattle.model_rosters.specs.declared.instance.Prices.{Prices}
use Rattle.model_rosters.specs.declared.instance.Side.TheVariants.{Low, High}
use Rattle.model_rosters.specs.Trees.{Parts, done, letter, uses}
use Rattle.model_rosters.specs.Sums.{tree_sum}
use Rattle.model_rosters.specs.Extension.{any_window}
use Rattle.model_rosters.specs.Teams.{teams}
use Rattle.model_rosters.specs.Cuts.{base_cuts, group_arc, lo, hi}
use Rattle.model_rosters.specs.Reduced.{reduced_view}
use Rattle.law_bounds.specs.Lagrangian.{lagrangian_sum}
use Rattle.law_bounds.specs.Priced.{rounded_up}

abbrev plain : ℕ → ℕ → List Sym → Rule
plain x c r =
    record { left = x; cost = c; right = r; span = any_window; first = any_window; last = any_window }

-- Two periods; the names S 0, F 1, H 2 and the added one 3. F works both periods at 3, H one of them
-- at 1; one employee of F at most, and one or two of H.
abbrev pub day : Instance
day = record {
  grammar = record {
    periods = 2;
    codes = record { byte = 97; work = true } ∷ record { byte = 46; work = false } ∷ [];
    names = codes "S" ∷ codes "F" ∷ codes "H" ∷ codes "*" ∷ [];
    rules = plain 0 0 (Name 1 ∷ []) ∷ plain 0 0 (Name 2 ∷ []) ∷ plain 1 3 (Code 0 ∷ Code 0 ∷ []) ∷ plain 2 1
        (Code 0 ∷ Code 1 ∷ []) ∷ plain 2 1 (Code 1 ∷ Code 0 ∷ [])
        ∷ plain 3 0 (Name 1 ∷ []) ∷ plain 3 0 (Name 2 ∷ []) ∷ [];
    start = 3;
  };
  heads_min = 1;
  heads_max = 3;
  groups = record { name = 1; heads_min = 0; heads_max = 1 } ∷ record
      { name = 2; heads_min = 1; heads_max = 2 } ∷ [];
  cells = record { code = 0; period = 1; need = 2; under = 10; over = 2; floor = 0; ceiling = 64 } ∷ record
      { code = 0; period = 2; need = 1; under = 10; over = 2; floor = 0; ceiling = 64 } ∷ [];
}

-- prices in halves, with a multiplier of the second base cut and without
abbrev pub halves : Prices
halves = record { d = 2; cell = pos 3 ∷ pos 3 ∷ []; mult = record { cut = 2; value = pos 1 } ∷ [] }

abbrev pub bare_halves : Prices
bare_halves = record { d = 2; cell = pos 3 ∷ pos 3 ∷ []; mult = [] }

-- an employee of F, and one of H who works the first period
abbrev pub full : Parts
full = uses 6 2 (uses 3 2 (letter 0 (letter 0 done)) done) done

abbrev pub half : Parts
half = uses 7 2 (uses 4 2 (letter 0 (letter 1 done)) done) done

pub record WorkedGroups : Type 0 where
  pub two_teams : teams day ≡ record { number = 1; name = 1; least = 0; most = 1 } ∷ record
      { number = 2; name = 2; least = 1; most = 2 } ∷ []
  pub three_cuts : base_cuts day ≡ record { arc = group_arc 2 6; side = Low; b = 1 } ∷ record
      { arc = group_arc 2 7; side = Low; b = 2 } ∷ record { arc = group_arc 2 7; side = High; b = 0 } ∷ []
  pub least : lo (base_cuts day) (group_arc 2 7) ≡ 1
  pub most : hi 3 (base_cuts day) (group_arc 2 6) ≡ 1
  pub full_cost : tree_sum (reduced_view day halves (base_cuts day)) 1 full ≡ Some (pos 0)
  pub half_cost : tree_sum (reduced_view day halves (base_cuts day)) 1 half ≡ Some (pos 0)
  pub bare_cost : tree_sum (reduced_view day bare_halves (base_cuts day)) 1 half ≡ Some (negsuc 0)
  pub value : lagrangian_sum day halves (base_cuts day) (Some (pos 0)) ≡ pos 7
  pub shown : rounded_up (lagrangian_sum day halves (base_cuts day) (Some (pos 0))) 2 ≡ 4
  pub bare_value : lagrangian_sum day bare_halves (base_cuts day) (Some (negsuc 0)) ≡ pos 6
