-- The text of an instance.
use Rattle.std.specs.Prelude.{ℕ, ◌≡◌, ◌<◌, Bool, ◌==◌, List, [], ◌∷◌, ◌++◌, map, length, codes, if◌then◌else◌}
use Rattle.std.specs.Fmt.{decimal}
use Rattle.std.specs.List.{list_all}
use Rattle.text_lines.specs.Written.{written}
use Rattle.text_lines.specs.Names.{name_of, code_of}
use Rattle.model_rosters.specs.declared.grammar.CodeDef.{CodeDef}
use Rattle.model_rosters.specs.declared.instance.Cell.{Cell}
use Rattle.model_rosters.specs.declared.instance.Group.{Group}
use Rattle.model_rosters.specs.declared.instance.Instance.{Instance}
use Rattle.model_rosters.specs.Demands.{Demand, IsDemand, AreOnce, demand_cells, all_cells}
use Rattle.model_rosters.specs.Folds.{Each}
use Rattle.text_demand.specs.declared.number_of.NumberOf.{NumberOf}
use Rattle.text_demand.specs.declared.number_of.NumberOf.TheVariants.{Need, Floor, Ceiling}

abbrev pub code_byte : List CodeDef → ℕ → ℕ
code_byte defs c = (code_of defs c).byte

abbrev pub heads_line : ℕ → ℕ → List (List ℕ)
heads_line least most = codes "heads" ∷ decimal least ∷ decimal most ∷ []

abbrev pub group_line : List (List ℕ) → Group → List (List ℕ)
group_line ns g = codes "group" ∷ name_of ns g.name ∷ decimal g.heads_min ∷ decimal g.heads_max ∷ []

-- the heads line, or a line for each group
abbrev pub team_lines : Instance → List Group → List (List (List ℕ))
team_lines i [] = heads_line i.heads_min i.heads_max ∷ []
team_lines i (g ∷ gs) = map (group_line i.grammar.names) (g ∷ gs)

abbrev pub number_of : NumberOf → Cell → ℕ
number_of Need c = c.need
number_of Floor c = c.floor
number_of Ceiling c = c.ceiling

abbrev pub numbers_of : NumberOf → List Cell → List (List ℕ)
numbers_of which cells = map (λ (c : Cell). decimal (number_of which c)) cells

abbrev pub are_all : NumberOf → ℕ → List Cell → Bool
are_all which n cells = list_all (λ (c : Cell). number_of which c == n) cells

abbrev pub need_line : ℕ → ℕ → ℕ → List Cell → List (List ℕ)
need_line code under over cells =
    codes "need" ∷ (code ∷ []) ∷ decimal under ∷ decimal over ∷ numbers_of Need cells

-- a line of bounds, where not each is this number
abbrev pub bound_lines : List ℕ → ℕ → NumberOf → ℕ → List Cell → List (List (List ℕ))
bound_lines first code which free cells =
    if are_all which free cells then [] else (first ∷ (code ∷ []) ∷ numbers_of which cells) ∷ []

-- the lines of the cells of one code, of which the first says what a difference costs
abbrev pub code_lines : List CodeDef → List Cell → List (List (List ℕ))
code_lines defs [] = []
code_lines defs (c ∷ cs) =
    need_line (code_byte defs c.code) c.under c.over (c ∷ cs)
    ∷ (bound_lines (codes "least") (code_byte defs c.code) Floor 0 (c ∷ cs)
    ++ bound_lines (codes "most") (code_byte defs c.code) Ceiling 64 (c ∷ cs))

-- the lines of all demands, in order
abbrev pub demand_lines : List CodeDef → List Demand → List (List (List ℕ))
demand_lines defs [] = []
demand_lines defs (d ∷ ds) = code_lines defs (demand_cells d) ++ demand_lines defs ds

-- the demands whose cells are those of the instance
pub record AreDemandsOf (i : Instance) (ds : List Demand) : Type 0 where
  pub each : Each (IsDemand i.grammar) ds
  pub once : AreOnce ds
  pub made : i.cells ≡ all_cells ds

abbrev pub demand_text : Instance → List Demand → List ℕ
demand_text i ds = written (team_lines i i.groups ++ demand_lines i.grammar.codes ds)

-- the name of the group is one of the names
abbrev pub HasName : List (List ℕ) → Group → Type 0
HasName ns g = g.name < length ns
