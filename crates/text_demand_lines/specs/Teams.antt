-- How many employees may work: the heads line and the group lines.
use Rattle.std.specs.Prelude.{ℕ, ◌-◌, Bool, ◌==◌, List, [], ◌∷◌, ◌++◌, length, nat_le, nat_lt, is_some, Some, Result, Ok, Err, if◌then◌else◌}
use Rattle.std.specs.List.{list_any}
use Rattle.model_rosters.specs.declared.grammar.Grammar.{Grammar}
use Rattle.model_rosters.specs.declared.instance.Group.{Group}
use Rattle.model_rosters.specs.Folds.{sum_n}
use Rattle.text_demand_lines.specs.declared.draft.Draft.{Draft}
use Rattle.text_demand_lines.specs.declared.fault.DemandFault.{DemandFault}
use Rattle.text_demand_lines.specs.declared.fault.DemandFault.TheVariants.{UnknownLine, Twice, Mixed, TooManyGroups}
use Rattle.text_demand_lines.specs.Steps.{◌>>=◌}
use Rattle.text_demand_lines.specs.Fields.{name_at, range_at}

abbrev pub has_group : List Group → ℕ → Bool
has_group groups x = list_any (λ (g : Group). g.name == x) groups

-- the greatest numbers of employees of the groups, together
abbrev pub most_heads : List Group → ℕ
most_heads groups = sum_n (λ (g : Group). g.heads_max) groups

-- how many employees may work, where no group was named; in range before it is asked whether it
-- was said
unfoldable pub heads_at : ℕ → Draft → List (List ℕ) → Result Draft DemandFault
heads_at k d (a ∷ b ∷ []) =
    if nat_lt 0 (length d.groups) then Err (Mixed k)
    else (range_at k 64 a b >>= λ h. if is_some d.heads then Err (Twice k) else Ok
    (record d { heads = Some h }))
heads_at k d _ = Err (UnknownLine k)

-- a group of a name, one of at most 8, and how many employees of it may work: at most 64 together
-- with the groups before
unfoldable pub group_of : ℕ → Grammar → List Group → List ℕ → List ℕ → List ℕ
    → Result (List Group) DemandFault
group_of k g groups name a b =
    if nat_le 8 (length groups) then Err (TooManyGroups k)
    else (name_at k g.names name >>= λ x. if has_group groups x then Err (Twice k)
    else (range_at k (64 - most_heads groups) a b >>= λ h. Ok
    (groups ++ record { name = x; heads_min = h.least; heads_max = h.most } ∷ [])))

-- a group, where no heads line stands
unfoldable pub group_at : ℕ → Grammar → Draft → List (List ℕ) → Result Draft DemandFault
group_at k g d (name ∷ a ∷ b ∷ []) =
    if is_some d.heads then Err (Mixed k)
    else (group_of k g d.groups name a b >>= λ gs. Ok (record d { groups = gs }))
group_at k g d _ = Err (UnknownLine k)
