-- What is odd about the rules and the demand of a day.
use Rattle.std.specs.Prelude.{ℕ, ◌≡◌, ◌+◌, ◌<◌, ◌⊎◌, Bool, true, false, ◌&&◌, nat_eq, List, [], ◌∷◌, Some, length, slice_get}
use Rattle.std.specs.List.{list_any}
use Rattle.model_rosters.specs.declared.grammar.Grammar.{Grammar}
use Rattle.model_rosters.specs.declared.grammar.Rule.{Rule}
use Rattle.model_rosters.specs.declared.grammar.Sym.{Sym}
use Rattle.model_rosters.specs.declared.grammar.Sym.TheVariants.{Code, Name}
use Rattle.model_rosters.specs.declared.grammar.Window.{Window}
use Rattle.model_rosters.specs.declared.instance.Cell.{Cell}
use Rattle.model_rosters.specs.declared.instance.Group.{Group}
use Rattle.tree_findings.specs.declared.finding.Finding.{Finding}
use Rattle.tree_findings.specs.declared.finding.Finding.TheVariants.{NoShift, IdleRule, IdleName, IdleCode, BeyondDay, SameRule, StrangeGroup, AbsentTeam, VainNeed}
use Rattle.tree_findings.specs.declared.finding.WindowKind.{WindowKind}
use Rattle.tree_findings.specs.declared.finding.WindowKind.TheVariants.{Length, First, Last}
use Rattle.tree_findings.specs.Used.{HasTree, UsesRule, UsesName, UsesCode, FillsDay, HasLetter}
use Rattle.tree_findings.specs.Listed.{Says, OfFirst}

abbrev pub window_of : Rule → WindowKind → Window
window_of rule Length = rule.span
window_of rule First = rule.first
window_of rule Last = rule.last

-- the window begins behind the day's last period
abbrev pub IsBeyond : Grammar → Rule → WindowKind → Type 0
IsBeyond g rule kind = g.periods < (window_of rule kind).lo

-- the rule at a place has such a window
abbrev pub HasBeyond : Grammar → ℕ → WindowKind → Type 0
HasBeyond g j kind = (rule : Rule) × (slice_get g.rules j ≡ Some rule) × IsBeyond g rule kind

-- each window of the rule begins in the day
abbrev pub BeginsInside : Grammar → Rule → Type 0
BeginsInside g rule = (IsBeyond g rule Length → ⊥) × (IsBeyond g rule First → ⊥) × (IsBeyond g rule Last → ⊥)

-- an earlier rule is the same as that at a place: left side, cost, right side and windows
abbrev pub StandsBefore : Grammar → ℕ → Type 0
StandsBefore g j =
    (q : ℕ) × (rule : Rule) × (q < j) × (slice_get g.rules q ≡ Some rule) × (slice_get g.rules j ≡ Some rule)

-- what a rules text shows of the rule at a place, whatever its shifts are
abbrev pub OfRule : Grammar → ℕ → Finding → Type 0
OfRule g j f =
    ((Says (HasBeyond g j Length) (BeyondDay (j + 1) Length) f
    ⊎ Says (HasBeyond g j First) (BeyondDay (j + 1) First) f)
    ⊎ Says (HasBeyond g j Last) (BeyondDay (j + 1) Last) f)
    ⊎ Says (StandsBefore g j) (SameRule (j + 1)) f

-- what a rules text shows whatever its shifts are
abbrev pub IsRuleFinding : Grammar → Finding → Type 0
IsRuleFinding g f = OfFirst (OfRule g) (length g.rules) f

-- a shift of the rules' own start name or one of the day's teams uses the rule
abbrev pub EitherUsesRule : Grammar → Grammar → ℕ → Type 0
EitherUsesRule own day r = UsesRule own r ⊎ UsesRule day r

abbrev pub EitherUsesName : Grammar → Grammar → ℕ → Type 0
EitherUsesName own day x = UsesName own x ⊎ UsesName day x

abbrev pub EitherUsesCode : Grammar → Grammar → ℕ → Type 0
EitherUsesCode own day c = UsesCode own c ⊎ UsesCode day c

-- no shift uses the rule of a number, though one uses another rule of its name, and each of its windows
-- begins in the day
abbrev pub IsIdle : Grammar → Grammar → ℕ → Rule → Type 0
IsIdle own day r rule =
    (EitherUsesRule own day r → ⊥) × EitherUsesName own day rule.left × BeginsInside own rule

-- so it is with the rule at a place
abbrev pub IsIdleRule : Grammar → Grammar → ℕ → Type 0
IsIdleRule own day j = (rule : Rule) × (slice_get own.rules j ≡ Some rule) × IsIdle own day (j + 1) rule

-- the day has shifts, and none uses the name
abbrev pub IsIdleName : Grammar → Grammar → ℕ → Type 0
IsIdleName own day x = HasTree day × (EitherUsesName own day x → ⊥)

-- the day has shifts, and none has the code
abbrev pub IsIdleCode : Grammar → Grammar → ℕ → Type 0
IsIdleCode own day c = HasTree day × (EitherUsesCode own day c → ⊥)

abbrev pub OfIdleRule : Grammar → Grammar → ℕ → Finding → Type 0
OfIdleRule own day j f = Says (IsIdleRule own day j) (IdleRule (j + 1)) f

abbrev pub OfIdleName : Grammar → Grammar → ℕ → Finding → Type 0
OfIdleName own day j f = Says (IsIdleName own day j) (IdleName j) f

abbrev pub OfIdleCode : Grammar → Grammar → ℕ → Finding → Type 0
OfIdleCode own day j f = Says (IsIdleCode own day j) (IdleCode j) f

-- that the day has no shift, or what no shift uses: rules, names and codes
abbrev pub IsUseFinding : Grammar → Grammar → Finding → Type 0
IsUseFinding own day f =
    ((Says (HasTree day → ⊥) NoShift f
    ⊎ OfFirst (OfIdleRule own day) (length own.rules) f)
    ⊎ OfFirst (OfIdleName own day) (length own.names) f)
    ⊎ OfFirst (OfIdleCode own day) (length own.codes) f

-- one of the groups has the name
abbrev pub has_group : List Group → ℕ → Bool
has_group groups x = list_any (λ (group : Group). nat_eq group.name x) groups

-- the symbols are this name alone
abbrev pub is_only : ℕ → List Sym → Bool
is_only x [] = false
is_only x (Code c ∷ ss) = false
is_only x (Name y ∷ []) = nat_eq y x
is_only x (Name y ∷ s ∷ ss) = false

-- a rule of the start name has the name as its one symbol
abbrev pub is_team : Grammar → ℕ → Bool
is_team own x = list_any (λ (rule : Rule). nat_eq rule.left own.start && is_only x rule.right) own.rules

-- the group has shifts, and no shift of the start name is one of them
abbrev pub IsStrangeGroup : Grammar → Grammar → Group → Type 0
IsStrangeGroup own day group = UsesName day group.name × (FillsDay own group.name → ⊥)

-- on a day with groups the start name leads to the name, and neither has a group
pub record IsAbsentTeam (own : Grammar) (groups : List Group) (x : ℕ) : Type 0 where
  pub grouped : 0 < length groups
  pub team : is_team own x ≡ true
  pub absent : has_group groups x ≡ false
  pub start : has_group groups own.start ≡ false

-- somebody is needed, and no shift has the code then, though one has it in some period
pub record IsVainNeed (own day : Grammar) (cell : Cell) : Type 0 where
  pub need : 0 < cell.need
  pub shifts : HasTree day
  pub code : EitherUsesCode own day cell.code
  pub vain : HasLetter day (record { code = cell.code; period = cell.period }) → ⊥

abbrev pub OfGroup : Grammar → Grammar → List Group → ℕ → Finding → Type 0
OfGroup own day groups j f = (group : Group) × (slice_get groups j ≡ Some group)
    × Says (IsStrangeGroup own day group) (StrangeGroup group.name) f

abbrev pub OfTeam : Grammar → List Group → ℕ → Finding → Type 0
OfTeam own groups j f = Says (IsAbsentTeam own groups j) (AbsentTeam j) f

abbrev pub OfCell : Grammar → Grammar → List Cell → ℕ → Finding → Type 0
OfCell own day cells j f = (cell : Cell) × (slice_get cells j ≡ Some cell)
    × Says (IsVainNeed own day cell) (VainNeed cell.code cell.period) f

-- what a demand shows by the shifts of its rules
abbrev pub IsDemandFinding : Grammar → Grammar → List Group → List Cell → Finding → Type 0
IsDemandFinding own day groups cells f =
    (OfFirst (OfGroup own day groups) (length groups) f
    ⊎ OfFirst (OfTeam own groups) (length own.names) f)
    ⊎ OfFirst (OfCell own day cells) (length cells) f
