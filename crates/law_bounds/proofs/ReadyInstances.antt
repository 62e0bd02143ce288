-- What soundness of an instance gives the proofs on rosters.
use Rattle.std.specs.Prelude.{ℕ, ◌≡◌, ◌≢◌, ◌≤◌, ◌+◌, cond, nat_eq, Some, [], length, slice_get}
use Rattle.model_rosters.specs.declared.grammar.ArcKey.{ArcKey}
use Rattle.model_rosters.specs.declared.grammar.Grammar.{Grammar}
use Rattle.model_rosters.specs.declared.grammar.CodeDef.{CodeDef}
use Rattle.model_rosters.specs.declared.grammar.Rule.{Rule}
use Rattle.model_rosters.specs.declared.grammar.Sym.{Sym}
use Rattle.model_rosters.specs.declared.grammar.Sym.TheVariants.{Code, Name}
use Rattle.model_rosters.specs.declared.instance.Cell.{Cell}
use Rattle.model_rosters.specs.declared.instance.Instance.{Instance}
use Rattle.model_rosters.specs.Grammar.{rule_at}
use Rattle.model_rosters.specs.UnitRules.{IsRanked}
use Rattle.model_rosters.specs.Trees.{Parts, IsTreeOf, IsDayTree, word}
use Rattle.model_rosters.specs.Folds.{sum_n, count, Each, In}
use Rattle.model_rosters.specs.Arcs.{arcs, cost, same_arc}
use Rattle.model_rosters.specs.Coverage.{code_byte}
use Rattle.model_rosters.specs.Teams.{Team, teams, teams_from}
use Rattle.model_rosters.specs.Cuts.{group_arc}
use Rattle.model_rosters.specs.tree_laws.Parts.{root}
use Rattle.law_bounds.specs.DutyTrees.{own_rules}

abbrev pub IsCode : Grammar → ℕ → Type 0
IsCode g c = (d : CodeDef) × (slice_get g.codes c ≡ Some d)

abbrev pub IsSymbol : Grammar → Sym → Type 0
IsSymbol g (Code c) = IsCode g c
IsSymbol g (Name x) = Unit {0}

-- each code of a right side exists, and bytes tell codes apart
pub record HasCodes (g : Grammar) : Type 0 where
  pub symbols : (r : ℕ) (rule : Rule) → rule_at g r ≡ Some rule → Each (IsSymbol g) rule.right
  pub apart : (c d : ℕ) → IsCode g c → IsCode g d → code_byte g c ≡ code_byte g d → c ≡ d

-- the arc of the rule that a team's group adds, on the whole day
abbrev pub arc_of_team : Instance → Team → ArcKey
arc_of_team i o = group_arc i.grammar.periods (own_rules i + o.number)

-- a tree of the day for a tree of a team's name: the same but for the added rule
pub record IsWrap (i : Instance) (team : Team) (t u : Parts) : Type 0 where
  pub day : IsDayTree i.grammar u
  pub cost : cost i.grammar u ≡ cost i.grammar t
  pub spelled : word i.grammar u ≡ word i.grammar t
  pub led : i.groups ≢ [] → root u ≡ own_rules i + team.number
  pub base : Each (λ (o : Team). count (same_arc (arc_of_team i o)) (arcs 1 u) ≡ cond (nat_eq team.number o.number) 1 0) (teams_from 1 i.groups)

pub record IsReady (i : Instance) : Type 0 where
  pub rank : (f : ℕ → ℕ) × IsRanked i.grammar f (length i.grammar.names)
  pub has : HasCodes i.grammar
  pub cells : Each (λ (c : Cell). IsCode i.grammar c.code × (1 ≤ c.period)) i.cells
  pub least : sum_n (λ (t : Team). t.least) (teams i) ≡ i.heads_min
  pub most : sum_n (λ (t : Team). t.most) (teams i) ≡ i.heads_max
  -- a tree of a team is one of the day by its rule, and the other way round
  pub wrap : (team : Team) → In team (teams i) → (t : Parts) → IsTreeOf i.grammar team.name t → (u : Parts) × IsWrap i team t u
  pub unwrap : (team : Team) → In team (teams i) → (u : Parts) → IsDayTree i.grammar u → (i.groups ≢ [] → root u ≡ own_rules i + team.number) → (t : Parts) × IsTreeOf i.grammar team.name t × IsWrap i team t u
