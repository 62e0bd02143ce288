-- Trees that meet the base cuts spell an allowed roster.
use Rattle.std.proofs.Common.{◌≡◌, ℕ, arith, ◌+◌, ◌-◌, ◌≤◌, Bool, true, false, cond, List, [], ◌∷◌, length, refl, subst}
use Rattle.std.specs.Prelude.{nat_lt}
use Rattle.model_rosters.specs.declared.instance.Cell.{Cell}
use Rattle.model_rosters.specs.declared.instance.Group.{Group}
use Rattle.model_rosters.specs.declared.instance.Instance.{Instance}
use Rattle.model_rosters.specs.declared.instance.Side.TheVariants.{Low, High}
use Rattle.model_rosters.specs.Trees.{Parts}
use Rattle.model_rosters.specs.Folds.{count, Each}
use Rattle.model_rosters.specs.Teams.{Team, teams_from, teams_of}
use Rattle.model_rosters.specs.Duties.{Duty}
use Rattle.model_rosters.specs.Coverage.{covered, IsWithinCell}
use Rattle.model_rosters.specs.Rosters.{ArePrices, is_in_team, HasHeads}
use Rattle.model_rosters.specs.Cuts.{arc_count, Meets, group_arc, group_cuts, cuts_from, base_cuts}
use Rattle.model_rosters.proofs.EachLemmas.{Each-left, Each-right}
use Rattle.law_bounds.specs.TreeRosters.{tree_cover, IsCovered, IsTreeRoster}
use Rattle.law_bounds.specs.DutyTrees.{own_rules, AreDutyTrees}
use Rattle.law_bounds.specs.Laws.{IsSpelledBy}
use Rattle.law_bounds.proofs.ReadyInstances.{IsCode, arc_of_team, IsReady}
use Rattle.law_bounds.proofs.RosterTrees.{in_teams, heads, realise, same_penalties}
use Rattle.model_rosters.proofs.arc_laws.FoldsLemmas.{count-le-length}

module _ (i : Instance) (ready : IsReady i) (ts : List Parts) (ds : List Duty) where
  -- the cuts of a group keep its count in its range
  group_heads : (o : Team) (g : Group) (n : ℕ) → o.least ≡ g.heads_min → o.most ≡ g.heads_max → count (is_in_team o) ds ≤ i.heads_max
      → arc_count (group_arc i.grammar.periods n) ts ≡ count (is_in_team o) ds → Each (Meets ts) (group_cuts i n g) → HasHeads ds o
  group_heads o g n e f few same h = record { least = low (nat_lt 0 g.heads_min) refl (Each-right (Meets ts) (cond (nat_lt g.heads_max i.heads_max) _ []) _ h); most = high (nat_lt g.heads_max i.heads_max) refl (Each-left (Meets ts) (cond (nat_lt g.heads_max i.heads_max) _ []) _ h) }
    where
      high : (b : Bool) → nat_lt g.heads_max i.heads_max ≡ b → Each (Meets ts) (cond b (record { arc = group_arc i.grammar.periods n; side = Low; b = g.heads_max } ∷ []) []) → count (is_in_team o) ds ≤ o.most
      high true s k = omega (arith, k.0)
      high false s k = grind (arith, s, few, f)

      low : (b : Bool) → nat_lt 0 g.heads_min ≡ b → Each (Meets ts) (cond b (record { arc = group_arc i.grammar.periods n; side = High; b = g.heads_min - 1 } ∷ []) []) → o.least ≤ count (is_in_team o) ds
      low true s k = omega (arith, k.0)
      low false s k = grind (arith, s, e)

  groups_heads : (gs : List Group) (k : ℕ) → length ds ≤ i.heads_max → Each (λ (o : Team). arc_count (arc_of_team i o) ts ≡ count (is_in_team o) ds) (teams_from k gs)
      → Each (Meets ts) (cuts_from i (own_rules i + k) gs) → Each (HasHeads ds) (teams_from k gs)
  groups_heads [] k few a h = tt
  groups_heads (g ∷ gs) k few a h =
      let o : Team = record { number = k; name = g.name; least = g.heads_min; most = g.heads_max } in
      let e : own_rules i + k + 1 ≡ own_rules i + (k + 1) = omega arith in
      let n = count-le-length (is_in_team o) ds in (
        group_heads o g (own_rules i + k) refl refl (omega arith) a.0 (Each-left (Meets ts) (group_cuts i (own_rules i + k) g) _ h),
        groups_heads gs (k + 1) few a.1 (subst (λ (m : ℕ). Each (Meets ts) (cuts_from i m gs)) e (Each-right (Meets ts) (group_cuts i (own_rules i + k) g) _ h)),
      )

  all_heads : (gs : List Group) → i.heads_min ≤ length ds → length ds ≤ i.heads_max → in_teams (teams_of i gs) ds ≡ length ds
      → Each (λ (o : Team). arc_count (arc_of_team i o) ts ≡ count (is_in_team o) ds) (teams_from 1 gs) → Each (Meets ts) (cuts_from i (own_rules i + 1) gs) → Each (HasHeads ds) (teams_of i gs)
  all_heads [] enough few all a h = (record { least = omega arith; most = omega arith }, tt)
  all_heads (g ∷ gs) enough few all a h = groups_heads (g ∷ gs) 1 few a h

  within : (cs : List Cell) → ((c : Cell) → IsCode i.grammar c.code → 1 ≤ c.period → tree_cover ts c ≡ covered i.grammar c ds)
      → Each (λ (c : Cell). IsCode i.grammar c.code × (1 ≤ c.period)) cs → Each (IsCovered i ts) cs → Each (λ (c : Cell). IsWithinCell c (covered i.grammar c ds)) cs
  within [] f h k = tt
  within (c ∷ cs) f h k =
      let e = f c h.0.0 h.0.1 in
      let range = k.0.range in
      (record { floor = omega (arith, range.floor); ceiling = omega (arith, range.ceiling) }, within cs f h.1 k.1)

  pub spelled-by : (ps : List ℕ) → ArePrices i ds ps → AreDutyTrees i ds ts → IsTreeRoster i ts → Each (Meets ts) (base_cuts i) → IsSpelledBy i ds ps ts
  spelled-by ps prices each roster meets =
      let f = realise i ready ds ps ts prices each in
      let all = heads i ready ds ps prices in
      let pens = same_penalties i ready ds ts i.cells f.span_length ready.cells in
      record {
        allowed = record {
          shifts = prices;
          heads = all_heads i.groups (omega (arith, f.long, roster.enough)) (omega (arith, f.long, roster.few)) all f.base meets;
          coverage = within i.cells f.span_length ready.cells roster.coverage;
        };
        cost = omega (arith, f.paid, pens);
      }
