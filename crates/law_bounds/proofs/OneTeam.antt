-- On a day without groups the one team's trees are those of the day.
use Rattle.std.proofs.Common.{◌≡◌, ℕ, cond, List, [], sym, refl, ap, subst, inl, inr}
use Rattle.std.specs.Prelude.{nat_eq}
use Rattle.model_rosters.specs.declared.instance.Instance.{Instance}
use Rattle.model_rosters.specs.declared.instance.Group.{Group}
use Rattle.model_rosters.specs.Trees.{Parts, IsTreeOf, IsDayTree}
use Rattle.model_rosters.specs.Folds.{count, Each, In}
use Rattle.model_rosters.specs.Arcs.{arcs, same_arc}
use Rattle.model_rosters.specs.Teams.{Team, teams, teams_of, teams_from}
use Rattle.law_bounds.proofs.ReadyInstances.{IsWrap, arc_of_team}

module _ (i : Instance) (none : i.groups ≡ []) (team : Team) (listed : In team (teams i)) where
  name : team.name ≡ i.grammar.start
  name = from_single (subst (λ (gs : List Group). In team (teams_of i gs)) none listed)
    where
      from_single : In team (teams_of i []) → team.name ≡ i.grammar.start
      from_single (inl h) = ap (λ (x : Team). x.name) h
      from_single (inr h) = absurd h

  itself : (t : Parts) → IsDayTree i.grammar t → IsWrap i team t t
  itself t day = record {
    day = day;
    cost = refl;
    spelled = refl;
    led = λ some. absurd (some none);
    base = subst (λ (gs : List Group). Each (λ (o : Team). count (same_arc (arc_of_team i o)) (arcs 1 t) ≡ cond (nat_eq team.number o.number) 1 0) (teams_from 1 gs)) (sym none) tt;
  }

  -- without groups a tree of the team is one of the day
  pub wrap_plain : (t : Parts) → IsTreeOf i.grammar team.name t → (u : Parts) × IsWrap i team t u
  wrap_plain t on = (t, itself t (subst (λ (x : ℕ). IsTreeOf i.grammar x t) name on))

  pub unwrap_plain : (u : Parts) → IsDayTree i.grammar u → (t : Parts) × IsTreeOf i.grammar team.name t × IsWrap i team t u
  unwrap_plain u day = (u, subst (λ (x : ℕ). IsTreeOf i.grammar x u) (sym name) day, itself u day)
