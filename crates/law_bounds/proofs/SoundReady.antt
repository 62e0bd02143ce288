-- A sound instance has what the proofs on rosters ask.
use Rattle.std.proofs.Common.{◌≡◌, ℕ, arith, ◌+◌, List, [], ◌∷◌, refl, sym, subst, ◌∙◌}
use Rattle.std.specs.Prelude.{◌≢◌}
use Rattle.model_rosters.specs.declared.instance.Group.{Group}
use Rattle.model_rosters.specs.declared.instance.Instance.{Instance}
use Rattle.model_rosters.specs.Trees.{Parts, IsTreeOf, IsDayTree}
use Rattle.model_rosters.specs.Folds.{sum_n, In}
use Rattle.model_rosters.specs.SoundInstance.{IsSoundInstance, HasGroups}
use Rattle.model_rosters.specs.Teams.{Team, teams, teams_of, teams_from}
use Rattle.model_rosters.specs.tree_laws.Parts.{root}
use Rattle.law_bounds.specs.DutyTrees.{own_rules}
use Rattle.law_bounds.proofs.ReadyInstances.{IsWrap, IsReady}
use Rattle.law_bounds.proofs.TeamNumbers.{least-from, most-from}
use Rattle.law_bounds.proofs.OneTeam.{wrap_plain, unwrap_plain}
use Rattle.law_bounds.proofs.Groups.{wrap_group, unwrap_group}
use Rattle.law_bounds.proofs.SoundCodes.{has-codes, cells-placed}
use Rattle.law_bounds.proofs.SoundGroups.{is-extended}

-- what depends on whether there are groups
record HasTeams (i : Instance) : Type 0 where
  least : sum_n (λ (t : Team). t.least) (teams i) ≡ i.heads_min
  most : sum_n (λ (t : Team). t.most) (teams i) ≡ i.heads_max
  wrap : (team : Team) → In team (teams i) → (t : Parts) → IsTreeOf i.grammar team.name t → (u : Parts) × IsWrap i team t u
  unwrap : (team : Team) → In team (teams i) → (u : Parts) → IsDayTree i.grammar u → (i.groups ≢ [] → root u ≡ own_rules i + team.number) → (t : Parts) × IsTreeOf i.grammar team.name t × IsWrap i team t u

has_teams : (i : Instance) (gs : List Group) → i.groups ≡ gs → HasGroups i gs → HasTeams i
has_teams i [] e h = record {
  least = subst (λ (gs : List Group). sum_n (λ (t : Team). t.least) (teams_of i gs) ≡ i.heads_min) (sym e) (omega arith);
  most = subst (λ (gs : List Group). sum_n (λ (t : Team). t.most) (teams_of i gs) ≡ i.heads_max) (sym e) (omega arith);
  wrap = λ team k t on. wrap_plain i e team k t on;
  unwrap = λ team k u day led. unwrap_plain i e team k u day;
}
has_teams i (x ∷ gs) e h =
    let by = h.1 in
    let ext = is-extended i h.0 by in
    record {
      least = same (λ (ts : List Team). sum_n (λ (t : Team). t.least) ts) ∙ least-from 1 i.groups ∙ sym by.least;
      most = same (λ (ts : List Team). sum_n (λ (t : Team). t.most) ts) ∙ most-from 1 i.groups ∙ sym by.most;
      wrap = λ team k t on. wrap_group i ext team (among team k) t on;
      unwrap = λ team k u day led. unwrap_group i ext team (among team k) u day (led (λ none. some (sym none ∙ e)));
    }
  where
    some : ◌≡◌ {A = List Group} [] (x ∷ gs) → ⊥
    some f = cc

    same : (f : List Team → ℕ) → f (teams i) ≡ f (teams_from 1 i.groups)
    same f = subst (λ (ys : List Group). f (teams_of i ys) ≡ f (teams_from 1 ys)) (sym e) refl

    among : (team : Team) → In team (teams i) → In team (teams_from 1 i.groups)
    among team = subst (λ (ys : List Group). In team (teams_of i ys) → In team (teams_from 1 ys)) (sym e) (λ k. k)

pub ready : (i : Instance) → IsSoundInstance i → IsReady i
ready i sound =
    let t = has_teams i i.groups refl sound.groups in
    record {
      rank = sound.grammar.ranks;
      has = has-codes i.grammar sound.grammar;
      cells = cells-placed i.grammar i.cells sound.cells;
      least = t.least;
      most = t.most;
      wrap = t.wrap;
      unwrap = t.unwrap;
    }
