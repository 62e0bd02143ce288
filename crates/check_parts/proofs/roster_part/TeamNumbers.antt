-- The teams of a day by their places and numbers.
use Rattle.std.proofs.Common.{◌≡◌, ℕ, zero, suc, ◌+◌, ◌<◌, ◌≤◌, max, arith, None, Some, List, [], ◌∷◌, length, ap, refl, sym, subst, ◌∙◌, inl}
use Rattle.std.specs.Prelude.{slice_get}
use Rattle.std.proofs.lemmas.Option.{none-some, same_Some, slice_get-get_or}
use Rattle.model_rosters.specs.declared.instance.Group.{Group}
use Rattle.model_rosters.specs.declared.instance.Instance.{Instance}
use Rattle.model_rosters.specs.Folds.{In}
use Rattle.model_rosters.specs.Teams.{Team, teams, teams_of, teams_from}
use Rattle.model_rosters.proofs.TeamNumbers.{team_apart}
use Rattle.model_rosters.proofs.EachLemmas.{get-in}
use Rattle.check_certificates.specs.Sound.{IsGroupNumber}
use Rattle.check_parts.specs.roster_part.TeamViews.{IsTeamName}

abbrev group_team : ℕ → Group → Team
group_team n g = record { number = n; name = g.name; least = g.heads_min; most = g.heads_max }

abbrev lone_team : Instance → Team
lone_team i = record { number = 0; name = i.grammar.start; least = i.heads_min; most = i.heads_max }

length-teams_from : (k : ℕ) (gs : List Group) → length (teams_from k gs) ≡ length gs
length-teams_from k [] = refl
length-teams_from k (g ∷ gs) = omega (arith, length-teams_from (k + 1) gs)

teams_from-at : (k : ℕ) (gs : List Group) (m n : ℕ) (g : Group) → slice_get gs m ≡ Some g → n ≡ k + m → slice_get (teams_from k gs) m ≡ Some (group_team n g)
teams_from-at k [] m n g at e = absurd (none-some g at)
teams_from-at k (x ∷ gs) zero n g at e =
    let number : k ≡ n = omega arith in
    ap (λ (y : Group). Some (group_team k y)) (same_Some x g at) ∙ ap (λ (a : ℕ). Some (group_team a g)) number
teams_from-at k (x ∷ gs) (suc m) n g at e = teams_from-at (k + 1) gs m n g at (omega arith)

module _ (i : Instance) where
  count_of : (gs : List Group) → length (teams_of i gs) ≡ max (length gs) 1
  count_of [] = refl
  count_of (g ∷ gs) = omega (arith, length-teams_from 1 (g ∷ gs))

  pub team_count-is : (n : ℕ) → n ≡ length i.groups → max n 1 ≡ length (teams i)
  team_count-is n e = omega (arith, count_of i.groups)

  group_at : (gs : List Group) (k : ℕ) (g : Group) → slice_get gs k ≡ Some g → slice_get (teams_of i gs) k ≡ Some (group_team (k + 1) g)
  group_at [] k g at = absurd (none-some g at)
  group_at (x ∷ gs) k g at = teams_from-at 1 (x ∷ gs) k (k + 1) g at (omega arith)

  pub team_at-group : (k : ℕ) (g : Group) → slice_get i.groups k ≡ Some g → slice_get (teams i) k ≡ Some (group_team (k + 1) g)
  team_at-group k g at = group_at i.groups k g at

  lone_at : (gs : List Group) (k : ℕ) → slice_get gs k ≡ None → k < length (teams_of i gs) → slice_get (teams_of i gs) k ≡ Some (lone_team i)
  lone_at [] zero at l = refl
  lone_at [] (suc k) at l = absurd (omega arith)
  lone_at (g ∷ gs) k at l =
      let there : k < length (g ∷ gs) = omega (arith, length-teams_from 1 (g ∷ gs)) in
      absurd (none-some g (sym at ∙ slice_get-get_or (g ∷ gs) k g there ∙ same_group (slice_get-get_or (g ∷ gs) k g there)))
    where
      same_group : {y : Group} → slice_get (g ∷ gs) k ≡ Some y → Some y ≡ Some g
      same_group e = absurd (none-some _ (sym at ∙ e))

  pub team_at-lone : (k : ℕ) → slice_get i.groups k ≡ None → k < length (teams i) → slice_get (teams i) k ≡ Some (lone_team i)
  team_at-lone k at l = lone_at i.groups k at l

  -- the only team of its number
  named : (t : Team) → In t (teams i) → IsTeamName i t.number t.name
  named t at = record { team = t; listed = at; numbered = refl; named = refl; only = λ u there e. ap (λ (x : Team). x.name) (team_apart i i.groups u t there at e) }

  pub group_named : (k n : ℕ) (g : Group) → slice_get i.groups k ≡ Some g → n ≡ k + 1 → IsTeamName i n g.name
  group_named k n g at e = subst (λ (m : ℕ). IsTeamName i m g.name) (sym e) (named (group_team (k + 1) g) (get-in (teams i) k _ (team_at-group k g at)))

  no_group : (gs : List Group) → i.groups ≡ gs → IsGroupNumber gs 0 → IsTeamName i 0 i.grammar.start
  no_group [] e h = named (lone_team i) (subst (λ (gs : List Group). In (lone_team i) (teams_of i gs)) (sym e) (inl refl))
  no_group (g ∷ gs) e h = absurd (omega (arith, h.0))

  pub lone_named : (n : ℕ) → n ≡ 0 → IsGroupNumber i.groups n → IsTeamName i n i.grammar.start
  lone_named n e h = subst (λ (m : ℕ). IsTeamName i m i.grammar.start) (sym e) (no_group i.groups refl (subst (λ (m : ℕ). IsGroupNumber i.groups m) e h))

pub group_within : (gs : List Group) (n : ℕ) → IsGroupNumber gs n → 1 ≤ n → n < length gs + 1
group_within [] n h l = absurd (omega (arith, h))
group_within (g ∷ gs) n h l = omega (arith, h.1)
