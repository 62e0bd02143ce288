-- Teams that need employees and have no shift, by their groups.
use Rattle.std.proofs.Common.{◌≡◌, ◌↔◌, ℕ, ◌+◌, ◌<◌, arith, All, List, [], ◌∷◌, length, ap, refl, sym, subst, inl, inr, ◌∙◌, length-append}
use Rattle.std.proofs.lemmas.List.Elements.{All-nil, All-weaker, All-same}
use Rattle.model_rosters.specs.declared.grammar.Grammar.{Grammar}
use Rattle.model_rosters.specs.declared.instance.Group.{Group}
use Rattle.model_rosters.specs.declared.instance.Instance.{Instance}
use Rattle.model_rosters.specs.Folds.{In}
use Rattle.model_rosters.specs.SoundInstance.{IsSoundInstance, IsGroup, IsGroupedBy, HasGroups}
use Rattle.model_rosters.specs.Teams.{Team, teams, teams_of, teams_from}
use Rattle.law_bounds.specs.Infeasible.{IsUnstaffable}
use Rattle.check_parts.specs.priced_part.Filled.{NeedsInVain}

-- some team of the list needs employees in vain
abbrev SomeTeam : Grammar → List Team → Type 0
SomeTeam g ts = (t : Team) × In t ts × NeedsInVain g t.name t.least

-- some group of the list does
abbrev pub SomeGroup : Grammar → List Group → Type 0
SomeGroup g gs = (x : Group) × In x gs × NeedsInVain g x.name x.heads_min

module _ (g : Grammar) where
  later : (t : Team) (ts : List Team) → SomeTeam g ts → SomeTeam g (t ∷ ts)
  later t ts h = (h.0, inr h.1, h.2)

  team_of : (k : ℕ) (gs : List Group) (x : Group) → In x gs → NeedsInVain g x.name x.heads_min → SomeTeam g (teams_from k gs)
  team_of k [] x at n = absurd at
  team_of k (y ∷ gs) x (inl e) n = (record { number = k; name = y.name; least = y.heads_min; most = y.heads_max }, inl refl, subst (λ (z : Group). NeedsInVain g z.name z.heads_min) e n)
  team_of k (y ∷ gs) x (inr at) n = later _ _ (team_of (k + 1) gs x at n)

  group_of : (k : ℕ) (gs : List Group) (t : Team) → In t (teams_from k gs) → NeedsInVain g t.name t.least → SomeGroup g gs
  group_of k [] t at n = absurd at
  group_of k (y ∷ gs) t (inl e) n = (y, inl refl, subst (λ (z : Team). NeedsInVain g z.name z.least) e n)
  group_of k (y ∷ gs) t (inr at) n = let r = group_of (k + 1) gs t at n in (r.0, inr r.1, r.2)

module _ (i : Instance) where
  idle : SomeTeam i.grammar (teams i) → (t : Team) × IsUnstaffable i t
  idle h = (h.0, record { team = h.1; needs = h.2.0; none = h.2.1 })

  of_unstaffable : ((t : Team) × IsUnstaffable i t) → SomeTeam i.grammar (teams i)
  of_unstaffable h = (h.0, h.1.team, (h.1.needs, h.1.none))

  same_teams : (gs : List Group) → i.groups ≡ gs → (SomeTeam i.grammar (teams_of i gs) → (t : Team) × IsUnstaffable i t) × (((t : Team) × IsUnstaffable i t) → SomeTeam i.grammar (teams_of i gs))
  same_teams gs e =
      subst (λ (ys : List Group). (SomeTeam i.grammar (teams_of i ys) → (t : Team) × IsUnstaffable i t) × (((t : Team) × IsUnstaffable i t) → SomeTeam i.grammar (teams_of i ys))) e (idle, of_unstaffable)

  pub idle-plain : i.groups ≡ [] → NeedsInVain i.grammar i.grammar.start i.heads_min ↔ ((t : Team) × IsUnstaffable i t)
  idle-plain e = let s = same_teams [] e in (λ n. s.0 (_, inl refl, n), λ h. only (s.1 h))
    where
      only : SomeTeam i.grammar (teams_of i []) → NeedsInVain i.grammar i.grammar.start i.heads_min
      only (t, at, n) = pick at
        where
          pick : In t (teams_of i []) → NeedsInVain i.grammar i.grammar.start i.heads_min
          pick (inl e) = subst (λ (z : Team). NeedsInVain i.grammar z.name z.least) e n
          pick (inr at) = absurd at

  groups : (gs : List Group) → i.groups ≡ gs → (gs ≡ [] → ⊥) → SomeGroup i.grammar gs ↔ ((t : Team) × IsUnstaffable i t)
  groups [] e some = absurd (some refl)
  groups (y ∷ gs) e some =
      let s = same_teams (y ∷ gs) e in
      (λ h. s.0 (team_of i.grammar 1 (y ∷ gs) h.0 h.1 h.2), λ h. let t = s.1 h in group_of i.grammar 1 (y ∷ gs) t.0 t.1 t.2)

  pub idle-groups : (i.groups ≡ [] → ⊥) → SomeGroup i.grammar i.groups ↔ ((t : Team) × IsUnstaffable i t)
  idle-groups some = groups i.groups refl some

  names_of : (gs : List Group) → i.groups ≡ gs → HasGroups i gs → All (λ (x : Group). x.name < length i.grammar.names) gs
  names_of [] e h = All-nil _
  names_of (y ∷ gs) e h =
      let by : IsGroupedBy i h.0 = h.1 in
      let more : length i.grammar.names ≡ length h.0.names + 1 = ap (λ (x : Grammar). length x.names) by.grammar ∙ length-append h.0.names _ in
      All-weaker (IsGroup (length h.0.names)) (λ (x : Group). x.name < length i.grammar.names) (λ x p. let q = p.name in omega arith) (y ∷ gs) (All-same (IsGroup (length h.0.names)) (y ∷ gs) i.groups (sym e) by.groups.each)

  -- each group has one of the names
  pub group_names : IsSoundInstance i → All (λ (x : Group). x.name < length i.grammar.names) i.groups
  group_names s = names_of i.groups refl s.groups
