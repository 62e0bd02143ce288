-- Each tree of the day is of the team whose rule comes first.
use Rattle.std.proofs.Common.{◌≡◌, ℕ, zero, suc, arith, ◌+◌, Some, List, [], ◌∷◌, ◌++◌, length, map, refl, ap, subst, sym, ◌⊎◌, inl, inr}
use Rattle.std.specs.Prelude.{slice_get}
use Rattle.model_rosters.specs.declared.grammar.Grammar.{Grammar}
use Rattle.model_rosters.specs.declared.grammar.Rule.{Rule}
use Rattle.model_rosters.specs.declared.instance.Group.{Group}
use Rattle.model_rosters.specs.declared.instance.Instance.{Instance}
use Rattle.model_rosters.specs.Grammar.{rule_at}
use Rattle.model_rosters.specs.Trees.{Parts, done, letter, uses, IsDayTree}
use Rattle.model_rosters.specs.Folds.{In}
use Rattle.model_rosters.specs.Extension.{group_rule}
use Rattle.model_rosters.specs.SoundInstance.{IsSoundInstance, IsGroupedBy, HasGroups}
use Rattle.model_rosters.specs.Teams.{Team, teams_of, teams_from}
use Rattle.model_rosters.specs.tree_laws.Parts.{root}
use Rattle.model_rosters.proofs.tree_laws.Rules.{sound-rule}
use Rattle.law_bounds.specs.DutyTrees.{own_rules}
use Rattle.law_bounds.specs.Laws.{IsOfTeam}
use Rattle.law_bounds.proofs.Groups.{unwrap_group}
use Rattle.law_bounds.proofs.SoundGroups.{is-extended}
use Rattle.law_bounds.proofs.PlainRosters.{day_team, one-team}

-- an item of two lists is one of the first or one of the second
get_split : {A : Type 0} (xs ys : List A) (k : ℕ) (x : A) → slice_get (xs ++ ys) k ≡ Some x → (slice_get xs k ≡ Some x) ⊎ ((m : ℕ) × (k ≡ length xs + m) × (slice_get ys m ≡ Some x))
get_split [] ys k x e = inr (k, omega arith, e)
get_split (y ∷ xs) ys zero x e = inl e
get_split (y ∷ xs) ys (suc k) x e = later (get_split xs ys k x e)
  where
    later : (slice_get xs k ≡ Some x) ⊎ ((m : ℕ) × (k ≡ length xs + m) × (slice_get ys m ≡ Some x)) → (slice_get xs k ≡ Some x) ⊎ ((m : ℕ) × (suc k ≡ length (y ∷ xs) + m) × (slice_get ys m ≡ Some x))
    later (inl h) = inl h
    later (inr h) = inr (h.0, omega (arith, h.1), h.2)

-- the added rule at place m is that of the team at place m
team_at : (a k : ℕ) (gs : List Group) (m : ℕ) (rule : Rule) → slice_get (map (group_rule a) gs) m ≡ Some rule → (o : Team) × In o (teams_from k gs) × (o.number ≡ k + m)
team_at a k [] m rule e = cc
team_at a k (x ∷ gs) zero rule e = (record { number = k; name = x.name; least = x.heads_min; most = x.heads_max }, inl refl, omega arith)
team_at a k (x ∷ gs) (suc m) rule e = let r = team_at a (k + 1) gs m rule e in (r.0, inr r.1, omega (arith, r.2))

length_added : (a : ℕ) (rs : List Rule) (gs : List Group) → length (rs ++ map (group_rule a) gs) ≡ length rs + length gs
length_added a [] [] = refl
length_added a [] (x ∷ gs) = omega (arith, length_added a [] gs)
length_added a (r ∷ rs) gs = omega (arith, length_added a rs gs)

module _ (i : Instance) (g : Grammar) (by : IsGroupedBy i g) where
  count_own : own_rules i ≡ length g.rules
  count_own = let e = ap (λ (q : Grammar). length q.rules) by.grammar in let n = length_added (length g.names) g.rules i.groups in omega arith

  -- a rule of the added name is one that a group adds
  added_team : (q : ℕ) (rule : Rule) → rule_at i.grammar q ≡ Some rule → rule.left ≡ i.grammar.start → (o : Team) × In o (teams_from 1 i.groups) × (q ≡ own_rules i + o.number)
  added_team zero rule e left = cc
  added_team (suc q) rule e left = pick (get_split g.rules (map (group_rule (length g.names)) i.groups) q rule (subst (λ (y : Grammar). rule_at y (suc q) ≡ Some rule) by.grammar e))
    where
      start : i.grammar.start ≡ length g.names
      start = ap (λ (y : Grammar). y.start) by.grammar

      pick : (slice_get g.rules q ≡ Some rule) ⊎ ((m : ℕ) × (q ≡ length g.rules + m) × (slice_get (map (group_rule (length g.names)) i.groups) m ≡ Some rule)) → (o : Team) × In o (teams_from 1 i.groups) × (suc q ≡ own_rules i + o.number)
      pick (inl h) = absurd (omega (arith, (sound-rule g by.sound (suc q) rule h).left, left, start))
      pick (inr h) = let t = team_at (length g.names) 1 i.groups h.0 rule h.2 in (t.0, t.1, omega (arith, h.1, t.2, count_own))

  root_team : (t : Parts) → IsDayTree i.grammar t → (o : Team) × In o (teams_from 1 i.groups) × (root t ≡ own_rules i + o.number)
  root_team done day = absurd day.0
  root_team (letter c rest) day = absurd day.0
  root_team (uses q n inner rest) day = added_team q day.0.0 day.0.1 day.0.2

of_team : (i : Instance) (gs : List Group) → i.groups ≡ gs → HasGroups i gs → (t : Parts) → IsDayTree i.grammar t → (team : Team) × IsOfTeam i t team
of_team i [] e h t day = (
  day_team i,
  record {
    listed = subst (λ (ts : List Team). In (day_team i) ts) (sym (one-team i e)) (inl refl);
    led = λ some. absurd (some e);
    tree = t;
    spells = record { derives = day; word = refl };
    cost = refl;
  },
)
of_team i (x ∷ gs) e h t day =
    let r = root_team i h.0 h.1 t day in
    let w = unwrap_group i (is-extended i h.0 h.1) r.0 r.1 t day r.2 in (
      r.0,
      record {
        listed = subst (λ (ys : List Group). In r.0 (teams_from 1 ys) → In r.0 (teams_of i ys)) (sym e) (λ k. k) r.1;
        led = λ some. r.2;
        tree = w.0;
        spells = record { derives = w.1; word = sym w.2.spelled };
        cost = sym w.2.cost;
      },
    )

pub team-of : (i : Instance) (t : Parts) → IsSoundInstance i → IsDayTree i.grammar t → (team : Team) × IsOfTeam i t team
team-of i t sound day = of_team i i.groups refl sound.groups t day
