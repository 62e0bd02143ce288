-- The groups of a day, and those of which somebody is left.
use Rattle.std.proofs.Common.{◌≡◌, ℕ, zero, suc, arith, ◌+◌, ◌-◌, ◌≤◌, ◌<◌, Bool, true, false, cond, List, [], ◌∷◌, Some, refl, sym, ap, subst, ◌∙◌, ◌⊎◌, inl, inr}
use Rattle.std.specs.Prelude.{nat_eq, ◌≢◌, slice_get}
use Rattle.std.proofs.lemmas.Bool.{cases_lt, cases_eq, ne_eqb}
use Rattle.std.proofs.lemmas.Bool.Decides.{eqb_tells}
use Rattle.std.proofs.lemmas.Option.{none-some, same_Some}
use Rattle.model_rosters.specs.declared.instance.Group.{Group}
use Rattle.model_rosters.specs.Duties.{Duty}
use Rattle.model_rosters.specs.Folds.{In}
use Rattle.model_rosters.specs.Teams.{Team, teams_from}
use Rattle.model_rosters.proofs.TeamNumbers.{from_apart}
use Rattle.check_values.specs.remaining_day.Remaining.{kept_of, group_left, groups_left}

-- a team of the day, and what remains of it
pub record Leaves (kept : List Duty) (t u : Team) : Type 0 where
  pub named : t.name ≡ u.name
  pub least : u.least ≡ t.least - kept_of t.number kept
  pub most : u.most ≡ t.most - kept_of t.number kept
  pub some : 1 ≤ u.most

abbrev team_of : ℕ → Group → Team
team_of k x = record { number = k; name = x.name; least = x.heads_min; most = x.heads_max }

-- no two groups have one name
abbrev pub AreNamedApart : List Group → Type 0
AreNamedApart gs = (i j : ℕ) (a b : Group) → i < j → slice_get gs i ≡ Some a → slice_get gs j ≡ Some b → a.name ≢ b.name

module _ (kept : List Duty) where
  -- a team that is left is what remains of one
  abbrev IsFromTeam : ℕ → List Group → Team → Type 0
  IsFromTeam k gs u = (t : Team) × In t (teams_from k gs) × Leaves kept t u

  pub groups_up : (k m : ℕ) (gs : List Group) (u : Team) → In u (teams_from m (groups_left k kept gs)) → IsFromTeam k gs u
  groups_up k m [] u h = absurd h
  groups_up k m (x ∷ gs) u h = by (nat_eq (x.heads_max - kept_of k kept) 0) refl h (λ n i. groups_up (k + 1) n gs u i)
    where
      later : IsFromTeam (k + 1) gs u → IsFromTeam k (x ∷ gs) u
      later r = (r.0, inr r.1, r.2)

      own : u ≡ team_of m (group_left k kept x) → x.heads_max - kept_of k kept ≢ 0 → IsFromTeam k (x ∷ gs) u
      own same some =
          let most : u.most ≡ x.heads_max - kept_of k kept = ap (λ (t : Team). t.most) same in (
            team_of k x,
            inl refl,
            record {
              named = sym (ap (λ (t : Team). t.name) same);
              least = ap (λ (t : Team). t.least) same;
              most = most;
              some = omega (arith, most, some);
            },
          )

      by : (b : Bool) → nat_eq (x.heads_max - kept_of k kept) 0 ≡ b → In u (teams_from m (cond b (groups_left (k + 1) kept gs) (group_left k kept x ∷ groups_left (k + 1) kept gs)))
          → ((n : ℕ) → In u (teams_from n (groups_left (k + 1) kept gs)) → IsFromTeam (k + 1) gs u) → IsFromTeam k (x ∷ gs) u
      by true e h next = later (next m h)
      by false e (inl same) next = own same (λ z. elim (eqb_tells (x.heads_max - kept_of k kept) 0) [
        | inl p ↦ let q : true ≡ false = sym p.0 ∙ e in cc
        | inr p ↦ p.1 z
      ])
      by false e (inr h) next = later (next (m + 1) h)

  -- a team of which somebody is left remains
  pub groups_down : (k m : ℕ) (gs : List Group) (t : Team) → In t (teams_from k gs) → 1 ≤ t.most - kept_of t.number kept
      → (u : Team) × In u (teams_from m (groups_left k kept gs)) × Leaves kept t u
  groups_down k m [] t h some = absurd h
  groups_down k m (x ∷ gs) t (inl same) some =
      let number : t.number ≡ k = ap (λ (o : Team). o.number) same in
      let most : t.most ≡ x.heads_max = ap (λ (o : Team). o.most) same in
      let kept_same : kept_of t.number kept ≡ kept_of k kept = ap (λ (n : ℕ). kept_of n kept) number in
      let left : 1 ≤ x.heads_max - kept_of k kept = omega (arith, some, most, kept_same) in
      let e : nat_eq (x.heads_max - kept_of k kept) 0 ≡ false = ne_eqb (x.heads_max - kept_of k kept) 0 (λ z. omega (arith, z, left)) in (
        team_of m (group_left k kept x),
        rw e (inl refl),
        record {
          named = ap (λ (o : Team). o.name) same;
          least = sym (ap (λ (o : Team). o.least - kept_of o.number kept) same);
          most = sym (ap (λ (o : Team). o.most - kept_of o.number kept) same);
          some = left;
        },
      )
  groups_down k m (x ∷ gs) t (inr h) some = by (nat_eq (x.heads_max - kept_of k kept) 0) (λ n. groups_down (k + 1) n gs t h some)
    where
      by : (b : Bool) → ((n : ℕ) → (u : Team) × In u (teams_from n (groups_left (k + 1) kept gs)) × Leaves kept t u)
          → (u : Team) × In u (teams_from m (cond b (groups_left (k + 1) kept gs) (group_left k kept x ∷ groups_left (k + 1) kept gs))) × Leaves kept t u
      by true next = next m
      by false next = let r = next (m + 1) in (r.0, inr r.1, r.2)

  -- a group that is left has the name of one
  pub left_place : (k : ℕ) (gs : List Group) (j : ℕ) (a : Group) → slice_get (groups_left k kept gs) j ≡ Some a
      → (m : ℕ) × ((y : Group) × (slice_get gs m ≡ Some y) × (y.name ≡ a.name))
  left_place k [] j a e = absurd (none-some a e)
  left_place k (x ∷ gs) j a e = by (nat_eq (x.heads_max - kept_of k kept) 0) j e (λ n f. left_place (k + 1) gs n a f)
    where
      later : (m : ℕ) × ((y : Group) × (slice_get gs m ≡ Some y) × (y.name ≡ a.name)) → (m : ℕ) × ((y : Group) × (slice_get (x ∷ gs) m ≡ Some y) × (y.name ≡ a.name))
      later r = (suc r.0, r.1)

      by : (b : Bool) (j : ℕ) → slice_get (cond b (groups_left (k + 1) kept gs) (group_left k kept x ∷ groups_left (k + 1) kept gs)) j ≡ Some a
          → ((n : ℕ) → slice_get (groups_left (k + 1) kept gs) n ≡ Some a → (m : ℕ) × ((y : Group) × (slice_get gs m ≡ Some y) × (y.name ≡ a.name)))
          → (m : ℕ) × ((y : Group) × (slice_get (x ∷ gs) m ≡ Some y) × (y.name ≡ a.name))
      by true j e next = later (next j e)
      by false zero e next = (0, (x, refl, ap (λ (y : Group). y.name) (same_Some (group_left k kept x) a e)))
      by false (suc j) e next = later (next j e)

  pub apart_left : (k : ℕ) (gs : List Group) → AreNamedApart gs → AreNamedApart (groups_left k kept gs)
  apart_left k [] h i j a b l e f = absurd (none-some a e)
  apart_left k (x ∷ gs) h i j a b l e f =
      by (nat_eq (x.heads_max - kept_of k kept) 0) i j l e f (apart_left (k + 1) gs (λ i j a b l e f. h (suc i) (suc j) a b (omega (arith, l)) e f))
    where
      by : (t : Bool) (i j : ℕ) → i < j → slice_get (cond t (groups_left (k + 1) kept gs) (group_left k kept x ∷ groups_left (k + 1) kept gs)) i ≡ Some a
          → slice_get (cond t (groups_left (k + 1) kept gs) (group_left k kept x ∷ groups_left (k + 1) kept gs)) j ≡ Some b
          → AreNamedApart (groups_left (k + 1) kept gs) → a.name ≢ b.name
      by true i j l e f rest = rest i j a b l e f
      by false zero zero l e f rest = absurd (omega (arith, l))
      by false zero (suc j) l e f rest = λ same.
          let first : x.name ≡ a.name = ap (λ (y : Group). y.name) (same_Some (group_left k kept x) a e) in
          let r = left_place (k + 1) gs j b f in
          h 0 (suc r.0) x r.1.0 (omega arith) refl r.1.1 (first ∙ same ∙ sym r.1.2)
      by false (suc i) zero l e f rest = absurd (omega (arith, l))
      by false (suc i) (suc j) l e f rest = rest i j a b (omega (arith, l)) e f

-- the place of a team's group
team_place : (k : ℕ) (gs : List Group) (t : Team) → In t (teams_from k gs) → (m : ℕ) × (t.number ≡ k + m) × ((y : Group) × (slice_get gs m ≡ Some y) × (y.name ≡ t.name))
team_place k [] t h = absurd h
team_place k (x ∷ gs) t (inl e) = (0, omega (arith, ap (λ (o : Team). o.number) e), (x, refl, sym (ap (λ (o : Team). o.name) e)))
team_place k (x ∷ gs) t (inr h) = let r = team_place (k + 1) gs t h in (suc r.0, omega (arith, r.1), r.2)

-- teams of groups of different names are told by their names
pub one_named : (k : ℕ) (gs : List Group) (s t : Team) → AreNamedApart gs → In s (teams_from k gs) → In t (teams_from k gs) → s.name ≡ t.name → s ≡ t
one_named k gs s t apart h l same =
    let p = team_place k gs s h in
    let q = team_place k gs t l in
    let names : p.2.0.name ≡ q.2.0.name = p.2.2 ∙ same ∙ sym q.2.2 in
    elim (cases_lt p.0 q.0) [
      | inl less ↦ absurd (apart p.0 q.0 p.2.0 q.2.0 less p.2.1 q.2.1 names)
      | inr ge ↦ elim (cases_lt q.0 p.0) [
        | inl less ↦ absurd (apart q.0 p.0 q.2.0 p.2.0 less q.2.1 p.2.1 (sym names))
        | inr le ↦ from_apart k gs s t h l (omega (arith, p.1, q.1, ge, le))
      ]
    ]
