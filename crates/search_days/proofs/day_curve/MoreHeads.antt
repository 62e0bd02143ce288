-- More employees of a team at most allow no fewer rosters, at the same costs.
use Rattle.std.proofs.Common.{◌≡◌, ℕ, zero, suc, arith, ◌+◌, ◌≤◌, ◌<◌, Option, None, Some, IfSome, List, [], ◌∷◌, length, refl, sym, ap, subst, ◌∙◌, inl, inr}
use Rattle.model_rosters.specs.declared.instance.Group.{Group}
use Rattle.model_rosters.specs.declared.instance.Instance.{Instance}
use Rattle.model_rosters.specs.Duties.{Duty}
use Rattle.model_rosters.specs.Folds.{Each, In}
use Rattle.model_rosters.specs.Rosters.{IsTeamPrice, ArePrices, HasHeads, Costs}
use Rattle.model_rosters.specs.Shifts.{IsPrice}
use Rattle.model_rosters.specs.Teams.{Team, teams, teams_of, teams_from}
use Rattle.check_certificates.specs.RosterCauses.{duties}
use Rattle.check_certificates.specs.certificate_laws.Right.{YesIsRight}
use Rattle.check_certificates.specs.declared.cert.Cert.{Cert}
use Rattle.search_primal.specs.OldRosters.{IsNoDearerThan}
use Rattle.search_days.specs.declared.day_curve.staff.Staff.{Staff}
use Rattle.search_days.specs.declared.day_curve.staff.Staff.TheVariants.{Everyone, OneGroup}
use Rattle.search_days.specs.day_curve.Curves.{IsClosed, IsNoDearer}
use Rattle.search_days.specs.day_curve.Staffs.{IsStaff, with_group, with_heads}
use Rattle.search_days.proofs.day_curve.StaffGroups.{length-stays}

-- a team of the number and the name is among others
abbrev HasTeam : Team → List Team → Type 0
HasTeam team ts = (t : Team) × In t ts × (t.number ≡ team.number) × (t.name ≡ team.name)

-- and each team has its heads
abbrev HaveHeads : List Duty → List Team → Type 0
HaveHeads ds ts = Each (HasHeads ds) ts

module _ (few more : ℕ) (less : few ≤ more) where
  team-among : (n k : ℕ) (gs : List Group) (team : Team) → In team (teams_from n (with_group k few gs)) → HasTeam team (teams_from n (with_group k more gs))
  team-among n k [] team h = absurd h
  team-among n zero (g ∷ gs) team (inl e) =
      (record { number = n; name = g.name; least = g.heads_min; most = more }, inl refl, sym (ap (λ (t : Team). t.number) e), sym (ap (λ (t : Team). t.name) e))
  team-among n zero (g ∷ gs) team (inr h) = (team, inr h, refl, refl)
  team-among n (suc k) (g ∷ gs) team (inl e) = (team, inl e, refl, refl)
  team-among n (suc k) (g ∷ gs) team (inr h) =
      let rest = team-among (n + 1) k gs team h in
      (rest.0, inr rest.1, rest.2, rest.3)

  heads-among : (ds : List Duty) (n k : ℕ) (gs : List Group) → HaveHeads ds (teams_from n (with_group k few gs)) → HaveHeads ds (teams_from n (with_group k more gs))
  heads-among ds n k [] h = tt
  heads-among ds n zero (g ∷ gs) h = (record { least = h.0.least; most = let most = h.0.most in omega (arith, most, less) }, h.1)
  heads-among ds n (suc k) (g ∷ gs) h = (h.0, heads-among ds (n + 1) k gs h.1)

-- all employees
all : Instance → ℕ → Team
all i most = record { number = 0; name = i.grammar.start; least = i.heads_min; most = most }

-- the teams of a day with groups
of-groups : (i : Instance) (gs : List Group) → 0 < length gs → teams_of i gs ≡ teams_from 1 gs
of-groups i [] some = absurd (omega (arith, some))
of-groups i (g ∷ gs) some = refl

module _ (i : Instance) (few more : ℕ) (less : few ≤ more) where
  module _ (plain : i.groups ≡ []) where
    all-team : (m : ℕ) → teams (with_heads Everyone i m) ≡ all i m ∷ []
    unfolding all
    all-team m = ap (λ (gs : List Group). teams_of (with_heads Everyone i m) gs) plain

  module _ (k : ℕ) (within : k < length i.groups) where
    group-teams : (m : ℕ) → teams (with_heads (OneGroup k) i m) ≡ teams_from 1 (with_group k m i.groups)
    group-teams m = of-groups (with_heads (OneGroup k) i m) (with_group k m i.groups) (omega (arith, within, length-stays k m i.groups))

  staff-team : (s : Staff) → IsStaff i s → (team : Team) → In team (teams (with_heads s i few)) → HasTeam team (teams (with_heads s i more))
  unfolding all
  staff-team Everyone plain team h =
      subst (λ (ts : List Team). HasTeam team ts) (sym (all-team plain more)) (by (subst (λ (ts : List Team). In team ts) (all-team plain few) h))
    where
      by : In team (all i few ∷ []) → HasTeam team (all i more ∷ [])
      by (inr none) = absurd none
      by (inl same) = (all i more, inl refl, sym (ap (λ (t : Team). t.number) same), sym (ap (λ (t : Team). t.name) same))
  staff-team (OneGroup k) within team h =
      subst (λ (ts : List Team). HasTeam team ts) (sym (group-teams k within more))
      (team-among few more less 1 k i.groups team (subst (λ (ts : List Team). In team ts) (group-teams k within few) h))

  staff-heads : (s : Staff) → IsStaff i s → (ds : List Duty) → HaveHeads ds (teams (with_heads s i few)) → HaveHeads ds (teams (with_heads s i more))
  unfolding all
  staff-heads Everyone plain ds h =
      let one : HaveHeads ds (all i few ∷ []) = subst (λ (ts : List Team). HaveHeads ds ts) (all-team plain few) h in
      let most = one.0.most in
      let now : HasHeads ds (all i more) = record { least = one.0.least; most = omega (arith, most, less) } in
      subst (λ (ts : List Team). HaveHeads ds ts) (sym (all-team plain more)) (now, tt)
  staff-heads (OneGroup k) within ds h =
      subst (λ (ts : List Team). HaveHeads ds ts) (sym (group-teams k within more))
      (heads-among few more less ds 1 k i.groups (subst (λ (ts : List Team). HaveHeads ds ts) (group-teams k within few) h))

module _ (i : Instance) (s : Staff) (few more : ℕ) (of : IsStaff i s) (less : few ≤ more) where
  team-more : (d : Duty) (p : ℕ) → IsTeamPrice (with_heads s i few) d p → IsTeamPrice (with_heads s i more) d p
  team-more d p h =
      let t = staff-team i few more less s of h.team h.listed in
      record {
        team = t.0;
        listed = t.1;
        numbered = t.2 ∙ h.numbered;
        priced = subst (λ (x : ℕ). IsPrice i.grammar x d.word p) (sym t.3) h.priced;
      }

  prices-more : (ds : List Duty) (ps : List ℕ) → ArePrices (with_heads s i few) ds ps → ArePrices (with_heads s i more) ds ps
  prices-more [] [] h = tt
  prices-more [] (p ∷ ps) h = absurd h
  prices-more (d ∷ ds) [] h = absurd h
  prices-more (d ∷ ds) (p ∷ ps) h = (team-more d p h.0, prices-more ds ps h.1)

  pub costs-more : (ds : List Duty) (amount : ℕ) → Costs (with_heads s i few) ds amount → Costs (with_heads s i more) ds amount
  costs-more ds amount c = record {
    prices = c.prices;
    allowed = record {
      shifts = prices-more ds c.prices c.allowed.shifts;
      heads = staff-heads i few more less s of ds c.allowed.heads;
      coverage = c.allowed.coverage;
    };
    total = c.total;
  }

  -- a bound on all rosters of more employees bounds the cost of one of fewer
  no-dearer : (ds : List Duty) (a b bound : Option ℕ) → bound ≡ b → IfSome a (λ amount. Costs (with_heads s i few) ds amount)
      → IfSome bound (λ n. (es : List Duty) (amount : ℕ) → Costs (with_heads s i more) es amount → n ≤ amount)
      → (bound ≡ None → (es : List Duty) (amount : ℕ) → Costs (with_heads s i more) es amount → ⊥) → IsNoDearer b a
  no-dearer ds None b bound e has least none = tt
  no-dearer ds (Some a) None bound e has least none = none e ds a (costs-more ds a has)
  no-dearer ds (Some a) (Some b) bound e has least none =
      let some = subst (λ (o : Option ℕ). IfSome o (λ n. (es : List Duty) (amount : ℕ) → Costs (with_heads s i more) es amount → n ≤ amount)) e least in
      some ds a (costs-more ds a has)

  pub costs-fall : (c d : Cert) → YesIsRight (with_heads s i few) c → YesIsRight (with_heads s i more) d → IsClosed d → IsNoDearer d.cost c.cost
  costs-fall c d low high closed = no-dearer (duties c.shifts) c.cost d.cost d.bound closed low.roster high.bound high.none

  offered : (ds : List Duty) (a cost : Option ℕ) → IfSome a (λ amount. Costs (with_heads s i few) ds amount)
      → ((x : ℕ) → Costs (with_heads s i more) ds x → (n : ℕ) × (cost ≡ Some n) × (n ≤ x)) → IsNoDearer cost a
  offered ds None cost has falls = tt
  offered ds (Some a) cost has falls =
      let found = falls a (costs-more ds a has) in
      subst (λ (o : Option ℕ). IsNoDearer o (Some a)) (sym found.1) found.2

  -- what is found where the roster is offered costs no more than it
  pub offered-falls : (c : Cert) (cost : Option ℕ) → YesIsRight (with_heads s i few) c → IsNoDearerThan (with_heads s i more) c.shifts cost → IsNoDearer cost c.cost
  offered-falls c cost right falls = offered (duties c.shifts) c.cost cost right.roster falls
