-- A sound day and its remaining day go together.
use Rattle.std.proofs.Common.{◌≡◌, ℕ, zero, suc, arith, ◌+◌, ◌-◌, ◌≤◌, ◌<◌, List, [], ◌∷◌, length, Some, refl, sym, ap, subst, ◌∙◌, inl, inr}
use Rattle.std.specs.Prelude.{slice_get, All}
use Rattle.std.proofs.lemmas.List.Elements.{All-head, All-tail}
use Rattle.model_rosters.specs.declared.grammar.CodeDef.{CodeDef}
use Rattle.model_rosters.specs.declared.grammar.Grammar.{Grammar}
use Rattle.model_rosters.specs.declared.instance.Group.{Group}
use Rattle.model_rosters.specs.declared.instance.Instance.{Instance}
use Rattle.model_rosters.specs.Duties.{Duty}
use Rattle.model_rosters.specs.Extension.{extended}
use Rattle.model_rosters.specs.Folds.{sum_n, Each, In}
use Rattle.model_rosters.specs.Rosters.{ArePrices, HasHeads}
use Rattle.model_rosters.specs.Shifts.{IsPrice}
use Rattle.model_rosters.specs.Sound.{IsSound}
use Rattle.model_rosters.specs.SoundInstance.{IsGroup, AreGroups, IsSoundInstance}
use Rattle.model_rosters.specs.Teams.{Team, teams, teams_of, teams_from}
use Rattle.law_bounds.proofs.RosterTrees.{in_teams, heads}
use Rattle.law_bounds.proofs.SoundReady.{ready}
use Rattle.text_demand_lines.specs.Teams.{most_heads}
use Rattle.text_demand.specs.InstanceOf.{day_grammar}
use Rattle.check_values.proofs.group_rules.NameTrees.{price_down, price_up}
use Rattle.check_values.specs.remaining_day.Remaining.{kept_of, groups_left, remaining, AreWithin}
use Rattle.check_values.specs.remaining_day.Laws.{HasRest}
use Rattle.check_values.proofs.remaining_day.GroupsLeft.{Leaves, AreNamedApart, groups_up, groups_down, apart_left, one_named}
use Rattle.check_values.proofs.remaining_day.Rosters.{IsLeft, whole, rest}
use Rattle.check_values.proofs.remaining_day.SameShifts.{AreTeamsLeft}

-- ---- a roster has at most 64 shifts

sum_most : (ts : List Team) (ds : List Duty) → Each (HasHeads ds) ts → in_teams ts ds ≤ sum_n (λ (t : Team). t.most) ts
sum_most [] ds h = omega arith
sum_most (t ∷ ts) ds h = omega (arith, h.0.most, sum_most ts ds h.1)

few_shifts : (i : Instance) → IsSoundInstance i → (ds : List Duty) (ps : List ℕ) → ArePrices i ds ps → Each (HasHeads ds) (teams i) → length ds ≤ 64
few_shifts i sound ds ps prices h =
    let all = heads i (ready i sound) ds ps prices in
    let most = sum_most (teams i) ds h in
    omega (arith, all, most, (ready i sound).most, sound.few)

-- ---- groups, of which some are left

pub teams_some : (i : Instance) (gs : List Group) → 1 ≤ most_heads gs → teams_of i gs ≡ teams_from 1 gs
teams_some i [] h = absurd (omega (arith, h))
teams_some i (x ∷ gs) h = refl

pub day_some : (g : Grammar) (gs : List Group) → 1 ≤ most_heads gs → day_grammar g gs ≡ extended g gs
day_some g [] h = absurd (omega (arith, h))
day_some g (x ∷ gs) h = refl

name_below : (names k : ℕ) (gs : List Group) (t : Team) → All (IsGroup names) gs → In t (teams_from k gs) → t.name < names
name_below names k [] t h i = absurd i
name_below names k (x ∷ gs) t h (inl e) = let f = ap (λ (o : Team). o.name) e in omega (arith, f, (All-head (IsGroup names) x gs h).name)
name_below names k (x ∷ gs) t h (inr i) = name_below names (k + 1) gs t (All-tail (IsGroup names) x gs h) i

ordered_from : (names k : ℕ) (gs : List Group) (t : Team) → All (IsGroup names) gs → In t (teams_from k gs) → t.least ≤ t.most
ordered_from names k [] t h i = absurd i
ordered_from names k (x ∷ gs) t h (inl e) =
    let least = ap (λ (o : Team). o.least) e in
    let most = ap (λ (o : Team). o.most) e in
    omega (arith, least, most, (All-head (IsGroup names) x gs h).order)
ordered_from names k (x ∷ gs) t h (inr i) = ordered_from names (k + 1) gs t (All-tail (IsGroup names) x gs h) i

-- what the law asks of a day
abbrev IsFine : Grammar → List Duty → Instance → Type 0
IsFine g kept i = i.grammar ≡ day_grammar g i.groups → IsSoundInstance i → 1 ≤ (remaining g i kept).heads_max → IsLeft i (remaining g i kept) kept

module _ (g : Grammar) (sound : IsSound g) (kept : List Duty) where
  lone : (i : Instance) → IsFine g kept (record i { groups = [] })
  lone i by day some =
      let j : Instance = record i { groups = [] } in
      let r : Instance = remaining g j kept in
      let start : i.grammar.start ≡ g.start = ap (λ (q : Grammar). q.start) by in
      let own : Team = record { number = 0; name = i.grammar.start; least = i.heads_min; most = i.heads_max } in
      let left : Team = record { number = 0; name = g.start; least = i.heads_min - kept_of 0 kept; most = i.heads_max - kept_of 0 kept } in
      let up : (u : Team) → In u (teams r) → (t : Team) × In t (teams j) × Leaves kept t u = λ u listed. elim listed [
        | inl e ↦ (own, inl refl, record { named = start ∙ sym (ap (λ (t : Team). t.name) e); least = ap (λ (t : Team). t.least) e; most = ap (λ (t : Team). t.most) e; some = omega (arith, some, ap (λ (t : Team). t.most) e) })
        | inr none ↦ absurd none
      ] in
      let down : (t : Team) → In t (teams j) → 1 ≤ t.most - kept_of t.number kept → (u : Team) × In u (teams r) × Leaves kept t u = λ t listed lives. elim listed [
        | inl e ↦ (
          left,
          inl refl,
          record {
            named = ap (λ (o : Team). o.name) e ∙ start;
            least = sym (ap (λ (o : Team). o.least - kept_of o.number kept) e);
            most = sym (ap (λ (o : Team). o.most - kept_of o.number kept) e);
            some = some;
          },
        )
        | inr none ↦ absurd none
      ] in
      record {
        matching = record {
          up = up;
          down = down;
          one = λ s t h l e. elim h [ inl a ↦ elim l [ inl b ↦ a ∙ sym b | inr none ↦ absurd none ] | inr none ↦ absurd none ];
          one_left = λ s t h l e. elim h [ inl a ↦ elim l [ inl b ↦ a ∙ sym b | inr none ↦ absurd none ] | inr none ↦ absurd none ];
          price_whole = λ t w p h k. subst (λ (q : Grammar). IsPrice q t.name w p) (sym by) k;
          price_rest = λ t w p h k. subst (λ (q : Grammar). IsPrice q t.name w p) by k;
          codes = ap (λ (q : Grammar). q.codes) (sym by);
        };
        cells = refl;
        ordered = λ t h. elim h [ inl e ↦ omega (arith, day.order, ap (λ (o : Team). o.least) e, ap (λ (o : Team). o.most) e) | inr none ↦ absurd none ];
        few = few_shifts j day;
      }

  grouped : (i : Instance) (x : Group) (xs : List Group) → IsFine g kept (record i { groups = x ∷ xs })
  grouped i x xs by day some =
      let gs : List Group = x ∷ xs in
      let j : Instance = record i { groups = gs } in
      let ls : List Group = groups_left 1 kept gs in
      let r : Instance = remaining g j kept in
      let b : Grammar = day.groups.0 in
      let names : length b.names ≡ length g.names = sym (ap (λ (q : Grammar). q.start) day.groups.1.grammar) ∙ ap (λ (q : Grammar). q.start) by in
      let are : AreGroups (length g.names) gs = subst (λ (n : ℕ). AreGroups n gs) names day.groups.1.groups in
      let all : teams r ≡ teams_from 1 ls = teams_some r ls some in
      let rules : r.grammar ≡ extended g ls = day_some g ls some in
      let in_left : (u : Team) → In u (teams r) → In u (teams_from 1 ls) = λ u h. subst (In u) all h in
      let to_left : (u : Team) → In u (teams_from 1 ls) → In u (teams r) = λ u h. subst (In u) (sym all) h in
      let below : (t : Team) → In t (teams_from 1 gs) → t.name < length g.names = λ t h. name_below (length g.names) 1 gs t are.each h in
      record {
        matching = record {
          up = λ u h. groups_up kept 1 1 gs u (in_left u h);
          down = λ t h lives. let d = groups_down kept 1 1 gs t h lives in (d.0, to_left d.0 d.1, d.2);
          one = λ s t h l e. one_named 1 gs s t are.apart h l e;
          one_left = λ s t h l e. one_named 1 ls s t (apart_left kept 1 gs are.apart) (in_left s h) (in_left t l) e;
          price_whole = λ t w p h k.
              let plain = price_down g ls g.start sound t.name w p (below t h) (subst (λ (q : Grammar). IsPrice q t.name w p) rules k) in
              subst (λ (q : Grammar). IsPrice q t.name w p) (sym by) (price_up g gs g.start sound t.name w p (below t h) plain);
          price_rest = λ t w p h k.
              let plain = price_down g gs g.start sound t.name w p (below t h) (subst (λ (q : Grammar). IsPrice q t.name w p) by k) in
              subst (λ (q : Grammar). IsPrice q t.name w p) (sym rules) (price_up g ls g.start sound t.name w p (below t h) plain);
          codes = ap (λ (q : Grammar). q.codes) rules ∙ sym (ap (λ (q : Grammar). q.codes) by);
        };
        cells = refl;
        ordered = λ t h. ordered_from (length g.names) 1 gs t are.each h;
        few = few_shifts j day;
      }

  fine : (i : Instance) → IsFine g kept i
  fine i = by i.groups
    where
      by : (gs : List Group) → IsFine g kept (record i { groups = gs })
      by [] = lone i
      by (x ∷ xs) = grouped i x xs

  pub has-rest : (i : Instance) (prices : List ℕ) → i.grammar ≡ day_grammar g i.groups → IsSoundInstance i → ArePrices i kept prices → AreWithin i kept
      → 1 ≤ (remaining g i kept).heads_max
      → HasRest i (remaining g i kept) kept prices
  has-rest i prices by day first within some =
      let left = fine i by day some in
      record {
        whole = whole i (remaining g i kept) kept left prices first within;
        rest = rest i (remaining g i kept) kept left prices first;
      }
