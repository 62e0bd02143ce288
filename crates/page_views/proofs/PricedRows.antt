-- The word of each row has the row's price by the rules of its group.
use Rattle.std.proofs.Common.{◌≡◌, ℕ, suc, ◌+◌, ◌-◌, ◌<◌, Bool, true, false, Option, None, Some, List, [], ◌∷◌, length, refl, sym, ap, subst, ◌∙◌, arith, inl, inr, All}
use Rattle.std.specs.List.{flat_map}
use Rattle.std.specs.Prelude.{IfSome, if◌then◌else◌, slice_get}
use Rattle.model_rosters.specs.declared.grammar.Grammar.{Grammar}
use Rattle.model_rosters.specs.declared.instance.Group.{Group}
use Rattle.model_rosters.specs.declared.instance.Instance.{Instance}
use Rattle.model_rosters.specs.declared.instance.Shift.{Shift}
use Rattle.model_rosters.specs.Duties.{duty}
use Rattle.model_rosters.specs.Extension.{extended}
use Rattle.model_rosters.specs.Folds.{Each, In}
use Rattle.model_rosters.specs.Rosters.{ArePrices, IsTeamPrice}
use Rattle.model_rosters.specs.Shifts.{IsPrice}
use Rattle.model_rosters.specs.Sound.{IsSound}
use Rattle.model_rosters.specs.SoundInstance.{HasGroups, IsGroup, IsSoundInstance}
use Rattle.model_rosters.specs.Teams.{Team, teams_from, teams_of}
use Rattle.model_rosters.proofs.EachLemmas.{Each-append, Each-get, each_all}
use Rattle.model_rosters.proofs.tree_laws.Rules.{All-slice_get}
use Rattle.check_certificates.specs.certificate_laws.Accepted.{IsStated}
use Rattle.check_certificates.specs.RosterCauses.{duties, stated_prices}
use Rattle.check_values.specs.group_rules.Plain.{plain_from}
use Rattle.page_labels.specs.declared.labels.Labels.{Labels}
use Rattle.page_text.specs.declared.row.Row.{Row}
use Rattle.page_views.specs.declared.compare.Comparison.{Comparison}
use Rattle.page_views.specs.Draw.{IsSoundShown}
use Rattle.page_views.specs.declared.roster.ShownRoster.{ShownRoster}
use Rattle.page_views.specs.Rows.{IsPricedRow, has_row, own_row, row_of, rows_at, rows_of, start_from}
use Rattle.model_shift_figures.specs.Order.{drawn_order}
use Rattle.check_values.proofs.group_rules.NameTrees.{price_down}
use Rattle.check_values.proofs.group_rules.PlainGrammars.{plain_extended, plain_none}
use Rattle.page_views.proofs.Starts.{sound_from}

-- the group of a team, by the team's number
team_group : (k : ℕ) (gs : List Group) (o : Team) → In o (teams_from k gs) → (m : ℕ) × (o.number ≡ k + m) × ((t : Group) × (slice_get gs m ≡ Some t) × (t.name ≡ o.name))
team_group k [] o h = absurd h
team_group k (x ∷ gs) o (inl e) = (0, omega (arith, ap (λ (t : Team). t.number) e), (x, refl, sym (ap (λ (t : Team). t.name) e)))
team_group k (x ∷ gs) o (inr h) = let r = team_group (k + 1) gs o h in (suc r.0, omega (arith, r.1), r.2)

-- the name of the group at a place is that of the team
start_is : (h : Grammar) (gs : List Group) (n m : ℕ) (t : Group) → n - 1 ≡ m → slice_get gs m ≡ Some t → start_from h gs n ≡ t.name
start_is h gs n m t e there =
    let found : slice_get gs (n - 1) ≡ Some t = ap (λ (k : ℕ). slice_get gs k) e ∙ there in
    ap (λ (q : Option Group). elim q [ None ↦ h.start | Some u ↦ u.name ]) found

-- a sound grammar by which its start derives the word at the price
record Prices (word : List ℕ) (amount : ℕ) (g : Grammar) : Type 0 where
  pub sound : IsSound g
  pub price : IsPrice g g.start word amount

module _ (i : Instance) (word : List ℕ) (price : ℕ) where
  by_groups : (gs : List Group) → i.groups ≡ gs → HasGroups i gs → IsSound i.grammar → (o : Team) → In o (teams_of i gs) → IsPrice i.grammar o.name word price
      → Prices word price (plain_from i.grammar gs (start_from i.grammar gs o.number))
  by_groups [] same h sound o (inr k) p = absurd k
  by_groups [] same h sound o (inl e) p =
      subst (Prices word price) (sym (plain_none i.grammar))
      (record { sound = sound; price = subst (λ (n : ℕ). IsPrice i.grammar n word price) (ap (λ (t : Team). t.name) e) p })
  by_groups (x ∷ gs) same h sound o listed p =
      let g = h.0 in
      let by = h.1 in
      let at : i.grammar ≡ extended g (x ∷ gs) = by.grammar ∙ ap (λ (qs : List Group). extended g qs) same in
      let m = team_group 1 (x ∷ gs) o listed in
      let t = m.2.0 in
      let there : slice_get i.groups m.0 ≡ Some t = ap (λ (qs : List Group). slice_get qs m.0) same ∙ m.2.1 in
      let fine = All-slice_get (IsGroup (length g.names)) i.groups m.0 t by.groups.each there in
      let lt : o.name < length g.names = subst (λ (n : ℕ). n < length g.names) m.2.2 fine.name in
      let place : o.number - 1 ≡ m.0 = omega (arith, m.1) in
      let start : start_from i.grammar (x ∷ gs) o.number ≡ o.name = start_is i.grammar (x ∷ gs) o.number m.0 t place m.2.1 ∙ m.2.2 in
      let whole : plain_from i.grammar (x ∷ gs) (start_from i.grammar (x ∷ gs) o.number) ≡ record g { start = o.name }
      = ap (λ (q : Grammar). plain_from q (x ∷ gs) (start_from i.grammar (x ∷ gs) o.number)) at
      ∙ plain_extended g x gs (start_from i.grammar (x ∷ gs) o.number) ∙ ap (λ (n : ℕ). record g { start = n }) start in
      subst (Prices word price) (sym whole)
      (record {
        sound = sound_from g o.name by.sound by.plain lt;
        price = price_down g (x ∷ gs) o.name by.sound o.name word price lt (subst (λ (q : Grammar). IsPrice q o.name word price) at p);
      })

-- the row of a shift at its price
priced_row : (i : Instance) (d : Labels) (c : Comparison) (shifts : List Shift) (k : ℕ) (s : Shift) → IsSoundInstance i → IsTeamPrice i (duty s) s.price → IsPricedRow i (row_of i d c shifts k s)
priced_row i d c shifts k s sound h =
    let ready = by_groups i s.word s.price i.groups refl sound.groups sound.grammar h.team h.listed h.priced in
    let by_number = subst (λ (n : ℕ). Prices s.word s.price (plain_from i.grammar i.groups (start_from i.grammar i.groups n))) h.numbered ready in
    record { sound = by_number.sound; price = by_number.price }

each_price : (i : Instance) (shifts : List Shift) → ArePrices i (duties shifts) (stated_prices shifts) → Each (λ (s : Shift). IsTeamPrice i (duty s) s.price) shifts
each_price i [] h = tt
each_price i (s ∷ shifts) h = (h.0, each_price i shifts h.1)

each_of : (P : Row → Type 0) (f : ℕ → List Row) → ((k : ℕ) → Each P (f k)) → (ks : List ℕ) → Each P (flat_map f ks)
each_of P f h [] = tt
each_of P f h (k ∷ ks) = Each-append P (f k) (flat_map f ks) (h k) (each_of P f h ks)

choice : (P : Row → Type 0) (t : Bool) (r : Row) → P r → Each P (if t then [] else (r ∷ []))
choice P true r h = tt
choice P false r h = (h, tt)

module _ (i : Instance) (d : Labels) (c : Comparison) (shifts : List Shift) (sound : IsSoundInstance i) (prices : Each (λ (s : Shift). IsTeamPrice i (duty s) s.price) shifts) where
  priced_own : (k : ℕ) (s : Shift) → IsTeamPrice i (duty s) s.price → Each (IsPricedRow i) (own_row i d c shifts k s)
  unfolding own_row
  priced_own k s h = choice (IsPricedRow i) (has_row d c shifts k s) (row_of i d c shifts k s) (priced_row i d c shifts k s sound h)

  by_shift : (k : ℕ) (o : Option Shift) → slice_get shifts k ≡ o → Each (IsPricedRow i) (elim o [ None ↦ [] | Some s ↦ own_row i d c shifts k s ])
  by_shift k None e = tt
  by_shift k (Some s) e = priced_own k s (Each-get (λ (q : Shift). IsTeamPrice i (duty q) q.price) shifts k s prices e)

  priced_all : All (IsPricedRow i) (rows_of i d c shifts)
  priced_all =
      each_all (IsPricedRow i) (rows_of i d c shifts)
      (each_of (IsPricedRow i) (rows_at i d c shifts) (λ k. by_shift k (slice_get shifts k) refl) (drawn_order i.grammar.codes shifts))

by_cost : (i : Instance) (d : Labels) (c : Comparison) (shifts : List Shift) (o : Option ℕ) → IsSoundInstance i → (o ≡ None → shifts ≡ []) → IfSome o (IsStated i shifts) → All (IsPricedRow i) (rows_of i d c shifts)
by_cost i d c shifts None sound none h = priced_all i d c shifts sound (subst (λ (ss : List Shift). Each (λ (s : Shift). IsTeamPrice i (duty s) s.price) ss) (sym (none refl)) tt)
by_cost i d c shifts (Some amount) sound none h = priced_all i d c shifts sound (each_price i shifts h.roster.shifts)

pub priced_rows : (i : Instance) (d : Labels) (c : Comparison) (r : ShownRoster) → IsSoundInstance i → IsSoundShown i r → All (IsPricedRow i) (rows_of i d c r.shifts)
priced_rows i d c r sound shown = by_cost i d c r.shifts r.cost sound shown.none shown.stated
