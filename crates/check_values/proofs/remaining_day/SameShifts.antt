-- The same shifts on a day and on its remaining day: their counts, and one from the other.
use Rattle.std.proofs.Common.{◌≡◌, ℕ, arith, ◌+◌, ◌-◌, ◌≤◌, Bool, true, false, cond, List, [], ◌∷◌, refl, sym, ap, subst, ◌∙◌, ◌⊎◌, inl, inr, None, Some}
use Rattle.std.specs.Prelude.{nat_eq, ◌≢◌, slice_get}
use Rattle.std.proofs.lemmas.Bool.{eq-eqb, ne_eqb, cases_eq}
use Rattle.std.proofs.lemmas.Bool.Decides.{eqb_tells}
use Rattle.model_rosters.specs.declared.grammar.CodeDef.{CodeDef}
use Rattle.model_rosters.specs.declared.grammar.Grammar.{Grammar}
use Rattle.model_rosters.specs.declared.instance.Cell.{Cell}
use Rattle.model_rosters.specs.declared.instance.Instance.{Instance}
use Rattle.model_rosters.specs.Coverage.{code_byte, has_at, covers_cell, covered}
use Rattle.model_rosters.specs.Duties.{Duty}
use Rattle.model_rosters.specs.Folds.{count, In}
use Rattle.model_rosters.specs.Rosters.{IsTeamPrice, ArePrices, is_in_team}
use Rattle.model_rosters.specs.Shifts.{IsPrice}
use Rattle.model_rosters.specs.Teams.{Team, teams}
use Rattle.model_rosters.proofs.TeamNumbers.{team_apart}
use Rattle.check_values.specs.remaining_day.Remaining.{kept_of, cell_left}
use Rattle.check_values.specs.remaining_day.Laws.{IsSameShift, AreSameShifts}
use Rattle.check_values.proofs.remaining_day.GroupsLeft.{Leaves}

-- how the teams of a day and of its remaining day go together
pub record AreTeamsLeft (i r : Instance) (kept : List Duty) : Type 0 where
  pub up : (u : Team) → In u (teams r) → (t : Team) × In t (teams i) × Leaves kept t u
  pub down : (t : Team) → In t (teams i) → 1 ≤ t.most - kept_of t.number kept → (u : Team) × In u (teams r) × Leaves kept t u
  pub one : (s t : Team) → In s (teams i) → In t (teams i) → s.name ≡ t.name → s ≡ t
  pub one_left : (s t : Team) → In s (teams r) → In t (teams r) → s.name ≡ t.name → s ≡ t
  pub price_whole : (t : Team) (w : List ℕ) (p : ℕ) → In t (teams i) → IsPrice r.grammar t.name w p → IsPrice i.grammar t.name w p
  pub price_rest : (t : Team) (w : List ℕ) (p : ℕ) → In t (teams i) → IsPrice i.grammar t.name w p → IsPrice r.grammar t.name w p
  pub codes : r.grammar.codes ≡ i.grammar.codes

abbrev one_if : Bool → ℕ
one_if b = cond b 1 0

module _ (i r : Instance) (kept : List Duty) (a : AreTeamsLeft i r kept) where
  -- ---- counts of teams

  module _ (t u : Team) (listed : In t (teams i)) (left : In u (teams r)) (named : t.name ≡ u.name) where
    same_hit : (d e : Duty) → IsSameShift i r d e → nat_eq d.team t.number ≡ nat_eq e.team u.number
    same_hit d e h = elim (eqb_tells d.team t.number) [
      | inl p ↦
          let same : h.team ≡ t = team_apart i i.groups h.team t h.listed listed (h.numbered ∙ p.1) in
          let other : h.other ≡ u = a.one_left h.other u h.other_listed left (sym h.named ∙ ap (λ (o : Team). o.name) same ∙ named) in
          let number : e.team ≡ u.number = sym h.other_numbered ∙ ap (λ (o : Team). o.number) other in
          p.0 ∙ sym (eq-eqb e.team u.number number)
      | inr p ↦ p.0 ∙ sym (ne_eqb e.team u.number (λ q.
          let other : h.other ≡ u = team_apart r r.groups h.other u h.other_listed left (h.other_numbered ∙ q) in
          let same : h.team ≡ t = a.one h.team t h.listed listed (h.named ∙ ap (λ (o : Team). o.name) other ∙ sym named) in
          p.1 (sym h.numbered ∙ ap (λ (o : Team). o.number) same)))
    ]

    pub count_same : (ds es : List Duty) → AreSameShifts i r ds es → count (is_in_team t) ds ≡ count (is_in_team u) es
    count_same [] [] h = refl
    count_same [] (e ∷ es) h = absurd h
    count_same (d ∷ ds) [] h = absurd h
    count_same (d ∷ ds) (e ∷ es) h =
        let b : ◌≡◌ {A = ℕ} (cond (nat_eq d.team t.number) 1 0) (cond (nat_eq e.team u.number) 1 0) = ap one_if (same_hit d e h.0) in
        omega (arith, b, count_same ds es h.1)

  -- no shift of the remaining day is of a team that has gone
  module _ (t : Team) (listed : In t (teams i)) (gone : t.most - kept_of t.number kept ≡ 0) where
    no_hit : (d e : Duty) → IsSameShift i r d e → nat_eq d.team t.number ≡ false
    no_hit d e h = ne_eqb d.team t.number (λ q.
        let same : h.team ≡ t = team_apart i i.groups h.team t h.listed listed (h.numbered ∙ q) in
        let from = a.up h.other h.other_listed in
        let back : from.0 ≡ t = a.one from.0 t from.1 listed (from.2.named ∙ sym h.named ∙ ap (λ (o : Team). o.name) same) in
        let most : from.0.most - kept_of from.0.number kept ≡ t.most - kept_of t.number kept = ap (λ (o : Team). o.most - kept_of o.number kept) back in
        omega (arith, from.2.some, from.2.most, most, gone))

    pub count_gone : (ds es : List Duty) → AreSameShifts i r ds es → count (is_in_team t) ds ≡ 0
    count_gone [] [] h = refl
    count_gone [] (e ∷ es) h = absurd h
    count_gone (d ∷ ds) [] h = absurd h
    count_gone (d ∷ ds) (e ∷ es) h =
        let b : ◌≡◌ {A = ℕ} (cond (nat_eq d.team t.number) 1 0) 0 = ap one_if (no_hit d e h.0) in
        omega (arith, b, count_gone ds es h.1)

  -- ---- coverage

  byte_same : (c : ℕ) → code_byte i.grammar c ≡ code_byte r.grammar c
  byte_same c = ap (λ (cs : List CodeDef). elim (slice_get cs c) [ None ↦ 0 | Some d ↦ d.byte ]) (sym a.codes)

  pub cover_same : (c : Cell) (ds es : List Duty) → AreSameShifts i r ds es → covered i.grammar c ds ≡ covered r.grammar (cell_left i.grammar kept c) es
  cover_same c [] [] h = refl
  cover_same c [] (e ∷ es) h = absurd h
  cover_same c (d ∷ ds) [] h = absurd h
  cover_same c (d ∷ ds) (e ∷ es) h =
      let b : ◌≡◌ {A = ℕ} (cond (has_at (code_byte i.grammar c.code) d.word (c.period - 1)) 1 0) (cond (has_at (code_byte r.grammar c.code) e.word (c.period - 1)) 1 0) =
      ap (λ (w : List ℕ). cond {A = ℕ} (has_at (code_byte i.grammar c.code) w (c.period - 1)) 1 0) h.0.word
      ∙ ap (λ (n : ℕ). cond {A = ℕ} (has_at n e.word (c.period - 1)) 1 0) (byte_same c.code) in
      omega (arith, b, cover_same c ds es h.1)

  -- ---- one from the other

  abbrev IsLifted : List Duty → List ℕ → Type 0
  IsLifted es qs = (ds : List Duty) × AreSameShifts i r ds es × ArePrices i ds qs

  pub lift : (es : List Duty) (qs : List ℕ) → ArePrices r es qs → IsLifted es qs
  lift [] [] h = ([], tt, tt)
  lift [] (q ∷ qs) h = absurd h
  lift (e ∷ es) [] h = absurd h
  lift (e ∷ es) (q ∷ qs) h =
      let from = a.up h.0.team h.0.listed in
      let t : Team = from.0 in
      let more = lift es qs h.1 in
      let d : Duty = record { team = t.number; word = e.word } in
      let price : IsPrice r.grammar t.name e.word q = subst (λ (x : ℕ). IsPrice r.grammar x e.word q) (sym from.2.named) h.0.priced in (
        d ∷ more.0,
        (
          record {
            word = refl;
            team = t;
            listed = from.1;
            numbered = refl;
            other = h.0.team;
            other_listed = h.0.listed;
            other_numbered = h.0.numbered;
            named = from.2.named;
          },
          more.1,
        ),
        (record { team = t; listed = from.1; numbered = refl; priced = a.price_whole t e.word q from.1 price }, more.2),
      )

  abbrev IsLowered : List Duty → List ℕ → Type 0
  IsLowered ds qs = (es : List Duty) × AreSameShifts i r ds es × ArePrices r es qs

  -- each team has room for its shifts beside the kept ones
  abbrev HaveRoom : List Duty → Type 0
  HaveRoom ds = (t : Team) → In t (teams i) → kept_of t.number kept + count (is_in_team t) ds ≤ t.most

  pub lower : (ds : List Duty) (qs : List ℕ) → ArePrices i ds qs → HaveRoom ds → IsLowered ds qs
  lower [] [] h room = ([], tt, tt)
  lower [] (q ∷ qs) h room = absurd h
  lower (d ∷ ds) [] h room = absurd h
  lower (d ∷ ds) (q ∷ qs) h room =
      let t : Team = h.0.team in
      let own : ◌≡◌ {A = ℕ} (cond (nat_eq d.team t.number) 1 0) 1 = ap one_if (eq-eqb d.team t.number (sym h.0.numbered)) in
      let to = a.down t h.0.listed (omega (arith, room t h.0.listed, own)) in
      let u : Team = to.0 in
      let more = lower ds qs h.1 (λ o l. omega (arith, room o l)) in
      let e : Duty = record { team = u.number; word = d.word } in
      let price : IsPrice r.grammar t.name d.word q = a.price_rest t d.word q h.0.listed h.0.priced in (
        e ∷ more.0,
        (
          record {
            word = refl;
            team = t;
            listed = h.0.listed;
            numbered = h.0.numbered;
            other = u;
            other_listed = to.1;
            other_numbered = refl;
            named = to.2.named;
          },
          more.1,
        ),
        (
          record {
            team = u;
            listed = to.1;
            numbered = refl;
            priced = subst (λ (x : ℕ). IsPrice r.grammar x d.word q) to.2.named price;
          },
          more.2,
        ),
      )
