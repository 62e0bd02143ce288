-- What lines behind the day line say is fit.
use Rattle.std.proofs.Common.{◌≡◌, ◌≢◌, ℕ, suc, ◌+◌, ◌*◌, ◌/◌, ◌%◌, ◌<◌, ◌≤◌, Bool, true, false, not, cond, eqb, ltb, List, [], ◌∷◌, ◌++◌, length, Option, Some, None, Ok, arith, refl, sym, subst}
use Rattle.std.proofs.Math.Dec.{leb}
use Rattle.std.specs.Prelude.{is_some}
use Rattle.std.proofs.lemmas.Bool.{ltb-false}
use Rattle.text_lines.proofs.ListLemmas.{not_false}
use Rattle.text_lines.proofs.StepsLemmas.{bind_ok, passed, same_ok}
use Rattle.model_rosters.proofs.EachLemmas.{Each-push}
use Rattle.model_rosters.specs.Folds.{Each}
use Rattle.plan_duties.proofs.GoodTails.{IsGoodDuty, MayLast, duty_good}
use Rattle.plan_duties.specs.DutyLines.{duty_at}
use Rattle.plan_duties.specs.Fits.{duty_fits}
use Rattle.plan_faults.specs.declared.fault.Kind.{Kind}
use Rattle.plan_faults.specs.declared.fault.Kind.TheVariants as kind
use Rattle.plan_faults.specs.declared.fault.LineFault.{LineFault}
use Rattle.plan_fields.proofs.CodesFound.{new_is}
use Rattle.plan_fields.proofs.GoodPairs.{AreGoodLengths, IsGoodSpan, lengths_are, span_is}
use Rattle.plan_fields.proofs.GoodWords.{IsGoodHour, IsGoodLength, hour_is, length_is, quoted_ok}
use Rattle.plan_fields.specs.Codes.{known_at, new_at}
use Rattle.plan_fields.specs.Costs.{costly_period}
use Rattle.plan_fields.specs.Drafts.{decimals_of, no_draft}
use Rattle.plan_fields.specs.Pairs.{lengths_at, span_at}
use Rattle.plan_fields.specs.Steps.{◌>>=◌, quoted}
use Rattle.plan_fields.specs.declared.draft.Draft.{Draft}
use Rattle.plan_lines.proofs.StartLemmas.{start_found}
use Rattle.plan_lines.specs.CodeLines.{cheap_or, code_line, code_words, extra_line, extra_words, need_line, new_code, new_extra, new_name, new_need, room_for, room_for_pause, room_for_work, with_extra}
use Rattle.plan_lines.specs.DraftLines.{draft_line}
use Rattle.plan_lines.specs.MoneyLines.{has_amounts, money_line, new_money}
use Rattle.plan_lines.specs.StaffLines.{all_staff, begins_number, duty_line, has_unnamed, named_staff, named_words, new_duty, new_staff, staff_line, with_staff}
use Rattle.plan_lines.specs.StartLines.{change_line, new_change, new_starts, new_stretch, some_start, starts_line, starts_of, starts_word, stretch_line}
use Rattle.plan_meaning.specs.Times.{begin_minute}
use Rattle.plan_meaning.specs.declared.plan.Duty.{Duty}
use Rattle.plan_meaning.specs.declared.plan.Extra.{Extra}
use Rattle.plan_meaning.specs.declared.plan.Lengths.{Lengths}
use Rattle.plan_meaning.specs.declared.plan.PlanCode.{PlanCode}
use Rattle.plan_meaning.specs.declared.plan.PlanDay.{PlanDay}
use Rattle.plan_words.specs.Amounts.{hour_at}
use Rattle.plan_words.specs.Days.{IsSoundDay}
use Rattle.plan_words.specs.Lengths.{length_at}

pub record IsGoodCode (d : PlanDay) (x : PlanCode) : Type 0 where
  pub lasts : AreGoodLengths d x.lasts
  pub hour : IsGoodHour d x.hour

pub record IsGoodExtra (d : PlanDay) (x : Extra) : Type 0 where
  pub times : IsGoodSpan d x.times
  pub hour : IsGoodHour d x.hour

-- whole periods, at most 8, of which one of the first begins at a multiple by the clock
pub record AreGoodStarts (d : PlanDay) (n : ℕ) : Type 0 where
  pub length : IsGoodLength d n
  pub few : n / d.minutes ≤ 8
  pub first : (m : ℕ) × (m < n / d.minutes) × ((begin_minute d + m * d.minutes) % n ≡ 0)

abbrev pub MayStart : PlanDay → Option ℕ → Type 0
MayStart d None = Unit {0}
MayStart d (Some n) = AreGoodStarts d n

-- no two lines have one code
abbrev pub AreApart : List PlanCode → Type 0
AreApart [] = Unit {0}
AreApart (x ∷ xs) = Each (λ (y : PlanCode). y.code ≢ x.code) xs × AreApart xs

pub record IsGoodDraft (d : PlanDay) (x : Draft) : Type 0 where
  pub codes : Each (IsGoodCode d) x.codes
  pub apart : AreApart x.codes
  pub extras : Each (IsGoodExtra d) x.extras
  pub stretch : MayLast d x.stretch
  pub starts : MayStart d x.starts
  pub duties : Each (IsGoodDuty d x.codes) x.duties

pub none_good : (d : PlanDay) → IsGoodDraft d no_draft
none_good d = record { codes = tt; apart = tt; extras = tt; stretch = tt; starts = tt; duties = tt }

one_code : (xs : List PlanCode) (x : PlanCode) → AreApart xs → Each (λ (y : PlanCode). y.code ≢ x.code) xs → AreApart (xs ++ x ∷ [])
one_code [] x s h = (tt, tt)
one_code (y ∷ ys) x s h =
    (Each-push (λ (z : PlanCode). z.code ≢ y.code) ys x s.0 (λ same. h.0 (sym same)), one_code ys x s.1 h.1)

none_yet : (d : PlanDay) (xs : List PlanCode) (ds : List Duty) → ltb 0 (length ds) ≡ false → Each (IsGoodDuty d xs) ds
none_yet d xs [] e = tt
none_yet d xs (x ∷ ds) e = let none : suc (length ds) ≤ 0 = ltb-false 0 (length (x ∷ ds)) e in absurd (omega (arith, none))

module _ (d : PlanDay) (sound : IsSoundDay d) where
  -- lines that say nothing of codes, times and duties
  same_good : (x y : Draft) → y.codes ≡ x.codes → y.extras ≡ x.extras → y.stretch ≡ x.stretch → y.starts ≡ x.starts → y.duties ≡ x.duties → IsGoodDraft d x → IsGoodDraft d y
  same_good x y c e s t u g = record {
    codes = subst (Each (IsGoodCode d)) (sym c) g.codes;
    apart = subst AreApart (sym c) g.apart;
    extras = subst (Each (IsGoodExtra d)) (sym e) g.extras;
    stretch = subst (MayLast d) (sym s) g.stretch;
    starts = subst (MayStart d) (sym t) g.starts;
    duties = subst (λ (cs : List PlanCode). Each (IsGoodDuty d cs) y.duties) (sym c) (subst (Each (IsGoodDuty d x.codes)) (sym u) g.duties);
  }

  -- ---- money, change, stretch and starts

  money_good : (x y : Draft) (ws : List (List ℕ)) → IsGoodDraft d x → money_line x ws ≡ Ok y → IsGoodDraft d y
  unfolding money_line
  money_good x y ws g e =
      let once = passed (is_some x.money) _ _ _ e in
      let early = passed (has_amounts x) _ _ _ once.1 in
      let m = bind_ok (new_money ws) _ _ early.1 in
      subst (IsGoodDraft d) (same_ok {E = LineFault} (record x { money = Some m.0 }) y m.2)
      (same_good x (record x { money = Some m.0 }) refl refl refl refl refl g)

  change_good : (x y : Draft) (ws : List (List ℕ)) → IsGoodDraft d x → change_line x ws ≡ Ok y → IsGoodDraft d y
  unfolding change_line
  change_good x y ws g e =
      let once = passed (is_some x.change) _ _ _ e in
      let early = passed (ltb 0 (length x.duties)) _ _ _ once.1 in
      let m = bind_ok (new_change (decimals_of x) ws) _ _ early.1 in
      subst (IsGoodDraft d) (same_ok {E = LineFault} (record x { change = Some m.0 }) y m.2)
      (same_good x (record x { change = Some m.0 }) refl refl refl refl refl g)

  range_good : (r : Lengths) (ws : List (List ℕ)) → new_stretch d ws ≡ Ok r → AreGoodLengths d r
  unfolding new_stretch
  range_good r [] e = absurd cc
  range_good r (w ∷ []) e = absurd cc
  range_good r (w ∷ v ∷ []) e = lengths_are d w v r sound e
  range_good r (w ∷ v ∷ u ∷ ws) e = absurd cc

  stretch_good : (x y : Draft) (ws : List (List ℕ)) → IsGoodDraft d x → stretch_line d x ws ≡ Ok y → IsGoodDraft d y
  unfolding stretch_line
  stretch_good x y ws g e =
      let once = passed (is_some x.stretch) _ _ _ e in
      let early = passed (ltb 0 (length x.duties)) _ _ _ once.1 in
      let r = bind_ok (new_stretch d ws) _ _ early.1 in
      subst (IsGoodDraft d) (same_ok {E = LineFault} (record x { stretch = Some r.0 }) y r.2) (record {
        codes = g.codes;
        apart = g.apart;
        extras = g.extras;
        stretch = range_good r.0 ws r.1;
        starts = g.starts;
        duties = g.duties;
      })

  starts_are : (w : List ℕ) (n m : ℕ) → IsGoodLength d n → starts_of d w n ≡ Ok m → AreGoodStarts d m
  unfolding starts_of
  starts_are w n m g e =
      let even = passed (not (eqb (1440 % n) 0)) _ _ _ e in
      let few = passed (ltb 8 (n / d.minutes)) _ _ _ even.1 in
      let some = passed (not (some_start d n)) _ _ _ few.1 in
      let found = start_found d n 0 (n / d.minutes) (not_false _ some.0) in
      subst (AreGoodStarts d) (same_ok {E = LineFault} n m some.1) (record {
        length = g;
        few = ltb-false _ _ few.0;
        first = (found.0, (let b = found.2 in omega (arith, b)), found.3);
      })

  new_starts_are : (n : ℕ) (ws : List (List ℕ)) → new_starts d ws ≡ Ok n → AreGoodStarts d n
  unfolding new_starts starts_word
  new_starts_are n [] e = absurd cc
  new_starts_are n (w ∷ []) e =
      let l = bind_ok (quoted w (length_at d w)) _ _ e in
      starts_are w l.0 n (length_is d w l.0 sound (quoted_ok w _ _ l.1)) l.2
  new_starts_are n (w ∷ v ∷ ws) e = absurd cc

  starts_good : (x y : Draft) (ws : List (List ℕ)) → IsGoodDraft d x → starts_line d x ws ≡ Ok y → IsGoodDraft d y
  unfolding starts_line
  starts_good x y ws g e =
      let once = passed (is_some x.starts) _ _ _ e in
      let early = passed (ltb 0 (length x.duties)) _ _ _ once.1 in
      let n = bind_ok (new_starts d ws) _ _ early.1 in
      subst (IsGoodDraft d) (same_ok {E = LineFault} (record x { starts = Some n.0 }) y n.2) (record {
        codes = g.codes;
        apart = g.apart;
        extras = g.extras;
        stretch = g.stretch;
        starts = new_starts_are n.0 ws n.1;
        duties = g.duties;
      })

  -- ---- codes

  room_says : (x : Draft) (work : Bool) (u : Unit {0}) → room_for x work ≡ Ok u → ltb 0 (length x.duties) ≡ false
  unfolding room_for room_for_work room_for_pause
  room_says x true u e = (passed (ltb 0 (length x.duties)) _ _ _ e).0
  room_says x false u e = (passed (ltb 0 (length x.duties)) _ _ _ e).0

  record IsNewCode (xs : List PlanCode) (c : PlanCode) : Type 0 where
    good : IsGoodCode d c
    apart : Each (λ (y : PlanCode). y.code ≢ c.code) xs

  words_code : (x : Draft) (work : Bool) (code least greatest amount : List ℕ) (ws : List (List ℕ)) (c : PlanCode)
      → code_words d x work code least greatest amount ws ≡ Ok c → IsNewCode x.codes c
  unfolding code_words
  words_code x work code least greatest amount ws c e =
      let n = bind_ok (new_at x.codes code) _ _ e in
      let l = bind_ok (lengths_at d least greatest) _ _ n.2 in
      let h = bind_ok (quoted amount (hour_at d.minutes (decimals_of x) amount)) _ _ l.2 in
      let t = bind_ok (new_name x.codes ws) _ _ h.2 in
      subst (IsNewCode x.codes) (same_ok {E = LineFault} (record { code = n.0; work = work; lasts = l.0; hour = h.0; words = t.0 }) c t.2) (record {
        good = record {
          lasts = lengths_are d least greatest l.0 sound l.1;
          hour = hour_is d (decimals_of x) h.0 amount (quoted_ok amount _ _ h.1);
        };
        apart = new_is x.codes code n.0 n.1;
      })

  new_code_is : (x : Draft) (work : Bool) (ws : List (List ℕ)) (c : PlanCode) → new_code d x work ws ≡ Ok c → IsNewCode x.codes c
  unfolding new_code
  new_code_is x work [] c e = absurd cc
  new_code_is x work (a ∷ []) c e = absurd cc
  new_code_is x work (a ∷ b ∷ []) c e = absurd cc
  new_code_is x work (a ∷ b ∷ f ∷ []) c e = absurd cc
  new_code_is x work (a ∷ b ∷ f ∷ h ∷ []) c e = absurd cc
  new_code_is x work (a ∷ b ∷ f ∷ h ∷ w ∷ ws) c e = words_code x work a b f h (w ∷ ws) c e

  code_good : (x y : Draft) (work : Bool) (ws : List (List ℕ)) → IsGoodDraft d x → code_line d x work ws ≡ Ok y → IsGoodDraft d y
  code_good x y work ws g e =
      let room = bind_ok (room_for x work) _ _ e in
      let c = bind_ok (new_code d x work ws) _ _ room.2 in
      let is = new_code_is x work ws c.0 c.1 in
      subst (IsGoodDraft d) (same_ok {E = LineFault} (record x { codes = x.codes ++ c.0 ∷ [] }) y c.2) (record {
        codes = Each-push (IsGoodCode d) x.codes c.0 g.codes is.good;
        apart = one_code x.codes c.0 g.apart is.apart;
        extras = g.extras;
        stretch = g.stretch;
        starts = g.starts;
        duties = none_yet d (x.codes ++ c.0 ∷ []) x.duties (room_says x work room.0 room.1);
      })

  -- ---- what codes cost more

  cheap_same : (es fs : List Extra) (code : ℕ) (o : Option ℕ) → cheap_or es code o ≡ Ok fs → es ≡ fs
  cheap_same es fs code None e = same_ok {E = LineFault} es fs e
  cheap_same es fs code (Some n) e = absurd cc

  extra_words_good : (x y : Draft) (code from to amount : List ℕ) → IsGoodDraft d x → extra_words d x code from to amount ≡ Ok y → IsGoodDraft d y
  unfolding extra_words with_extra
  extra_words_good x y code from to amount g e =
      let c = bind_ok (known_at x.codes code) _ _ e in
      let t = bind_ok (span_at d from to) _ _ c.2 in
      let h = bind_ok (quoted amount (hour_at d.minutes (decimals_of x) amount)) _ _ t.2 in
      let extra : Extra = record { code = c.0.code; times = t.0; hour = h.0 } in
      let es = bind_ok (cheap_or (x.extras ++ extra ∷ []) extra.code (costly_period d (x.extras ++ extra ∷ []) extra.code c.0.hour)) _ _ h.2 in
      let same = cheap_same (x.extras ++ extra ∷ []) es.0 extra.code _ es.1 in
      let is : IsGoodExtra d extra = record { times = span_is d from to t.0 sound t.1; hour = hour_is d (decimals_of x) h.0 amount (quoted_ok amount _ _ h.1) } in
      subst (IsGoodDraft d) (same_ok {E = LineFault} (record x { extras = es.0 }) y es.2) (record {
        codes = g.codes;
        apart = g.apart;
        extras = subst (Each (IsGoodExtra d)) same (Each-push (IsGoodExtra d) x.extras extra g.extras is);
        stretch = g.stretch;
        starts = g.starts;
        duties = g.duties;
      })

  new_extra_good : (x y : Draft) (ws : List (List ℕ)) → IsGoodDraft d x → new_extra d x ws ≡ Ok y → IsGoodDraft d y
  unfolding new_extra
  new_extra_good x y [] g e = absurd cc
  new_extra_good x y (a ∷ []) g e = absurd cc
  new_extra_good x y (a ∷ b ∷ []) g e = absurd cc
  new_extra_good x y (a ∷ b ∷ c ∷ []) g e = absurd cc
  new_extra_good x y (a ∷ b ∷ c ∷ f ∷ []) g e = extra_words_good x y a b c f g e
  new_extra_good x y (a ∷ b ∷ c ∷ f ∷ h ∷ ws) g e = absurd cc

  extra_good : (x y : Draft) (ws : List (List ℕ)) → IsGoodDraft d x → extra_line d x ws ≡ Ok y → IsGoodDraft d y
  unfolding extra_line
  extra_good x y ws g e = new_extra_good x y ws g (passed (ltb 0 (length x.duties)) _ _ _ e).1

  need_good : (x y : Draft) (ws : List (List ℕ)) → IsGoodDraft d x → need_line d x ws ≡ Ok y → IsGoodDraft d y
  unfolding need_line
  need_good x y ws g e =
      let n = bind_ok (new_need d x ws) _ _ e in
      subst (IsGoodDraft d) (same_ok {E = LineFault} (record x { needs = x.needs ++ n.0 ∷ [] }) y n.2)
      (same_good x (record x { needs = x.needs ++ n.0 ∷ [] }) refl refl refl refl refl g)

  -- ---- duties and staff

  new_duty_good : (k : ℕ) (x : Draft) (duty : Duty) (ws : List (List ℕ)) → new_duty k d x ws ≡ Ok duty → IsGoodDuty d x.codes duty
  unfolding new_duty
  new_duty_good k x duty ws e =
      let read = bind_ok (duty_at k d (decimals_of x) x.codes ws) _ _ e in
      let can = bind_ok (duty_fits d x read.0) _ _ read.2 in
      subst (IsGoodDuty d x.codes) (same_ok {E = LineFault} read.0 duty can.2)
      (duty_good k d (decimals_of x) x.codes ws read.0 sound read.1)

  duty_line_good : (k : ℕ) (x y : Draft) (ws : List (List ℕ)) → IsGoodDraft d x → duty_line k d x ws ≡ Ok y → IsGoodDraft d y
  unfolding duty_line
  duty_line_good k x y ws g e =
      let duty = bind_ok (new_duty k d x ws) _ _ e in
      subst (IsGoodDraft d) (same_ok {E = LineFault} (record x { duties = x.duties ++ duty.0 ∷ [] }) y duty.2) (record {
        codes = g.codes;
        apart = g.apart;
        extras = g.extras;
        stretch = g.stretch;
        starts = g.starts;
        duties = Each-push (IsGoodDuty d x.codes) x.duties duty.0 g.duties (new_duty_good k x duty.0 ws duty.1);
      })

  named_good : (x y : Draft) (ws : List (List ℕ)) → IsGoodDraft d x → named_staff x ws ≡ Ok y → IsGoodDraft d y
  unfolding named_staff
  named_good x y [] g e = absurd cc
  named_good x y (a ∷ []) g e = absurd cc
  named_good x y (a ∷ b ∷ []) g e = absurd cc
  named_good x y (a ∷ b ∷ c ∷ ws) g e =
      let s = bind_ok (named_words x a b c ws) _ _ e in
      let ss = bind_ok (with_staff x.staff s.0) _ _ s.2 in
      subst (IsGoodDraft d) (same_ok {E = LineFault} (record x { staff = ss.0 }) y ss.2)
      (same_good x (record x { staff = ss.0 }) refl refl refl refl refl g)

  new_staff_good : (x y : Draft) (ws : List (List ℕ)) → IsGoodDraft d x → new_staff x ws ≡ Ok y → IsGoodDraft d y
  unfolding new_staff
  new_staff_good x y [] g e = absurd cc
  new_staff_good x y (w ∷ ws) g e = by (begins_number w) e
    where
      by : (b : Bool) → cond b (all_staff x.staff (w ∷ ws) >>= λ ss. Ok (record x { staff = ss })) (named_staff x (w ∷ ws)) ≡ Ok y → IsGoodDraft d y
      by true q =
          let ss = bind_ok (all_staff x.staff (w ∷ ws)) _ _ q in
          subst (IsGoodDraft d) (same_ok {E = LineFault} (record x { staff = ss.0 }) y ss.2)
          (same_good x (record x { staff = ss.0 }) refl refl refl refl refl g)
      by false q = named_good x y (w ∷ ws) g q

  staff_good : (x y : Draft) (ws : List (List ℕ)) → IsGoodDraft d x → staff_line x ws ≡ Ok y → IsGoodDraft d y
  unfolding staff_line
  staff_good x y ws g e =
      let named = passed (has_unnamed x.staff) _ _ _ e in
      let few = passed (leb 8 (length x.staff)) _ _ _ named.1 in
      new_staff_good x y ws g few.1

  -- ---- all lines

  pub draft_good : (k : ℕ) (x y : Draft) (kind : Kind) (ws : List (List ℕ)) → IsGoodDraft d x → draft_line k d x kind ws ≡ Ok y → IsGoodDraft d y
  unfolding draft_line
  draft_good k x y kind.Title ws g e = subst (IsGoodDraft d) (same_ok {E = LineFault} x y e) g
  draft_good k x y kind.Day ws g e = subst (IsGoodDraft d) (same_ok {E = LineFault} x y e) g
  draft_good k x y kind.Money ws g e = money_good x y ws g e
  draft_good k x y kind.Work ws g e = code_good x y true ws g e
  draft_good k x y kind.Pause ws g e = code_good x y false ws g e
  draft_good k x y kind.Extra ws g e = extra_good x y ws g e
  draft_good k x y kind.Change ws g e = change_good x y ws g e
  draft_good k x y kind.Stretch ws g e = stretch_good x y ws g e
  draft_good k x y kind.Starts ws g e = starts_good x y ws g e
  draft_good k x y kind.Duty ws g e = duty_line_good k x y ws g e
  draft_good k x y kind.Staff ws g e = staff_good x y ws g e
  draft_good k x y kind.Need ws g e = need_good x y ws g e
