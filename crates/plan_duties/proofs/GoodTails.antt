-- What stands behind the `=` of a duty line that was read.
use Rattle.std.proofs.Common.{◌≡◌, ℕ, zero, suc, ◌*◌, Bool, true, false, eqb, ltb, List, [], ◌∷◌, length, Option, Some, None, Result, Ok, Err, cond, arith, ◌∙◌, subst}
use Rattle.std.specs.Prelude.{codes, is_some}
use Rattle.std.specs.Str.{bytes_eq}
use Rattle.text_lines.proofs.StepsLemmas.{bind_ok, held, ok, passed, same_ok}
use Rattle.model_rosters.proofs.EachLemmas.{Each-push}
use Rattle.model_rosters.specs.Folds.{Each, In}
use Rattle.plan_duties.specs.BehindWords.{begin_word, behind_at, end_word, is_behind, plus_word, stretch_word}
use Rattle.plan_duties.specs.DutyLines.{amount_word, duty_at, duty_of, duty_tail, plus_of, step_at, tail_at}
use Rattle.plan_duties.specs.PartWords.{all_work, begins_set, clock_word, first_of, part_at, pause_at, pause_code, set_at, times_behind, two_times, work_codes, work_set}
use Rattle.plan_duties.specs.Tails.{may_pause, no_tail, parts_done, with_part, work_part}
use Rattle.plan_duties.specs.declared.tail.Side.{Side}
use Rattle.plan_duties.specs.declared.tail.Side.TheVariants as side
use Rattle.plan_duties.specs.declared.tail.Tail.{Tail}
use Rattle.plan_faults.specs.declared.fault.LineFault.{LineFault}
use Rattle.plan_faults.specs.declared.fault.LineFault.TheVariants as line
use Rattle.plan_faults.specs.declared.fault.PartFault.TheVariants.{Behind}
use Rattle.plan_fields.proofs.CodesFound.{known_in}
use Rattle.plan_fields.proofs.GoodPairs.{AreGoodBegins, AreGoodEnds, AreGoodLengths, begins_are, ends_are, lengths_are}
use Rattle.plan_fields.proofs.GoodWords.{IsGoodHour, hour_is, quoted_ok}
use Rattle.plan_fields.specs.Codes.{known_at}
use Rattle.plan_fields.specs.Pairs.{begins_at, ends_at, lengths_at}
use Rattle.plan_fields.specs.Steps.{◌>>=◌, quoted}
use Rattle.plan_fields.specs.Words.{plan_name_at}
use Rattle.plan_meaning.specs.declared.plan.Duty.{Duty}
use Rattle.plan_meaning.specs.declared.plan.Lengths.{Lengths}
use Rattle.plan_meaning.specs.declared.plan.Part.{Part}
use Rattle.plan_meaning.specs.declared.plan.Part.TheVariants.{Pause, Work}
use Rattle.plan_meaning.specs.declared.plan.PlanCode.{PlanCode}
use Rattle.plan_meaning.specs.declared.plan.PlanDay.{PlanDay}
use Rattle.plan_meaning.specs.declared.plan.Times.{Times}
use Rattle.plan_words.specs.Amounts.{hour_at}
use Rattle.plan_words.specs.Days.{IsSoundDay}

abbrev pub MayBegin : PlanDay → Option Times → Type 0
MayBegin d None = Unit {0}
MayBegin d (Some t) = AreGoodBegins d t

abbrev pub MayEnd : PlanDay → Option Times → Type 0
MayEnd d None = Unit {0}
MayEnd d (Some t) = AreGoodEnds d t

abbrev pub MayLast : PlanDay → Option Lengths → Type 0
MayLast d None = Unit {0}
MayLast d (Some x) = AreGoodLengths d x

abbrev pub MayCost : PlanDay → Option ℕ → Type 0
MayCost d None = Unit {0}
MayCost d (Some n) = IsGoodHour d n

-- a pause is that of a line above
abbrev pub IsGoodPart : PlanDay → List PlanCode → Part → Type 0
IsGoodPart d xs (Work cs) = Unit {0}
IsGoodPart d xs (Pause code times) = ((c : PlanCode) × In c xs × (c.code ≡ code)) × MayBegin d times

pub record IsGoodTail (d : PlanDay) (xs : List PlanCode) (t : Tail) : Type 0 where
  pub parts : Each (IsGoodPart d xs) t.parts
  pub begins : MayBegin d t.begins
  pub ends : MayEnd d t.ends
  pub stretch : MayLast d t.stretch
  pub plus : MayCost d t.plus

abbrev Both : Type 0
Both = Tail × ℕ

module _ (d : PlanDay) (decimals : ℕ) (xs : List PlanCode) (sound : IsSoundDay d) where
  with_good : (t : Tail) (part : Part) (side : Side) → IsGoodTail d xs t → IsGoodPart d xs part → IsGoodTail d xs (with_part t part side)
  with_good t part side s h = record {
    parts = Each-push (IsGoodPart d xs) t.parts part s.parts h;
    begins = s.begins;
    ends = s.ends;
    stretch = s.stretch;
    plus = s.plus;
  }

  work_good : (t u : Tail) (cs : List ℕ) (side : Side) → IsGoodTail d xs t → work_part t cs side ≡ Ok u → IsGoodTail d xs u
  unfolding work_part
  work_good t u cs side.Work s e = absurd cc
  work_good t u cs side.Nothing s e =
      subst (IsGoodTail d xs) (same_ok {E = LineFault} (with_part t (Work cs) side.Work) u e) (with_good t (Work cs) side.Work s tt)
  work_good t u cs (side.Pause code) s e =
      subst (IsGoodTail d xs) (same_ok {E = LineFault} (with_part t (Work cs) side.Work) u e) (with_good t (Work cs) side.Work s tt)

  done_good : (t u : Tail) → IsGoodTail d xs t → parts_done t ≡ Ok u → IsGoodTail d xs u
  unfolding parts_done
  done_good t u s e =
      let some = passed (eqb (length t.parts) 0) _ _ _ e in
      let few = passed (ltb 8 (length t.parts)) _ _ _ some.1 in
      subst (IsGoodTail d xs) (same_ok {E = LineFault} (record t { closed = true }) u few.1) (record {
        parts = s.parts;
        begins = s.begins;
        ends = s.ends;
        stretch = s.stretch;
        plus = s.plus;
      })

  -- ---- pauses

  two_good : (c : ℕ) (w : List ℕ) (o : Option (List ℕ)) (x : Times) → two_times d c w o ≡ Ok x → AreGoodBegins d x
  unfolding two_times
  two_good c w None x e = absurd cc
  two_good c w (Some v) x e =
      let both = held (clock_word v) _ _ _ e in begins_are d w v x sound both.1

  times_good : (c : ℕ) (ws : List (List ℕ)) (x : Option Times × ℕ) → times_behind d c ws ≡ Ok x → MayBegin d x.0
  unfolding times_behind
  times_good c [] x e = subst (λ (y : Option Times × ℕ). MayBegin d y.0) (same_ok {E = LineFault} (None, 0) x e) tt
  times_good c (w ∷ ws) x e = by (clock_word w) e
    where
      by : (b : Bool) → cond b (two_times d c w (first_of ws) >>= λ t. Ok (Some t, 2)) (Ok (None, 0)) ≡ Ok x → MayBegin d x.0
      by true q =
          let t = bind_ok (two_times d c w (first_of ws)) (λ (y : Times). ok {E = LineFault} (Some y, 2)) x q in
          subst (λ (y : Option Times × ℕ). MayBegin d y.0) (same_ok {E = LineFault} (Some t.0, 2) x t.2) (two_good c w (first_of ws) t.0 t.1)
      by false q = subst (λ (y : Option Times × ℕ). MayBegin d y.0) (same_ok {E = LineFault} (None, 0) x q) tt

  code_good : (w : List ℕ) (c : ℕ) → pause_code xs w ≡ Ok c → (x : PlanCode) × In x xs × (x.code ≡ c)
  unfolding pause_code
  code_good w c e =
      let x = bind_ok (known_at xs w) _ _ e in
      let rest = passed x.0.work _ _ _ x.2 in
      (x.0, known_in xs w x.0 x.1, same_ok {E = LineFault} x.0.code c rest.1)

  same_pause : (c b : ℕ) (s : Side) → may_pause c s ≡ Ok b → c ≡ b
  unfolding may_pause
  same_pause c b side.Nothing e = same_ok {E = LineFault} c b e
  same_pause c b side.Work e = same_ok {E = LineFault} c b e
  same_pause c b (side.Pause other) e =
      let rest = passed (eqb c other) _ _ _ e in same_ok {E = LineFault} c b rest.1

  pause_good : (t : Tail) (w : List ℕ) (ws : List (List ℕ)) (u : Both) → IsGoodTail d xs t → pause_at d xs t w ws ≡ Ok u → IsGoodTail d xs u.0
  unfolding pause_at
  pause_good t w ws u s e =
      let c = bind_ok (pause_code xs w) _ _ e in
      let b = bind_ok (may_pause c.0 t.side) _ _ c.2 in
      let x = bind_ok (times_behind d b.0 ws) _ _ b.2 in
      let line = code_good w c.0 c.1 in
      let part : Part = Pause b.0 x.0.0 in
      subst (λ (y : Both). IsGoodTail d xs y.0) (same_ok {E = LineFault} (with_part t part (side.Pause b.0), x.0.1) u x.2)
      (with_good t part (side.Pause b.0) s ((line.0, line.1, line.2 ∙ same_pause c.0 b.0 t.side b.1), times_good b.0 ws x.0 x.1))

  alone_good : (r : Result Tail LineFault) (u : Both) → ((v : Tail) → r ≡ Ok v → IsGoodTail d xs v) → (r >>= λ t. ok {E = LineFault} (t, 0)) ≡ Ok u → IsGoodTail d xs u.0
  alone_good r u good e =
      let v = bind_ok r (λ (t : Tail). ok {E = LineFault} (t, 0)) u e in
      subst (λ (y : Both). IsGoodTail d xs y.0) (same_ok {E = LineFault} (v.0, 0) u v.2) (good v.0 v.1)

  part_good : (t : Tail) (w : List ℕ) (ws : List (List ℕ)) (u : Both) → IsGoodTail d xs t → part_at d xs t w ws ≡ Ok u → IsGoodTail d xs u.0
  unfolding part_at
  part_good t w ws u s e = by (bytes_eq w (codes "work")) (begins_set w) e
    where
      by : (a b : Bool) → cond a (all_work xs t >>= λ t. Ok (t, 0)) (cond b (work_set xs t w >>= λ t. Ok (t, 0)) (pause_at d xs t w ws)) ≡ Ok u → IsGoodTail d xs u.0
      by true b q = alone_good (all_work xs t) u (λ v h. work_good t v (work_codes xs) t.side s h) q
      by false true q = alone_good (work_set xs t w) u (λ v h. let cs = bind_ok (set_at xs w) _ _ h in work_good t v cs.0 t.side s cs.2) q
      by false false q = pause_good t w ws u s q

  -- ---- behind the parts

  begin_good : (t : Tail) (w : List ℕ) (ws : List (List ℕ)) (u : Both) → IsGoodTail d xs t → begin_word d t w ws ≡ Ok u → IsGoodTail d xs u.0
  unfolding begin_word
  begin_good t w [] u s e = absurd cc
  begin_good t w (a ∷ []) u s e = absurd cc
  begin_good t w (a ∷ b ∷ ws) u s e =
      let once = passed (is_some t.begins) _ _ _ e in
      let x = bind_ok (begins_at d a b) _ _ once.1 in
      subst (λ (y : Both). IsGoodTail d xs y.0) (same_ok {E = LineFault} (record t { begins = Some x.0 }, 2) u x.2) (record {
        parts = s.parts;
        begins = begins_are d a b x.0 sound x.1;
        ends = s.ends;
        stretch = s.stretch;
        plus = s.plus;
      })

  end_good : (t : Tail) (w : List ℕ) (ws : List (List ℕ)) (u : Both) → IsGoodTail d xs t → end_word d t w ws ≡ Ok u → IsGoodTail d xs u.0
  unfolding end_word
  end_good t w [] u s e = absurd cc
  end_good t w (a ∷ []) u s e = absurd cc
  end_good t w (a ∷ b ∷ ws) u s e =
      let once = passed (is_some t.ends) _ _ _ e in
      let x = bind_ok (ends_at d a b) _ _ once.1 in
      subst (λ (y : Both). IsGoodTail d xs y.0) (same_ok {E = LineFault} (record t { ends = Some x.0 }, 2) u x.2) (record {
        parts = s.parts;
        begins = s.begins;
        ends = ends_are d a b x.0 sound x.1;
        stretch = s.stretch;
        plus = s.plus;
      })

  stretch_good : (t : Tail) (w : List ℕ) (ws : List (List ℕ)) (u : Both) → IsGoodTail d xs t → stretch_word d t w ws ≡ Ok u → IsGoodTail d xs u.0
  unfolding stretch_word
  stretch_good t w [] u s e = absurd cc
  stretch_good t w (a ∷ []) u s e = absurd cc
  stretch_good t w (a ∷ b ∷ ws) u s e =
      let once = passed (is_some t.stretch) _ _ _ e in
      let x = bind_ok (lengths_at d a b) _ _ once.1 in
      subst (λ (y : Both). IsGoodTail d xs y.0) (same_ok {E = LineFault} (record t { stretch = Some x.0 }, 2) u x.2) (record {
        parts = s.parts;
        begins = s.begins;
        ends = s.ends;
        stretch = lengths_are d a b x.0 sound x.1;
        plus = s.plus;
      })

  plus_good : (t : Tail) (w : List ℕ) (ws : List (List ℕ)) (u : Both) → IsGoodTail d xs t → plus_word d decimals t w ws ≡ Ok u → IsGoodTail d xs u.0
  unfolding plus_word
  plus_good t w [] u s e = absurd cc
  plus_good t w (a ∷ ws) u s e =
      let once = passed (is_some t.plus) _ _ _ e in
      let x = bind_ok (quoted a (hour_at d.minutes decimals a)) _ _ once.1 in
      subst (λ (y : Both). IsGoodTail d xs y.0) (same_ok {E = LineFault} (record t { plus = Some x.0 }, 1) u x.2) (record {
        parts = s.parts;
        begins = s.begins;
        ends = s.ends;
        stretch = s.stretch;
        plus = hour_is d decimals x.0 a (quoted_ok a _ _ x.1);
      })

  behind_good : (t : Tail) (w : List ℕ) (ws : List (List ℕ)) (u : Both) → IsGoodTail d xs t → behind_at d decimals t w ws ≡ Ok u → IsGoodTail d xs u.0
  unfolding behind_at
  behind_good t w ws u s e =
      let v = bind_ok (parts_done t) _ _ e in
      by (bytes_eq w (codes "begin")) (bytes_eq w (codes "end")) (bytes_eq w (codes "stretch")) v.0 (done_good t v.0 s v.1) v.2
    where
      by : (a b c : Bool) (v : Tail) → IsGoodTail d xs v
          → cond a (begin_word d v w ws) (cond b (end_word d v w ws) (cond c (stretch_word d v w ws) (plus_word d decimals v w ws))) ≡ Ok u → IsGoodTail d xs u.0
      by true b c v h q = begin_good v w ws u h q
      by false true c v h q = end_good v w ws u h q
      by false false true v h q = stretch_good v w ws u h q
      by false false false v h q = plus_good v w ws u h q

  -- ---- all words

  step_good : (t : Tail) (w : List ℕ) (ws : List (List ℕ)) (u : Both) → IsGoodTail d xs t → step_at d decimals xs t w ws ≡ Ok u → IsGoodTail d xs u.0
  unfolding step_at
  step_good t w ws u s e = by (is_behind w) e
    where
      by : (a : Bool) → cond a (behind_at d decimals t w ws) (cond t.closed (Err (line.Part (Behind w))) (part_at d xs t w ws)) ≡ Ok u → IsGoodTail d xs u.0
      by true q = behind_good t w ws u s q
      by false q = let open_yet = passed t.closed _ _ _ q in part_good t w ws u s open_yet.1

  pub tail_good : (t u : Tail) (k : ℕ) (ws : List (List ℕ)) → IsGoodTail d xs t → tail_at d decimals xs t k ws ≡ Ok u → IsGoodTail d xs u
  tail_good t u zero [] s e = subst (IsGoodTail d xs) (same_ok {E = LineFault} t u e) s
  tail_good t u (suc k) [] s e = subst (IsGoodTail d xs) (same_ok {E = LineFault} t u e) s
  tail_good t u (suc k) (w ∷ ws) s e = tail_good t u k ws s e
  tail_good t u zero (w ∷ ws) s e =
      let v = bind_ok (step_at d decimals xs t w ws) (λ (x : Both). tail_at d decimals xs x.0 x.1 ws) u e in
      tail_good v.0.0 u v.0.1 ws (step_good t w ws v.0 s v.1) v.2

  none_good : IsGoodTail d xs no_tail
  none_good = record { parts = tt; begins = tt; ends = tt; stretch = tt; plus = tt }

  pub duty_tail_good : (u : Tail) (ws : List (List ℕ)) → duty_tail d decimals xs ws ≡ Ok u → IsGoodTail d xs u
  duty_tail_good u ws e =
      let v = bind_ok (tail_at d decimals xs no_tail 0 ws) _ _ e in
      done_good v.0 u (tail_good no_tail v.0 0 ws none_good v.1) v.2

-- ---- a duty line

-- what was read of a duty line
pub record IsGoodDuty (d : PlanDay) (xs : List PlanCode) (x : Duty) : Type 0 where
  pub lasts : AreGoodLengths d x.lasts
  pub parts : Each (IsGoodPart d xs) x.parts
  pub begins : MayBegin d x.begins
  pub ends : MayEnd d x.ends
  pub stretch : MayLast d x.stretch
  pub plus : IsGoodHour d x.plus

no_plus : (d : PlanDay) → IsGoodHour d 0
no_plus d = record { even = (0, (let none : 0 * d.minutes ≡ 0 * 60 = omega arith in none)); few = omega arith }

plus_costs : (d : PlanDay) (o : Option ℕ) → MayCost d o → IsGoodHour d (plus_of o)
plus_costs d None h = no_plus d
plus_costs d (Some n) h = h

pub duty_good : (k : ℕ) (d : PlanDay) (decimals : ℕ) (xs : List PlanCode) (ws : List (List ℕ)) (x : Duty)
    → IsSoundDay d → duty_at k d decimals xs ws ≡ Ok x → IsGoodDuty d xs x
unfolding duty_at
duty_good k d decimals xs [] x sound e = absurd cc
duty_good k d decimals xs (a ∷ []) x sound e = absurd cc
duty_good k d decimals xs (a ∷ b ∷ []) x sound e = absurd cc
duty_good k d decimals xs (a ∷ b ∷ c ∷ []) x sound e = absurd cc
duty_good k d decimals xs (a ∷ b ∷ c ∷ f ∷ []) x sound e = absurd cc
duty_good k d decimals xs (name ∷ least ∷ greatest ∷ amount ∷ equal ∷ ws) x sound e =
    let n = bind_ok (plan_name_at name) _ _ e in
    let l = bind_ok (lengths_at d least greatest) _ _ n.2 in
    let c = bind_ok (amount_word decimals amount equal) _ _ l.2 in
    let t = bind_ok (duty_tail d decimals xs ws) _ _ c.2 in
    let good = duty_tail_good d decimals xs sound t.0 ws t.1 in
    subst (IsGoodDuty d xs) (same_ok {E = LineFault} (duty_of k n.0 l.0 c.0 t.0) x t.2) (record {
      lasts = lengths_are d least greatest l.0 sound l.1;
      parts = good.parts;
      begins = good.begins;
      ends = good.ends;
      stretch = good.stretch;
      plus = plus_costs d t.0.plus good.plus;
    })
