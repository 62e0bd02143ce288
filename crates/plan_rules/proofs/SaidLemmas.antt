-- A fit plan that a text says is writable in numbers of periods.
use Rattle.std.proofs.Common.{◌≡◌, ◌≢◌, inl, inr, ℕ, ◌+◌, ◌*◌, ◌/◌, ◌≤◌, Bool, true, false, not, cond, leb, Option, None, Some, List, [], ◌∷◌, length, map, arith, refl, sym, ap, ◌∙◌, subst, mul-le-mul_right}
use Rattle.std.proofs.Math.Nat.{div-mul-le_self}
use Rattle.std.proofs.lemmas.Nat.{le-div}
use Rattle.std.proofs.lemmas.Bool.{leb-true, leb-false}
use Rattle.std.proofs.lemmas.List.{length-map}
use Rattle.model_rosters.specs.Folds.{Each, In, count}
use Rattle.model_rosters.specs.Sound.{IsWindow}
use Rattle.model_rosters.proofs.EachLemmas.{Each-at, Each-in, all_each}
use Rattle.plan_meaning.specs.declared.plan.Duty.{Duty}
use Rattle.plan_meaning.specs.declared.plan.Lengths.{Lengths}
use Rattle.plan_meaning.specs.declared.plan.Part.{Part}
use Rattle.plan_meaning.specs.declared.plan.Part.TheVariants.{Pause, Work}
use Rattle.plan_meaning.specs.declared.plan.Plan.{Plan}
use Rattle.plan_meaning.specs.declared.plan.PlanCode.{PlanCode}
use Rattle.plan_meaning.specs.declared.plan.Times.{Times}
use Rattle.plan_meaning.specs.Times.{begin_behind, end_behind}
use Rattle.plan_meaning.specs.Shifts.{stretch_of}
use Rattle.plan_meaning.specs.Whole.{AreWhole, AreWholeStarts, IsFirstStart, IsWholeCode, IsWholeDuty, IsWholePart}
use Rattle.plan_laws.specs.declared.period_plan.Activity.{Activity}
use Rattle.plan_laws.specs.declared.period_plan.NamedLines.{NamedLines}
use Rattle.plan_laws.specs.declared.period_plan.PeriodDuty.{PeriodDuty}
use Rattle.plan_laws.specs.declared.period_plan.PeriodPlan.{PeriodPlan}
use Rattle.plan_laws.specs.Laws.{all_lines}
use Rattle.plan_laws.specs.Names.{chosen}
use Rattle.plan_laws.specs.PeriodShifts.{IsLine, letter_cost, plus_of}
use Rattle.plan_laws.specs.PlanRules.{set_of}
use Rattle.plan_laws.specs.Turned.{count_of, has_code, named_lines, per_period, turned, turned_begins, turned_code, turned_codes, turned_duty, turned_ends, turned_lengths, turned_part, turned_pause, turned_starts}
use Rattle.plan_laws.proofs.Counts.{whole_is}
use Rattle.plan_laws.proofs.Turning.{coded_is, from_map, in_named, to_map}
use Rattle.plan_laws.proofs.Words.{carried_letter, in_chosen, in_first, in_second}
use Rattle.plan_periods.specs.FitPlans.{AreFitBegins, AreFitEnds, AreFitLengths, IsFitCode, IsFitDuty, IsFitPart, IsFitPlan}
use Rattle.plan_rules.specs.PlanSays.{AreLinesOf}
use Rattle.plan_rules.specs.SaidPlans.{AreOrderedBegins, AreOrderedEnds, AreSaidNames, HaveOwnCodes, IsCheap, IsSaidDuty, IsSaidPart, IsSaidPlan, SaidLaw}
use Rattle.plan_rules.specs.Writable.{AreApart, AreFineCodes, AreFineLines, AreFineTimes, IsFineCode, IsFineDuty, IsFineLine, IsFinePart, IsFineSet, IsWritable}

-- what is chosen of lines with own codes has own codes
apart_chosen : (t : Activity → Bool) (ys : List Activity) → AreApart ys → AreApart (chosen t ys)
apart_chosen t [] h = tt
apart_chosen t (y ∷ ys) h = go (t y) (apart_chosen t ys h.1)
  where
    go : (v : Bool) → AreApart (chosen t ys) → AreApart (cond v (y ∷ chosen t ys) (chosen t ys))
    go true m = (Each-in (λ (b : Activity). b.code ≢ y.code) (chosen t ys) (λ b at. Each-at (λ (c : Activity). c.code ≢ y.code) b ys h.0 (in_chosen t b ys at).0), m)
    go false m = m

in_all : (xs : List NamedLines) (x : NamedLines) (d : PeriodDuty) → In x xs → In d x.lines → In d (all_lines xs)
in_all [] x d at one = absurd at
in_all (y ∷ xs) x d (inl e) one = in_first d y.lines (all_lines xs) (subst (λ (z : NamedLines). In d z.lines) e one)
in_all (y ∷ xs) x d (inr at) one = in_second d y.lines (all_lines xs) (in_all xs x d at one)

module _ (p : Plan) (first : ℕ) (fit : IsFitPlan p) (begins : IsFirstStart p p.starts first) (said : IsSaidPlan p) where
  abbrev q : PeriodPlan
  q = turned p first

  -- numbers of periods
  some_count : (n : ℕ) → p.day.minutes ≤ n → 1 ≤ count_of p n
  some_count n h = le-div 1 n p.day.minutes fit.whole.some (omega (arith, h))

  order_count : (a b : ℕ) → a ≤ b → count_of p a ≤ count_of p b
  order_count a b h =
      let low = div-mul-le_self a p.day.minutes in
      le-div (count_of p a) b p.day.minutes fit.whole.some (omega (arith, h, low))

  lengths_ok : (x : Lengths) → AreWhole p x → AreFitLengths p x → IsWindow (turned_lengths p x)
  lengths_ok x whole few = record { first = some_count x.least whole.some; order = order_count x.least x.greatest whole.ordered; last = few.greatest }

  begins_ok : (o : Option Times) → AreFitBegins p o → AreOrderedBegins p o → IsWindow (turned_begins p o)
  begins_ok None few order = record { first = omega arith; order = omega arith; last = omega arith }
  begins_ok (Some t) few order =
      let least = order_count (begin_behind p.day t.from) (begin_behind p.day t.to) order in
      record { first = omega arith; order = omega (arith, least); last = few.1 }

  ends_ok : (o : Option Times) → AreFitEnds p o → AreOrderedEnds p o → IsWindow (turned_ends p o)
  ends_ok None few order = record { first = omega arith; order = omega arith; last = omega arith }
  ends_ok (Some t) few order = record {
    first = some_count (end_behind p.day t.from) order.0;
    order = order_count (end_behind p.day t.from) (end_behind p.day t.to) order.1;
    last = few.1;
  }

  times_ok : (o : Option Times) → AreFitBegins p o → AreOrderedBegins p o → AreFineTimes (turned_pause p o)
  times_ok None few order = tt
  times_ok (Some t) few order = begins_ok (Some t) few order

  -- lines of codes
  line_is : (c : PlanCode) → In c p.codes → IsLine q (turned_code p c)
  line_is c at =
      let w = Each-at (IsWholeCode p) c p.codes fit.whole.codes at in
      record {
        one = to_map (turned_code p) p.codes c at;
        only = λ b at_b same. only b at_b same;
        some = some_count c.lasts.least w.lasts.some;
        ordered = order_count c.lasts.least c.lasts.greatest w.lasts.ordered;
      }
    where
      only : (b : Activity) → In b (turned_codes p) → b.code ≡ c.code → b ≡ turned_code p c
      only b at_b same =
          let l = from_map (turned_code p) p.codes b at_b in
          let code : l.0.code ≡ c.code = sym (ap (λ (y : Activity). y.code) l.2) ∙ same in
          l.2 ∙ ap (turned_code p) (fit.whole.apart l.0 c l.1 at code)

  fine_line : (r : ℕ) (c : PlanCode) → In c p.codes → ((i : ℕ) → 1 ≤ i → i ≤ q.periods → letter_cost q r c.code i ≤ 10000) → IsFineLine q r (turned_code p c)
  fine_line r c at cheap =
      let few = Each-at (IsFitCode p) c p.codes (all_each (IsFitCode p) p.codes fit.codes) at in
      record { line = line_is c at; few = few.lasts.greatest; cheap = cheap }

  own_codes : (cs : List PlanCode) → HaveOwnCodes cs → AreApart (map (turned_code p) cs)
  own_codes [] h = tt
  own_codes (c ∷ cs) h = (
    Each-in (λ (b : Activity). b.code ≢ c.code) (map (turned_code p) cs) (λ b at.
        let l = from_map (turned_code p) cs b at in
        λ same. Each-at (λ (y : PlanCode). y.code ≢ c.code) l.0 cs h.0 l.1 (sym (ap (λ (y : Activity). y.code) l.2) ∙ same)),
    own_codes cs h.1,
  )

  fine_set : (d : Duty) (codes : List ℕ) → IsSaidPart p d.plus (Work codes) → IsFineSet q (per_period p d.plus) (set_of p codes)
  fine_set d codes part = record {
    some = part.0;
    few = part.1;
    lines = Each-in (IsFineLine q (per_period p d.plus)) (set_of p codes) (λ a at. each a at);
    apart = apart_chosen (has_code codes) (turned_codes p) (own_codes p.codes said.apart);
  }
    where
      each : (a : Activity) → In a (set_of p codes) → IsFineLine q (per_period p d.plus) a
      each a at =
          let l = from_map (turned_code p) p.codes a (in_chosen (has_code codes) a (turned_codes p) at).0 in
          let cheap = Each-at (λ (b : Activity). IsCheap p d.plus b.code) a (set_of p codes) part.2 at in
          subst (IsFineLine q (per_period p d.plus)) (sym l.2)
          (fine_line (per_period p d.plus) l.0 l.1 (subst (λ (b : Activity). IsCheap p d.plus b.code) l.2 cheap))

  part_ok : (d : Duty) (x : Part) → IsWholePart p x → IsFitPart p x → IsSaidPart p d.plus x → IsFinePart q (per_period p d.plus) (turned_part p x)
  part_ok d (Work codes) whole few part = fine_set d codes part
  part_ok d (Pause code times) whole few part =
      let c = whole.0.0 in
      let listed = whole.0.1 in
      let own = whole.0.2 in
      let r = per_period p d.plus in
      let is = coded_is p first fit.whole begins code c listed own in
      let line = line_is c listed in (
        subst (λ (a : Activity). IsFineLine q (plus_of r a) a) (sym is)
            (fine_line (plus_of r (turned_code p c)) c listed (λ i lo hi.
            let same = carried_letter q r (turned_code p c) i line in
            let cheap : letter_cost q r c.code i ≤ 10000 = subst (λ (n : ℕ). letter_cost q r n i ≤ 10000) (sym own) (part.0 i lo hi) in
            omega (arith, same, cheap))),
        times_ok times few part.1,
      )

  parts_ok : (d : Duty) (ys : List Part) → Each (IsWholePart p) ys → Each (IsFitPart p) ys → Each (IsSaidPart p d.plus) ys → Each (IsFinePart q (per_period p d.plus)) (map (turned_part p) ys)
  parts_ok d [] whole few part = tt
  parts_ok d (y ∷ ys) whole few part = (part_ok d y whole.0 few.0 part.0, parts_ok d ys whole.1 few.1 part.1)

  duty_ok : (d : Duty) → In d p.duties → IsFineDuty q (turned_duty p d)
  duty_ok d at =
      let w = Each-at (IsWholeDuty p) d p.duties fit.whole.duties at in
      let f = Each-at (IsFitDuty p) d p.duties (all_each (IsFitDuty p) p.duties fit.duties) at in
      let s = Each-at (IsSaidDuty p) d p.duties said.duties at in
      let long = length-map d.parts (turned_part p) in
      let some = s.some in
      let few = s.few in
      record {
        lasts = lengths_ok d.lasts w.lasts f.lasts;
        begins = begins_ok d.begins f.begins s.begins;
        ends = ends_ok d.ends f.ends s.ends;
        stretch = lengths_ok (stretch_of p d) w.stretch f.stretch;
        cost = s.cost;
        some = omega (arith, long, some);
        few = omega (arith, long, few);
        parts = parts_ok d d.parts w.parts (all_each (IsFitPart p) d.parts f.parts) s.parts;
      }

  -- the first start is before the second
  first_ok : (o : Option ℕ) → AreWholeStarts p o → IsFirstStart p o first → turned_starts p o ≤ 8 → first ≤ 7
  first_ok None whole is few = omega (arith, is)
  first_ok (Some starts) whole is few =
      let same = whole_is starts p.day.minutes whole fit.whole.some in
      by (leb 8 first) refl same
    where
      by : (v : Bool) → leb 8 first ≡ v → starts ≡ starts / p.day.minutes * p.day.minutes → first ≤ 7
      by true e same =
          let most = leb-true 8 first e in
          let count : starts / p.day.minutes ≤ first = omega (arith, most, few) in
          let room = mul-le-mul_right p.day.minutes count in
          let before = is.0 in
          absurd (omega (arith, same, room, before))
      by false e same = let less = leb-false 8 first e in omega (arith, less)

  -- codes
  work_counted : (cs : List PlanCode) → count (λ (a : Activity). a.work) (map (turned_code p) cs) ≡ count (λ (c : PlanCode). c.work) cs
  work_counted [] = refl
  work_counted (c ∷ cs) = ap (λ (n : ℕ). cond c.work 1 0 + n) (work_counted cs)

  pauses_counted : (cs : List PlanCode) → count (λ (a : Activity). not a.work) (map (turned_code p) cs) ≡ count (λ (c : PlanCode). not c.work) cs
  pauses_counted [] = refl
  pauses_counted (c ∷ cs) = ap (λ (n : ℕ). cond (not c.work) 1 0 + n) (pauses_counted cs)

  fine_codes : (cs : List PlanCode) → Each (λ (c : PlanCode). IsFineCode c.code) cs → Each (λ (a : Activity). IsFineCode a.code) (map (turned_code p) cs)
  fine_codes [] h = tt
  fine_codes (c ∷ cs) h = (h.0, fine_codes cs h.1)

  codes_ok : AreFineCodes q
  codes_ok =
      let works = work_counted p.codes in
      let pauses = pauses_counted p.codes in
      let few = said.few_work in
      let others = said.few_pauses in
      record {
        off = refl;
        codes = fine_codes p.codes said.codes;
        apart = own_codes p.codes said.apart;
        few_work = omega (arith, works, few);
        few_pauses = omega (arith, pauses, others);
      }

  pub writable : (xs : List NamedLines) → AreLinesOf p xs → AreSaidNames xs → IsWritable q xs
  writable xs lines names = record {
    some = said.some;
    few = fit.whole.few;
    starts = said.starts;
    few_starts = said.few_starts;
    first = first_ok p.starts fit.whole.starts begins said.few_starts;
    change = said.change;
    codes = codes_ok;
    lines = Each-in (AreFineLines q) xs (λ x at. record {
      some = Each-at (λ (y : NamedLines). 1 ≤ length y.lines) x xs names.some at;
      lines = Each-in (IsFineDuty q) x.lines (λ d one. line_ok d ((lines.all d).0 (in_all xs x d at one)));
    });
    names = names.names;
  }
    where
      line_ok : (d : PeriodDuty) → In d (map (turned_duty p) (named_lines None p.duties)) → IsFineDuty q d
      line_ok d at =
          let l = from_map (turned_duty p) (named_lines None p.duties) d at in
          subst (IsFineDuty q) (sym l.2) (duty_ok l.0 (in_named p first fit.whole begins None l.0 p.duties l.1).0)

pub said_law : SaidLaw
said_law = λ p first xs fit begins said lines names. writable p first fit begins said xs lines names
