-- A grammar that is written for the numbers of periods of a plan says what the plan means.
use Rattle.std.proofs.Common.{◌≡◌, ◌≢◌, ◌⊎◌, inl, inr, ℕ, ◌≤◌, ◌/◌, Bool, true, false, not, IsTrue, Option, None, Some, List, [], ◌∷◌, map, arith, sym, ap, ◌∙◌, subst}
use Rattle.std.proofs.lemmas.List.{length-map}
use Rattle.model_rosters.specs.declared.grammar.Grammar.{Grammar}
use Rattle.model_rosters.specs.Folds.{In, Each}
use Rattle.model_rosters.proofs.EachLemmas.{Each-at, Each-in}
use Rattle.plan_meaning.specs.declared.plan.Duty.{Duty}
use Rattle.plan_meaning.specs.declared.plan.Lengths.{Lengths}
use Rattle.plan_meaning.specs.declared.plan.Part.{Part}
use Rattle.plan_meaning.specs.declared.plan.Part.TheVariants.{Pause, Work}
use Rattle.plan_meaning.specs.declared.plan.Plan.{Plan}
use Rattle.plan_meaning.specs.declared.plan.PlanCode.{PlanCode}
use Rattle.plan_meaning.specs.Shifts as meaning
use Rattle.plan_meaning.specs.Shifts.{stretch_of}
use Rattle.plan_meaning.specs.Whole.{IsWholeCode, IsWholePart, IsWholeDuty, AreWholeStarts, IsFirstStart, IsWholePlan}
use Rattle.plan_laws.specs.declared.period_plan.Activity.{Activity}
use Rattle.plan_laws.specs.declared.period_plan.NamedLines.{NamedLines}
use Rattle.plan_laws.specs.declared.period_plan.PeriodDuty.{PeriodDuty}
use Rattle.plan_laws.specs.declared.period_plan.PeriodPlan.{PeriodPlan}
use Rattle.plan_laws.specs.PeriodShifts.{IsLine, IsShiftBy, IsPriceOf}
use Rattle.plan_laws.specs.Laws.{IsWritten, IsShiftOf, all_lines, DayLaw}
use Rattle.plan_laws.specs.Named.{Numbers}
use Rattle.plan_laws.specs.Names.{Free, Kind, day, start, IsGoodPart, IsGoodDuty}
use Rattle.plan_laws.specs.PlanRules.{set_of, IsFitPart, IsFitDuty, AreSame, SaysName, SaysPlan, RulesLaw}
use Rattle.plan_laws.specs.Turned.{per_period, turned_lengths, turned_code, has_code, turned_codes, turned_part, turned_duty, turned_starts, turned, named_lines, turned_lines}
use Rattle.plan_laws.proofs.Counts.{whole_is, to_multiple, below_multiple}
use Rattle.plan_laws.proofs.PlanLaws.{plan_law, to_lines}
use Rattle.plan_laws.proofs.Turning.{from_map, to_map, coded_is, in_named, to_named, shift_to, shift_back, price_to, price_back}
use Rattle.plan_laws.proofs.Words.{in_chosen}

no_both : (b : Bool) → IsTrue b → IsTrue (not b) → ⊥
no_both true h k = cc
no_both false h k = cc

-- the same lines have the same shifts and prices
same_price : (q : PeriodPlan) (ds es : List PeriodDuty) (w : List ℕ) (price : ℕ) → AreSame ds es → IsPriceOf q ds w price → IsPriceOf q es w price
same_price q ds es w price same h = record {
  attained = (h.attained.0, (same h.attained.0).0 h.attained.1, h.attained.2);
  least = λ d other at s. h.least d other ((same d).1 at) s;
}

turn : (ds es : List PeriodDuty) → AreSame ds es → AreSame es ds
turn ds es same d = ((same d).1, (same d).0)

module _ (p : Plan) (first : ℕ) (sound : IsWholePlan p) (starts_first : IsFirstStart p p.starts first) (free : Free) (fit : Each (IsFitDuty p free) p.duties) where
  line_is : (c : PlanCode) → In c p.codes → IsLine (turned p first) (turned_code p c)
  line_is c at =
      let w = Each-at (IsWholeCode p) c p.codes sound.codes at in
      let e = whole_is c.lasts.least p.day.minutes w.lasts.least sound.some in
      let ordered = w.lasts.ordered in
      let some = w.lasts.some in
      record {
        one = to_map (turned_code p) p.codes c at;
        only = λ b at_b same. only b at_b same;
        some = below_multiple c.lasts.least p.day.minutes 1 w.lasts.least sound.some (omega (arith, some));
        ordered = below_multiple c.lasts.greatest p.day.minutes (c.lasts.least / p.day.minutes) w.lasts.greatest sound.some (omega (arith, e, ordered));
      }
    where
      only : (b : Activity) → In b (turned_codes p) → b.code ≡ c.code → b ≡ turned_code p c
      only b at_b same =
          let l = from_map (turned_code p) p.codes b at_b in
          let code : l.0.code ≡ c.code = sym (ap (λ (y : Activity). y.code) l.2) ∙ same in
          l.2 ∙ ap (turned_code p) (sound.apart l.0 c l.1 at code)

  set_line : (codes : List ℕ) (a : Activity) → In a (set_of p codes) → IsLine (turned p first) a
  set_line codes a at =
      let listed = in_chosen (has_code codes) a (turned_codes p) at in
      let l = from_map (turned_code p) p.codes a listed.0 in
      subst (λ (y : Activity). IsLine (turned p first) y) (sym l.2) (line_is l.0 l.1)

  good_part : (plus : ℕ) (range : Lengths) (x : Part) → IsWholePart p x → IsFitPart p free plus range x
      → IsGoodPart (turned p first) free plus (turned_lengths p range) (turned_part p x)
  good_part plus range (Work codes) whole fits = record {
    set = record { lines = Each-in (IsLine (turned p first)) (set_of p codes) (set_line codes); apart = apart };
    long = fits;
  }
    where
      apart : (x y : Activity) → In x (set_of p codes) → In y (set_of p codes) → IsTrue (free plus (set_of p codes) x) → IsTrue (not (free plus (set_of p codes) y)) → x.code ≢ y.code
      apart x y at_x at_y fx fy same =
          let lx = set_line codes x at_x in
          let ly = set_line codes y at_y in
          let one : y ≡ x = lx.only y ly.one (sym same) in
          no_both (free plus (set_of p codes) x) fx (subst (λ (z : Activity). IsTrue (not (free plus (set_of p codes) z))) one fy)
  good_part plus range (Pause code times) whole fits =
      subst (λ (y : Activity). IsLine (turned p first) y) (sym (coded_is p first sound starts_first code whole.0.0 whole.0.1 whole.0.2)) (line_is whole.0.0 whole.0.1)

  good_parts : (plus : ℕ) (range : Lengths) (xs : List Part) → Each (IsWholePart p) xs → Each (IsFitPart p free plus range) xs
      → Each (IsGoodPart (turned p first) free plus (turned_lengths p range)) (map (turned_part p) xs)
  good_parts plus range [] whole fits = tt
  good_parts plus range (x ∷ xs) whole fits = (good_part plus range x whole.0 fits.0, good_parts plus range xs whole.1 fits.1)

  good_duty : (d : Duty) → In d p.duties → IsGoodDuty (turned p first) free (turned_duty p d)
  good_duty d at =
      let w = Each-at (IsWholeDuty p) d p.duties sound.duties at in
      let f = Each-at (IsFitDuty p free) d p.duties fit at in
      let count = length-map d.parts (turned_part p) in
      let some = f.some in
      record {
        parts = good_parts (per_period p d.plus) (stretch_of p d) d.parts w.parts f.parts;
        some = omega (arith, count, some);
      }

  -- a line of the turned ones comes from a duty line of the name
  line_of : (name : Option (List ℕ)) (d : PeriodDuty) → In d (turned_lines p name) → (x : Duty) × meaning.IsLineOf p name x × (d ≡ turned_duty p x)
  line_of name d at =
      let l = from_map (turned_duty p) (named_lines name p.duties) d at in
      (l.0, in_named p first sound starts_first name l.0 p.duties l.1, l.2)

  good_line : (name : Option (List ℕ)) (d : PeriodDuty) → In d (turned_lines p name) → IsGoodDuty (turned p first) free d
  good_line name d at =
      let l = line_of name d at in
      subst (λ (y : PeriodDuty). IsGoodDuty (turned p first) free y) (sym l.2) (good_duty l.0 l.1.0)

  some_starts : (starts : Option ℕ) → AreWholeStarts p starts → IsFirstStart p starts first → 1 ≤ turned_starts p starts
  some_starts None h f = omega arith
  some_starts (Some starts) h f = go (grind arith)
    where
      go : (1 ≤ starts / p.day.minutes) ⊎ (starts / p.day.minutes ≤ 0) → 1 ≤ starts / p.day.minutes
      go (inl r) = r
      go (inr r) = let le = to_multiple starts p.day.minutes 0 h sound.some r in let early = f.0 in absurd (omega (arith, le, early))

  -- what the law of the numbers of periods says of a name, said of the plan
  says : (num : Numbers Kind) (g : Grammar) (k : Kind) (ds : List PeriodDuty) (name : Option (List ℕ)) → AreSame ds (turned_lines p name) → DayLaw (turned p first) num g k ds
      → SaysName p g (num.name k) name
  says num g k ds name same law = record {
    shifts = λ w. ((λ h. to w ((law.shifts w).0 h)), (λ h. (law.shifts w).1 (back w h)));
    prices = λ w price. (
      (λ h. price_back p first sound starts_first name w price (same_price (turned p first) ds (turned_lines p name) w price same ((law.prices w price).0 h))),
      (λ h. (law.prices w price).1 (same_price (turned p first) (turned_lines p name) ds w price (turn ds (turned_lines p name) same) (price_to p first sound starts_first name w price h))),
    );
  }
    where
      to : (w : List ℕ) → IsShiftOf (turned p first) ds w → meaning.IsShiftOf p name w
      to w h =
          let l = line_of name h.0 ((same h.0).0 h.2) in
          (l.0, h.1, l.1, shift_back p first sound starts_first l.0 w h.1 l.1.0 (subst (λ (y : PeriodDuty). IsShiftBy (turned p first) y w h.1) l.2 h.3))

      back : (w : List ℕ) → meaning.IsShiftOf p name w → IsShiftOf (turned p first) ds w
      back w h =
          let at : In (turned_duty p h.0) (turned_lines p name) = to_map (turned_duty p) (named_lines name p.duties) h.0 (to_named p first sound starts_first name h.0 p.duties h.2.0 h.2.1) in
          (turned_duty p h.0, h.1, (same (turned_duty p h.0)).1 at, shift_to p first sound starts_first h.0 w h.1 h.2.0 h.3)

  pub says_plan : (num : Numbers Kind) (names : List Kind) (g : Grammar) → IsWritten (turned p first) free num names g → SaysPlan p num names g
  says_plan num names g written =
      let law = plan_law (turned p first) free num names g written in
      let starts = some_starts p.starts sound.starts starts_first in
      record {
        duties = λ name tag ds at same. says num g (day tag ds) ds name same
            (law.1 starts tag ds at (Each-in (IsGoodDuty (turned p first) free) ds (λ d one. good_line name d ((same d).0 one))));
        all = λ dss at same. says num g (start dss) (all_lines dss) None same
            (law.2 starts dss at
            (Each-in (λ (x : NamedLines). Each (IsGoodDuty (turned p first) free) x.lines) dss
            (λ x one. Each-in (IsGoodDuty (turned p first) free) x.lines (λ d at_x. good_line None d ((same d).0 (to_lines dss x d one at_x))))));
      }

pub rules_law : RulesLaw
rules_law = λ p first sound start free fit num names g written. says_plan p first sound start free fit num names g written
