-- The grammar that is written for a plan says the plan.
use Rattle.std.proofs.Common.{◌≡◌, ◌≢◌, ◌⊎◌, inl, inr, ℕ, ◌≤◌, Bool, true, false, not, IsTrue, cond, ◌&&◌, ◌||◌, nat_eq, nat_le, max, None, Some, List, [], ◌∷◌, length, slice_get, arith, refl, sym, ap, ◌∙◌, subst}
use Rattle.std.proofs.Math.Nat.{le-max_left, le-max_right}
use Rattle.std.proofs.lemmas.Bool.{eq-eqb, leb-true}
use Rattle.std.proofs.lemmas.List.{append-nil}
use Rattle.model_rosters.specs.declared.grammar.Grammar.{Grammar}
use Rattle.model_rosters.specs.Folds.{Each, In}
use Rattle.model_rosters.proofs.EachLemmas.{Each-at, Each-in}
use Rattle.plan_meaning.specs.declared.plan.Duty.{Duty}
use Rattle.plan_meaning.specs.declared.plan.Part.{Part}
use Rattle.plan_meaning.specs.declared.plan.Part.TheVariants.{Pause, Work}
use Rattle.plan_meaning.specs.declared.plan.Plan.{Plan}
use Rattle.plan_meaning.specs.Shifts.{stretch_of}
use Rattle.plan_meaning.specs.Whole.{IsFirstStart, IsWholePlan}
use Rattle.plan_laws.specs.declared.period_plan.Activity.{Activity}
use Rattle.plan_laws.specs.declared.period_plan.NamedLines.{NamedLines}
use Rattle.plan_laws.specs.declared.period_plan.PeriodDuty.{PeriodDuty}
use Rattle.plan_laws.specs.declared.period_plan.PeriodPart.{PeriodPart}
use Rattle.plan_laws.specs.declared.period_plan.PeriodPart.TheVariants.{Working}
use Rattle.plan_laws.specs.Laws.{all_lines}
use Rattle.plan_laws.specs.Names.{Free, Kind, day, start}
use Rattle.plan_laws.specs.PeriodShifts.{change_cost}
use Rattle.plan_laws.specs.PlanRules.{AreSame, IsFitDuty, IsFitPart, SaysName, SaysPlan, set_of}
use Rattle.plan_laws.specs.Turned.{count_of, per_period, turned, turned_duty, turned_lines, turned_part, named_lines}
use Rattle.plan_laws.proofs.Turning.{to_map, to_named}
use Rattle.plan_laws.proofs.WholeRules.{rules_law}
use Rattle.plan_laws.proofs.Words.{in_either}
use Rattle.plan_names.specs.FreeCodes.{free_of, has_work_of, is_work_of, line_longest, longest_from, longest_of}
use Rattle.plan_names.specs.StartNames.{only_day, start_kind}
use Rattle.plan_names.proofs.SameNames.{set_decides}
use Rattle.plan_rules.specs.Outcomes.{HasWritten}
use Rattle.plan_rules.specs.PlanSays.{AreLinesOf, PlanSaysLaw}
use Rattle.plan_rules.specs.WrittenLaws.{IsWrittenFor}
use Rattle.plan_rules.proofs.WrittenLemmas.{written_for_plan}

or_true : (a b : Bool) → b ≡ true → (a || b) ≡ true
or_true true b e = refl
or_true false b e = e

or_first : (a b : Bool) → a ≡ true → (a || b) ≡ true
or_first true b e = refl
or_first false b e = absurd (never e)
  where
    never : false ≡ true → ⊥
    never e = cc

-- a line with a part of work of the set, and with the plus, is among those whose longest stretch counts
has_work : (s : List Activity) (parts : List PeriodPart) → In (Working s) parts → has_work_of s parts ≡ true
has_work s [] at = absurd at
has_work s (x ∷ xs) (inl e) = or_first (is_work_of s x) (has_work_of s xs) (subst (λ y. is_work_of s y ≡ true) e ((set_decides s s).1 refl))
has_work s (x ∷ xs) (inr at) = or_true (is_work_of s x) (has_work_of s xs) (has_work s xs at)

line_is : (r : ℕ) (s : List Activity) (d : PeriodDuty) → d.plus ≡ r → In (Working s) d.parts → line_longest r s d ≡ d.stretch.hi
line_is r s d plus at = ap (λ v. cond v d.stretch.hi 0) (both (nat_eq d.plus r) (has_work_of s d.parts) (eq-eqb d.plus r plus) (has_work s d.parts at))
  where
    both : (a b : Bool) → a ≡ true → b ≡ true → (a && b) ≡ true
    both true b e f = f
    both false b e f = e

le : {a b c : ℕ} → a ≤ b → b ≤ c → a ≤ c
le h k = omega arith

from_most : (most r : ℕ) (s : List Activity) (ds : List PeriodDuty) → most ≤ longest_from most r s ds
from_most most r s [] = omega arith
from_most most r s (d ∷ ds) = le (le-max_left most (line_longest r s d)) (from_most (max most (line_longest r s d)) r s ds)

line_most : (most r : ℕ) (s : List Activity) (ds : List PeriodDuty) (d : PeriodDuty) → In d ds → line_longest r s d ≤ longest_from most r s ds
line_most most r s [] d at = absurd at
line_most most r s (x ∷ ds) d (inl e) =
    subst (λ y. line_longest r s y ≤ longest_from most r s (x ∷ ds)) (sym e)
    (le (le-max_right most (line_longest r s x)) (from_most (max most (line_longest r s x)) r s ds))
line_most most r s (x ∷ ds) d (inr at) = line_most (max most (line_longest r s x)) r s ds d at

of_most : (most r : ℕ) (s : List Activity) (xs : List NamedLines) → most ≤ longest_of most r s xs
of_most most r s [] = omega arith
of_most most r s (x ∷ xs) = le (from_most most r s x.lines) (of_most (longest_from most r s x.lines) r s xs)

all_most : (most r : ℕ) (s : List Activity) (xs : List NamedLines) (d : PeriodDuty) → In d (all_lines xs) → line_longest r s d ≤ longest_of most r s xs
all_most most r s [] d at = absurd at
all_most most r s (x ∷ xs) d at = go (in_either d x.lines (all_lines xs) at) (all_most (longest_from most r s x.lines) r s xs d)
  where
    go : In d x.lines ⊎ In d (all_lines xs) → (In d (all_lines xs) → line_longest r s d ≤ longest_of (longest_from most r s x.lines) r s xs)
        → line_longest r s d ≤ longest_of most r s (x ∷ xs)
    go (inl h) more = le (line_most most r s x.lines d h) (of_most (longest_from most r s x.lines) r s xs)
    go (inr h) more = more h

second : (a b : Bool) → IsTrue (a && b) → IsTrue b
second true b h = h
second false b h = absurd (never h)
  where
    never : false ≡ true → ⊥
    never e = cc

module _ (p : Plan) (first : ℕ) (xs : List NamedLines) (g : Grammar) (whole : IsWholePlan p) (begins : IsFirstStart p p.starts first)
    (parts : Each (λ (d : Duty). 1 ≤ length d.parts) p.duties) (lines : AreLinesOf p xs) (h : HasWritten (turned p first) xs g) where
  abbrev free : Free
  free = free_of (turned p first) xs

  listed : (d : Duty) → In d p.duties → In (turned_duty p d) (all_lines xs)
  listed d at = (lines.all (turned_duty p d)).1 (to_map (turned_duty p) (named_lines None p.duties) d (to_named p first whole begins None d p.duties at tt))

  fit_part : (d : Duty) → In d p.duties → (x : Part) → In x d.parts → IsFitPart p free (per_period p d.plus) (stretch_of p d) x
  fit_part d at (Work codes) one = λ a at_a is_free.
      let s = set_of p codes in
      let r = per_period p d.plus in
      let here : In (Working s) (turned_duty p d).parts = to_map (turned_part p) d.parts (Work codes) one in
      let most = all_most 0 r s xs (turned_duty p d) (listed d at) in
      let long : count_of p (stretch_of p d).greatest ≤ longest_of 0 r s xs = subst (λ n. n ≤ longest_of 0 r s xs) (line_is r s (turned_duty p d) refl here) most in
      let reach = leb-true (longest_of 0 r s xs) a.greatest (second (not (nat_eq (change_cost (turned p first)) 0)) (nat_le (longest_of 0 r s xs) a.greatest) is_free) in
      le long reach
  fit_part d at (Pause code times) one = tt

  fit : Each (IsFitDuty p free) p.duties
  fit = Each-in (IsFitDuty p free) p.duties
      (λ d at. record {
        parts = Each-in (IsFitPart p free (per_period p d.plus) (stretch_of p d)) d.parts (λ x one. fit_part d at x one);
        some = Each-at (λ (d : Duty). 1 ≤ length d.parts) d p.duties parts at;
      })

  w : IsWrittenFor (turned p first) xs g
  w = written_for_plan (turned p first) xs g h

  says : SaysPlan p w.num w.names g
  says = rules_law p first whole begins free fit w.num w.names g w.written

  at_start : (k : Kind) → start_kind xs ≡ k → SaysName p g (w.num.name k) None → SaysName p g g.start None
  at_start k is say = subst (λ n. SaysName p g n None) (sym (w.start ∙ ap w.num.name is)) say

  in_start : (k : Kind) → start_kind xs ≡ k → In k w.names
  in_start k is = subst (λ y. In y w.names) is w.start_listed

  one_name : (x : NamedLines) → xs ≡ x ∷ [] → (n : List ℕ) → x.name ≡ n → start_kind xs ≡ only_day n x.lines → SaysName p g g.start None
  one_name x only [] none is =
      at_start (day [] x.lines) is
      (says.duties None [] x.lines (in_start (day [] x.lines) is)
      (subst (λ ds. AreSame ds (turned_lines p None)) (ap all_lines only ∙ append-nil x.lines) lines.all))
  one_name x only (c ∷ cs) name is =
      let same : start_kind xs ≡ start xs = is ∙ ap (λ n. start (record { name = n; lines = x.lines } ∷ [])) (sym name) ∙ ap start (sym only) in
      at_start (start xs) same (says.all xs (in_start (start xs) same) lines.all)

  any_name : start_kind xs ≡ start xs → SaysName p g g.start None
  any_name is = at_start (start xs) is (says.all xs (in_start (start xs) is) lines.all)

  pub says_start : (ys : List NamedLines) → xs ≡ ys → SaysName p g g.start None
  says_start [] e = any_name (ap start_kind e ∙ ap start (sym e))
  says_start (x ∷ []) e = one_name x e x.name refl (ap start_kind e)
  says_start (x ∷ y ∷ ys) e = any_name (ap start_kind e ∙ ap start (sym e))

  pub says_named : (x : NamedLines) → In x xs → x.name ≢ [] → (n : ℕ) × (slice_get g.names n ≡ Some x.name) × SaysName p g n (Some x.name)
  says_named x at some =
      let c = w.called x at some in
      (w.num.name (day x.name x.lines), c.called, says.duties (Some x.name) x.name x.lines c.listed (lines.named x at some))

pub says_law : PlanSaysLaw
says_law = λ p first xs g whole begins parts lines h. record {
  start = says_start p first xs g whole begins parts lines h xs refl;
  named = says_named p first xs g whole begins parts lines h;
}
