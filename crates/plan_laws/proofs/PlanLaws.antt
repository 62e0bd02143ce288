-- Stretches and shifts against trees, and prices against least costs.
use Rattle.std.proofs.Common.{◌≡◌, ◌⊎◌, inl, inr, ℕ, ◌≤◌, ◌+◌, ◌↔◌, List, [], ◌∷◌, length, arith, refl, subst, sym, ap, ◌∙◌, append-nil, le_antisymm}
use Rattle.model_rosters.specs.declared.grammar.Grammar.{Grammar}
use Rattle.model_rosters.specs.declared.grammar.Window.{Window}
use Rattle.model_rosters.specs.declared.grammar.Sym.TheVariants.{Name}
use Rattle.model_rosters.specs.Folds.{In}
use Rattle.model_rosters.specs.Trees.{Parts, done, uses, span_length, Derive, word}
use Rattle.model_rosters.specs.Shifts.{IsWordTree, IsPrice}
use Rattle.model_rosters.specs.Arcs.{cost}
use Rattle.plan_laws.specs.Named.{named, Numbers, Kept}
use Rattle.plan_laws.specs.declared.period_plan.Activity.{Activity}
use Rattle.plan_laws.specs.declared.period_plan.NamedLines.{NamedLines}
use Rattle.plan_laws.specs.declared.period_plan.PeriodDuty.{PeriodDuty}
use Rattle.plan_laws.specs.declared.period_plan.PeriodPlan.{PeriodPlan}
use Rattle.plan_laws.specs.PeriodShifts.{IsStretch, IsShiftBy, IsPriceOf, IsLetter}
use Rattle.plan_laws.specs.Names.{Kind, work, day, start, rules_for, Free, IsStretchSet, IsUsed, rank, Means, IsDayOf}
use Rattle.plan_laws.specs.Laws.{IsWritten, StretchLaw, all_lines, DayLaw, PlanLaw}
use Rattle.plan_laws.proofs.Sides.{one_part}
use Rattle.plan_laws.proofs.Trees
use Rattle.plan_laws.proofs.Down.{kept}
use Rattle.plan_laws.proofs.Cases.{shift_leaves}
use Rattle.plan_laws.proofs.Words.{in_first, in_second, in_either}

module _ (p : PeriodPlan) (free : Free) (num : Numbers Kind) (names : List Kind) (g : Grammar) (written : IsWritten p free num names g) where
  here : Kept g.periods (rules_for p free) (IsLetter p) (IsUsed p free) rank 10 (Means p free)
  here = subst (λ (n : ℕ). Kept n (rules_for p free) (IsLetter p) (IsUsed p free) rank 10 (Means p free)) (sym written.periods) (kept p free written.few)

  name_meant : (k : Kind) (i n : ℕ) (t : Parts) → In k names × IsUsed p free k → Derive g (Name (num.name k) ∷ []) i t
      → (length (word g t) ≡ span_length t) × (c : ℕ) × Means p free k i (word g t) c × (c ≤ cost g t)
  name_meant k i n t u h =
      let m = Trees.meant Kind g num (rules_for p free) (IsLetter p) (IsUsed p free) rank 10 (Means p free) names written.rules here t (named k ∷ []) i (u, tt) h in
      (m.0, m.1, one_part (Means p free) k i (word g t) m.1 m.2, m.3)

  name_derived : (k : Kind) (i : ℕ) (w : List ℕ) (c : ℕ) → In k names × IsUsed p free k → Means p free k i w c → 1 ≤ i → i + length w ≤ p.periods + 1
      → (t : Parts) × Derive g (Name (num.name k) ∷ []) i t × (span_length t ≡ length w) × (word g t ≡ w) × (cost g t ≡ c)
  name_derived k i w c u m lo hi =
      let t = Trees.derived Kind g num (rules_for p free) (IsLetter p) (IsUsed p free) rank 10 (Means p free) names written.rules here k i w c u m lo (omega (arith, written.periods, hi)) in
      (uses t.rule (length w) t.inner done, t.derive, omega arith, append-nil (word g t.inner) ∙ t.word, t.cost)

  pub stretch_law : (r : ℕ) (s : List Activity) (long : Window) → In (work r s long) names → IsStretchSet p (free r s) s long.hi → StretchLaw p num g r s long
  stretch_law r s long one lines = record {
    meant = λ i w t h. let m = name_meant (work r s long) i 0 t (one, lines) h.derives.0 in
        (m.1, subst (λ (v : List ℕ). IsStretch p r s long i v m.1) h.word m.2, m.3);
    derived = λ i w c lo hi m. let t = name_derived (work r s long) i w c (one, lines) m lo hi in
        (t.0, record { derives = (t.1, t.2); word = t.3 }, t.4);
  }

  module _ (k : Kind) (ds : List PeriodDuty) (used : In k names × IsUsed p free k) (days : (w : List ℕ) (c : ℕ) → length w ≡ p.periods → Means p free k 1 w c ↔ IsDayOf p ds 1 w c) where
    -- a tree's word is a shift, priced at most the tree's cost
    day_meant : (w : List ℕ) (t : Parts) → IsWordTree g (num.name k) w t → (d : PeriodDuty) × (c : ℕ) × In d ds × IsShiftBy p d w c × (c ≤ cost g t)
    day_meant w t h =
        let m = name_meant k 1 0 t used h.derives.0 in
        let len : length (word g t) ≡ p.periods = omega (arith, m.0, h.derives.1, written.periods) in
        let day : length w ≡ p.periods = ap length (sym h.word) ∙ len in
        let d : IsDayOf p ds 1 w m.1 = (days w m.1 day).0 (subst (λ (v : List ℕ). Means p free k 1 v m.1) h.word m.2) in (
          d.duty.line,
          m.1,
          d.duty.one,
          record {
            day = day;
            before = d.before;
            work = d.work;
            after = d.after;
            word = d.word;
            off = (d.off_before, d.off_after);
            start = d.start;
            duty = d.duty.duty;
          },
          m.3,
        )

    -- a shift has a tree at its price
    day_derived : (w : List ℕ) (d : PeriodDuty) (c : ℕ) → In d ds → IsShiftBy p d w c → (t : Parts) × IsWordTree g (num.name k) w t × (cost g t ≡ c)
    day_derived w d c one h =
        let m : IsDayOf p ds 1 w c = record {
          before = h.before;
          work = h.work;
          after = h.after;
          word = h.word;
          off_before = h.off.0;
          off_after = h.off.1;
          start = h.start;
          duty = record { line = d; one = one; duty = h.duty };
        } in
        let t = name_derived k 1 w c used ((days w c h.day).1 m) (omega arith) (omega (arith, h.day)) in
        (t.0, record { derives = (t.1, omega (arith, t.2, h.day, written.periods)); word = t.3 }, t.4)

    pub day_law : DayLaw p num g k ds
    day_law = record {
      shifts = λ w. (
        (λ h. let m = day_meant w h.0 h.1 in (m.0, m.1, m.2, m.3)),
        (λ h. let t = day_derived w h.0 h.1 h.2 h.3 in (t.0, t.1)),
      );
      prices = λ w price. (to w price, back w price);
    }
      where
        to : (w : List ℕ) (price : ℕ) → IsPrice g (num.name k) w price → IsPriceOf p ds w price
        to w price h =
            let m = day_meant w h.attained.0 h.attained.1 in
            let t = day_derived w m.0 m.1 m.2 m.3 in
            let same : m.1 ≡ price = le_antisymm (omega (arith, m.4, h.attained.2)) (omega (arith, h.least t.0 t.1, t.2)) in
            record {
              attained = (m.0, m.2, subst (λ (c : ℕ). IsShiftBy p m.0 w c) same m.3);
              least = λ d c one s. let t = day_derived w d c one s in omega (arith, h.least t.0 t.1, t.2);
            }

        back : (w : List ℕ) (price : ℕ) → IsPriceOf p ds w price → IsPrice g (num.name k) w price
        back w price h = record {
          attained = day_derived w h.attained.0 price h.attained.1 h.attained.2;
          least = λ t one. let m = day_meant w t one in le (h.least m.0 m.1 m.2 m.3) m.4;
        }
          where
            le : {a b c : ℕ} → a ≤ b → b ≤ c → a ≤ c
            le h k = omega arith

of_lines : (dss : List NamedLines) (d : PeriodDuty) → In d (all_lines dss) → (x : NamedLines) × In x dss × In d x.lines
of_lines [] d at = absurd at
of_lines (x ∷ dss) d at = go (in_either d x.lines (all_lines dss) at) (of_lines dss d)
  where
    go : In d x.lines ⊎ In d (all_lines dss) → (In d (all_lines dss) → (y : NamedLines) × In y dss × In d y.lines) → (y : NamedLines) × In y (x ∷ dss) × In d y.lines
    go (inl l) ih = (x, inl refl, l)
    go (inr l) ih = let r = ih l in (r.0, inr r.1, r.2)

pub to_lines : (dss : List NamedLines) (x : NamedLines) (d : PeriodDuty) → In x dss → In d x.lines → In d (all_lines dss)
to_lines [] x d at one = absurd at
to_lines (y ∷ dss) x d (inl e) one = in_first d y.lines (all_lines dss) (subst (λ (z : NamedLines). In d z.lines) e one)
to_lines (y ∷ dss) x d (inr at) one = in_second d y.lines (all_lines dss) (to_lines dss x d at one)

one_day : (p : PeriodPlan) (free : Free) → 1 ≤ p.starts → (tag : List ℕ) (ds : List PeriodDuty) (w : List ℕ) (c : ℕ) → length w ≡ p.periods → Means p free (day tag ds) 1 w c ↔ IsDayOf p ds 1 w c
one_day p free some tag ds w c e = ((λ m. m.0), (λ m. (m, shift_leaves p ds w c some e m)))

start_days : (p : PeriodPlan) (free : Free) → 1 ≤ p.starts → (dss : List NamedLines) (w : List ℕ) (c : ℕ) → length w ≡ p.periods → Means p free (start dss) 1 w c ↔ IsDayOf p (all_lines dss) 1 w c
start_days p free some dss w c e = ((λ m. to m.0 m.1 m.2.0), back)
  where
    to : (x : NamedLines) → In x dss → IsDayOf p x.lines 1 w c → IsDayOf p (all_lines dss) 1 w c
    to x at d = record {
      before = d.before;
      work = d.work;
      after = d.after;
      word = d.word;
      off_before = d.off_before;
      off_after = d.off_after;
      start = d.start;
      duty = record { line = d.duty.line; one = to_lines dss x d.duty.line at d.duty.one; duty = d.duty.duty };
    }

    back : IsDayOf p (all_lines dss) 1 w c → Means p free (start dss) 1 w c
    back d =
        let l = of_lines dss d.duty.line d.duty.one in
        let m : IsDayOf p l.0.lines 1 w c = record {
          before = d.before;
          work = d.work;
          after = d.after;
          word = d.word;
          off_before = d.off_before;
          off_after = d.off_after;
          start = d.start;
          duty = record { line = d.duty.line; one = l.2; duty = d.duty.duty };
        } in
        (l.0, l.1, (m, shift_leaves p l.0.lines w c some e m))

pub plan_law : PlanLaw
plan_law = λ p free num names g written. (
  stretch_law p free num names g written,
  (λ some tag ds at lines. day_law p free num names g written (day tag ds) ds (at, (some, lines)) (one_day p free some tag ds)),
  (λ some dss at lines. day_law p free num names g written (start dss) (all_lines dss) (at, (some, lines)) (start_days p free some dss)),
)
