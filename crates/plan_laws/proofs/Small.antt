-- The grammar of the small plan is written for it, and the law for its day.
use Rattle.std.proofs.Common.{◌≡◌, ℕ, ◌≤◌, ◌+◌, true, false, Some, List, [], ◌∷◌, arith, refl, sym, subst, ap, ◌∙◌, inl, inr}
use Rattle.model_rosters.specs.Folds.{In, Each}
use Rattle.model_rosters.specs.Trees.{byte_of}
use Rattle.plan_laws.specs.declared.period_plan.Activity.{Activity}
use Rattle.plan_laws.specs.PeriodShifts.{IsLetter, IsLine}
use Rattle.plan_laws.specs.Names.{at, block, work, rest, off, duty, day, IsSet, IsGoodDuty}
use Rattle.plan_laws.specs.Laws.{IsWritten, DayLaw}
use Rattle.plan_laws.specs.SmallPlan.{AreMet, window, goods, meal, small, set, lines, number_of, bound, numbers, names, grammar}
use Rattle.plan_laws.proofs.PlanLaws.{plan_law}

-- the numbers of these names are n, n + 1, and so on
abbrev Count : {K : Type 0} → (K → ℕ) → ℕ → List K → Type 0
Count f n [] = Unit {0}
Count f n (k ∷ ks) = (f k ≡ n) × Count f (n + 1) ks

counted : {K : Type 0} (f : K → ℕ) (n : ℕ) (names : List K) → Count f n names → (k : K) → In k names → n ≤ f k
counted f n [] c k at_k = absurd at_k
counted f n (x ∷ xs) c k (inl e) = let same = ap f e in omega (arith, same, c.0)
counted f n (x ∷ xs) c k (inr at_k) = let later = counted f (n + 1) xs c.1 k at_k in omega (arith, later)

apart_numbers : {K : Type 0} (f : K → ℕ) (n : ℕ) (names : List K) → Count f n names → (j k : K) → In j names → In k names → f j ≡ f k → j ≡ k
apart_numbers f n [] c j k at_j at_k e = absurd at_j
apart_numbers f n (x ∷ xs) c j k (inl p) (inl q) e = p ∙ sym q
apart_numbers f n (x ∷ xs) c j k (inl p) (inr q) e = let same = ap f p in let later = counted f (n + 1) xs c.1 k q in absurd (omega (arith, same, c.0, later, e))
apart_numbers f n (x ∷ xs) c j k (inr p) (inl q) e = let same = ap f q in let later = counted f (n + 1) xs c.1 j p in absurd (omega (arith, same, c.0, later, e))
apart_numbers f n (x ∷ xs) c j k (inr p) (inr q) e = apart_numbers f (n + 1) xs c.1 j k p q e

pub small_written : IsWritten small bound numbers names grammar
small_written = record {
  periods = refl;
  few = omega arith;
  rules = record {
    same = λ rule. (λ h. h, λ h. h);
    apart = apart_numbers number_of 0 names (refl, (refl, (refl, (refl, (refl, (refl, (refl, (refl, (refl, (refl, (refl, (refl, tt))))))))))));
    closed = (
      ((off_in, (duty_in, tt)), ((off_in, (duty_in, (off_in, tt))), ((duty_in, tt), ((duty_in, (off_in, tt)), tt)))),
      (
        ((work_in, tt), ((plus_in, (rest_in, (plus_in, tt))), tt)),
        (
          (tt, ((off_in, tt), tt)),
          (
            ((block_in, tt), tt),
            (
              ((plus_block_in, tt), tt),
              (
                ((at_in, tt), ((at_in, (block_in, tt)), tt)),
                (((plus_at_in, tt), ((plus_at_in, (plus_block_in, tt)), tt)), (((meal_at_in, tt), tt), ((tt, tt), ((tt, tt), ((tt, tt), (((meal_at_in, tt), tt), tt)))))),
              ),
            ),
          ),
        ),
      ),
    );
    letters = spelled;
  };
}
  where
    duty_in : In (duty [] lines) names
    duty_in = inr (inl refl)

    off_in : In off names
    off_in = inr (inr (inl refl))

    work_in : In (work 0 set (window 1 2)) names
    work_in = inr (inr (inr (inl refl)))

    plus_in : In (work 4 set (window 1 2)) names
    plus_in = inr (inr (inr (inr (inl refl))))

    block_in : In (block 0 goods) names
    block_in = inr (inr (inr (inr (inr (inl refl)))))

    plus_block_in : In (block 4 goods) names
    plus_block_in = inr (inr (inr (inr (inr (inr (inl refl))))))

    at_in : In (at 0 goods) names
    at_in = inr (inr (inr (inr (inr (inr (inr (inr (inl refl))))))))

    plus_at_in : In (at 4 goods) names
    plus_at_in = inr (inr (inr (inr (inr (inr (inr (inr (inr (inl refl)))))))))

    meal_at_in : In (at 0 meal) names
    meal_at_in = inr (inr (inr (inr (inr (inr (inr (inr (inr (inr (inl refl))))))))))

    rest_in : In (rest 0 meal (Some (window 2 3))) names
    rest_in = inr (inr (inr (inr (inr (inr (inr (inr (inr (inr (inr (inl refl)))))))))))

    spelled : (c : ℕ) → IsLetter small c → byte_of grammar (numbers.letter c) ≡ c ∷ []
    spelled c (inl e) = subst (λ (n : ℕ). byte_of grammar (numbers.letter n) ≡ n ∷ []) (sym e) refl
    spelled c (inr (a, inl q, e)) = subst (λ (n : ℕ). byte_of grammar (numbers.letter n) ≡ n ∷ []) (sym (e ∙ ap (λ (b : Activity). b.code) q)) refl
    spelled c (inr (a, inr (inl q), e)) = subst (λ (n : ℕ). byte_of grammar (numbers.letter n) ≡ n ∷ []) (sym (e ∙ ap (λ (b : Activity). b.code) q)) refl
    spelled c (inr (a, inr (inr q), e)) = absurd q

-- the premises of the law are met
good_lines : Each (IsGoodDuty small bound) lines
good_lines = (
  record { parts = (record { set = bound_set; long = λ x at_s h. absurd (none h) }, tt); some = omega arith },
  (record { parts = (record { set = bound_set; long = λ x at_s h. absurd (none h) }, (meal_line, (record { set = bound_set; long = λ x at_s h. absurd (none h) }, tt))); some = omega arith }, tt),
)
  where
    none : false ≡ true → ⊥
    none e = cc

    goods_line : IsLine small goods
    goods_line = record { one = inl refl; only = only; some = omega arith; ordered = omega arith }
      where
        only : (b : Activity) → In b small.activities → b.code ≡ 97 → b ≡ goods
        only b (inl e) same = e
        only b (inr (inl e)) same = let other = ap (λ (x : Activity). x.code) e in absurd (omega (arith, other, same))
        only b (inr (inr e)) same = absurd e

    meal_line : IsLine small meal
    meal_line = record { one = inr (inl refl); only = only; some = omega arith; ordered = omega arith }
      where
        only : (b : Activity) → In b small.activities → b.code ≡ 98 → b ≡ meal
        only b (inl e) same = let other = ap (λ (x : Activity). x.code) e in absurd (omega (arith, other, same))
        only b (inr (inl e)) same = e
        only b (inr (inr e)) same = absurd e

    bound_set : IsSet small (bound 0 set) set
    bound_set = record { lines = (goods_line, tt); apart = λ x y at_x at_y h k. absurd (none h) }

pub are_met : AreMet
are_met = record { written = small_written; lines_good = good_lines }

-- the shifts and prices of the grammar's day are those of the plan
pub small_law : DayLaw small numbers grammar (day [] lines) lines
small_law = (plan_law small bound numbers names grammar small_written).1 (omega arith) [] lines (inl refl) good_lines
