-- Worked rows: shifts of a small plan with their prices, by a line without and with plus, which have no other price; rests;
-- a stretch.
use Rattle.std.proofs.Common.{None, ◌≡◌, ◌≢◌, ap, sym, ◌∙◌, ℕ, true, false, ◌≤◌, Some, List, [], ◌∷◌, length, arith, refl, inl, inr}
use Rattle.model_rosters.specs.declared.grammar.Window.{Window}
use Rattle.model_rosters.specs.Folds.{In}
use Rattle.plan_laws.specs.declared.period_plan.Activity.{Activity}
use Rattle.plan_laws.specs.declared.period_plan.PeriodDuty.{PeriodDuty}
use Rattle.plan_laws.specs.declared.period_plan.PeriodPlan.{PeriodPlan}
use Rattle.plan_laws.specs.declared.period_plan.PeriodPart.TheVariants.{Pausing, Working}
use Rattle.plan_laws.specs.PeriodShifts.{word_cost, AreBlocks, IsStretch, IsRest, IsShiftBy, IsLine}
use Rattle.plan_laws.specs.Names.{lines_leave, leaves}
use Rattle.plan_laws.specs.Readings.{IsReadable, IsReadablePart}
use Rattle.plan_laws.proofs.Unique.{reading_law}

abbrev window : ℕ → ℕ → Window
window a b = record { lo = a; hi = b }

-- till (t) lasts 2 to 3 periods at 5, shelves (s) 1 to 2 at 4 and 2 more from period 5 on, a break (b) 1
abbrev till : Activity
till = record { code = 116; work = true; least = 2; greatest = 3; amount = 5 }

abbrev shelves : Activity
shelves = record { code = 115; work = true; least = 1; greatest = 2; amount = 4 }

abbrev pause : Activity
pause = record { code = 98; work = false; least = 1; greatest = 1; amount = 0 }

-- a briefing (g) is a pause that costs
abbrev briefing : Activity
briefing = record { code = 103; work = false; least = 1; greatest = 1; amount = 3 }

abbrev shop : PeriodPlan
shop = record { periods = 6; off = 46; activities = till ∷ shelves ∷ pause ∷ briefing ∷ []; extras = record { code = 115; periods = window 5 6; amount = 2 } ∷ []; change = Some 3; starts = 1; first_start = 0 }

abbrev both : List Activity
both = till ∷ shelves ∷ []

-- duty 4 to 5 periods, cost 10: work, a break that begins in period 3 or 4, work; begins by 2, ends from 5 on
abbrev full : PeriodDuty
full = record { length = window 4 5; cost = 10; parts = Working both ∷ Pausing pause (Some (window 3 4)) ∷ Working both ∷ []; begin = window 1 2; end = window 5 6; stretch = window 1 3; plus = 0 }

-- the same, where a paid period costs 2 more
abbrev more : PeriodDuty
more = record full { plus = 2 }

one_block : (r : ℕ) (a : Activity) (i : ℕ) (w : List ℕ) (c : ℕ) → In a both → AreBlocks shop r both i w c (record { activity = a; word = w }) [] → 1 ≤ length w → length w ≤ 3 → IsStretch shop r both (window 1 3) i w c
one_block r a i w c one h lo hi = record { first = record { activity = a; word = w }; others = []; blocks = h; change = tt; long = (lo, hi) }

-- .ttbs. costs 10, twice 5, 0, and 4 and 2
row_plain : IsShiftBy shop full (46 ∷ 116 ∷ 116 ∷ 98 ∷ 115 ∷ 46 ∷ []) 26
unfolding word_cost
row_plain = record {
  day = refl;
  before = 46 ∷ [];
  work = 116 ∷ 116 ∷ 98 ∷ 115 ∷ [];
  after = 46 ∷ [];
  word = refl;
  off = ((refl, tt), (refl, tt));
  start = (1, refl);
  duty = record {
    lasts = (omega arith, omega arith);
    begins = (omega arith, omega arith);
    ends = (omega arith, omega arith);
    paid = 16;
    parts = (
      116 ∷ 116 ∷ [],
      98 ∷ 115 ∷ [],
      10,
      6,
      refl,
      refl,
      one_block 0 till 2 (116 ∷ 116 ∷ []) 10 (inl refl)
          (record { lawful = (record { one = inl refl; alone = record { alone = (refl, (refl, tt)); least = omega arith; greatest = omega arith } }, tt); differ = tt; word = refl; cost = refl })
          (omega arith) (omega arith),
      (
        98 ∷ [],
        115 ∷ [],
        0,
        6,
        refl,
        refl,
        record { alone = record { alone = (refl, tt); least = omega arith; greatest = omega arith }; begins = (omega arith, omega arith); cost = refl },
        (
          115 ∷ [],
          [],
          6,
          0,
          refl,
          refl,
          one_block 0 shelves 5 (115 ∷ []) 6 (inr (inl refl))
              (record { lawful = (record { one = inr (inl refl); alone = record { alone = (refl, tt); least = omega arith; greatest = omega arith } }, tt); differ = tt; word = refl; cost = refl })
              (omega arith) (omega arith),
          (refl, refl),
        ),
      ),
    );
    cost = refl;
  };
}

-- with plus 2 more for each t and s, and nothing more for the break
row_plus : IsShiftBy shop more (46 ∷ 116 ∷ 116 ∷ 98 ∷ 115 ∷ 46 ∷ []) 32
unfolding word_cost
row_plus = record {
  day = refl;
  before = 46 ∷ [];
  work = 116 ∷ 116 ∷ 98 ∷ 115 ∷ [];
  after = 46 ∷ [];
  word = refl;
  off = ((refl, tt), (refl, tt));
  start = (1, refl);
  duty = record {
    lasts = (omega arith, omega arith);
    begins = (omega arith, omega arith);
    ends = (omega arith, omega arith);
    paid = 22;
    parts = (
      116 ∷ 116 ∷ [],
      98 ∷ 115 ∷ [],
      14,
      8,
      refl,
      refl,
      one_block 2 till 2 (116 ∷ 116 ∷ []) 14 (inl refl)
          (record { lawful = (record { one = inl refl; alone = record { alone = (refl, (refl, tt)); least = omega arith; greatest = omega arith } }, tt); differ = tt; word = refl; cost = refl })
          (omega arith) (omega arith),
      (
        98 ∷ [],
        115 ∷ [],
        0,
        8,
        refl,
        refl,
        record { alone = record { alone = (refl, tt); least = omega arith; greatest = omega arith }; begins = (omega arith, omega arith); cost = refl },
        (
          115 ∷ [],
          [],
          8,
          0,
          refl,
          refl,
          one_block 2 shelves 5 (115 ∷ []) 8 (inr (inl refl))
              (record { lawful = (record { one = inr (inl refl); alone = record { alone = (refl, tt); least = omega arith; greatest = omega arith } }, tt); differ = tt; word = refl; cost = refl })
              (omega arith) (omega arith),
          (refl, refl),
        ),
      ),
    );
    cost = refl;
  };
}

-- a briefing has the plus, a break has not
rest_paid : IsRest shop 2 briefing None 4 (103 ∷ []) 5
unfolding word_cost
rest_paid = record { alone = record { alone = (refl, tt); least = omega arith; greatest = omega arith }; begins = tt; cost = refl }

rest_plain : IsRest shop 2 pause None 4 (98 ∷ []) 0
unfolding word_cost
rest_plain = record { alone = record { alone = (refl, tt); least = omega arith; greatest = omega arith }; begins = tt; cost = refl }

-- tts is a stretch from period 1 on, with one change: twice 5, 4, and 3
row_change : IsStretch shop 0 both (window 1 3) 1 (116 ∷ 116 ∷ 115 ∷ []) 17
unfolding word_cost
row_change = record {
  first = record { activity = till; word = 116 ∷ 116 ∷ [] };
  others = record { activity = shelves; word = 115 ∷ [] } ∷ [];
  blocks = record {
    lawful = (
      record { one = inl refl; alone = record { alone = (refl, (refl, tt)); least = omega arith; greatest = omega arith } },
      (record { one = inr (inl refl); alone = record { alone = (refl, tt); least = omega arith; greatest = omega arith } }, tt),
    );
    differ = (λ e. omega arith, tt);
    word = refl;
    cost = refl;
  };
  change = tt;
  long = (omega arith, omega arith);
}

-- an activity of the shop is told by its code
told : (a b : Activity) → In a shop.activities → In b shop.activities → b.code ≡ a.code → b ≡ a
told a b p q same = go a b p q same
  where
    code : (a b : Activity) → a ≡ b → a.code ≡ b.code
    code a b e = ap (λ (x : Activity). x.code) e

    go : (a b : Activity) → In a shop.activities → In b shop.activities → b.code ≡ a.code → b ≡ a
    go a b (inl p) (inl q) same = q ∙ sym p
    go a b (inr (inl p)) (inr (inl q)) same = q ∙ sym p
    go a b (inr (inr (inl p))) (inr (inr (inl q))) same = q ∙ sym p
    go a b (inr (inr (inr (inl p)))) (inr (inr (inr (inl q)))) same = q ∙ sym p
    go a b (inl p) (inr (inl q)) same = absurd (omega (arith, code a till p, code b shelves q, same))
    go a b (inl p) (inr (inr (inl q))) same = absurd (omega (arith, code a till p, code b pause q, same))
    go a b (inl p) (inr (inr (inr (inl q)))) same = absurd (omega (arith, code a till p, code b briefing q, same))
    go a b (inr (inl p)) (inl q) same = absurd (omega (arith, code a shelves p, code b till q, same))
    go a b (inr (inl p)) (inr (inr (inl q))) same = absurd (omega (arith, code a shelves p, code b pause q, same))
    go a b (inr (inl p)) (inr (inr (inr (inl q)))) same = absurd (omega (arith, code a shelves p, code b briefing q, same))
    go a b (inr (inr (inl p))) (inl q) same = absurd (omega (arith, code a pause p, code b till q, same))
    go a b (inr (inr (inl p))) (inr (inl q)) same = absurd (omega (arith, code a pause p, code b shelves q, same))
    go a b (inr (inr (inl p))) (inr (inr (inr (inl q)))) same = absurd (omega (arith, code a pause p, code b briefing q, same))
    go a b (inr (inr (inr (inl p)))) (inl q) same = absurd (omega (arith, code a briefing p, code b till q, same))
    go a b (inr (inr (inr (inl p)))) (inr (inl q)) same = absurd (omega (arith, code a briefing p, code b shelves q, same))
    go a b (inr (inr (inr (inl p)))) (inr (inr (inl q))) same = absurd (omega (arith, code a briefing p, code b pause q, same))
    go a b (inr (inr (inr (inr p)))) q same = absurd p
    go a b p (inr (inr (inr (inr q)))) same = absurd q

readable : IsReadable shop more
readable = record {
  off = no_code;
  parts = (works, ((line_of pause (inr (inr (inl refl))) (omega arith) (omega arith), refl), (works, tt)));
  alternate = (tt, (tt, tt));
  some = omega arith;
}
  where
    line_of : (a : Activity) → In a shop.activities → 1 ≤ a.least → a.least ≤ a.greatest → IsLine shop a
    line_of a at least ordered = record { one = at; only = λ b at_b e. told a b at at_b e; some = least; ordered = ordered }

    works : IsReadablePart shop (Working both)
    works = ((line_of till (inl refl) (omega arith) (omega arith), refl), ((line_of shelves (inr (inl refl)) (omega arith) (omega arith), refl), tt))

    no_code : (a : Activity) → In a shop.activities → a.code ≢ 46
    no_code a (inl e) same = let c = ap (λ (x : Activity). x.code) e in omega (arith, c, same)
    no_code a (inr (inl e)) same = let c = ap (λ (x : Activity). x.code) e in omega (arith, c, same)
    no_code a (inr (inr (inl e))) same = let c = ap (λ (x : Activity). x.code) e in omega (arith, c, same)
    no_code a (inr (inr (inr (inl e)))) same = let c = ap (λ (x : Activity). x.code) e in omega (arith, c, same)
    no_code a (inr (inr (inr (inr e)))) same = e

-- and has no other price
row_plus_only : (c : ℕ) → IsShiftBy shop more (46 ∷ 116 ∷ 116 ∷ 98 ∷ 115 ∷ 46 ∷ []) c → c ≡ 32
row_plus_only c h = (reading_law shop more readable (46 ∷ 116 ∷ 116 ∷ 98 ∷ 115 ∷ 46 ∷ []) c 32 h row_plus).price

-- a duty of 4 to 5 of 6 periods doesn't fill the day; one that begins by 2 and ends from 5 on leaves the other cases
row_cases : (leaves shop (full ∷ []) true true ≡ false) × (leaves shop (full ∷ []) true false ≡ true) × (leaves shop (full ∷ []) false true ≡ true) × (leaves shop (full ∷ []) false false ≡ true)
row_cases = (refl, refl, refl, refl)

-- a duty that may begin with period 3 alone has time off on both sides; where that is no start, a rule is left
abbrev third : PeriodDuty
third = record full { begin = window 3 3; length = window 2 3 }

row_third : (leaves shop (third ∷ []) true true ≡ false) × (leaves shop (third ∷ []) true false ≡ false) × (leaves shop (third ∷ []) false true ≡ false) × (leaves shop (third ∷ []) false false ≡ true)
row_third = (refl, refl, refl, refl)

abbrev every_other : PeriodPlan
every_other = record shop { starts = 3; first_start = 1 }

row_none : (lines_leave every_other (third ∷ []) false false ≡ false) × (leaves every_other (third ∷ []) false false ≡ true)
row_none = (refl, refl)
