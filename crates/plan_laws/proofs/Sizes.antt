-- Each rule of a name that is used has 1 to 8 symbols.
use Rattle.std.proofs.Common.{◌≡◌, ℕ, zero, suc, ◌<◌, ◌≤◌, ◌+◌, ◌-◌, Bool, true, false, nat_le, Option, None, Some, List, [], ◌∷◌, ◌++◌, length, map, arith, refl, length-append}
use Rattle.std.proofs.lemmas.Bool.{leb-true}
use Rattle.model_rosters.specs.declared.grammar.Window.{Window}
use Rattle.model_rosters.specs.Folds.{Each}
use Rattle.plan_laws.specs.Named.{named, NamedRule}
use Rattle.plan_laws.specs.declared.period_plan.Activity.{Activity}
use Rattle.plan_laws.specs.declared.period_plan.PeriodDuty.{PeriodDuty}
use Rattle.plan_laws.specs.declared.period_plan.PeriodPart.{PeriodPart}
use Rattle.plan_laws.specs.declared.period_plan.PeriodPlan.{PeriodPlan}
use Rattle.plan_laws.specs.PeriodShifts.{IsLine}
use Rattle.plan_laws.specs.Names.{Kind, day_rule, at, run, block, free_one, any_list, open_list, from, other, work, rest, off, step, steps, lead, duty, day, start, plain, copies, dots, lead_kind, lead_rules, early_days, leaves, kept_rule, others, chosen, is_bound, Free, symbols_of, duty_rule, at_rule, spells_of, from_rule, block_rule, open_rules, any_rules, longer_rules, block_rules, numbers_from, length_rule, has_few, rest_rules, work_rules, change_in, rules_for, IsGoodDuty, IsUsed}
use Rattle.plan_laws.proofs.Trees.{each_in}
use Rattle.plan_laws.proofs.Sides.{map_each, all_each}
use Rattle.plan_laws.proofs.Words.{each_side, in_numbers}
use Rattle.plan_laws.proofs.Cases.{parted}

abbrev Short : NamedRule Kind → Type 0
Short own = (1 ≤ length own.right) × (length own.right ≤ 8)

copies_long : (n : ℕ) (k : Kind) → length (copies n k) ≡ n
copies_long zero k = refl
copies_long (suc n) k = omega (arith, copies_long n k)

symbols_long : (r : ℕ) (long : Window) (xs : List PeriodPart) → length (symbols_of r long xs) ≡ length xs
symbols_long r long [] = refl
symbols_long r long (x ∷ xs) = omega (arith, symbols_long r long xs)

kept_short : (v : Bool) (own : NamedRule Kind) → Short own → Each Short (kept_rule v own)
kept_short true own h = (h, tt)
kept_short false own h = tt

-- where duties begin at most every 8 periods, and the first one before that
module _ (p : PeriodPlan) (free : Free) (starts : p.starts ≤ 8) (first : p.first_start ≤ 7) where
  dots_long : (n : ℕ) → length (dots p n) ≡ n
  dots_long zero = refl
  dots_long (suc n) = omega (arith, dots_long n)

  blocks_short : (s xs : List Activity) (r : ℕ) → Each Short (map (block_rule r) xs)
  blocks_short s xs r = map_each Short (block_rule r) xs (all_each _ xs (λ a at_xs. (omega arith, omega arith)))

  from_short : (r : ℕ) (s xs : List Activity) → Each Short (map (from_rule r s) xs)
  from_short r s xs = map_each Short (from_rule r s) xs (all_each _ xs (λ a at_xs. (omega arith, omega arith)))

  open_short : (r : ℕ) (s xs : List Activity) → Each Short (open_rules r s xs)
  open_short r s [] = tt
  open_short r s (x ∷ xs) = ((omega arith, omega arith), tt)

  any_short : (r : ℕ) (s xs bs : List Activity) → Each Short (any_rules p r s xs bs)
  any_short r s xs [] = ((omega arith, omega arith), ((omega arith, omega arith), tt))
  any_short r s xs (b ∷ bs) = each_side Short (open_rules r s xs) (map (from_rule r s) (b ∷ bs)) (open_short r s xs) (from_short r s (b ∷ bs))

  longer_short : (r : ℕ) (a : Activity) (v : Bool) → Each Short (longer_rules r v a)
  longer_short r a true = ((omega arith, omega arith), tt)
  longer_short r a false = tt

  block_short : (r : ℕ) (a : Activity) → IsLine p a → (v : Bool) → nat_le a.least 8 ≡ v → Each Short (block_rules r v a)
  block_short r a line true e =
      let long = copies_long a.least (at r a) in
      let most = leb-true a.least 8 e in
      ((omega (arith, long, line.some), omega (arith, long, most)), longer_short r a (nat_le (a.least + 1) a.greatest))
  block_short r a line false e = ((omega arith, omega arith), tt)

  work_short : (r : ℕ) (ch : Option ℕ) (s : List Activity) (long : Window) → Each Short (work_rules r ch s long)
  work_short r None s long = map_each Short (λ (a : Activity). record (block_rule r a) { span = long }) s (all_each _ s (λ a at_s. (omega arith, omega arith)))
  work_short r (Some z) s long = ((omega arith, omega arith), tt)

  rest_short : (r : ℕ) (a : Activity) (begin : Option Window) → IsLine p a → (v : Bool) → has_few a ≡ v → Each Short (rest_rules r v a begin)
  rest_short r a begin line true e =
      let ns = numbers_from a.least (suc (a.greatest - a.least)) in
      let most = leb-true a.greatest 8 (parted (nat_le (a.greatest - a.least) 3) (nat_le a.greatest 8) e).1 in
      map_each Short (length_rule r a begin) ns (all_each _ ns (λ n at_ns. each n (in_numbers n a.least (suc (a.greatest - a.least)) at_ns) most))
    where
      each : (n : ℕ) → (a.least ≤ n) × (n < a.least + suc (a.greatest - a.least)) → a.greatest ≤ 8 → Short (length_rule r a begin n)
      each n h most = let long = copies_long n (at r a) in (omega (arith, long, h.0, line.some), omega (arith, long, h.1, line.ordered, most))
  rest_short r a begin line false e = ((omega arith, omega arith), tt)

  duty_short : (ds : List PeriodDuty) → Each (IsGoodDuty p free) ds → Each (λ (d : PeriodDuty). length d.parts ≤ 8) ds → Each Short (map (duty_rule p) ds)
  duty_short ds u few = map_each Short (duty_rule p) ds (all_each _ ds (λ d at_ds. each d (each_in (IsGoodDuty p free) d ds u at_ds).some (each_in (λ (d : PeriodDuty). length d.parts ≤ 8) d ds few at_ds)))
    where
      each : (d : PeriodDuty) → 1 ≤ length d.parts → length d.parts ≤ 8 → Short (duty_rule p d)
      each d some most = let long = symbols_long d.plus d.stretch d.parts in (omega (arith, long, some), omega (arith, long, most))

  lead_short : (n : ℕ) → n ≤ 7 → Each Short (lead_rules p n)
  lead_short zero h = ((omega arith, omega arith), tt)
  lead_short (suc n) h =
      let long = dots_long (suc n) in
      let more = length-append (dots p (suc n)) (named steps ∷ []) in
      ((omega (arith, long), omega (arith, long, h)), ((omega (arith, long, more), omega (arith, long, more, h)), tt))

  early_short : (tag : List ℕ) (ds : List PeriodDuty) (n : ℕ) → Each Short (early_days p n tag ds)
  early_short tag ds (suc n) = tt
  early_short tag ds zero = each_side Short (kept_rule (leaves p ds true true) (plain 0 (named (duty tag ds) ∷ []))) (kept_rule (leaves p ds true false) (plain 0 (named (duty tag ds) ∷ named off ∷ [])))
      (kept_short (leaves p ds true true) (plain 0 (named (duty tag ds) ∷ [])) (omega arith, omega arith)) (kept_short (leaves p ds true false) (plain 0 (named (duty tag ds) ∷ named off ∷ [])) (omega arith, omega arith))

  -- a duty has at most 8 parts
  abbrev Few : Kind → Type 0
  Few (at r a) = Unit {0}
  Few (run r a) = Unit {0}
  Few (block r a) = Unit {0}
  Few (free_one r s) = Unit {0}
  Few (any_list r s) = Unit {0}
  Few (open_list r s) = Unit {0}
  Few (from r s a) = Unit {0}
  Few (other r s a) = Unit {0}
  Few (work r s long) = Unit {0}
  Few (rest r a begin) = Unit {0}
  Few off = Unit {0}
  Few step = Unit {0}
  Few steps = Unit {0}
  Few lead = Unit {0}
  Few (duty tag ds) = Each (λ (d : PeriodDuty). length d.parts ≤ 8) ds
  Few (day tag ds) = Unit {0}
  Few (start dss) = Unit {0}

  pub short_rules : (k : Kind) → IsUsed p free k → Few k → Each Short (rules_for p free k)
  short_rules (at r a) u f = map_each Short (at_rule p a) (spells_of p r a) (all_each _ (spells_of p r a) (λ x at_x. (omega arith, omega arith)))
  short_rules (run r a) u f = ((omega arith, omega arith), ((omega arith, omega arith), tt))
  short_rules (block r a) u f = block_short r a u (nat_le a.least 8) refl
  short_rules (free_one r s) u f = blocks_short s (chosen (free r s) s) r
  short_rules (any_list r s) u f = any_short r s (chosen (free r s) s) (chosen (is_bound free r s) s)
  short_rules (open_list r s) u f = ((omega arith, omega arith), ((omega arith, omega arith), tt))
  short_rules (from r s a) u f = ((omega arith, omega arith), ((omega arith, omega arith), tt))
  short_rules (other r s a) u f = each_side Short (open_rules r s (chosen (free r s) s)) (map (from_rule r s) (chosen (is_bound free r s) (others a s))) (open_short r s (chosen (free r s) s)) (from_short r s (chosen (is_bound free r s) (others a s)))
  short_rules (work r s long) u f = work_short r (change_in p s) s long
  short_rules (rest r a begin) u f = rest_short r a begin u (has_few a) refl
  short_rules off u f = ((omega arith, omega arith), ((omega arith, omega arith), tt))
  short_rules step u f = let long = dots_long p.starts in ((omega (arith, long, u), omega (arith, long, starts)), tt)
  short_rules steps u f = ((omega arith, omega arith), ((omega arith, omega arith), tt))
  short_rules lead u f = lead_short p.first_start first
  short_rules (duty tag ds) u f = duty_short ds u f
  short_rules (day tag ds) u f = each_side Short (kept_rule (leaves p ds false true) (plain 0 (named (lead_kind p) ∷ named (duty tag ds) ∷ [])))
      (kept_rule (leaves p ds false false) (plain 0 (named (lead_kind p) ∷ named (duty tag ds) ∷ named off ∷ [])) ++ early_days p p.first_start tag ds)
      (kept_short (leaves p ds false true) (plain 0 (named (lead_kind p) ∷ named (duty tag ds) ∷ [])) (omega arith, omega arith))
      (each_side Short (kept_rule (leaves p ds false false) (plain 0 (named (lead_kind p) ∷ named (duty tag ds) ∷ named off ∷ []))) (early_days p p.first_start tag ds)
      (kept_short (leaves p ds false false) (plain 0 (named (lead_kind p) ∷ named (duty tag ds) ∷ named off ∷ [])) (omega arith, omega arith)) (early_short tag ds p.first_start))
  short_rules (start dss) u f = map_each Short day_rule dss (all_each _ dss (λ x at_dss. (omega arith, omega arith)))
