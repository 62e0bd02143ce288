-- Each rule of a name of a writable plan is sound, and each such name has a rule.
use Rattle.std.proofs.Common.{◌≡◌, ◌≢◌, inl, inr, ℕ, zero, suc, ◌+◌, ◌-◌, ◌<◌, ◌≤◌, Bool, true, false, not, IsTrue, cond, ◌&&◌, nat_eq, nat_le, Option, None, Some, List, [], ◌∷◌, ◌++◌, length, map, arith, refl, sym, ap, ◌∙◌, subst, length-append}
use Rattle.std.proofs.lemmas.Bool.{leb-true}
use Rattle.model_rosters.specs.declared.grammar.Window.{Window}
use Rattle.model_rosters.specs.Folds.{Each, In}
use Rattle.model_rosters.specs.Sound.{IsWindow}
use Rattle.plan_laws.specs.declared.period_plan.Activity.{Activity}
use Rattle.plan_laws.specs.declared.period_plan.NamedLines.{NamedLines}
use Rattle.plan_laws.specs.declared.period_plan.PeriodDuty.{PeriodDuty}
use Rattle.plan_laws.specs.declared.period_plan.PeriodPart.{PeriodPart}
use Rattle.plan_laws.specs.declared.period_plan.PeriodPart.TheVariants.{Pausing, Working}
use Rattle.plan_laws.specs.declared.period_plan.PeriodPlan.{PeriodPlan}
use Rattle.plan_laws.specs.Named.{EachSymbol, NamedRule, Symbol, coded, named}
use Rattle.plan_laws.specs.Names.{Free, Kind, at, run, block, free_one, any_list, open_list, from, other, work, rest, off, step, steps, lead, duty, day, start, any_rules, at_rule, block_rule, block_rules, change_in, chosen, copies, day_rule, dots, duty_rule, early_days, from_rule, has_few, is_bound, kept_rule, kind_of, lead_kind, lead_of, lead_rules, leaves, length_rule, longer_rules, numbers_from, open_rules, opened, others, plain, rank, rest_kind, rest_rules, rules_for, spell_window, spells_of, symbols_of, touch_rules, whole, work_rules}
use Rattle.plan_laws.specs.PeriodShifts.{IsLetter, change_cost, letter_cost, plus_of}
use Rattle.plan_laws.specs.Spells.{Spell, joined_to, spells}
use Rattle.plan_laws.proofs.Cases.{day_some, parted}
use Rattle.plan_laws.proofs.Sides.{all_each, in_map, map_each}
use Rattle.plan_laws.proofs.SpellLemmas.{Tells, spells_tell}
use Rattle.plan_laws.proofs.Trees.{each_in}
use Rattle.plan_laws.proofs.Words.{each_side, in_chosen, in_first, in_numbers, in_others, in_second, to_chosen, to_others}
use Rattle.plan_rules.specs.Writable.{AreApart, AreFineLines, AreFineTimes, IsFineDuty, IsFineLine, IsFinePart, IsFineSet, IsWritable}

pub record IsPairSet (p : PeriodPlan) (r : ℕ) (s : List Activity) : Type 0 where
  pub set : IsFineSet p r s
  pub two : 2 ≤ length s

pub record IsSomeFree (p : PeriodPlan) (free : Free) (r : ℕ) (s : List Activity) : Type 0 where
  pub pair : IsPairSet p r s
  pub one : Activity
  pub listed : In one s
  pub free_is : IsTrue (free r s one)

pub record IsOneBound (p : PeriodPlan) (free : Free) (r : ℕ) (s : List Activity) (a : Activity) : Type 0 where
  pub pair : IsPairSet p r s
  pub listed : In a s
  pub bound : IsTrue (not (free r s a))

-- the names of a writable plan
abbrev pub Fine : PeriodPlan → Free → List NamedLines → Kind → Type 0
Fine p free xs (at r a) = IsFineLine p r a
Fine p free xs (run r a) = IsFineLine p r a
Fine p free xs (block r a) = IsFineLine p r a
Fine p free xs (free_one r s) = IsSomeFree p free r s
Fine p free xs (any_list r s) = IsPairSet p r s
Fine p free xs (open_list r s) = IsSomeFree p free r s
Fine p free xs (from r s a) = IsOneBound p free r s a
Fine p free xs (other r s a) = IsOneBound p free r s a
Fine p free xs (work r s long) = IsFineSet p r s × IsWindow long
Fine p free xs (rest r a begin) = IsFineLine p r a × AreFineTimes begin
Fine p free xs off = Unit {0}
Fine p free xs step = Unit {0}
Fine p free xs steps = Unit {0}
Fine p free xs lead = Unit {0}
Fine p free xs (duty tag ds) = In (record { name = tag; lines = ds }) xs
Fine p free xs (day tag ds) = In (record { name = tag; lines = ds }) xs
Fine p free xs (start ys) = ys ≡ xs

-- a rank above that of the only name of a right side
abbrev pub one_name : List (Symbol Kind) → ℕ
one_name [] = 0
one_name (coded a ∷ ss) = 0
one_name (named k ∷ []) = suc (rank k)
one_name (named k ∷ s ∷ ss) = 0

pub record IsFineRule (p : PeriodPlan) (free : Free) (xs : List NamedLines) (k : Kind) (own : NamedRule Kind) : Type 0 where
  pub cost : own.cost ≤ 10000
  pub some : 1 ≤ length own.right
  pub eight : length own.right ≤ 8
  pub symbols : EachSymbol (IsLetter p) (Fine p free xs) own.right
  pub span : IsWindow own.span
  pub first : IsWindow own.first
  pub last : IsWindow own.last
  pub lower : one_name own.right ≤ rank k

no_false : false ≡ true → ⊥
no_false e = cc

abbrev Within : ℕ → ℕ → Spell → Type 0
Within t n s = (t ≤ s.lo) × (s.hi + 1 ≤ t + n)

later : (t n : ℕ) (s : Spell) → Within (t + 1) n s → Within t (suc n) s
later t n s h = (omega (arith, h.0), omega (arith, h.1))

join_within : (t c n : ℕ) (ss : List Spell) → Each (Within (t + 1) n) ss → Each (Within t (suc n)) (joined_to t c ss)
join_within t c n [] h = ((omega arith, omega arith), tt)
join_within t c n (s ∷ ss) h = go (nat_eq s.cost c) (all_each (Within t (suc n)) ss (λ x at_x. later t n x (each_in (Within (t + 1) n) x ss h.1 at_x)))
  where
    go : (v : Bool) → Each (Within t (suc n)) ss
        → Each (Within t (suc n)) (cond v (record { lo = t; hi = s.hi; cost = s.cost } ∷ ss) (record { lo = t; hi = t; cost = c } ∷ s ∷ ss))
    go true more = ((omega arith, omega (arith, h.0.1)), more)
    go false more = ((omega arith, omega arith), (later t n s h.0, more))

spells_within : (f : ℕ → ℕ) (n t : ℕ) → Each (Within t n) (spells f t n)
spells_within f zero t = tt
spells_within f (suc n) t = join_within t (f t) n (spells f (t + 1) n) (spells_within f n (t + 1))

some_joined : (t c : ℕ) (ss : List Spell) → (x : Spell) × In x (joined_to t c ss)
some_joined t c [] = (record { lo = t; hi = t; cost = c }, inl refl)
some_joined t c (s ∷ ss) = go (nat_eq s.cost c)
  where
    go : (v : Bool) → (x : Spell) × In x (cond v (record { lo = t; hi = s.hi; cost = s.cost } ∷ ss) (record { lo = t; hi = t; cost = c } ∷ s ∷ ss))
    go true = (record { lo = t; hi = s.hi; cost = s.cost }, inl refl)
    go false = (record { lo = t; hi = t; cost = c }, inl refl)

some_spell : (f : ℕ → ℕ) (n t : ℕ) → 1 ≤ n → (x : Spell) × In x (spells f t n)
some_spell f zero t h = absurd (omega (arith, h))
some_spell f (suc n) t h = some_joined t (f t) (spells f (t + 1) n)

-- one that is at the front
front : {A : Type 0} (xs : List A) → 1 ≤ length xs → (x : A) × In x xs
front [] h = absurd (omega (arith, h))
front (x ∷ xs) h = (x, inl refl)

-- another activity of a set of two or more
another : (a : Activity) (s : List Activity) → In a s → 2 ≤ length s → AreApart s → (b : Activity) × In b s × (b.code ≢ a.code)
another a [] at_s two h = absurd at_s
another a (x ∷ []) at_s two h = absurd (omega (arith, two))
another a (x ∷ y ∷ s) (inl e) two h = (y, inr (inl refl), λ same. h.0.0 (same ∙ ap (λ (z : Activity). z.code) e))
another a (x ∷ y ∷ s) (inr at_s) two h =
    (x, inl refl, λ same. each_in (λ (b : Activity). b.code ≢ x.code) a (y ∷ s) h.0 at_s (sym same))

two_change : (p : PeriodPlan) (s : List Activity) (z : ℕ) → 1 ≤ length s → change_in p s ≡ Some z → 2 ≤ length s
two_change p [] z some e = absurd (omega (arith, some))
two_change p (a ∷ []) z some e = absurd (never e)
  where
    never : ◌≡◌ {A = Option ℕ} None (Some z) → ⊥
    never e = cc
two_change p (a ∷ b ∷ s) z some e = omega arith

module _ (p : PeriodPlan) (free : Free) (xs : List NamedLines) (h : IsWritable p xs) where
  abbrev Ok : Kind → NamedRule Kind → Type 0
  Ok k own = IsFineRule p free xs k own

  abbrev Symbols : List (Symbol Kind) → Type 0
  Symbols ss = EachSymbol (IsLetter p) (Fine p free xs) ss

  all_day : IsWindow whole
  all_day = record { first = omega arith; order = omega arith; last = omega arith }

  ok : (k : Kind) (c : ℕ) (right : List (Symbol Kind)) → c ≤ 10000 → 1 ≤ length right → length right ≤ 8 → Symbols right → one_name right ≤ rank k → Ok k (plain c right)
  ok k c right cost some eight symbols low = record {
    cost = cost;
    some = some;
    eight = eight;
    symbols = symbols;
    span = all_day;
    first = all_day;
    last = all_day;
    lower = low;
  }

  one_ok : (k x : Kind) → Fine p free xs x → suc (rank x) ≤ rank k → Ok k (plain 0 (named x ∷ []))
  one_ok k x fine low = ok k 0 (named x ∷ []) (omega arith) (omega arith) (omega arith) (fine, tt) low

  two_ok : (k x y : Kind) (c : ℕ) → c ≤ 10000 → Fine p free xs x → Fine p free xs y → Ok k (plain c (named x ∷ named y ∷ []))
  two_ok k x y c cost fine more = ok k c (named x ∷ named y ∷ []) cost (omega arith) (omega arith) (fine, (more, tt)) (omega arith)

  -- letters
  spell_ok : (x : Spell) → 1 ≤ x.lo → x.lo ≤ x.hi → x.hi ≤ p.periods → IsWindow (spell_window p x)
  spell_ok x lo order hi = go (nat_eq x.lo 1 && nat_eq x.hi p.periods)
    where
      go : (v : Bool) → IsWindow (cond v whole (record { lo = x.lo; hi = x.hi }))
      go true = all_day
      go false = record { first = lo; order = order; last = omega (arith, hi, h.few) }

  at_ok : (r : ℕ) (a : Activity) → IsFineLine p r a → (x : Spell) → Tells (letter_cost p r a.code) x → Within 1 p.periods x → Ok (at r a) (at_rule p a x)
  at_ok r a line x tells within =
      let hi : x.hi ≤ p.periods = omega (arith, within.1) in
      let same = tells.cost x.lo (omega arith) tells.some in
      let cheap = line.cheap x.lo within.0 (omega (arith, tells.some, hi)) in
      record {
        cost = omega (arith, same, cheap);
        some = omega arith;
        eight = omega arith;
        symbols = (inr (a, line.line.one, refl), tt);
        span = all_day;
        first = spell_ok x within.0 tells.some hi;
        last = all_day;
        lower = omega arith;
      }

  ats_ok : (r : ℕ) (a : Activity) → IsFineLine p r a → Each (Ok (at r a)) (rules_for p free (at r a))
  ats_ok r a line = map_each (Ok (at r a)) (at_rule p a) (spells_of p r a) (all_each _ (spells_of p r a) (λ x at_x.
      at_ok r a line x (each_in (Tells (letter_cost p r a.code)) x (spells_of p r a) (spells_tell (letter_cost p r a.code) p.periods 1) at_x)
      (each_in (Within 1 p.periods) x (spells_of p r a) (spells_within (letter_cost p r a.code) p.periods 1) at_x)))

  -- blocks
  copies_fine : (k : Kind) (n : ℕ) → Fine p free xs k → Symbols (copies n k)
  copies_fine k zero fine = tt
  copies_fine k (suc n) fine = (fine, copies_fine k n fine)

  copies_long : (k : Kind) (n : ℕ) → length (copies n k) ≡ n
  copies_long k zero = refl
  copies_long k (suc n) = omega (arith, copies_long k n)

  copies_low : (r : ℕ) (a : Activity) (n : ℕ) → one_name (copies n (at r a)) ≤ 1
  copies_low r a zero = omega arith
  copies_low r a (suc zero) = omega arith
  copies_low r a (suc (suc n)) = omega arith

  longer_ok : (r : ℕ) (a : Activity) → IsFineLine p r a → (v : Bool) → nat_le (a.least + 1) a.greatest ≡ v → Each (Ok (block r a)) (longer_rules r v a)
  longer_ok r a line true e =
      let order = leb-true (a.least + 1) a.greatest e in (
        record {
          cost = omega arith;
          some = omega arith;
          eight = omega arith;
          symbols = (line, (line, tt));
          span = record { first = omega arith; order = order; last = line.few };
          first = all_day;
          last = all_day;
          lower = omega arith;
        },
        tt,
      )
  longer_ok r a line false e = tt

  block_ok : (r : ℕ) (a : Activity) → IsFineLine p r a → (v : Bool) → nat_le a.least 8 ≡ v → Each (Ok (block r a)) (block_rules r v a)
  block_ok r a line true e =
      let long = copies_long (at r a) a.least in
      let most = leb-true a.least 8 e in
      let some = line.line.some in
      let low = copies_low r a a.least in (
        ok (block r a) 0 (copies a.least (at r a)) (omega arith) (omega (arith, long, some)) (omega (arith, long, most)) (copies_fine (at r a) a.least line) (omega (arith, low)),
        longer_ok r a line (nat_le (a.least + 1) a.greatest) refl,
      )
  block_ok r a line false e = (
    record {
      cost = omega arith;
      some = omega arith;
      eight = omega arith;
      symbols = (line, tt);
      span = record { first = line.line.some; order = line.line.ordered; last = line.few };
      first = all_day;
      last = all_day;
      lower = omega arith;
    },
    tt,
  )

  -- lists of blocks
  line_of : (r : ℕ) (s : List Activity) (a : Activity) → IsFineSet p r s → In a s → IsFineLine p r a
  line_of r s a set at_s = each_in (IsFineLine p r) a s set.lines at_s

  open_ok : (k : Kind) (r : ℕ) (s ys : List Activity) → IsPairSet p r s → ((x : Activity) → In x ys → In x s × IsTrue (free r s x)) → 5 ≤ rank k
      → Each (Ok k) (open_rules r s ys)
  open_ok k r s [] pair each low = tt
  open_ok k r s (y ∷ ys) pair each low =
      let one = each y (inl refl) in
      (one_ok k (open_list r s) (record { pair = pair; one = y; listed = one.0; free_is = one.1 }) low, tt)

  froms_ok : (k : Kind) (r : ℕ) (s ys : List Activity) → IsPairSet p r s → ((x : Activity) → In x ys → In x s × IsTrue (not (free r s x))) → 4 ≤ rank k
      → Each (Ok k) (map (from_rule r s) ys)
  froms_ok k r s ys pair each low = map_each (Ok k) (from_rule r s) ys (all_each _ ys (λ x at_x.
      let one = each x at_x in
      one_ok k (from r s x) (record { pair = pair; listed = one.0; bound = one.1 }) low))

  touch_ok : (k : Kind) (r : ℕ) (s : List Activity) → IsSomeFree p free r s → 4 ≤ rank k → Each (Ok k) (touch_rules p r s)
  touch_ok k r s some low =
      (one_ok k (free_one r s) some low, (two_ok k (free_one r s) (any_list r s) (change_cost p) h.change some some.pair, tt))

  any_ok : (r : ℕ) (s frees bs : List Activity) → IsPairSet p r s → ((x : Activity) → In x frees → In x s × IsTrue (free r s x))
      → ((x : Activity) → In x bs → In x s × IsTrue (not (free r s x))) → (bs ≡ [] → IsSomeFree p free r s) → Each (Ok (any_list r s)) (any_rules p r s frees bs)
  any_ok r s frees [] pair at_frees at_bs none = touch_ok (any_list r s) r s (none refl) (omega arith)
  any_ok r s frees (b ∷ bs) pair at_frees at_bs none =
      each_side (Ok (any_list r s)) (open_rules r s frees) (map (from_rule r s) (b ∷ bs)) (open_ok (any_list r s) r s frees pair at_frees (omega arith))
      (froms_ok (any_list r s) r s (b ∷ bs) pair at_bs (omega arith))

  -- where none is bound, one is free
  some_free : (r : ℕ) (s : List Activity) → IsPairSet p r s → chosen (is_bound free r s) s ≡ [] → IsSomeFree p free r s
  some_free r s pair none =
      let f = front s pair.set.some in
      go f.0 f.1 (free r s f.0) refl
    where
      go : (a : Activity) → In a s → (v : Bool) → free r s a ≡ v → IsSomeFree p free r s
      go a at_s true e = record { pair = pair; one = a; listed = at_s; free_is = e }
      go a at_s false e =
          let bound : IsTrue (not (free r s a)) = ap not e in
          absurd (subst (λ (zs : List Activity). In a zs) none (to_chosen (is_bound free r s) a s at_s bound))

  others_ok : (r : ℕ) (s : List Activity) (a : Activity) → IsOneBound p free r s a → Each (Ok (other r s a)) (rules_for p free (other r s a))
  others_ok r s a one =
      let bs = chosen (is_bound free r s) (others a s) in
      each_side (Ok (other r s a)) (open_rules r s (chosen (free r s) s)) (map (from_rule r s) bs)
      (open_ok (other r s a) r s (chosen (free r s) s) one.pair (λ x at_x. in_chosen (free r s) x s at_x) (omega arith))
      (froms_ok (other r s a) r s bs one.pair (λ x at_x.
      let c = in_chosen (is_bound free r s) x (others a s) at_x in
      ((in_others a x s c.0).0, c.1)) (omega arith))

  -- stretches and rests
  work_ok : (r : ℕ) (s : List Activity) (long : Window) → IsFineSet p r s → IsWindow long → (ch : Option ℕ) → change_in p s ≡ ch → Each (Ok (work r s long)) (work_rules r ch s long)
  work_ok r s long set window None e = map_each (Ok (work r s long)) (λ (a : Activity). record (block_rule r a) { span = long }) s (all_each _ s (λ a at_s. record {
    cost = omega arith;
    some = omega arith;
    eight = omega arith;
    symbols = (line_of r s a set at_s, tt);
    span = window;
    first = all_day;
    last = all_day;
    lower = omega arith;
  }))
  work_ok r s long set window (Some z) e = (
    record {
      cost = omega arith;
      some = omega arith;
      eight = omega arith;
      symbols = (record { set = set; two = two_change p s z set.some e }, tt);
      span = window;
      first = all_day;
      last = all_day;
      lower = omega arith;
    },
    tt,
  )

  opened_ok : (begin : Option Window) → AreFineTimes begin → IsWindow (opened begin)
  opened_ok None times = all_day
  opened_ok (Some window) times = times

  rest_ok : (r : ℕ) (a : Activity) (begin : Option Window) → IsFineLine p r a → AreFineTimes begin → (v : Bool) → has_few a ≡ v → Each (Ok (rest r a begin)) (rest_rules r v a begin)
  rest_ok r a begin line times true e =
      let ns = numbers_from a.least (suc (a.greatest - a.least)) in
      let most = leb-true a.greatest 8 (parted (nat_le (a.greatest - a.least) 3) (nat_le a.greatest 8) e).1 in
      map_each (Ok (rest r a begin)) (length_rule r a begin) ns (all_each _ ns (λ n at_ns. each n (in_numbers n a.least (suc (a.greatest - a.least)) at_ns) most))
    where
      each : (n : ℕ) → (a.least ≤ n) × (n < a.least + suc (a.greatest - a.least)) → a.greatest ≤ 8 → Ok (rest r a begin) (length_rule r a begin n)
      each n m most =
          let long = copies_long (at r a) n in
          let some = line.line.some in
          let order = line.line.ordered in
          let low = copies_low r a n in
          record {
            cost = omega arith;
            some = omega (arith, long, m.0, some);
            eight = omega (arith, long, m.1, order, most);
            symbols = copies_fine (at r a) n line;
            span = all_day;
            first = opened_ok begin times;
            last = all_day;
            lower = omega (arith, low);
          }
  rest_ok r a begin line times false e = (
    record {
      cost = omega arith;
      some = omega arith;
      eight = omega arith;
      symbols = (line, tt);
      span = all_day;
      first = opened_ok begin times;
      last = all_day;
      lower = omega arith;
    },
    tt,
  )

  -- time off
  dots_fine : (n : ℕ) (ss : List (Symbol Kind)) → Symbols ss → Symbols (dots p n ++ ss)
  dots_fine zero ss m = m
  dots_fine (suc n) ss m = (inl refl, dots_fine n ss m)

  dots_long : (n : ℕ) → length (dots p n) ≡ n
  dots_long zero = refl
  dots_long (suc n) = omega (arith, dots_long n)

  bare_fine : (n : ℕ) → Symbols (dots p n)
  bare_fine zero = tt
  bare_fine (suc n) = (inl refl, bare_fine n)

  dots_low : (n : ℕ) → one_name (dots p n) ≤ 0
  dots_low zero = omega arith
  dots_low (suc n) = omega arith

  lead_ok : (n : ℕ) → n ≤ 7 → Each (Ok lead) (lead_rules p n)
  lead_ok zero few = (one_ok lead steps tt (omega arith), tt)
  lead_ok (suc n) few =
      let long = dots_long (suc n) in
      let more = length-append (dots p (suc n)) (named steps ∷ []) in (
        ok lead 0 (dots p (suc n)) (omega arith) (omega (arith, long)) (omega (arith, long, few)) (bare_fine (suc n)) (omega arith),
        (
          ok lead 0 (dots p (suc n) ++ named steps ∷ []) (omega arith) (omega (arith, long, more)) (omega (arith, long, more, few)) (dots_fine (suc n) (named steps ∷ []) (tt, tt)) (omega arith),
          tt,
        ),
      )

  lead_fine : (s f : ℕ) → Fine p free xs (lead_of s f)
  lead_fine zero f = tt
  lead_fine (suc zero) zero = tt
  lead_fine (suc zero) (suc f) = tt
  lead_fine (suc (suc s)) zero = tt
  lead_fine (suc (suc s)) (suc f) = tt

  -- duties and days
  part_fine : (r : ℕ) (long : Window) (x : PeriodPart) → IsWindow long → IsFinePart p r x → Fine p free xs (kind_of r long x)
  part_fine r long (Working s) window fine = (fine, window)
  part_fine r long (Pausing a begin) window fine = go begin fine.1 (nat_eq a.greatest 1)
    where
      go : (begin : Option Window) → AreFineTimes begin → (one : Bool) → Fine p free xs (rest_kind (plus_of r a) a begin one)
      go None times true = fine.0
      go None times false = (fine.0, times)
      go (Some window) times one = (fine.0, times)

  parts_fine : (r : ℕ) (long : Window) (ys : List PeriodPart) → IsWindow long → Each (IsFinePart p r) ys → Symbols (symbols_of r long ys)
  parts_fine r long [] window fine = tt
  parts_fine r long (y ∷ ys) window fine = (part_fine r long y window fine.0, parts_fine r long ys window fine.1)

  parts_long : (r : ℕ) (long : Window) (ys : List PeriodPart) → length (symbols_of r long ys) ≡ length ys
  parts_long r long [] = refl
  parts_long r long (y ∷ ys) = omega (arith, parts_long r long ys)

  parts_low : (r : ℕ) (long : Window) (ys : List PeriodPart) → one_name (symbols_of r long ys) ≤ 7
  parts_low r long [] = omega arith
  parts_low r long (Working s ∷ []) = omega arith
  parts_low r long (Pausing a begin ∷ []) = go begin (nat_eq a.greatest 1)
    where
      go : (begin : Option Window) (one : Bool) → one_name (named (rest_kind (plus_of r a) a begin one) ∷ []) ≤ 7
      go None true = omega arith
      go None false = omega arith
      go (Some window) one = omega arith
  parts_low r long (x ∷ y ∷ ys) = omega arith

  duty_ok : (tag : List ℕ) (ds : List PeriodDuty) → Each (IsFineDuty p) ds → Each (Ok (duty tag ds)) (map (duty_rule p) ds)
  duty_ok tag ds fine = map_each (Ok (duty tag ds)) (duty_rule p) ds (all_each _ ds (λ d at_d. each d (each_in (IsFineDuty p) d ds fine at_d)))
    where
      each : (d : PeriodDuty) → IsFineDuty p d → Ok (duty tag ds) (duty_rule p d)
      each d m =
          let long = parts_long d.plus d.stretch d.parts in
          let some = m.some in
          let few = m.few in
          record {
            cost = m.cost;
            some = omega (arith, long, some);
            eight = omega (arith, long, few);
            symbols = parts_fine d.plus d.stretch d.parts m.stretch m.parts;
            span = m.lasts;
            first = m.begins;
            last = m.ends;
            lower = parts_low d.plus d.stretch d.parts;
          }

  kept_ok : (k : Kind) (v : Bool) (own : NamedRule Kind) → Ok k own → Each (Ok k) (kept_rule v own)
  kept_ok k true own m = (m, tt)
  kept_ok k false own m = tt

  early_ok : (tag : List ℕ) (ds : List PeriodDuty) → In (record { name = tag; lines = ds }) xs → (n : ℕ) → Each (Ok (day tag ds)) (early_days p n tag ds)
  early_ok tag ds here (suc n) = tt
  early_ok tag ds here zero =
      each_side (Ok (day tag ds)) (kept_rule (leaves p ds true true) (plain 0 (named (duty tag ds) ∷ [])))
      (kept_rule (leaves p ds true false) (plain 0 (named (duty tag ds) ∷ named off ∷ [])))
      (kept_ok (day tag ds) (leaves p ds true true) (plain 0 (named (duty tag ds) ∷ [])) (one_ok (day tag ds) (duty tag ds) here (omega arith)))
      (kept_ok (day tag ds) (leaves p ds true false) (plain 0 (named (duty tag ds) ∷ named off ∷ [])) (two_ok (day tag ds) (duty tag ds) off 0 (omega arith) here tt))

  day_ok : (tag : List ℕ) (ds : List PeriodDuty) → In (record { name = tag; lines = ds }) xs → Each (Ok (day tag ds)) (rules_for p free (day tag ds))
  day_ok tag ds here =
      let k = day tag ds in
      let before = lead_kind p in
      let two = plain 0 (named before ∷ named (duty tag ds) ∷ []) in
      let three = plain 0 (named before ∷ named (duty tag ds) ∷ named off ∷ []) in
      let fine = lead_fine p.starts p.first_start in
      each_side (Ok k) (kept_rule (leaves p ds false true) two) (kept_rule (leaves p ds false false) three ++ early_days p p.first_start tag ds)
      (kept_ok k (leaves p ds false true) two (two_ok k before (duty tag ds) 0 (omega arith) fine here))
      (each_side (Ok k) (kept_rule (leaves p ds false false) three) (early_days p p.first_start tag ds)
      (kept_ok k (leaves p ds false false) three
      (ok k 0 (named before ∷ named (duty tag ds) ∷ named off ∷ []) (omega arith) (omega arith) (omega arith) (fine, (here, (tt, tt))) (omega arith)))
      (early_ok tag ds here p.first_start))

  lines_of : (tag : List ℕ) (ds : List PeriodDuty) → In (record { name = tag; lines = ds }) xs → AreFineLines p (record { name = tag; lines = ds })
  lines_of tag ds here = each_in (AreFineLines p) (record { name = tag; lines = ds }) xs h.lines here

  -- each rule of a name is sound
  pub fine_rules : (k : Kind) → Fine p free xs k → Each (Ok k) (rules_for p free k)
  fine_rules (at r a) m = ats_ok r a m
  fine_rules (run r a) m = (one_ok (run r a) (at r a) m (omega arith), (two_ok (run r a) (at r a) (run r a) 0 (omega arith) m m, tt))
  fine_rules (block r a) m = block_ok r a m (nat_le a.least 8) refl
  fine_rules (free_one r s) m = map_each (Ok (free_one r s)) (block_rule r) (chosen (free r s) s) (all_each _ (chosen (free r s) s) (λ a at_a.
      one_ok (free_one r s) (block r a) (line_of r s a m.pair.set (in_chosen (free r s) a s at_a).0) (omega arith)))
  fine_rules (any_list r s) m = any_ok r s (chosen (free r s) s) (chosen (is_bound free r s) s) m (λ x at_x. in_chosen (free r s) x s at_x)
      (λ x at_x. in_chosen (is_bound free r s) x s at_x) (λ none. some_free r s m none)
  fine_rules (open_list r s) m = touch_ok (open_list r s) r s m (omega arith)
  fine_rules (from r s a) m =
      let line = line_of r s a m.pair.set m.listed in
      (one_ok (from r s a) (block r a) line (omega arith), (two_ok (from r s a) (block r a) (other r s a) (change_cost p) h.change line m, tt))
  fine_rules (other r s a) m = others_ok r s a m
  fine_rules (work r s long) m = work_ok r s long m.0 m.1 (change_in p s) refl
  fine_rules (rest r a begin) m = rest_ok r a begin m.0 m.1 (has_few a) refl
  fine_rules off m = (
    ok off 0 (coded p.off ∷ []) (omega arith) (omega arith) (omega arith) (inl refl, tt) (omega arith),
    (ok off 0 (coded p.off ∷ named off ∷ []) (omega arith) (omega arith) (omega arith) (inl refl, (tt, tt)) (omega arith), tt),
  )
  fine_rules step m =
      let long = dots_long p.starts in
      let some = h.starts in
      let few = h.few_starts in
      let low = dots_low p.starts in
      (ok step 0 (dots p p.starts) (omega arith) (omega (arith, long, some)) (omega (arith, long, few)) (bare_fine p.starts) (omega (arith, low)), tt)
  fine_rules steps m = (one_ok steps step tt (omega arith), (two_ok steps step steps 0 (omega arith) tt tt, tt))
  fine_rules lead m = lead_ok p.first_start h.first
  fine_rules (duty tag ds) m = duty_ok tag ds (lines_of tag ds m).lines
  fine_rules (day tag ds) m = day_ok tag ds m
  fine_rules (start ys) m = map_each (Ok (start ys)) day_rule ys (all_each _ ys (λ x at_x.
      one_ok (start ys) (day x.name x.lines) (subst (λ (zs : List NamedLines). In x zs) m at_x) (omega arith)))

  -- each name has a rule
  abbrev HasOne : Kind → Type 0
  HasOne k = (own : NamedRule Kind) × In own (rules_for p free k)

  some_of : {A : Type 0} (f : A → NamedRule Kind) (ys : List A) → (y : A) × In y ys → (own : NamedRule Kind) × In own (map f ys)
  some_of f ys one = (f one.0, in_map f one.0 ys one.1)

  any_some : (r : ℕ) (s frees bs : List Activity) → (own : NamedRule Kind) × In own (any_rules p r s frees bs)
  any_some r s frees [] = (plain 0 (named (free_one r s) ∷ []), inl refl)
  any_some r s frees (b ∷ bs) =
      (from_rule r s b, in_second (from_rule r s b) (open_rules r s frees) (map (from_rule r s) (b ∷ bs)) (inl refl))

  opens_some : (r : ℕ) (s ys : List Activity) → (y : Activity) × In y ys → (own : NamedRule Kind) × In own (open_rules r s ys)
  opens_some r s [] one = absurd one.1
  opens_some r s (y ∷ ys) one = (plain 0 (named (open_list r s) ∷ []), inl refl)

  other_some : (r : ℕ) (s : List Activity) (a : Activity) → IsOneBound p free r s a → HasOne (other r s a)
  other_some r s a one =
      let b = another a s one.listed one.pair.two one.pair.set.apart in
      go b.0 b.1 b.2 (free r s b.0) refl
    where
      go : (b : Activity) → In b s → b.code ≢ a.code → (v : Bool) → free r s b ≡ v → HasOne (other r s a)
      go b at_s apart true e =
          let o = opens_some r s (chosen (free r s) s) (b, to_chosen (free r s) b s at_s e) in
          (o.0, in_first o.0 (open_rules r s (chosen (free r s) s)) (map (from_rule r s) (chosen (is_bound free r s) (others a s))) o.1)
      go b at_s apart false e =
          let o = in_map (from_rule r s) b (chosen (is_bound free r s) (others a s)) (to_chosen (is_bound free r s) b (others a s) (to_others a b s at_s apart) (ap not e)) in
          (from_rule r s b, in_second (from_rule r s b) (open_rules r s (chosen (free r s) s)) (map (from_rule r s) (chosen (is_bound free r s) (others a s))) o)

  work_some : (r : ℕ) (s : List Activity) (long : Window) → 1 ≤ length s → (ch : Option ℕ) → (own : NamedRule Kind) × In own (work_rules r ch s long)
  work_some r s long some None = some_of (λ (a : Activity). record (block_rule r a) { span = long }) s (front s some)
  work_some r s long some (Some z) = (record (plain 0 (named (any_list r s) ∷ [])) { span = long }, inl refl)

  rest_some : (r : ℕ) (a : Activity) (begin : Option Window) (v : Bool) → (own : NamedRule Kind) × In own (rest_rules r v a begin)
  rest_some r a begin true = (length_rule r a begin a.least, inl refl)
  rest_some r a begin false = (record (plain 0 (named (block r a) ∷ [])) { first = opened begin }, inl refl)

  block_some : (r : ℕ) (a : Activity) (v : Bool) → (own : NamedRule Kind) × In own (block_rules r v a)
  block_some r a true = (plain 0 (copies a.least (at r a)), inl refl)
  block_some r a false = (record (plain 0 (named (run r a) ∷ [])) { span = record { lo = a.least; hi = a.greatest } }, inl refl)

  lead_some : (n : ℕ) → (own : NamedRule Kind) × In own (lead_rules p n)
  lead_some zero = (plain 0 (named steps ∷ []), inl refl)
  lead_some (suc n) = (plain 0 (dots p (suc n)), inl refl)

  pub some_rule : (k : Kind) → Fine p free xs k → 1 ≤ length xs → HasOne k
  some_rule (at r a) m named_some = some_of (at_rule p a) (spells_of p r a) (some_spell (letter_cost p r a.code) p.periods 1 h.some)
  some_rule (run r a) m named_some = (plain 0 (named (at r a) ∷ []), inl refl)
  some_rule (block r a) m named_some = block_some r a (nat_le a.least 8)
  some_rule (free_one r s) m named_some = some_of (block_rule r) (chosen (free r s) s) (m.one, to_chosen (free r s) m.one s m.listed m.free_is)
  some_rule (any_list r s) m named_some = any_some r s (chosen (free r s) s) (chosen (is_bound free r s) s)
  some_rule (open_list r s) m named_some = (plain 0 (named (free_one r s) ∷ []), inl refl)
  some_rule (from r s a) m named_some = (plain 0 (named (block r a) ∷ []), inl refl)
  some_rule (other r s a) m named_some = other_some r s a m
  some_rule (work r s long) m named_some = work_some r s long m.0.some (change_in p s)
  some_rule (rest r a begin) m named_some = rest_some r a begin (has_few a)
  some_rule off m named_some = (plain 0 (coded p.off ∷ []), inl refl)
  some_rule step m named_some = (plain 0 (dots p p.starts), inl refl)
  some_rule steps m named_some = (plain 0 (named step ∷ []), inl refl)
  some_rule lead m named_some = lead_some p.first_start
  some_rule (duty tag ds) m named_some = some_of (duty_rule p) ds (front ds (lines_of tag ds m).some)
  some_rule (day tag ds) m named_some = front (rules_for p free (day tag ds)) (day_some p free tag ds)
  some_rule (start ys) m named_some = some_of day_rule ys (front ys (subst (λ (zs : List NamedLines). 1 ≤ length zs) (sym m) named_some))
