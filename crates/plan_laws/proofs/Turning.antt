-- Each word means the same by a plan and by its numbers of periods.
use Rattle.std.proofs.Common.{◌≡◌, ◌≢◌, ◌⊎◌, inl, inr, ℕ, ◌<◌, ◌≤◌, ◌+◌, ◌-◌, ◌*◌, ◌/◌, ◌↔◌, Bool, true, false, not, cond, ◌&&◌, ◌||◌, IsTrue, eqb, Option, None, Some, List, [], ◌∷◌, ◌++◌, length, map, arith, refl, sym, ap, ◌∙◌, subst}
use Rattle.std.proofs.Math.Dec.{leb}
use Rattle.std.proofs.Math.Nat.{le_of_mul-le-mul_right}
use Rattle.std.proofs.lemmas.Bool.Decides.{eqb_tells}
use Rattle.std.proofs.lemmas.List.{length-map, length-append}
use Rattle.std.proofs.lemmas.Slice.Eq.{bytes_eq-Decides}
use Rattle.model_rosters.specs.Folds.{In, Each, sum_n}
use Rattle.model_rosters.specs.Grammar.{IsInWindow}
use Rattle.model_rosters.proofs.EachLemmas.{Each-at}
use Rattle.plan_meaning.specs.declared.plan.Duty.{Duty}
use Rattle.plan_meaning.specs.declared.plan.Extra.{Extra}
use Rattle.plan_meaning.specs.declared.plan.Lengths.{Lengths}
use Rattle.plan_meaning.specs.declared.plan.Part.{Part}
use Rattle.plan_meaning.specs.declared.plan.Part.TheVariants.{Pause, Work}
use Rattle.plan_meaning.specs.declared.plan.Plan.{Plan}
use Rattle.plan_meaning.specs.declared.plan.PlanCode.{PlanCode}
use Rattle.plan_meaning.specs.declared.plan.Times.{Times}
use Rattle.plan_meaning.specs.Times.{begin_behind, begin_minute, end_behind, moment, periods, IsAsLong, MayBegin, MayEnd, StartsAt}
use Rattle.plan_meaning.specs.Shifts as meaning
use Rattle.plan_meaning.specs.Shifts.{lies_within, letter_hour, word_hours, stretch_of}
use Rattle.plan_meaning.specs.Whole.{IsWholeTime, IsEven, AreWhole, IsWholeCode, IsWholeExtra, AreWholeBegins, AreWholeEnds, IsWholePart, IsWholeDuty, AreWholeStarts, IsFirstStart, IsWholePlan}
use Rattle.plan_laws.specs.declared.period_plan.Activity.{Activity}
use Rattle.plan_laws.specs.declared.period_plan.PeriodDuty.{PeriodDuty}
use Rattle.plan_laws.specs.declared.period_plan.PeriodExtra.{PeriodExtra}
use Rattle.plan_laws.specs.PeriodShifts.{is_paid, plus_of, letter_cost, word_cost, change_cost, IsAlone, Block, IsBlock, joined, Differ, MayChange, IsStretch, IsRest, MayBegin as MayBeginIn, AreParts, IsShiftBy, IsPriceOf}
use Rattle.plan_laws.specs.Names.{chosen}
use Rattle.plan_laws.specs.Turned.{per_period, count_of, turned_lengths, turned_code, begin_window, turned_begins, turned_ends, turned_pause, turned_extra, has_code, coded, turned_codes, turned_part, turned_duty, turned_starts, turned, is_named, named_lines, turned_lines, TurningLaw}
use Rattle.plan_laws.proofs.Counts.{whole_is, from_multiple, to_multiple, below_multiple, up_to_multiple, same_count, same_test, even_is}
use Rattle.plan_laws.proofs.Words.{in_chosen, to_chosen, word_cost-append, word_cost-none}
use Rattle.plan_laws.proofs.Ties.{clock_starts}

-- an item of a mapped list comes from one of the list
pub from_map : {A B : Type 0} (f : A → B) (xs : List A) (y : B) → In y (map f xs) → (x : A) × In x xs × (y ≡ f x)
from_map f [] y at = absurd at
from_map f (x ∷ xs) y (inl e) = (x, inl refl, e)
from_map f (x ∷ xs) y (inr at) = let r = from_map f xs y at in (r.0, inr r.1, r.2)

pub to_map : {A B : Type 0} (f : A → B) (xs : List A) (x : A) → In x xs → In (f x) (map f xs)
to_map f [] x at = absurd at
to_map f (y ∷ xs) x (inl e) = inl (ap f e)
to_map f (y ∷ xs) x (inr at) = inr (to_map f xs x at)

-- the test finds a code that is listed
has_in : (codes : List ℕ) (a : Activity) → In a.code codes → IsTrue (has_code codes a)
has_in [] a at = absurd at
has_in (c ∷ cs) a (inl e) = go (eqb_tells c a.code)
  where
    go : ((eqb c a.code ≡ true) × (c ≡ a.code)) ⊎ ((eqb c a.code ≡ false) × (c ≢ a.code)) → IsTrue (has_code (c ∷ cs) a)
    go (inl t) = rw t.0 refl
    go (inr f) = absurd (f.1 (sym e))
has_in (c ∷ cs) a (inr at) = go (eqb c a.code) refl (has_in cs a at)
  where
    go : (t : Bool) → eqb c a.code ≡ t → IsTrue (has_code cs a) → IsTrue (has_code (c ∷ cs) a)
    go true e h = rw e refl
    go false e h = rw e h

in_has : (codes : List ℕ) (a : Activity) → IsTrue (has_code codes a) → In a.code codes
in_has [] a h = absurd cc
in_has (c ∷ cs) a h = go (eqb_tells c a.code) h (in_has cs a)
  where
    go : ((eqb c a.code ≡ true) × (c ≡ a.code)) ⊎ ((eqb c a.code ≡ false) × (c ≢ a.code)) → IsTrue (eqb c a.code || has_code cs a) → (IsTrue (has_code cs a) → In a.code cs) → In a.code (c ∷ cs)
    go (inl t) h ih = inl (sym t.1)
    go (inr f) h ih = inr (ih (subst (λ (t : Bool). IsTrue (t || has_code cs a)) f.0 h))

-- the first activity of a code is listed, where there is one
coded_in : (xs : List Activity) (code : ℕ) (a : Activity) → In a xs → a.code ≡ code → In (coded xs code) xs × ((coded xs code).code ≡ code)
coded_in [] code a at e = absurd at
coded_in (x ∷ xs) code a at e = go (eqb_tells x.code code) at (λ r. coded_in xs code a r e)
  where
    Found : Bool → Type 0
    Found t = In (cond t x (coded xs code)) (x ∷ xs) × ((cond t x (coded xs code)).code ≡ code)

    go : ((eqb x.code code ≡ true) × (x.code ≡ code)) ⊎ ((eqb x.code code ≡ false) × (x.code ≢ code)) → In a (x ∷ xs)
        → (In a xs → In (coded xs code) xs × ((coded xs code).code ≡ code)) → In (coded (x ∷ xs) code) (x ∷ xs) × ((coded (x ∷ xs) code).code ≡ code)
    go (inl t) at ih = subst Found (sym t.0) (inl refl, t.1)
    go (inr f) (inl q) ih = absurd (f.1 (ap (λ (y : Activity). y.code) (sym q) ∙ e))
    go (inr f) (inr r) ih = subst Found (sym f.0) (inr (ih r).0, (ih r).1)

module _ (p : Plan) (first : ℕ) (sound : IsWholePlan p) (starts_first : IsFirstStart p p.starts first) where
  -- ---- lengths and times

  pub long_to : (x : Lengths) (w : List ℕ) → AreWhole p x → IsAsLong p x w → IsInWindow (turned_lengths p x) (length w)
  long_to x w h l = (from_multiple x.least p.day.minutes (length w) h.least sound.some l.0, below_multiple x.greatest p.day.minutes (length w) h.greatest sound.some l.1)

  pub long_back : (x : Lengths) (w : List ℕ) → AreWhole p x → IsInWindow (turned_lengths p x) (length w) → IsAsLong p x w
  long_back x w h l = (to_multiple x.least p.day.minutes (length w) h.least sound.some l.0, up_to_multiple x.greatest p.day.minutes (length w) h.greatest sound.some l.1)

  begin_to : (t : Times) (passed i : ℕ) → i ≡ passed + 1 → AreWholeBegins p (Some t) → MayBegin p (Some t) (moment p passed) → IsInWindow (begin_window p t) i
  begin_to t passed i e h l =
      let a = from_multiple (begin_behind p.day t.from) p.day.minutes passed h.0 sound.some l.0 in
      let b = below_multiple (begin_behind p.day t.to) p.day.minutes passed h.1 sound.some l.1 in
      (omega (arith, a, e), omega (arith, b, e))

  begin_back : (t : Times) (passed i : ℕ) → i ≡ passed + 1 → AreWholeBegins p (Some t) → IsInWindow (begin_window p t) i → MayBegin p (Some t) (moment p passed)
  begin_back t passed i e h l = (
    to_multiple (begin_behind p.day t.from) p.day.minutes passed h.0 sound.some (omega (arith, l.0, e)),
    up_to_multiple (begin_behind p.day t.to) p.day.minutes passed h.1 sound.some (omega (arith, l.1, e)),
  )

  pause_to : (times : Option Times) (passed i : ℕ) → i ≡ passed + 1 → AreWholeBegins p times → MayBegin p times (moment p passed) → MayBeginIn (turned_pause p times) i
  pause_to None passed i e h l = tt
  pause_to (Some t) passed i e h l = begin_to t passed i e h l

  pause_back : (times : Option Times) (passed i : ℕ) → i ≡ passed + 1 → AreWholeBegins p times → MayBeginIn (turned_pause p times) i → MayBegin p times (moment p passed)
  pause_back None passed i e h l = tt
  pause_back (Some t) passed i e h l = begin_back t passed i e h l

  begins_to : (times : Option Times) (passed i : ℕ) → i ≡ passed + 1 → i ≤ 96 → AreWholeBegins p times → MayBegin p times (moment p passed) → IsInWindow (turned_begins p times) i
  begins_to None passed i e few h l = (omega (arith, e), few)
  begins_to (Some t) passed i e few h l = begin_to t passed i e h l

  begins_back : (times : Option Times) (passed i : ℕ) → i ≡ passed + 1 → AreWholeBegins p times → IsInWindow (turned_begins p times) i → MayBegin p times (moment p passed)
  begins_back None passed i e h l = tt
  begins_back (Some t) passed i e h l = begin_back t passed i e h l

  ends_to : (times : Option Times) (passed i : ℕ) → i ≡ passed → 1 ≤ i → i ≤ 96 → AreWholeEnds p times → MayEnd p times (moment p passed) → IsInWindow (turned_ends p times) i
  ends_to None passed i e some few h l = (some, few)
  ends_to (Some t) passed i e some few h l =
      let a = from_multiple (end_behind p.day t.from) p.day.minutes passed h.0 sound.some l.0 in
      let b = below_multiple (end_behind p.day t.to) p.day.minutes passed h.1 sound.some l.1 in
      (omega (arith, a, e), omega (arith, b, e))

  ends_back : (times : Option Times) (passed i : ℕ) → i ≡ passed → AreWholeEnds p times → IsInWindow (turned_ends p times) i → MayEnd p times (moment p passed)
  ends_back None passed i e h l = tt
  ends_back (Some t) passed i e h l = (
    to_multiple (end_behind p.day t.from) p.day.minutes passed h.0 sound.some (omega (arith, l.0, e)),
    up_to_multiple (end_behind p.day t.to) p.day.minutes passed h.1 sound.some (omega (arith, l.1, e)),
  )

  -- ---- starts

  starts_to : (starts : Option ℕ) (n : ℕ) → AreWholeStarts p starts → IsFirstStart p starts first → StartsAt p.day starts (moment p n)
      → (q : ℕ) × (n ≡ first + q * turned_starts p starts)
  starts_to None n h f s = (n, omega (arith, f))
  starts_to (Some starts) n h f s = (clocked starts n h f).0 (s.0, lined starts n s.0 h s.1)
    where
      lined : (starts n q : ℕ) → IsWholeTime p starts → begin_minute p.day + moment p n ≡ q * starts → begin_minute p.day + p.day.minutes * n ≡ q * (p.day.minutes * (starts / p.day.minutes))
      lined starts n q h e =
          let w : q * starts ≡ q * (starts / p.day.minutes * p.day.minutes) = ap (λ (x : ℕ). q * x) (whole_is starts p.day.minutes h sound.some) in
          omega (arith, e, w)

      clocked : (starts n : ℕ) → IsWholeTime p starts → IsFirstStart p (Some starts) first
          → ((x : ℕ) × (begin_minute p.day + p.day.minutes * n ≡ x * (p.day.minutes * (starts / p.day.minutes)))) ↔ ((q : ℕ) × (n ≡ first + q * (starts / p.day.minutes)))
      clocked starts n h f = clock_starts (begin_minute p.day) p.day.minutes (starts / p.day.minutes) first n sound.some (less starts h f.0) (f.1.0, lined starts first f.1.0 h f.1.1)
        where
          less : (starts : ℕ) → IsWholeTime p starts → moment p first < starts → first < starts / p.day.minutes
          less starts h lt = go (grind arith)
            where
              go : (first < starts / p.day.minutes) ⊎ (starts / p.day.minutes ≤ first) → first < starts / p.day.minutes
              go (inl r) = r
              go (inr r) = let le = to_multiple starts p.day.minutes first h sound.some r in absurd (omega (arith, le, lt))

  starts_back : (starts : Option ℕ) (n : ℕ) → AreWholeStarts p starts → IsFirstStart p starts first → (q : ℕ) × (n ≡ first + q * turned_starts p starts)
      → StartsAt p.day starts (moment p n)
  starts_back None n h f s = tt
  starts_back (Some starts) n h f s = (f.1.0 + s.0, back)
    where
      back : begin_minute p.day + n * p.day.minutes ≡ (f.1.0 + s.0) * starts
      back =
          let k : ℕ = starts / p.day.minutes in
          let w : starts ≡ k * p.day.minutes = whole_is starts p.day.minutes h sound.some in
          let long : n * p.day.minutes ≡ (first + s.0 * k) * p.day.minutes = ap (λ (x : ℕ). x * p.day.minutes) s.1 in
          let steps : s.0 * starts ≡ s.0 * (k * p.day.minutes) = ap (λ (x : ℕ). s.0 * x) w in
          let begin : begin_minute p.day + first * p.day.minutes ≡ f.1.0 * starts = f.1.1 in
          omega (arith, long, steps, begin)

  -- ---- blocks and stretches

  abbrev Set : List ℕ → List Activity
  Set codes = chosen (has_code codes) (turned_codes p)

  abbrev turned_block : meaning.Block → Block
  turned_block b = record { activity = turned_code p b.line; word = b.word }

  alone_to : (line : PlanCode) (w : List ℕ) → meaning.IsRun p line w → IsAlone (turned_code p line) w
  alone_to line w h =
      let c = Each-at (IsWholeCode p) line p.codes sound.codes h.listed in
      let l = long_to line.lasts w c.lasts h.lasts in
      record { alone = h.alone; least = l.0; greatest = l.1 }

  run_back : (line : PlanCode) (w : List ℕ) → In line p.codes → IsAlone (turned_code p line) w → meaning.IsRun p line w
  run_back line w at h =
      let c = Each-at (IsWholeCode p) line p.codes sound.codes at in
      record { listed = at; alone = h.alone; lasts = long_back line.lasts w c.lasts (h.least, h.greatest) }

  block_to : (codes : List ℕ) (b : meaning.Block) → meaning.IsBlock p codes b → IsBlock (Set codes) (turned_block b)
  block_to codes b h = record {
    one = to_chosen (has_code codes) (turned_code p b.line) (turned_codes p) (to_map (turned_code p) p.codes b.line h.run.listed) (has_in codes (turned_code p b.line) h.one);
    alone = alone_to b.line b.word h.run;
  }

  blocks_to : (codes : List ℕ) (bs : List meaning.Block) → Each (meaning.IsBlock p codes) bs → Each (IsBlock (Set codes)) (map turned_block bs)
  blocks_to codes [] h = tt
  blocks_to codes (b ∷ bs) h = (block_to codes b h.0, blocks_to codes bs h.1)

  block_back : (codes : List ℕ) (b : Block) → IsBlock (Set codes) b → (x : meaning.Block) × (b ≡ turned_block x) × meaning.IsBlock p codes x
  block_back codes b h =
      let a = in_chosen (has_code codes) b.activity (turned_codes p) h.one in
      let l = from_map (turned_code p) p.codes b.activity a.0 in
      let same : ◌≡◌ {A = Block} b (record { activity = turned_code p l.0; word = b.word }) = ap (λ (y : Activity). record { activity = y; word = b.word }) l.2 in
      let code : b.activity.code ≡ l.0.code = ap (λ (y : Activity). y.code) l.2 in (
        record { line = l.0; word = b.word },
        same,
        record {
          one = subst (λ (c : ℕ). In c codes) code (in_has codes b.activity a.1);
          run = run_back l.0 b.word l.1 (subst (λ (y : Activity). IsAlone y b.word) l.2 h.alone);
        },
      )

  blocks_back : (codes : List ℕ) (bs : List Block) → Each (IsBlock (Set codes)) bs → (xs : List meaning.Block) × (bs ≡ map turned_block xs) × Each (meaning.IsBlock p codes) xs
  blocks_back codes [] h = ([], refl, tt)
  blocks_back codes (b ∷ bs) h =
      let x = block_back codes b h.0 in
      let xs = blocks_back codes bs h.1 in
      (x.0 ∷ xs.0, ap (λ (y : Block). y ∷ bs) x.1 ∙ ap (λ (ys : List Block). turned_block x.0 ∷ ys) xs.1, (x.2, xs.2))

  joined_turned : (bs : List meaning.Block) → joined (map turned_block bs) ≡ meaning.joined bs
  joined_turned [] = refl
  joined_turned (b ∷ bs) = ap (λ (v : List ℕ). b.word ++ v) (joined_turned bs)

  differ_to : (bs : List meaning.Block) → meaning.Differ bs → Differ (map turned_block bs)
  differ_to [] h = tt
  differ_to (b ∷ []) h = tt
  differ_to (b ∷ d ∷ bs) h = (h.0, differ_to (d ∷ bs) h.1)

  differ_back : (bs : List meaning.Block) → Differ (map turned_block bs) → meaning.Differ bs
  differ_back [] h = tt
  differ_back (b ∷ []) h = tt
  differ_back (b ∷ d ∷ bs) h = (h.0, differ_back (d ∷ bs) h.1)

  change_to : (change : Option ℕ) (bs : List meaning.Block) → meaning.MayChange change bs → MayChange change (map turned_block bs)
  change_to None bs h = ap (map turned_block) h
  change_to (Some z) bs h = tt

  change_back : (change : Option ℕ) (bs : List meaning.Block) → MayChange change (map turned_block bs) → meaning.MayChange change bs
  change_back None [] h = refl
  change_back None (b ∷ bs) h = absurd cc
  change_back (Some z) bs h = tt

  -- what a word and so many changes cost
  abbrev cost_of : ℕ → ℕ → List ℕ → ℕ → ℕ
  cost_of r i w n = word_cost (turned p first) r i w + n * change_cost (turned p first)

  stretch_to : (codes : List ℕ) (x : Lengths) (r i : ℕ) (w : List ℕ) (n : ℕ) → AreWhole p x → meaning.IsStretch p codes x w n
      → IsStretch (turned p first) r (Set codes) (turned_lengths p x) i w (cost_of r i w n)
  stretch_to codes x r i w n good h = record {
    first = turned_block h.first;
    others = map turned_block h.others;
    blocks = record {
      lawful = (block_to codes h.first h.blocks.0, blocks_to codes h.others h.blocks.1);
      differ = differ_to (h.first ∷ h.others) h.differ;
      word = h.word ∙ sym (joined_turned (h.first ∷ h.others));
      cost = ap (λ (k : ℕ). cost_of r i w k) (h.changes_are ∙ sym (length-map h.others turned_block));
    };
    change = change_to p.change h.others h.may_change;
    long = long_to x w good h.lasts;
  }

  stretch_back : (codes : List ℕ) (x : Lengths) (r i : ℕ) (w : List ℕ) (c : ℕ) → AreWhole p x → IsStretch (turned p first) r (Set codes) (turned_lengths p x) i w c
      → (n : ℕ) × meaning.IsStretch p codes x w n × (c ≡ cost_of r i w n)
  stretch_back codes x r i w c good h =
      let bs = blocks_back codes (h.first ∷ h.others) h.blocks.lawful in
      let f = block_back codes h.first h.blocks.lawful.0 in
      let o = blocks_back codes h.others h.blocks.lawful.1 in
      let same : h.first ∷ h.others ≡ map turned_block (f.0 ∷ o.0) = ap (λ (y : Block). y ∷ h.others) f.1 ∙ ap (λ (ys : List Block). turned_block f.0 ∷ ys) o.1 in (
        length h.others,
        record {
          first = f.0;
          others = o.0;
          blocks = (f.2, o.2);
          differ = differ_back (f.0 ∷ o.0) (subst Differ same h.blocks.differ);
          word = h.blocks.word ∙ (ap joined same ∙ joined_turned (f.0 ∷ o.0));
          may_change = change_back p.change o.0 (subst (λ (ys : List Block). MayChange p.change ys) o.1 h.change);
          lasts = long_back x w good h.long;
          changes_are = ap length o.1 ∙ length-map o.0 turned_block;
        },
        h.blocks.cost,
      )

  -- ---- rests

  -- the activity of a pause's code comes from its line
  pub coded_is : (code : ℕ) (line : PlanCode) → In line p.codes → line.code ≡ code → coded (turned_codes p) code ≡ turned_code p line
  coded_is code line at own =
      let found = coded_in (turned_codes p) code (turned_code p line) (to_map (turned_code p) p.codes line at) own in
      let l = from_map (turned_code p) p.codes (coded (turned_codes p) code) found.0 in
      let one : l.0.code ≡ line.code = sym (ap (λ (y : Activity). y.code) l.2) ∙ (found.1 ∙ sym own) in
      l.2 ∙ ap (turned_code p) (sound.apart l.0 line l.1 at one)

  rest_to : (code : ℕ) (times : Option Times) (r passed i : ℕ) (w : List ℕ) → i ≡ passed + 1 → AreWholeBegins p times → meaning.IsRest p code times passed w
      → IsRest (turned p first) r (coded (turned_codes p) code) (turned_pause p times) i w (cost_of r i w 0)
  rest_to code times r passed i w e good h = record {
    alone = subst (λ (a : Activity). IsAlone a w) (sym (coded_is code h.line h.run.listed h.own)) (alone_to h.line w h.run);
    begins = pause_to times passed i e good h.begins;
    cost = omega arith;
  }

  rest_back : (code : ℕ) (times : Option Times) (r passed i : ℕ) (w : List ℕ) (c : ℕ) → i ≡ passed + 1 → IsWholePart p (Pause code times)
      → IsRest (turned p first) r (coded (turned_codes p) code) (turned_pause p times) i w c → meaning.IsRest p code times passed w × (c ≡ cost_of r i w 0)
  rest_back code times r passed i w c e good h = (
    record {
      line = good.0.0;
      own = good.0.2;
      run = run_back good.0.0 w good.0.1 (subst (λ (a : Activity). IsAlone a w) (coded_is code good.0.0 good.0.1 good.0.2) h.alone);
      begins = pause_back times passed i e good.1 h.begins;
    },
    let paid : c ≡ word_cost (turned p first) r i w = h.cost in omega (arith, paid),
  )

  -- ---- parts

  split_cost : (r i : ℕ) (w u v : List ℕ) → w ≡ u ++ v → word_cost (turned p first) r i w ≡ word_cost (turned p first) r i u + word_cost (turned p first) r (i + length u) v
  split_cost r i w u v e = ap (λ (x : List ℕ). word_cost (turned p first) r i x) e ∙ word_cost-append (turned p first) r i u v

  changes_split : (n a b : ℕ) → n ≡ a + b → n * change_cost (turned p first) ≡ a * change_cost (turned p first) + b * change_cost (turned p first)
  changes_split n a b e = let s : n * change_cost (turned p first) ≡ (a + b) * change_cost (turned p first) = ap (λ (k : ℕ). k * change_cost (turned p first)) e in omega (arith, s)

  parts_to : (x : Lengths) → AreWhole p x → (r : ℕ) (xs : List Part) (passed i : ℕ) (w : List ℕ) (n : ℕ) → i ≡ passed + 1 → Each (IsWholePart p) xs → meaning.AreParts p x xs passed w n
      → AreParts (turned p first) r (turned_lengths p x) (map (turned_part p) xs) i w (cost_of r i w n)
  parts_to x good r [] passed i w n e g h =
      let none : word_cost (turned p first) r i w ≡ 0 = ap (λ (v : List ℕ). word_cost (turned p first) r i v) h.0 ∙ word_cost-none (turned p first) r i in
      let zero_changes : n * change_cost (turned p first) ≡ 0 * change_cost (turned p first) = ap (λ (k : ℕ). k * change_cost (turned p first)) h.1 in
      (h.0, omega (arith, none, zero_changes))
  parts_to x good r (Work codes ∷ xs) passed i w n e g h =
      let all = split_cost r i w h.0 h.1 h.4 in
      let some = changes_split n h.2 h.3 h.5 in
      (h.0, h.1, cost_of r i h.0 h.2, cost_of r (i + length h.0) h.1 h.3, h.4, omega (arith, all, some), stretch_to codes x r i h.0 h.2 good h.6, parts_to x good r xs (passed + length h.0) (i + length h.0) h.1 h.3 (omega (arith, e)) g.1 h.7)
  parts_to x good r (Pause code times ∷ xs) passed i w n e g h =
      let all = split_cost r i w h.0 h.1 h.4 in
      let some = changes_split n 0 h.3 (omega (arith, h.5, h.6.1)) in
      (h.0, h.1, cost_of r i h.0 0, cost_of r (i + length h.0) h.1 h.3, h.4, omega (arith, all, some), rest_to code times r passed i h.0 e g.0.1 h.6.0, parts_to x good r xs (passed + length h.0) (i + length h.0) h.1 h.3 (omega (arith, e)) g.1 h.7)

  parts_back : (x : Lengths) → AreWhole p x → (r : ℕ) (xs : List Part) (passed i : ℕ) (w : List ℕ) (c : ℕ) → i ≡ passed + 1 → Each (IsWholePart p) xs
      → AreParts (turned p first) r (turned_lengths p x) (map (turned_part p) xs) i w c → (n : ℕ) × meaning.AreParts p x xs passed w n × (c ≡ cost_of r i w n)
  parts_back x good r [] passed i w c e g h =
      let none : word_cost (turned p first) r i w ≡ 0 = ap (λ (v : List ℕ). word_cost (turned p first) r i v) h.0 ∙ word_cost-none (turned p first) r i in
      (0, (h.0, refl), omega (arith, none, h.1))
  parts_back x good r (Work codes ∷ xs) passed i w c e g h =
      let s = stretch_back codes x r i h.0 h.2 good h.6 in
      let rest = parts_back x good r xs (passed + length h.0) (i + length h.0) h.1 h.3 (omega (arith, e)) g.1 h.7 in
      let all = split_cost r i w h.0 h.1 h.4 in
      let some = changes_split (s.0 + rest.0) s.0 rest.0 refl in
      (s.0 + rest.0, (h.0, h.1, s.0, rest.0, h.4, refl, s.1, rest.1), omega (arith, h.5, s.2, rest.2, all, some))
  parts_back x good r (Pause code times ∷ xs) passed i w c e g h =
      let s = rest_back code times r passed i h.0 h.2 e g.0 h.6 in
      let rest = parts_back x good r xs (passed + length h.0) (i + length h.0) h.1 h.3 (omega (arith, e)) g.1 h.7 in
      let all = split_cost r i w h.0 h.1 h.4 in
      let some = changes_split (0 + rest.0) 0 rest.0 refl in
      (0 + rest.0, (h.0, h.1, 0, rest.0, h.4, refl, (s.0, refl), rest.1), omega (arith, h.5, s.1, rest.2, all, some))

  -- ---- what letters cost

  no_cost : (x : ℕ) → IsEven p x → eqb (per_period p x) 0 ≡ eqb x 0
  no_cost x even = go (eqb_tells (per_period p x) 0) (eqb_tells x 0)
    where
      go : ((eqb (per_period p x) 0 ≡ true) × (per_period p x ≡ 0)) ⊎ ((eqb (per_period p x) 0 ≡ false) × (per_period p x ≢ 0)) → ((eqb x 0 ≡ true) × (x ≡ 0)) ⊎ ((eqb x 0 ≡ false) × (x ≢ 0))
          → eqb (per_period p x) 0 ≡ eqb x 0
      go (inl a) (inl b) = a.0 ∙ sym b.0
      go (inr a) (inr b) = a.0 ∙ sym b.0
      go (inl a) (inr b) =
          let whole_hour = even_is x p.day.minutes even in
          absurd (b.1 (same_count x 0 p.day.minutes sound.some (omega (arith, whole_hour, a.1))))
      go (inr a) (inl b) =
          let whole_hour = even_is x p.day.minutes even in
          let none : x * p.day.minutes ≡ 0 * p.day.minutes = ap (λ (k : ℕ). k * p.day.minutes) b.1 in
          absurd (a.1 (omega (arith, whole_hour, none)))

  code_cost : (plus c : ℕ) (x : PlanCode) → IsEven p plus → IsWholeCode p x
      → 60 * cond (eqb x.code c) (per_period p x.hour + plus_of (per_period p plus) (turned_code p x)) 0 ≡ p.day.minutes * cond (eqb x.code c) (x.hour + cond (meaning.is_paid x) plus 0) 0
  code_cost plus c x even h = go (eqb x.code c)
    where
      same_paid : is_paid (turned_code p x) ≡ meaning.is_paid x
      same_paid = ap (λ (t : Bool). x.work || not t) (no_cost x.hour h.hour)

      paid : (t : Bool) → 60 * (per_period p x.hour + cond t (per_period p plus) 0) ≡ p.day.minutes * (x.hour + cond t plus 0)
      paid true =
          let a = even_is x.hour p.day.minutes h.hour in
          let b = even_is plus p.day.minutes even in
          omega (arith, a, b)
      paid false =
          let a = even_is x.hour p.day.minutes h.hour in
          omega (arith, a)

      go : (t : Bool) → 60 * cond t (per_period p x.hour + plus_of (per_period p plus) (turned_code p x)) 0 ≡ p.day.minutes * cond t (x.hour + cond (meaning.is_paid x) plus 0) 0
      go true = subst (λ (t : Bool). 60 * (per_period p x.hour + cond t (per_period p plus) 0) ≡ p.day.minutes * (x.hour + cond (meaning.is_paid x) plus 0)) (sym same_paid) (paid (meaning.is_paid x))
      go false = omega arith

  codes_cost : (plus c : ℕ) → IsEven p plus → (xs : List PlanCode) → Each (IsWholeCode p) xs
      → 60 * sum_n (λ (a : Activity). cond (eqb a.code c) (a.amount + plus_of (per_period p plus) a) 0) (map (turned_code p) xs)
      ≡ p.day.minutes * sum_n (λ (x : PlanCode). cond (eqb x.code c) (x.hour + cond (meaning.is_paid x) plus 0) 0) xs
  codes_cost plus c even [] h = omega arith
  codes_cost plus c even (x ∷ xs) h =
      let one = code_cost plus c x even h.0 in
      let rest = codes_cost plus c even xs h.1 in
      omega (arith, one, rest)

  extra_cost : (c passed i : ℕ) (x : Extra) → i ≡ passed + 1 → IsWholeExtra p x
      → 60 * cond (eqb x.code c && leb (count_of p (begin_behind p.day x.times.from) + 1) i && leb i (count_of p (end_behind p.day x.times.to))) (per_period p x.hour) 0
      ≡ p.day.minutes * cond (eqb x.code c && lies_within p x.times (moment p passed)) x.hour 0
  extra_cost c passed i x e h = rw (first_same, last_same) (go (eqb x.code c) (leb from (passed * p.day.minutes)) (leb (passed * p.day.minutes + p.day.minutes) to))
    where
      from : ℕ
      from = begin_behind p.day x.times.from

      to : ℕ
      to = end_behind p.day x.times.to

      first_same : leb (count_of p (begin_behind p.day x.times.from) + 1) i ≡ leb (begin_behind p.day x.times.from) (passed * p.day.minutes)
      first_same = same_test (count_of p (begin_behind p.day x.times.from) + 1) i (begin_behind p.day x.times.from) (passed * p.day.minutes)
          (λ le. to_multiple (begin_behind p.day x.times.from) p.day.minutes passed h.from sound.some (omega (arith, le, e)))
          (λ le. let r = from_multiple (begin_behind p.day x.times.from) p.day.minutes passed h.from sound.some le in omega (arith, r, e))

      last_same : leb i (count_of p (end_behind p.day x.times.to)) ≡ leb (passed * p.day.minutes + p.day.minutes) (end_behind p.day x.times.to)
      last_same = same_test i (count_of p (end_behind p.day x.times.to)) (passed * p.day.minutes + p.day.minutes) (end_behind p.day x.times.to)
          (λ le. let r = up_to_multiple (end_behind p.day x.times.to) p.day.minutes (passed + 1) h.to sound.some (omega (arith, le, e)) in omega (arith, r))
          (λ le. let r = below_multiple (end_behind p.day x.times.to) p.day.minutes (passed + 1) h.to sound.some (omega (arith, le)) in omega (arith, r, e))

      go : (a b d : Bool) → 60 * cond (a && b && d) (per_period p x.hour) 0 ≡ p.day.minutes * cond (a && (b && d)) x.hour 0
      go true true true = let even = even_is x.hour p.day.minutes h.hour in omega (arith, even)
      go true true false = omega arith
      go true false true = omega arith
      go true false false = omega arith
      go false true true = omega arith
      go false true false = omega arith
      go false false true = omega arith
      go false false false = omega arith

  extras_cost : (c passed i : ℕ) → i ≡ passed + 1 → (xs : List Extra) → Each (IsWholeExtra p) xs
      → 60 * sum_n (λ (x : PeriodExtra). cond (eqb x.code c && leb x.periods.lo i && leb i x.periods.hi) x.amount 0) (map (turned_extra p) xs)
      ≡ p.day.minutes * sum_n (λ (x : Extra). cond (eqb x.code c && lies_within p x.times (moment p passed)) x.hour 0) xs
  extras_cost c passed i e [] h = omega arith
  extras_cost c passed i e (x ∷ xs) h =
      let one = extra_cost c passed i x e h.0 in
      let rest = extras_cost c passed i e xs h.1 in
      omega (arith, one, rest)

  letter_same : (plus c passed i : ℕ) → i ≡ passed + 1 → IsEven p plus → 60 * letter_cost (turned p first) (per_period p plus) c i ≡ p.day.minutes * letter_hour p plus c (moment p passed)
  letter_same plus c passed i e even =
      let a = codes_cost plus c even p.codes sound.codes in
      let b = extras_cost c passed i e p.extras sound.extras in
      omega (arith, a, b)

  word_same : (plus : ℕ) (w : List ℕ) (passed i : ℕ) → i ≡ passed + 1 → IsEven p plus → 60 * word_cost (turned p first) (per_period p plus) i w ≡ p.day.minutes * word_hours p plus passed w
  unfolding word_cost word_hours
  word_same plus [] passed i e even = omega arith
  word_same plus (c ∷ w) passed i e even =
      let one = letter_same plus c passed i e even in
      let rest = word_same plus w (passed + 1) (i + 1) (omega (arith, e)) even in
      omega (arith, one, rest)

  -- ---- duties and shifts

  some_work : (d : Duty) (w : List ℕ) → IsWholeDuty p d → IsAsLong p d.lasts w → 1 ≤ length w
  some_work d w h l = le_of_mul-le-mul_right (more h.lasts.some l.0) sound.some
    where
      more : {a b c : ℕ} → a ≤ b → b ≤ c → 1 * a ≤ c
      more h k = omega arith

  word_length : (w before work after : List ℕ) → w ≡ before ++ (work ++ after) → length w ≡ length before + (length work + length after)
  word_length w before work after e = ap length e ∙ (length-append before (work ++ after) ∙ ap (λ (k : ℕ). length before + k) (length-append work after))

  pub shift_to : (d : Duty) (w : List ℕ) (price : ℕ) → In d p.duties → meaning.IsShiftBy p d w price → IsShiftBy (turned p first) (turned_duty p d) w price
  shift_to d w price at h =
      let good = Each-at (IsWholeDuty p) d p.duties sound.duties at in
      let some = some_work d h.work good h.duty.lasts in
      let day : length w ≡ periods p = same_count (length w) (periods p) p.day.minutes sound.some (h.day ∙ sym sound.day) in
      let all = word_length w h.before h.work h.after h.word in
      let few = sound.few in
      let e : 1 + length h.before ≡ length h.before + 1 = omega arith in
      let letters = word_same d.plus h.work (length h.before) (1 + length h.before) e good.plus in
      let paid = h.paid in
      record {
        day = day;
        before = h.before;
        work = h.work;
        after = h.after;
        word = h.word;
        off = (h.off_before, h.off_after);
        start = starts_to p.starts (length h.before) sound.starts starts_first h.duty.starts;
        duty = record {
          lasts = long_to d.lasts h.work good.lasts h.duty.lasts;
          begins = begins_to d.begins (length h.before) (1 + length h.before) e (omega (arith, some, day, all, few)) good.begins h.duty.begins;
          ends = ends_to d.ends (length h.before + length h.work) (1 + length h.before + length h.work - 1) (omega arith) (omega (arith, some)) (omega (arith, some, day, all, few)) good.ends h.duty.ends;
          paid = cost_of (per_period p d.plus) (1 + length h.before) h.work h.changes;
          parts = parts_to (stretch_of p d) good.stretch (per_period p d.plus) d.parts (length h.before) (1 + length h.before) h.work h.changes e good.parts h.duty.parts;
          cost = omega (arith, paid, letters);
        };
      }

  pub shift_back : (d : Duty) (w : List ℕ) (price : ℕ) → In d p.duties → IsShiftBy (turned p first) (turned_duty p d) w price → meaning.IsShiftBy p d w price
  shift_back d w price at h =
      let good = Each-at (IsWholeDuty p) d p.duties sound.duties at in
      let e : 1 + length h.before ≡ length h.before + 1 = omega arith in
      let lasts = long_back d.lasts h.work good.lasts h.duty.lasts in
      let some = some_work d h.work good lasts in
      let letters = word_same d.plus h.work (length h.before) (1 + length h.before) e good.plus in
      let parts = parts_back (stretch_of p d) good.stretch (per_period p d.plus) d.parts (length h.before) (1 + length h.before) h.work h.duty.paid e good.parts h.duty.parts in
      let cost : price ≡ d.cost + h.duty.paid = h.duty.cost in
      record {
        day = ap (λ (n : ℕ). moment p n) h.day ∙ sound.day;
        before = h.before;
        work = h.work;
        after = h.after;
        word = h.word;
        off_before = h.off.0;
        off_after = h.off.1;
        changes = parts.0;
        duty = record {
          lasts = lasts;
          begins = begins_back d.begins (length h.before) (1 + length h.before) e good.begins h.duty.begins;
          starts = starts_back p.starts (length h.before) sound.starts starts_first h.start;
          ends = ends_back d.ends (length h.before + length h.work) (1 + length h.before + length h.work - 1) (omega arith) good.ends h.duty.ends;
          parts = parts.1;
        };
        paid = omega (arith, cost, parts.2, letters);
      }

  -- ---- prices of names

  named_is : (name : Option (List ℕ)) (d : Duty) → IsTrue (is_named name d) → meaning.IsNamed name d
  named_is None d h = tt
  named_is (Some name) d h = (bytes_eq-Decides d.name name).0 h

  is_named_is : (name : Option (List ℕ)) (d : Duty) → meaning.IsNamed name d → IsTrue (is_named name d)
  is_named_is None d h = refl
  is_named_is (Some name) d h = (bytes_eq-Decides d.name name).1 h

  pub in_named : (name : Option (List ℕ)) (d : Duty) (ds : List Duty) → In d (named_lines name ds) → In d ds × meaning.IsNamed name d
  in_named name d [] at = absurd at
  in_named name d (x ∷ ds) at = go (is_named name x) refl at (in_named name d ds)
    where
      go : (t : Bool) → is_named name x ≡ t → In d (cond t (x ∷ named_lines name ds) (named_lines name ds)) → (In d (named_lines name ds) → In d ds × meaning.IsNamed name d)
          → In d (x ∷ ds) × meaning.IsNamed name d
      go true e (inl q) ih = (inl q, named_is name d (ap (is_named name) q ∙ e))
      go true e (inr r) ih = (inr (ih r).0, (ih r).1)
      go false e r ih = (inr (ih r).0, (ih r).1)

  pub to_named : (name : Option (List ℕ)) (d : Duty) (ds : List Duty) → In d ds → meaning.IsNamed name d → In d (named_lines name ds)
  to_named name d [] at h = absurd at
  to_named name d (x ∷ ds) at h = go (is_named name x) refl at (λ r. to_named name d ds r h)
    where
      go : (t : Bool) → is_named name x ≡ t → In d (x ∷ ds) → (In d ds → In d (named_lines name ds)) → In d (named_lines name (x ∷ ds))
      go true e (inl q) ih = subst (λ (y : Bool). In d (cond y (x ∷ named_lines name ds) (named_lines name ds))) (sym e) (inl q)
      go true e (inr r) ih = subst (λ (y : Bool). In d (cond y (x ∷ named_lines name ds) (named_lines name ds))) (sym e) (inr (ih r))
      go false e (inr r) ih = subst (λ (y : Bool). In d (cond y (x ∷ named_lines name ds) (named_lines name ds))) (sym e) (ih r)
      go false e (inl q) ih = absurd (clash (sym (ap (is_named name) q ∙ e) ∙ is_named_is name d h))
        where
          clash : false ≡ true → ⊥
          clash e = cc

  pub price_to : (name : Option (List ℕ)) (w : List ℕ) (price : ℕ) → meaning.IsPriceOf p name w price → IsPriceOf (turned p first) (turned_lines p name) w price
  price_to name w price h = record {
    attained = (
      turned_duty p h.attained.0,
      to_map (turned_duty p) (named_lines name p.duties) h.attained.0 (to_named name h.attained.0 p.duties h.attained.1.0 h.attained.1.1),
      shift_to h.attained.0 w price h.attained.1.0 h.attained.2,
    );
    least = λ d other at s.
        let l = from_map (turned_duty p) (named_lines name p.duties) d at in
        let n = in_named name l.0 p.duties l.1 in
        h.least l.0 other n (shift_back l.0 w other n.0 (subst (λ (y : PeriodDuty). IsShiftBy (turned p first) y w other) l.2 s));
  }

  pub price_back : (name : Option (List ℕ)) (w : List ℕ) (price : ℕ) → IsPriceOf (turned p first) (turned_lines p name) w price → meaning.IsPriceOf p name w price
  price_back name w price h =
      let l = from_map (turned_duty p) (named_lines name p.duties) h.attained.0 h.attained.1 in
      let n = in_named name l.0 p.duties l.1 in
      record {
        attained = (l.0, n, shift_back l.0 w price n.0 (subst (λ (y : PeriodDuty). IsShiftBy (turned p first) y w price) l.2 h.attained.2));
        least = λ d other one s. h.least (turned_duty p d) other (to_map (turned_duty p) (named_lines name p.duties) d (to_named name d p.duties one.0 one.1)) (shift_to d w other one.0 s);
      }

pub turning_law : TurningLaw
turning_law = λ p first sound start. record {
  shifts = λ d w price at. (shift_to p first sound start d w price at, shift_back p first sound start d w price at);
  prices = λ name w price. (price_to p first sound start name w price, price_back p first sound start name w price);
}
