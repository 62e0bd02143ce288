-- Parts that mean make a whole that means, at no more: one lemma for each rule of each name.
use Rattle.std.proofs.Common.{◌≡◌, ◌≢◌, ◌⊎◌, Bool, true, false, not, nat_le, nat_eq, IsTrue, ℕ, zero, suc, ◌<◌, ◌≤◌, ◌+◌, ◌-◌, ◌*◌, Option, None, Some, List, [], ◌∷◌, ◌++◌, length, map, arith, refl, subst, sym, ap, ◌∙◌, length-append, append-nil, inl, inr, mul-le-mul_right}
use Rattle.std.proofs.lemmas.Bool.{eqb-true}
use Rattle.model_rosters.specs.declared.grammar.Window.{Window}
use Rattle.model_rosters.specs.Folds.{In, Each}
use Rattle.plan_laws.specs.Named.{Symbol, coded, named, NamedRule, SideBySide, EachSymbol, RuleKept}
use Rattle.plan_laws.specs.declared.period_plan.Activity.{Activity}
use Rattle.plan_laws.specs.declared.period_plan.NamedLines.{NamedLines}
use Rattle.plan_laws.specs.declared.period_plan.PeriodDuty.{PeriodDuty}
use Rattle.plan_laws.specs.declared.period_plan.PeriodPart.{PeriodPart}
use Rattle.plan_laws.specs.declared.period_plan.PeriodPlan.{PeriodPlan}
use Rattle.plan_laws.specs.declared.period_plan.PeriodPart.TheVariants.{Pausing, Working}
use Rattle.plan_laws.specs.PeriodShifts.{plus_of, letter_cost, word_cost, change_cost, Alone, IsAlone, joined, AreBlocks, MayChange, IsStretch, MayBegin, IsRest, IsPart, AreParts, IsLetter, IsLine}
use Rattle.plan_laws.specs.PeriodShifts.{IsStart}
use Rattle.plan_laws.specs.Names.{Kind, day_rule, at, run, block, free_one, any_list, open_list, from, other, work, rest, off, step, steps, lead, duty, day, start, dots, lead_rules, lead_of, lead_kind, no_letters, leaves, kept_rule, early_days, change_in, plain, copies, spells_of, others, kind_of, symbols_of, duty_rule, at_rule, from_rule, block_rule, longer_rules, block_rules, touch_rules, any_rules, open_rules, work_rules, opened, numbers_from, length_rule, has_few, rest_rules, rest_kind, chosen, is_bound, Free, IsSet, IsStretchSet, IsGoodPart, IsGoodDuty, rules_for, BlocksFrom, IsDutyOf, Means, IsUsed, rank}
use Rattle.plan_laws.specs.Spells.{Spell}
use Rattle.plan_laws.proofs.SpellLemmas.{Tells, spells_tell, in_spell}
use Rattle.plan_laws.proofs.Trees.{each_in}
use Rattle.plan_laws.proofs.Sides.{map_each, all_each, one_part, Two, two_parts}
use Rattle.plan_laws.proofs.Words.{carried_word, in_numbers, word_cost-append, word_cost-one, word_cost-none, Alone-append, in_others, in_chosen, each_side}
use Rattle.plan_laws.proofs.Merge.{merge}
use Rattle.model_rosters.specs.Grammar.{IsInWindow}

-- the rule keeps the meaning of this name
abbrev Keeps : PeriodPlan → Free → Kind → NamedRule Kind → Type 0
Keeps p free k own = RuleKept p.periods (IsLetter p) (IsUsed p free) rank (Means p free) k own

-- two symbols are not one
abbrev one_name : List (Symbol Kind) → ℕ
one_name [] = 0
one_name (coded a ∷ ss) = 0
one_name (named k ∷ []) = suc (rank k)
one_name (named k ∷ s ∷ ss) = 0

low : (n : ℕ) (ss : List (Symbol Kind)) → one_name ss ≤ n → (x : Kind) → ss ≡ named x ∷ [] → rank x < n
low n ss h x e = subst (λ (ts : List (Symbol Kind)). one_name ts ≤ n) e h

module _ (p : PeriodPlan) (free : Free) (plus : ℕ) where
  at_up : (a : Activity) (x : Spell) → IsLine p a → Tells (letter_cost p plus a.code) x → Keeps p free (at plus a) (at_rule p a x)
  at_up a x line h = record {
    closed = (inr (a, line.one, refl), tt);
    up = λ i w c within fits m. (
      letter_cost p plus a.code i,
      (rw (m.1, m.2.0) refl, refl),
      let len : length w ≡ 1 = rw (m.1, m.2.0) refl in
          let here = in_spell p x i fits.first (omega (arith, len, within)) in
          let e = h.cost i here.0 here.1 in omega (arith, e),
    );
    lower = low 0 (coded a.code ∷ []) (omega arith);
  }

  copies_alone : (a : Activity) (n i : ℕ) (w : List ℕ) (c : ℕ) → SideBySide (Means p free) (copies n (at plus a)) i w c
      → Alone a.code w × (length w ≡ n) × (c ≡ word_cost p plus i w)
  copies_alone a zero i w c m = rw m.0 (tt, refl, m.1 ∙ sym (word_cost-none p plus i))
  copies_alone a (suc n) i w c m =
      let one : m.0 ≡ a.code ∷ [] = m.7.0 in
      let len : length m.0 ≡ 1 = ap length one in
      let r = copies_alone a n (i + length m.0) m.1 m.3 m.8 in
      let ew : w ≡ a.code ∷ m.1 = rw (m.4, one) refl in
      let at : word_cost p plus (i + length m.0) m.1 ≡ word_cost p plus (i + 1) m.1 = ap (λ (k : ℕ). word_cost p plus (i + k) m.1) len in
      let paid : word_cost p plus i w ≡ letter_cost p plus a.code i + word_cost p plus (i + 1) m.1 = rw ew (word_cost-one p plus i a.code m.1) in
      (rw ew (refl, r.0), rw ew (omega (arith, r.1)), omega (arith, m.5, m.7.1, r.2, at, paid))

  copies_used : (a : Activity) (n : ℕ) → IsLine p a → EachSymbol (IsLetter p) (IsUsed p free) (copies n (at plus a))
  copies_used a zero line = tt
  copies_used a (suc n) line = (line, copies_used a n line)

  copies_low : (a : Activity) (n : ℕ) → one_name (copies n (at plus a)) ≤ 1
  copies_low a zero = omega arith
  copies_low a (suc zero) = omega arith
  copies_low a (suc (suc n)) = omega arith

  -- a letter and more letters of one activity
  more_letters : (k : Kind) (a : Activity) (i : ℕ) (w : List ℕ) (c : ℕ) (t : Two (Means p free) (at plus a) k i w c) (x : ℕ) → Alone a.code t.right → t.right_cost ≡ word_cost p plus (i + length t.left) t.right
      → Alone a.code w × (length w ≡ 1 + length t.right) × (c ≡ word_cost p plus i w)
  more_letters k a i w c t x h e =
      let len : length t.left ≡ 1 = ap length t.means_left.0 in
      let ew : w ≡ a.code ∷ t.right = t.word ∙ ap (λ (v : List ℕ). v ++ t.right) t.means_left.0 in
      let at_i : word_cost p plus (i + length t.left) t.right ≡ word_cost p plus (i + 1) t.right = ap (λ (k : ℕ). word_cost p plus (i + k) t.right) len in
      let paid : word_cost p plus i w ≡ letter_cost p plus a.code i + word_cost p plus (i + 1) t.right = ap (λ (v : List ℕ). word_cost p plus i v) ew ∙ word_cost-one p plus i a.code t.right in
      let long : length w ≡ length (a.code ∷ t.right) = ap length ew in
      (subst (λ (v : List ℕ). Alone a.code v) (sym ew) (refl, h), omega (arith, long), omega (arith, t.cost, t.means_left.1, e, at_i, paid))

  run_up : (a : Activity) → IsLine p a → Each (Keeps p free (run plus a)) (rules_for p free (run plus a))
  run_up a line = (
    record {
      closed = (line, tt);
      up = λ i w c within fits m. let r = one_part (Means p free) (at plus a) i w c m in
          (c, rw r.0 ((refl, tt), omega arith, r.1 ∙ single i), omega arith);
      lower = low 1 (named (at plus a) ∷ []) (omega arith);
    },
    (
      record {
        closed = (line, (line, tt));
        up = λ i w c within fits m. let t = two_parts (Means p free) (at plus a) (run plus a) i w c m in
            let r = more_letters (run plus a) a i w c t 0 t.means_right.0 t.means_right.2 in
            (c, (r.0, omega (arith, r.1), r.2), omega arith);
        lower = low 1 (named (at plus a) ∷ named (run plus a) ∷ []) (omega arith);
      },
      tt,
    ),
  )
    where
      single : (i : ℕ) → letter_cost p plus a.code i ≡ word_cost p plus i (a.code ∷ [])
      single i = let e = word_cost-one p plus i a.code [] in let n = word_cost-none p plus (i + 1) in omega (arith, e, n)

  longer_up : (a : Activity) → IsLine p a → (more : Bool) → Each (Keeps p free (block plus a)) (longer_rules plus more a)
  longer_up a line true = (
    record {
      closed = (line, (line, tt));
      up = λ i w c within fits m. let t = two_parts (Means p free) (at plus a) (block plus a) i w c m in
          let r = more_letters (block plus a) a i w c t 0 t.means_right.0.alone t.means_right.1 in
          (c, (record { alone = r.0; least = omega (arith, fits.span.0); greatest = fits.span.1 }, r.2), omega arith);
      lower = low 2 (named (at plus a) ∷ named (block plus a) ∷ []) (omega arith);
    },
    tt,
  )
  longer_up a line false = tt

  block_up : (a : Activity) → IsLine p a → (short : Bool) → Each (Keeps p free (block plus a)) (block_rules plus short a)
  block_up a line true = (
    record {
      closed = copies_used a a.least line;
      up = λ i w c within fits m. let r = copies_alone a a.least i w c m in
          (c, (record { alone = r.0; least = omega (arith, r.1); greatest = omega (arith, r.1, line.ordered) }, r.2), omega arith);
      lower = low 2 (copies a.least (at plus a)) (omega (arith, copies_low a a.least));
    },
    longer_up a line (nat_le (a.least + 1) a.greatest),
  )
  block_up a line false = (
    record {
      closed = (line, tt);
      up = λ i w c within fits m. let r = one_part (Means p free) (run plus a) i w c m in
          (c, (record { alone = r.0; least = fits.span.0; greatest = fits.span.1 }, r.2), omega arith);
      lower = low 2 (named (run plus a) ∷ []) (omega arith);
    },
    tt,
  )

  -- one block is a list of blocks
  alone_blocks : (s : List Activity) (a : Activity) (i : ℕ) (w : List ℕ) (c : ℕ) → In a s → Means p free (block plus a) i w c
      → AreBlocks p plus s i w c (record { activity = a; word = w }) []
  alone_blocks s a i w c at_s m = record {
    lawful = (record { one = at_s; alone = m.0 }, tt);
    differ = tt;
    word = sym (append-nil w);
    cost = omega (arith, m.1);
  }

  alone_list : (s : List Activity) (P : Activity → Type 0) (a : Activity) (i : ℕ) (w : List ℕ) (c : ℕ) → In a s → IsAlone a w → c ≡ word_cost p plus i w → P a
      → BlocksFrom p plus (free plus s) s P i w c
  alone_list s P a i w c at_s m e h = record {
    first = record { activity = a; word = w };
    others = [];
    lawful = (record { one = at_s; alone = m }, tt);
    loose = tt;
    word = sym (append-nil w);
    cost = omega (arith, e);
    begins = h;
  }

  -- a block and a list behind it
  longer_list : (s : List Activity) (P Q : Activity → Type 0) (a : Activity) (i : ℕ) (w u v : List ℕ) (c x y : ℕ) → In a s → w ≡ u ++ v → c ≡ x + y
      → IsAlone a u → x ≡ word_cost p plus i u → (r : BlocksFrom p plus (free plus s) s Q (i + length u) v y)
      → (IsTrue (free plus s a)) ⊎ (r.first.activity.code ≢ a.code) → P a → BlocksFrom p plus (free plus s) s P i w (change_cost p + c)
  longer_list s P Q a i w u v c x y at_s ew ec m e r k h =
      let paid : word_cost p plus i w ≡ word_cost p plus i u + word_cost p plus (i + length u) v = rw ew (word_cost-append p plus i u v) in
      let n = length r.others in
      record {
        first = record { activity = a; word = u };
        others = r.first ∷ r.others;
        lawful = (record { one = at_s; alone = m }, r.lawful);
        loose = (k, r.loose);
        word = ew ∙ ap (λ (z : List ℕ). u ++ z) r.word;
        cost = omega (arith, ec, e, r.cost, paid);
        begins = h;
      }

  one_up : (s : List Activity) → IsSet p (free plus s) s → Each (Keeps p free (free_one plus s)) (rules_for p free (free_one plus s))
  one_up s set = map_each (Keeps p free (free_one plus s)) (block_rule plus) (chosen (free plus s) s) (all_each _ (chosen (free plus s) s) (λ a at_c. each a (in_chosen (free plus s) a s at_c)))
    where
      each : (a : Activity) → In a s × IsTrue (free plus s a) → Keeps p free (free_one plus s) (block_rule plus a)
      each a h = record {
        closed = (each_in (IsLine p) a s set.lines h.0, tt);
        up = λ i w c within fits m. let r = one_part (Means p free) (block plus a) i w c m in
            (c, record { activity = a; one = h.0; free = h.1; alone = r.0; cost = r.1 }, omega arith);
        lower = low 3 (named (block plus a) ∷ []) (omega arith);
      }

  from_up : (s : List Activity) (a : Activity) → IsSet p (free plus s) s → In a s → IsTrue (not (free plus s a)) → Each (Keeps p free (from plus s a)) (rules_for p free (from plus s a))
  from_up s a set at_s bound = (
    record {
      closed = (each_in (IsLine p) a s set.lines at_s, tt);
      up = λ i w c within fits m. let r = one_part (Means p free) (block plus a) i w c m in
          (c, alone_list s (λ x. x ≡ a) a i w c at_s r.0 r.1 refl, omega arith);
      lower = low 3 (named (block plus a) ∷ []) (omega arith);
    },
    (
      record {
        closed = (each_in (IsLine p) a s set.lines at_s, ((set, at_s, bound), tt));
        up = λ i w c within fits m. let t = two_parts (Means p free) (block plus a) (other plus s a) i w c m in
            (change_cost p + c, longer_list s (λ x. x ≡ a) (λ x. x.code ≢ a.code) a i w t.left t.right c t.left_cost t.right_cost at_s t.word t.cost t.means_left.0 t.means_left.1 t.means_right (inr t.means_right.begins) refl, omega arith);
        lower = low 3 (named (block plus a) ∷ named (other plus s a) ∷ []) (omega arith);
      },
      tt,
    ),
  )

  -- a list that begins with P begins with Q
  weaker : (s : List Activity) (P Q : Activity → Type 0) (i : ℕ) (w : List ℕ) (c : ℕ) → ((x : Activity) → In x s → P x → Q x) → BlocksFrom p plus (free plus s) s P i w c → BlocksFrom p plus (free plus s) s Q i w c
  weaker s P Q i w c h r = record { first = r.first; others = r.others; lawful = r.lawful; loose = r.loose; word = r.word; cost = r.cost; begins = h r.first.activity r.lawful.0.one r.begins }

  opens_up : (k : Kind) (s : List Activity) (P : Activity → Type 0) → IsSet p (free plus s) s → rank k ≡ 5 → ((i : ℕ) (w : List ℕ) (c : ℕ) → BlocksFrom p plus (free plus s) s P i w c → Means p free k i w c)
      → ((x : Activity) → In x s → IsTrue (free plus s x) → P x) → (xs : List Activity) → Each (Keeps p free k) (open_rules plus s xs)
  opens_up k s P set e h every [] = tt
  opens_up k s P set e h every (x ∷ xs) = (
    record {
      closed = (set, tt);
      up = λ i w c within fits m. let r = one_part (Means p free) (open_list plus s) i w c m in
          (c, h i w c (weaker s (λ x. IsTrue (free plus s x)) P i w c every r), omega arith);
      lower = rw e (low 5 (named (open_list plus s) ∷ []) (omega arith));
    },
    tt,
  )

  bound_up : (k : Kind) (s : List Activity) (P : Activity → Type 0) → IsSet p (free plus s) s → rank k ≡ 5 → ((i : ℕ) (w : List ℕ) (c : ℕ) → BlocksFrom p plus (free plus s) s P i w c → Means p free k i w c)
      → (b : Activity) → In b s → IsTrue (not (free plus s b)) → P b → Keeps p free k (from_rule plus s b)
  bound_up k s P set e h b at_s bound begins = record {
    closed = ((set, at_s, bound), tt);
    up = λ i w c within fits m. let r = one_part (Means p free) (from plus s b) i w c m in
        (c, h i w c (weaker s (λ x. x ≡ b) P i w c (λ x at_x same. subst P (sym same) begins) r), omega arith);
    lower = rw e (low 5 (named (from plus s b) ∷ []) (omega arith));
  }

  touch_up : (k : Kind) (s : List Activity) (P : Activity → Type 0) → IsSet p (free plus s) s → 4 ≤ rank k → ((i : ℕ) (w : List ℕ) (c : ℕ) → BlocksFrom p plus (free plus s) s P i w c → Means p free k i w c)
      → ((x : Activity) → In x s → IsTrue (free plus s x) → P x) → Each (Keeps p free k) (touch_rules p plus s)
  touch_up k s P set least h every = (
    record {
      closed = (set, tt);
      up = λ i w c within fits m. let r = one_part (Means p free) (free_one plus s) i w c m in
          (c, h i w c (alone_list s P r.activity i w c r.one r.alone r.cost (every r.activity r.one r.free)), omega arith);
      lower = low (rank k) (named (free_one plus s) ∷ []) least;
    },
    (
      record {
        closed = (set, (set, tt));
        up = λ i w c within fits m. let t = two_parts (Means p free) (free_one plus s) (any_list plus s) i w c m in let f = t.means_left in
            (change_cost p + c, h i w (change_cost p + c) (longer_list s P (λ x. Unit {0}) f.activity i w t.left t.right c t.left_cost t.right_cost f.one t.word t.cost f.alone f.cost t.means_right (inl f.free) (every f.activity f.one f.free)), omega arith);
        lower = low (rank k) (named (free_one plus s) ∷ named (any_list plus s) ∷ []) (omega arith);
      },
      tt,
    ),
  )

  any_up : (s : List Activity) → IsSet p (free plus s) s → (bs : List Activity) → Each (λ b. In b s × IsTrue (not (free plus s b))) bs → Each (Keeps p free (any_list plus s)) (any_rules p plus s (chosen (free plus s) s) bs)
  any_up s set [] all = touch_up (any_list plus s) s (λ x. Unit {0}) set (omega arith) (λ i w c m. m) (λ x at_s h. tt)
  any_up s set (b ∷ bs) all = each_side (Keeps p free (any_list plus s)) (open_rules plus s (chosen (free plus s) s)) (map (from_rule plus s) (b ∷ bs))
      (opens_up (any_list plus s) s (λ x. Unit {0}) set refl (λ i w c m. m) (λ x at_s h. tt) (chosen (free plus s) s))
      (map_each (Keeps p free (any_list plus s)) (from_rule plus s) (b ∷ bs) (all_each _ (b ∷ bs)
      (λ d at_d. let h = each_in (λ b. In b s × IsTrue (not (free plus s b))) d (b ∷ bs) all at_d in bound_up (any_list plus s) s (λ x. Unit {0}) set refl (λ i w c m. m) d h.0 h.1 tt)))

  other_up : (s : List Activity) (a : Activity) → IsSet p (free plus s) s → In a s → IsTrue (not (free plus s a)) → Each (Keeps p free (other plus s a)) (rules_for p free (other plus s a))
  other_up s a set at_s bound = each_side (Keeps p free (other plus s a)) (open_rules plus s (chosen (free plus s) s)) (map (from_rule plus s) (chosen (is_bound free plus s) (others a s)))
      (opens_up (other plus s a) s (λ x. x.code ≢ a.code) set refl (λ i w c m. m) (λ x at_x h. set.apart x a at_x at_s h bound) (chosen (free plus s) s))
      (map_each (Keeps p free (other plus s a)) (from_rule plus s) (chosen (is_bound free plus s) (others a s)) (all_each _ (chosen (is_bound free plus s) (others a s))
      (λ b at_c. let h = in_chosen (is_bound free plus s) b (others a s) at_c in let o = in_others a b s h.0 in
      bound_up (other plus s a) s (λ x. x.code ≢ a.code) set refl (λ i w c m. m) b o.0 h.1 o.1)))

  -- a loose list is a stretch of no more changes
  merged : (s : List Activity) (long : Window) (z i : ℕ) (w : List ℕ) (c : ℕ) → p.change ≡ Some z → IsStretchSet p (free plus s) s long.hi → IsInWindow long (length w)
      → BlocksFrom p plus (free plus s) s (λ x. Unit {0}) i w c → (d : ℕ) × IsStretch p plus s long i w d × (d ≤ 0 + c)
  merged s long z i w c e set fits r =
      let len : length (joined (r.first ∷ r.others)) ≤ long.hi = rw (← r.word) fits.1 in
      let m = merge (free plus s) s long.hi set.long r.others r.first r.lawful r.loose len in
      let less : length m.others * change_cost p ≤ length r.others * change_cost p = mul-le-mul_right (change_cost p) m.fewer in (
        word_cost p plus i w + length m.others * change_cost p,
        record {
          first = m.first;
          others = m.others;
          blocks = record { lawful = m.lawful; differ = m.differ; word = r.word ∙ m.word; cost = refl };
          change = subst (λ (o : Option ℕ). MayChange o m.others) (sym e) tt;
          long = fits;
        },
        omega (arith, less, r.cost),
      )

  work_up : (s : List Activity) (long : Window) → IsStretchSet p (free plus s) s long.hi → (ch : Option ℕ) → ((z : ℕ) → ch ≡ Some z → p.change ≡ Some z) → Each (Keeps p free (work plus s long)) (work_rules plus ch s long)
  work_up s long set None e = map_each (Keeps p free (work plus s long)) (λ (a : Activity). record (block_rule plus a) { span = long }) s (all_each _ s each)
    where
      no_others : (ch : Option ℕ) → MayChange ch []
      no_others None = refl
      no_others (Some z) = tt

      each : (a : Activity) → In a s → Keeps p free (work plus s long) (record (block_rule plus a) { span = long })
      each a at_s = record {
        closed = (each_in (IsLine p) a s set.set.lines at_s, tt);
        up = λ i w c within fits m. (
          c,
          record {
            first = record { activity = a; word = w };
            others = [];
            blocks = alone_blocks s a i w c at_s (one_part (Means p free) (block plus a) i w c m);
            change = no_others p.change;
            long = fits.span;
          },
          omega arith,
        );
        lower = low 6 (named (block plus a) ∷ []) (omega arith);
      }
  work_up s long set (Some z) e = (
    record {
      closed = (set.set, tt);
      up = λ i w c within fits m. merged s long z i w c (e z refl) set fits.span (one_part (Means p free) (any_list plus s) i w c m);
      lower = low 6 (named (any_list plus s) ∷ []) (omega arith);
    },
    tt,
  )

  changing : (s : List Activity) (z : ℕ) → change_in p s ≡ Some z → p.change ≡ Some z
  changing [] z e = e
  changing (a ∷ []) z e = absurd (none e)
    where
      none : ◌≡◌ {A = Option ℕ} None (Some z) → ⊥
      none e = cc
  changing (a ∷ b ∷ s) z e = e

  in_opened : (begin : Option Window) (i : ℕ) → IsInWindow (opened begin) i → MayBegin begin i
  in_opened None i h = tt
  in_opened (Some begin) i h = h

  rest_up : (a : Activity) (begin : Option Window) → IsLine p a → (few : Bool) → Each (Keeps p free (rest plus a begin)) (rest_rules plus few a begin)
  rest_up a begin line true =
      let ns = numbers_from a.least (suc (a.greatest - a.least)) in
      map_each (Keeps p free (rest plus a begin)) (length_rule plus a begin) ns (all_each _ ns (λ n at_ns. each n (in_numbers n a.least (suc (a.greatest - a.least)) at_ns)))
    where
      each : (n : ℕ) → (a.least ≤ n) × (n < a.least + suc (a.greatest - a.least)) → Keeps p free (rest plus a begin) (length_rule plus a begin n)
      each n h = record {
        closed = copies_used a n line;
        up = λ i w c within fits m. let r = copies_alone a n i w c m in
            (c, record { alone = record { alone = r.0; least = omega (arith, r.1, h.0); greatest = omega (arith, r.1, h.1, line.ordered) }; begins = in_opened begin i fits.first; cost = r.2 }, omega arith);
        lower = low 3 (copies n (at plus a)) (omega (arith, copies_low a n));
      }
  rest_up a begin line false = (
    record {
      closed = (line, tt);
      up = λ i w c within fits m. let r = one_part (Means p free) (block plus a) i w c m in
          (c, record { alone = r.0; begins = in_opened begin i fits.first; cost = r.1 }, omega arith);
      lower = low 3 (named (block plus a) ∷ []) (omega arith);
    },
    tt,
  )

module _ (p : PeriodPlan) (free : Free) where
  off_up : Each (Keeps p free off) (rules_for p free off)
  off_up = (
    record {
      closed = (inl refl, tt);
      up = λ i w c within fits m. (0, rw (m.1, m.2.0) ((refl, tt), omega arith, refl), omega arith);
      lower = low 0 (coded p.off ∷ []) (omega arith);
    },
    (
      record {
        closed = (inl refl, (tt, tt));
        up = λ i w c within fits m. let r = one_part (Means p free) off (i + 1) m.0 c m.2 in
            (0, rw m.1 ((refl, r.0), omega arith, refl), omega arith);
        lower = low 0 (coded p.off ∷ named off ∷ []) (omega arith);
      },
      tt,
    ),
  )

  part_used : (r : ℕ) (long : Window) (x : PeriodPart) → IsGoodPart p free r long x → IsUsed p free (kind_of r long x)
  part_used r long (Working s) h = h
  part_used r long (Pausing a begin) h = go begin (nat_eq a.greatest 1)
    where
      go : (begin : Option Window) (one : Bool) → IsUsed p free (rest_kind (plus_of r a) a begin one)
      go None true = h
      go None false = h
      go (Some window) one = h

  parts_used : (r : ℕ) (long : Window) (xs : List PeriodPart) → Each (IsGoodPart p free r long) xs → EachSymbol (IsLetter p) (IsUsed p free) (symbols_of r long xs)
  parts_used r long [] h = tt
  parts_used r long (x ∷ xs) h = (part_used r long x h.0, parts_used r long xs h.1)

  part_up : (r : ℕ) (long : Window) (x : PeriodPart) (i : ℕ) (w : List ℕ) (c : ℕ) → IsGoodPart p free r long x → Means p free (kind_of r long x) i w c → IsPart p r long x i w c
  part_up r long (Working s) i w c u m = m
  part_up r long (Pausing a begin) i w c u m = go begin (nat_eq a.greatest 1) refl m
    where
      as_rest : (begin : Option Window) → IsRest p (plus_of r a) a begin i w c → IsRest p r a begin i w c
      as_rest begin m = record { alone = m.alone; begins = m.begins; cost = m.cost ∙ carried_word p r a w i u m.alone.alone }

      go : (begin : Option Window) (one : Bool) → nat_eq a.greatest 1 ≡ one → Means p free (rest_kind (plus_of r a) a begin one) i w c → IsRest p r a begin i w c
      go None true e m =
          let greatest : a.greatest ≡ 1 = eqb-true a.greatest 1 e in
          let len : length w ≡ 1 = ap length m.0 in
          let one = word_cost-one p (plus_of r a) i a.code [] in
          let none = word_cost-none p (plus_of r a) (i + 1) in
          let paid : word_cost p (plus_of r a) i w ≡ word_cost p (plus_of r a) i (a.code ∷ []) = ap (λ (v : List ℕ). word_cost p (plus_of r a) i v) m.0 in
          as_rest None (record {
            alone = record { alone = subst (λ (v : List ℕ). Alone a.code v) (sym m.0) (refl, tt); least = omega (arith, len, greatest, u.ordered); greatest = omega (arith, len, greatest) };
            begins = tt;
            cost = omega (arith, m.1, one, none, paid);
          })
      go None false e m = as_rest None m
      go (Some window) one e m = as_rest (Some window) m

  parts_up : (r : ℕ) (long : Window) (xs : List PeriodPart) (i : ℕ) (w : List ℕ) (c : ℕ) → Each (IsGoodPart p free r long) xs → SideBySide (Means p free) (symbols_of r long xs) i w c → AreParts p r long xs i w c
  parts_up r long [] i w c u m = m
  parts_up r long (x ∷ xs) i w c u m = (m.0, m.1, m.2, m.3, m.4, m.5, part_up r long x i m.0 m.2 u.0 m.7, parts_up r long xs (i + length m.0) m.1 m.3 u.1 m.8)

  parts_low : (r : ℕ) (long : Window) (xs : List PeriodPart) → one_name (symbols_of r long xs) ≤ 7
  parts_low r long [] = omega arith
  parts_low r long (Working s ∷ []) = omega arith
  parts_low r long (Pausing a begin ∷ []) = go begin (nat_eq a.greatest 1)
    where
      go : (begin : Option Window) (one : Bool) → one_name (named (rest_kind (plus_of r a) a begin one) ∷ []) ≤ 7
      go None true = omega arith
      go None false = omega arith
      go (Some window) one = omega arith
  parts_low r long (x ∷ y ∷ xs) = omega arith

  duty_up : (tag : List ℕ) (ds : List PeriodDuty) → Each (IsGoodDuty p free) ds → Each (Keeps p free (duty tag ds)) (rules_for p free (duty tag ds))
  duty_up tag ds lines = map_each (Keeps p free (duty tag ds)) (duty_rule p) ds (all_each _ ds (λ d one. each d one))
    where
      each : (d : PeriodDuty) → In d ds → Keeps p free (duty tag ds) (duty_rule p d)
      each d one = record {
        closed = parts_used d.plus d.stretch d.parts (each_in (IsGoodDuty p free) d ds lines one).parts;
        up = λ i w c within fits m. (
          d.cost + c,
          record {
            line = d;
            one = one;
            duty = record { lasts = fits.span; begins = fits.first; ends = fits.last; paid = c; parts = parts_up d.plus d.stretch d.parts i w c (each_in (IsGoodDuty p free) d ds lines one).parts m; cost = refl };
          },
          omega arith,
        );
        lower = low 7 (symbols_of d.plus d.stretch d.parts) (parts_low d.plus d.stretch d.parts);
      }

  moved : (ds : List PeriodDuty) (i j : ℕ) (w : List ℕ) (c d : ℕ) → i ≡ j → c ≡ d → IsDutyOf p ds i w c → IsDutyOf p ds j w d
  moved ds i j w c d e f m = rw (← e, ← f) m

  -- letters of time off, and what follows them
  record Behind (n : ℕ) (ss : List (Symbol Kind)) (i : ℕ) (w : List ℕ) (c : ℕ) : Type 0 where
    left : List ℕ
    right : List ℕ
    word : w ≡ left ++ right
    alone : Alone p.off left
    long : length left ≡ n
    follows : SideBySide (Means p free) ss (i + n) right c

  dots_mean : (n : ℕ) (ss : List (Symbol Kind)) (i : ℕ) (w : List ℕ) (c : ℕ) → SideBySide (Means p free) (dots p n ++ ss) i w c → Behind n ss i w c
  dots_mean zero ss i w c m =
      let e : i ≡ i + 0 = omega arith in
      record { left = []; right = w; word = refl; alone = tt; long = refl; follows = subst (λ (j : ℕ). SideBySide (Means p free) ss j w c) e m }
  dots_mean (suc n) ss i w c m =
      let r = dots_mean n ss (i + 1) m.0 c m.2 in
      let e : i + 1 + n ≡ i + suc n = omega arith in
      record {
        left = p.off ∷ r.left;
        right = r.right;
        word = m.1 ∙ ap (λ (v : List ℕ). p.off ∷ v) r.word;
        alone = (refl, r.alone);
        long = omega (arith, r.long);
        follows = subst (λ (j : ℕ). SideBySide (Means p free) ss j r.right c) e r.follows;
      }

  only_dots : (n i : ℕ) (w : List ℕ) (c : ℕ) → SideBySide (Means p free) (dots p n) i w c → Alone p.off w × (length w ≡ n) × (c ≡ 0)
  only_dots zero i w c m = rw m.0 (tt, refl, m.1)
  only_dots (suc n) i w c m = let r = only_dots n (i + 1) m.0 c m.2 in rw m.1 ((refl, r.0), omega (arith, r.1), r.2)

  dots_used : (n : ℕ) → EachSymbol (IsLetter p) (IsUsed p free) (dots p n)
  dots_used zero = tt
  dots_used (suc n) = (inl refl, dots_used n)

  dots_then_used : 1 ≤ p.starts → (n : ℕ) → EachSymbol (IsLetter p) (IsUsed p free) (dots p n ++ named steps ∷ [])
  dots_then_used h zero = (h, tt)
  dots_then_used h (suc n) = (inl refl, dots_then_used h n)

  dots_low : (n m : ℕ) → one_name (dots p n) ≤ m
  dots_low zero m = omega arith
  dots_low (suc n) m = omega arith

  steps_up : 1 ≤ p.starts → Each (Keeps p free steps) (rules_for p free steps)
  steps_up h = (
    record {
      closed = (h, tt);
      up = λ i w c within fits m. let r = one_part (Means p free) step i w c m in (c, (r.0, (0, omega (arith, r.1)), r.2), omega arith);
      lower = low 1 (named step ∷ []) (omega arith);
    },
    (
      record {
        closed = (h, (h, tt));
        up = λ i w c within fits m. let t = two_parts (Means p free) step steps i w c m in let q = t.means_right.1.0 in
            let len : length w ≡ length t.left + length t.right = ap length t.word ∙ length-append t.left t.right in (
              c,
              (
                subst (λ (v : List ℕ). Alone p.off v) (sym t.word) (Alone-append p.off t.left t.right t.means_left.0 t.means_right.0),
                (suc q, omega (arith, len, t.means_left.1, t.means_right.1.1)),
                omega (arith, t.cost, t.means_left.2, t.means_right.2),
              ),
              omega arith,
            );
        lower = low 1 (named step ∷ named steps ∷ []) (omega arith);
      },
      tt,
    ),
  )

  lead_up : 1 ≤ p.starts → (n : ℕ) → p.first_start ≡ n → Each (Keeps p free lead) (lead_rules p n)
  lead_up h zero e = (
    record {
      closed = (h, tt);
      up = λ i w c within fits m. let r = one_part (Means p free) steps i w c m in
          (c, (r.0, omega (arith, r.1.1, h), (suc r.1.0, omega (arith, r.1.1, e)), r.2), omega arith);
      lower = low 2 (named steps ∷ []) (omega arith);
    },
    tt,
  )
  lead_up h (suc n) e = (
    record {
      closed = dots_used (suc n);
      up = λ i w c within fits m. let r = only_dots (suc n) i w c m in (c, (r.0, omega (arith, r.1), (0, omega (arith, r.1, e)), r.2), omega arith);
      lower = low 2 (dots p (suc n)) (dots_low (suc n) 2);
    },
    (
      record {
        closed = dots_then_used h (suc n);
        up = λ i w c within fits m. let b = dots_mean (suc n) (named steps ∷ []) i w c m in
            let r = one_part (Means p free) steps (i + suc n) b.right c b.follows in
            let len : length w ≡ length b.left + length b.right = ap length b.word ∙ length-append b.left b.right in (
              c,
              (
                subst (λ (v : List ℕ). Alone p.off v) (sym b.word) (Alone-append p.off b.left b.right b.alone r.0),
                omega (arith, len, b.long),
                (suc r.1.0, omega (arith, len, b.long, r.1.1, e)),
                r.2,
              ),
              omega arith,
            );
        lower = low 2 (dots p (suc n) ++ named steps ∷ []) (omega arith);
      },
      tt,
    ),
  )

  lead_used : (a b : ℕ) → 1 ≤ p.starts → IsUsed p free (lead_of a b)
  lead_used zero b h = h
  lead_used (suc zero) zero h = tt
  lead_used (suc zero) (suc b) h = h
  lead_used (suc (suc a)) zero h = h
  lead_used (suc (suc a)) (suc b) h = h

  lead_means : (a b : ℕ) → p.starts ≡ a → p.first_start ≡ b → (i : ℕ) (w : List ℕ) (c : ℕ) → Means p free (lead_of a b) i w c → Alone p.off w × IsStart p (length w) × (c ≡ 0) × (1 ≤ length w)
  lead_means zero b ea eb i w c m = (m.0, m.2, m.3, m.1)
  lead_means (suc zero) zero ea eb i w c m =
      let e : length w ≡ p.first_start + length w * p.starts = rw (ea, eb) (omega arith) in
      (m.0, (length w, e), m.2, m.1)
  lead_means (suc zero) (suc b) ea eb i w c m = (m.0, m.2, m.3, m.1)
  lead_means (suc (suc a)) zero ea eb i w c m =
      let more : suc m.1.0 * p.starts ≡ p.starts + m.1.0 * p.starts = omega arith in
      (m.0, (suc m.1.0, omega (arith, m.1.1, eb)), m.2, omega (arith, m.1.1, more, ea))
  lead_means (suc (suc a)) (suc b) ea eb i w c m = (m.0, m.2, m.3, m.1)

  some_letters : (w : List ℕ) → 1 ≤ length w → no_letters w ≡ false
  some_letters [] h = absurd (omega arith)
  some_letters (x ∷ w) h = refl

  left : (ds : List PeriodDuty) (before after : List ℕ) (early late : Bool) → no_letters before ≡ early → no_letters after ≡ late → IsTrue (leaves p ds early late)
      → IsTrue (leaves p ds (no_letters before) (no_letters after))
  left ds before after early late e f h = rw (e, f) h

  kept_up : (k : Kind) (own : NamedRule Kind) (v : Bool) → (IsTrue v → Keeps p free k own) → Each (Keeps p free k) (kept_rule v own)
  kept_up k own true h = (h refl, tt)
  kept_up k own false h = tt

  early_up : (tag : List ℕ) (ds : List PeriodDuty) → Each (IsGoodDuty p free) ds → (n : ℕ) → p.first_start ≡ n → Each (Keeps p free (day tag ds)) (early_days p n tag ds)
  early_up tag ds lines (suc n) e = tt
  early_up tag ds lines zero e = each_side (Keeps p free (day tag ds)) (kept_rule (leaves p ds true true) whole_day) (kept_rule (leaves p ds true false) before_off)
      (kept_up (day tag ds) whole_day (leaves p ds true true) one) (kept_up (day tag ds) before_off (leaves p ds true false) two)
    where
      whole_day : NamedRule Kind
      whole_day = plain 0 (named (duty tag ds) ∷ [])

      before_off : NamedRule Kind
      before_off = plain 0 (named (duty tag ds) ∷ named off ∷ [])

      one : IsTrue (leaves p ds true true) → Keeps p free (day tag ds) (plain 0 (named (duty tag ds) ∷ []))
      one l = record {
        closed = (lines, tt);
        up = λ i w c within fits m. let r = one_part (Means p free) (duty tag ds) i w c m in (
          c,
          (
            record {
              before = [];
              work = w;
              after = [];
              word = sym (append-nil w);
              off_before = tt;
              off_after = tt;
              start = (0, omega (arith, e));
              duty = moved ds i (i + 0) w c c (omega arith) refl r;
            },
            l,
          ),
          omega arith,
        );
        lower = low 8 (named (duty tag ds) ∷ []) (omega arith);
      }

      two : IsTrue (leaves p ds true false) → Keeps p free (day tag ds) (plain 0 (named (duty tag ds) ∷ named off ∷ []))
      two l = record {
        closed = (lines, (tt, tt));
        up = λ i w c within fits m. let t = two_parts (Means p free) (duty tag ds) off i w c m in (
          c,
          (
            record {
              before = [];
              work = t.left;
              after = t.right;
              word = t.word;
              off_before = tt;
              off_after = t.means_right.0;
              start = (0, omega (arith, e));
              duty = moved ds i (i + 0) t.left t.left_cost c (omega arith) (omega (arith, t.cost, t.means_right.2)) t.means_left;
            },
            left ds [] t.right true false refl (some_letters t.right t.means_right.1) l,
          ),
          omega arith,
        );
        lower = low 8 (named (duty tag ds) ∷ named off ∷ []) (omega arith);
      }

  day_up : (tag : List ℕ) (ds : List PeriodDuty) → 1 ≤ p.starts → Each (IsGoodDuty p free) ds → Each (Keeps p free (day tag ds)) (rules_for p free (day tag ds))
  day_up tag ds h lines = each_side (Keeps p free (day tag ds)) (kept_rule (leaves p ds false true) behind_off)
      (kept_rule (leaves p ds false false) between_off ++ early_days p p.first_start tag ds)
      (kept_up (day tag ds) behind_off (leaves p ds false true) one)
      (each_side (Keeps p free (day tag ds)) (kept_rule (leaves p ds false false) between_off) (early_days p p.first_start tag ds)
      (kept_up (day tag ds) between_off (leaves p ds false false) two) (early_up tag ds lines p.first_start refl))
    where
      behind_off : NamedRule Kind
      behind_off = plain 0 (named (lead_kind p) ∷ named (duty tag ds) ∷ [])

      between_off : NamedRule Kind
      between_off = plain 0 (named (lead_kind p) ∷ named (duty tag ds) ∷ named off ∷ [])

      one : IsTrue (leaves p ds false true) → Keeps p free (day tag ds) (plain 0 (named (lead_kind p) ∷ named (duty tag ds) ∷ []))
      one l = record {
        closed = (lead_used p.starts p.first_start h, (lines, tt));
        up = λ i w c within fits m. let t = two_parts (Means p free) (lead_kind p) (duty tag ds) i w c m in let led = lead_means p.starts p.first_start refl refl i t.left t.left_cost t.means_left in (
          c,
          (
            record {
              before = t.left;
              work = t.right;
              after = [];
              word = t.word ∙ ap (λ (x : List ℕ). t.left ++ x) (sym (append-nil t.right));
              off_before = led.0;
              off_after = tt;
              start = led.1;
              duty = moved ds (i + length t.left) (i + length t.left) t.right t.right_cost c refl (omega (arith, t.cost, led.2)) t.means_right;
            },
            left ds t.left [] false true (some_letters t.left led.3) refl l,
          ),
          omega arith,
        );
        lower = low 8 (named (lead_kind p) ∷ named (duty tag ds) ∷ []) (omega arith);
      }

      two : IsTrue (leaves p ds false false) → Keeps p free (day tag ds) (plain 0 (named (lead_kind p) ∷ named (duty tag ds) ∷ named off ∷ []))
      two l = record {
        closed = (lead_used p.starts p.first_start h, (lines, (tt, tt)));
        up = λ i w c within fits m. let t = two_parts (Means p free) (duty tag ds) off (i + length m.0) m.1 m.3 m.8 in let led = lead_means p.starts p.first_start refl refl i m.0 m.2 m.7 in (
          c,
          (
            record {
              before = m.0;
              work = t.left;
              after = t.right;
              word = m.4 ∙ ap (λ (x : List ℕ). m.0 ++ x) t.word;
              off_before = led.0;
              off_after = t.means_right.0;
              start = led.1;
              duty = moved ds (i + length m.0) (i + length m.0) t.left t.left_cost c refl (omega (arith, m.5, led.2, t.cost, t.means_right.2)) t.means_left;
            },
            left ds m.0 t.right false false (some_letters m.0 led.3) (some_letters t.right t.means_right.1) l,
          ),
          omega arith,
        );
        lower = low 8 (named (lead_kind p) ∷ named (duty tag ds) ∷ named off ∷ []) (omega arith);
      }

  pub up : (k : Kind) → IsUsed p free k → Each (RuleKept p.periods (IsLetter p) (IsUsed p free) rank (Means p free) k) (rules_for p free k)
  up (at r a) u = map_each (Keeps p free (at r a)) (at_rule p a) (spells_of p r a) (all_each _ (spells_of p r a) (λ x at_x. at_up p free r a x u (each_in (Tells (letter_cost p r a.code)) x (spells_of p r a) (spells_tell (letter_cost p r a.code) p.periods 1) at_x)))
  up (run r a) u = run_up p free r a u
  up (block r a) u = block_up p free r a u (nat_le a.least 8)
  up (free_one r s) u = one_up p free r s u
  up (any_list r s) u = any_up p free r s u (chosen (is_bound free r s) s) (all_each _ (chosen (is_bound free r s) s) (λ b at_c. in_chosen (is_bound free r s) b s at_c))
  up (open_list r s) u = touch_up p free r (open_list r s) s (λ x. IsTrue (free r s x)) u (omega arith) (λ i w c m. m) (λ x at_s h. h)
  up (from r s a) u = from_up p free r s a u.0 u.1 u.2
  up (other r s a) u = other_up p free r s a u.0 u.1 u.2
  up (work r s long) u = work_up p free r s long u (change_in p s) (changing p free r s)
  up (rest r a begin) u = rest_up p free r a begin u (has_few a)
  up off u = off_up
  up (duty tag ds) u = duty_up tag ds u
  up step u = (
    record {
      closed = dots_used p.starts;
      up = λ i w c within fits m. (c, only_dots p.starts i w c m, omega arith);
      lower = low 0 (dots p p.starts) (dots_low p.starts 0);
    },
    tt,
  )
  up steps u = steps_up u
  up lead u = lead_up u p.first_start refl
  up (day tag ds) u = day_up tag ds u.0 u.1
  up (start dss) u = map_each (Keeps p free (start dss)) day_rule dss (all_each _ dss (λ x at_dss. record {
    closed = ((u.0, each_in (λ (x : NamedLines). Each (IsGoodDuty p free) x.lines) x dss u.1 at_dss), tt);
    up = λ i w c within fits m. (c, (x, at_dss, one_part (Means p free) (day x.name x.lines) i w c m), omega arith);
    lower = low 9 (named (day x.name x.lines) ∷ []) (omega arith);
  }))
