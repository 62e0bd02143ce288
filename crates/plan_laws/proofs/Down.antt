-- What means has a rule and parts: one lemma for each name.
use Rattle.std.proofs.Common.{◌≡◌, ◌≢◌, Bool, true, false, not, nat_le, nat_eq, IsTrue, ◌⊎◌, ℕ, zero, suc, ◌<◌, ◌≤◌, ◌+◌, ◌-◌, ◌*◌, Option, None, Some, List, [], ◌∷◌, ◌++◌, length, map, arith, refl, subst, sym, ap, ◌∙◌, length-append, append-nil, inl, inr}
use Rattle.std.proofs.Math.Nat.{eq-or-lt_of_le}
use Rattle.std.proofs.lemmas.Bool.{eqb-true, le-leb}
use Rattle.model_rosters.specs.Grammar.{IsInWindow}
use Rattle.model_rosters.specs.declared.grammar.Window.{Window}
use Rattle.model_rosters.specs.Folds.{In, Each}
use Rattle.plan_laws.specs.Named.{Symbol, coded, named, NamedRule, Fits, SideBySide, ByRule, Kept}
use Rattle.plan_laws.specs.declared.period_plan.Activity.{Activity}
use Rattle.plan_laws.specs.declared.period_plan.NamedLines.{NamedLines}
use Rattle.plan_laws.specs.declared.period_plan.PeriodDuty.{PeriodDuty}
use Rattle.plan_laws.specs.declared.period_plan.PeriodPart.{PeriodPart}
use Rattle.plan_laws.specs.declared.period_plan.PeriodPlan.{PeriodPlan}
use Rattle.plan_laws.specs.declared.period_plan.PeriodPart.TheVariants.{Pausing, Working}
use Rattle.plan_laws.specs.PeriodShifts.{plus_of, letter_cost, word_cost, change_cost, Alone, IsAlone, Block, IsBlock, joined, Differ, AreBlocks, MayChange, MayBegin, IsRest, IsPart, AreParts, IsStart, IsLetter, IsLine}
use Rattle.plan_laws.specs.Names.{Kind, day_rule, at, run, block, free_one, any_list, open_list, from, other, work, rest, off, step, steps, lead, duty, day, start, dots, lead_rules, lead_of, lead_kind, no_letters, leaves, kept_rule, early_days, change_in, plain, copies, spells_of, others, kind_of, symbols_of, duty_rule, at_rule, from_rule, block_rule, longer_rules, block_rules, touch_rules, any_rules, open_rules, work_rules, whole, opened, numbers_from, length_rule, has_few, rest_rules, rest_kind, chosen, is_bound, Free, Loose, IsFreeBlock, IsSet, IsStretchSet, IsGoodPart, IsGoodDuty, rules_for, BlocksFrom, IsDutyOf, IsDayOf, Means, IsUsed, rank}
use Rattle.plan_laws.proofs.SpellLemmas.{Tells, spells_tell, spells_hold, to_spell}
use Rattle.plan_laws.proofs.Trees.{each_in}
use Rattle.plan_laws.proofs.Sides.{in_map, as_one, as_two}
use Rattle.plan_laws.proofs.Words.{carried_word, to_numbers, word_cost-append, word_cost-one, word_cost-none, to_others, to_chosen, in_first, in_second}
use Rattle.plan_laws.proofs.Merge.{loose}
use Rattle.plan_laws.proofs.Up.{up}

module _ (p : PeriodPlan) where
  -- nothing that means is empty
  block_some : (a : Activity) (w : List ℕ) → IsLine p a → IsAlone a w → 0 < length w
  block_some a w line h = omega (arith, line.some, h.least)

  first_some : (s : List Activity) (b : Block) → Each (IsLine p) s → IsBlock s b → 0 < length b.word
  first_some s b lines h = block_some b.activity b.word (each_in (IsLine p) b.activity s lines h.one) h.alone

  blocks_some : (s : List Activity) (b : Block) (bs : List Block) (w : List ℕ) → Each (IsLine p) s → Each (IsBlock s) (b ∷ bs) → w ≡ joined (b ∷ bs) → 0 < length w
  blocks_some s b bs w lines lawful word = rw word (omega (arith, first_some s b lines lawful.0, length-append b.word (joined bs)))

  -- what stands in the day fits where nothing is said
  record Here (i : ℕ) (w : List ℕ) : Type 0 where
    begins : 1 ≤ i
    some : 1 ≤ length w
    within : i + length w ≤ p.periods + 1
    few : p.periods ≤ 96

  plain_fits : (cost : ℕ) (right : List (Symbol Kind)) (i : ℕ) (w : List ℕ) → Here i w → Fits (plain cost right) i (length w)
  plain_fits cost right i w h = record {
    span = (h.some, omega (arith, h.begins, h.within, h.few));
    first = (h.begins, omega (arith, h.some, h.within, h.few));
    last = (omega (arith, h.begins, h.some), omega (arith, h.within, h.few));
  }

module _ (p : PeriodPlan) (free : Free) (plus : ℕ) where
  list_some : (s : List Activity) (P : Activity → Type 0) (i : ℕ) (w : List ℕ) (c : ℕ) → Each (IsLine p) s → BlocksFrom p plus (free plus s) s P i w c → 0 < length w
  list_some s P i w c lines r = blocks_some p s r.first r.others w lines r.lawful r.word

  at_down : (a : Activity) (i : ℕ) (w : List ℕ) (c : ℕ) → Means p free (at plus a) i w c → Here p i w → ByRule (rules_for p free (at plus a)) (Means p free) i w c
  at_down a i w c m h =
      let f = plain_fits p 0 [] i w h in
      let s = spells_hold (letter_cost p plus a.code) p.periods 1 i h.begins (omega (arith, h.some, h.within)) in
      let tells = each_in (Tells (letter_cost p plus a.code)) s.spell (spells_of p plus a) (spells_tell (letter_cost p plus a.code) p.periods 1) s.one in
      record {
        own = at_rule p a s.spell;
        paid = 0;
        one = in_map (at_rule p a) s.spell (spells_of p plus a) s.one;
        fits = record { span = f.span; first = to_spell p s.spell i s.begun s.open_yet f.first; last = f.last };
        parts = ([], m.0, (refl, refl));
        cost = omega (arith, m.1, tells.cost i s.begun s.open_yet);
      }

  alone_copies : (a : Activity) (w : List ℕ) (i : ℕ) → Alone a.code w → SideBySide (Means p free) (copies (length w) (at plus a)) i w (word_cost p plus i w)
  alone_copies a [] i h = (refl, word_cost-none p plus i)
  alone_copies a (x ∷ w) i h =
      let paid : word_cost p plus i (x ∷ w) ≡ letter_cost p plus a.code i + word_cost p plus (i + 1) w = word_cost-one p plus i x w ∙ ap (λ (y : ℕ). letter_cost p plus y i + word_cost p plus (i + 1) w) h.0 in
      (a.code ∷ [], w, letter_cost p plus a.code i, word_cost p plus (i + 1) w, ap (λ (y : ℕ). y ∷ w) h.0, paid, omega arith, (refl, refl), alone_copies a w (i + 1) h.1)

  block_down : (a : Activity) (i : ℕ) (w : List ℕ) (c : ℕ) → IsLine p a → Means p free (block plus a) i w c → Here p i w → (short : Bool) → ByRule (block_rules plus short a) (Means p free) i w c
  block_down a i w c line m h true = go (eq-or-lt_of_le m.0.least)
    where
      more_rule : NamedRule Kind
      more_rule = record (plain 0 (named (at plus a) ∷ named (block plus a) ∷ [])) { span = record { lo = a.least + 1; hi = a.greatest } }

      more_in : (v : Bool) → v ≡ true → In more_rule (longer_rules plus v a)
      more_in true e = inl refl
      more_in false e = cc

      longer : (w : List ℕ) → c ≡ word_cost p plus i w → IsAlone a w → Here p i w → a.least < length w → ByRule (block_rules plus true a) (Means p free) i w c
      longer [] e m h lt = absurd (omega arith)
      longer (x ∷ v) e m h lt =
          let f = plain_fits p 0 [] i (x ∷ v) h in
          let paid : word_cost p plus i (x ∷ v) ≡ letter_cost p plus a.code i + word_cost p plus (i + 1) v = word_cost-one p plus i x v ∙ ap (λ (y : ℕ). letter_cost p plus y i + word_cost p plus (i + 1) v) m.alone.0 in
          let more : a.least + 1 ≤ a.greatest = omega (arith, lt, m.greatest) in
          record {
            own = more_rule;
            paid = c;
            one = inr (more_in (nat_le (a.least + 1) a.greatest) (le-leb (a.least + 1) a.greatest more));
            fits = record { span = (omega arith, m.greatest); first = f.first; last = f.last };
            parts = as_two (Means p free) (at plus a) (block plus a) i (x ∷ v) (a.code ∷ []) v c (letter_cost p plus a.code i) (word_cost p plus (i + 1) v)
                (ap (λ (y : ℕ). y ∷ v) m.alone.0) (e ∙ paid) (refl, refl) (omega arith)
                (record { alone = m.alone.1; least = omega arith; greatest = omega (arith, m.greatest) }, refl) (omega (arith, line.some));
            cost = omega arith;
          }

      go : (a.least ≡ length w) ⊎ (a.least < length w) → ByRule (block_rules plus true a) (Means p free) i w c
      go (inl e) = record {
        own = plain 0 (copies a.least (at plus a));
        paid = c;
        one = inl refl;
        fits = plain_fits p 0 (copies a.least (at plus a)) i w h;
        parts = subst (λ (n : ℕ). SideBySide (Means p free) (copies n (at plus a)) i w c) (sym e) (rw m.1 (alone_copies a w i m.0.alone));
        cost = omega arith;
      }
      go (inr lt) = longer w m.1 m.0 h lt
  block_down a i w c line m h false =
      let f = plain_fits p 0 [] i w h in
      record {
        own = record (plain 0 (named (run plus a) ∷ [])) { span = record { lo = a.least; hi = a.greatest } };
        paid = c;
        one = inl refl;
        fits = record { span = (m.0.least, m.0.greatest); first = f.first; last = f.last };
        parts = as_one (Means p free) (run plus a) i w c (m.0.alone, h.some, m.1) h.some;
        cost = omega arith;
      }

  run_down : (a : Activity) (w : List ℕ) (i c : ℕ) → Means p free (run plus a) i w c → Here p i w → ByRule (rules_for p free (run plus a)) (Means p free) i w c
  run_down a [] i c m h = absurd (omega (arith, h.some))
  run_down a (x ∷ []) i c m h =
      let e = word_cost-one p plus i x [] in let n = word_cost-none p plus (i + 1) in
      let same : letter_cost p plus x i ≡ letter_cost p plus a.code i = ap (λ (y : ℕ). letter_cost p plus y i) m.0.0 in
      record {
        own = plain 0 (named (at plus a) ∷ []);
        paid = c;
        one = inl refl;
        fits = plain_fits p 0 (named (at plus a) ∷ []) i (x ∷ []) h;
        parts = as_one (Means p free) (at plus a) i (x ∷ []) c (ap (λ (y : ℕ). y ∷ []) m.0.0, omega (arith, m.2, e, n, same)) h.some;
        cost = omega arith;
      }
  run_down a (x ∷ y ∷ v) i c m h =
      let e = word_cost-one p plus i x (y ∷ v) in
      let same : letter_cost p plus x i ≡ letter_cost p plus a.code i = ap (λ (z : ℕ). letter_cost p plus z i) m.0.0 in
      record {
        own = plain 0 (named (at plus a) ∷ named (run plus a) ∷ []);
        paid = c;
        one = inr (inl refl);
        fits = plain_fits p 0 (named (at plus a) ∷ named (run plus a) ∷ []) i (x ∷ y ∷ v) h;
        parts = as_two (Means p free) (at plus a) (run plus a) i (x ∷ y ∷ v) (a.code ∷ []) (y ∷ v) c (letter_cost p plus a.code i) (word_cost p plus (i + 1) (y ∷ v))
            (ap (λ (z : ℕ). z ∷ y ∷ v) m.0.0) (omega (arith, m.2, e, same)) (refl, refl) (omega arith) (m.0.1, omega arith, refl) (omega arith);
        cost = omega arith;
      }

  -- the list behind a first block
  behind : (s : List Activity) (P : Activity → Type 0) (i : ℕ) (w : List ℕ) (c : ℕ) (b d : Block) (ds : List Block) → Each (IsBlock s) (b ∷ d ∷ ds) → Loose (free plus s) (b ∷ d ∷ ds)
      → w ≡ joined (b ∷ d ∷ ds) → c ≡ word_cost p plus i w + length (d ∷ ds) * change_cost p → P d.activity
      → (x : ℕ) × BlocksFrom p plus (free plus s) s P (i + length b.word) (joined (d ∷ ds)) x × (c ≡ change_cost p + (word_cost p plus i b.word + x))
  behind s P i w c b d ds lawful loose word cost h =
      let v = joined (d ∷ ds) in
      let z = change_cost p in
      let paid : word_cost p plus i w ≡ word_cost p plus i b.word + word_cost p plus (i + length b.word) v = rw word (word_cost-append p plus i b.word v) in (
        word_cost p plus (i + length b.word) v + length ds * z,
        record { first = d; others = ds; lawful = lawful.1; loose = loose.1; word = refl; cost = refl; begins = h },
        omega (arith, cost, paid),
      )

  one_down : (s : List Activity) (i : ℕ) (w : List ℕ) (c : ℕ) → IsFreeBlock p plus (free plus s) s i w c → Here p i w → ByRule (rules_for p free (free_one plus s)) (Means p free) i w c
  one_down s i w c m h = record {
    own = block_rule plus m.activity;
    paid = c;
    one = in_map (block_rule plus) m.activity (chosen (free plus s) s) (to_chosen (free plus s) m.activity s m.one m.free);
    fits = plain_fits p 0 (named (block plus m.activity) ∷ []) i w h;
    parts = as_one (Means p free) (block plus m.activity) i w c (m.alone, m.cost) h.some;
    cost = omega arith;
  }

  open_down : (s : List Activity) (i : ℕ) (w : List ℕ) (c : ℕ) → IsSet p (free plus s) s → Means p free (open_list plus s) i w c → Here p i w → ByRule (rules_for p free (open_list plus s)) (Means p free) i w c
  open_down s i w c set m h = go m.first m.others m.lawful m.loose m.word m.cost m.begins
    where
      go : (b : Block) (bs : List Block) → Each (IsBlock s) (b ∷ bs) → Loose (free plus s) (b ∷ bs) → w ≡ joined (b ∷ bs) → c ≡ word_cost p plus i w + length bs * change_cost p → IsTrue (free plus s b.activity)
          → ByRule (rules_for p free (open_list plus s)) (Means p free) i w c
      go b [] lawful loose e ec f =
          let word : b.word ≡ w = sym (e ∙ append-nil b.word) in
          let alone : IsAlone b.activity w = subst (λ (v : List ℕ). IsAlone b.activity v) word lawful.0.alone in
          record {
            own = plain 0 (named (free_one plus s) ∷ []);
            paid = c;
            one = inl refl;
            fits = plain_fits p 0 (named (free_one plus s) ∷ []) i w h;
            parts = as_one (Means p free) (free_one plus s) i w c (record { activity = b.activity; one = lawful.0.one; free = f; alone = alone; cost = omega (arith, ec) }) h.some;
            cost = omega arith;
          }
      go b (d ∷ ds) lawful loose e ec f =
          let r = behind s (λ x. Unit {0}) i w c b d ds lawful loose e ec tt in
          record {
            own = plain (change_cost p) (named (free_one plus s) ∷ named (any_list plus s) ∷ []);
            paid = word_cost p plus i b.word + r.0;
            one = inr (inl refl);
            fits = plain_fits p (change_cost p) (named (free_one plus s) ∷ named (any_list plus s) ∷ []) i w h;
            parts = as_two (Means p free) (free_one plus s) (any_list plus s) i w b.word (joined (d ∷ ds)) (word_cost p plus i b.word + r.0) (word_cost p plus i b.word) r.0 e refl
                (record { activity = b.activity; one = lawful.0.one; free = f; alone = lawful.0.alone; cost = refl }) (first_some p s b set.lines lawful.0)
                r.1 (list_some s (λ x. Unit {0}) (i + length b.word) (joined (d ∷ ds)) r.0 set.lines r.1);
            cost = r.2;
          }

  from_down : (s : List Activity) (a : Activity) (i : ℕ) (w : List ℕ) (c : ℕ) → IsSet p (free plus s) s → IsTrue (not (free plus s a)) → Means p free (from plus s a) i w c → Here p i w → ByRule (rules_for p free (from plus s a)) (Means p free) i w c
  from_down s a i w c set bound m h = go m.first m.others m.lawful m.loose m.word m.cost m.begins
    where
      apart : (x : Activity) (d : Block) → x ≡ a → IsTrue (free plus s x) ⊎ (d.activity.code ≢ x.code) → d.activity.code ≢ a.code
      apart x d e (inl f) = absurd (clash (free plus s a) (subst (λ (y : Activity). IsTrue (free plus s y)) e f) bound)
        where
          clash : (v : Bool) → IsTrue v → IsTrue (not v) → ⊥
          clash true f n = cc
          clash false f n = cc
      apart x d e (inr ne) = subst (λ (y : Activity). d.activity.code ≢ y.code) e ne

      go : (b : Block) (bs : List Block) → Each (IsBlock s) (b ∷ bs) → Loose (free plus s) (b ∷ bs) → w ≡ joined (b ∷ bs) → c ≡ word_cost p plus i w + length bs * change_cost p → b.activity ≡ a
          → ByRule (rules_for p free (from plus s a)) (Means p free) i w c
      go b [] lawful loose e ec same =
          let word : b.word ≡ w = sym (e ∙ append-nil b.word) in
          let alone : IsAlone a w = subst (λ (v : List ℕ). IsAlone a v) word (subst (λ (y : Activity). IsAlone y b.word) same lawful.0.alone) in
          record {
            own = plain 0 (named (block plus a) ∷ []);
            paid = c;
            one = inl refl;
            fits = plain_fits p 0 (named (block plus a) ∷ []) i w h;
            parts = as_one (Means p free) (block plus a) i w c (alone, omega (arith, ec)) h.some;
            cost = omega arith;
          }
      go b (d ∷ ds) lawful loose e ec same =
          let r = behind s (λ x. x.code ≢ a.code) i w c b d ds lawful loose e ec (apart b.activity d same loose.0) in
          let alone : IsAlone a b.word = subst (λ (y : Activity). IsAlone y b.word) same lawful.0.alone in
          record {
            own = plain (change_cost p) (named (block plus a) ∷ named (other plus s a) ∷ []);
            paid = word_cost p plus i b.word + r.0;
            one = inr (inl refl);
            fits = plain_fits p (change_cost p) (named (block plus a) ∷ named (other plus s a) ∷ []) i w h;
            parts = as_two (Means p free) (block plus a) (other plus s a) i w b.word (joined (d ∷ ds)) (word_cost p plus i b.word + r.0) (word_cost p plus i b.word) r.0 e refl
                (alone, refl) (first_some p s b set.lines lawful.0)
                r.1 (list_some s (λ x. x.code ≢ a.code) (i + length b.word) (joined (d ∷ ds)) r.0 set.lines r.1);
            cost = r.2;
          }

  again : (s : List Activity) (P Q : Activity → Type 0) (i : ℕ) (w : List ℕ) (c : ℕ) (r : BlocksFrom p plus (free plus s) s P i w c) → Q r.first.activity → BlocksFrom p plus (free plus s) s Q i w c
  again s P Q i w c r h = record { first = r.first; others = r.others; lawful = r.lawful; loose = r.loose; word = r.word; cost = r.cost; begins = h }

  -- where one is free a list may begin so
  open_one : (s xs : List Activity) (x : Activity) → In x xs → In (plain 0 (named (open_list plus s) ∷ [])) (open_rules plus s xs)
  open_one s [] x at_xs = absurd at_xs
  open_one s (y ∷ ys) x at_xs = inl refl

  -- a list begins with a free activity, or with a bound one of these
  first_down : (s t : List Activity) (P : Activity → Type 0) (i : ℕ) (w : List ℕ) (c : ℕ) (r : BlocksFrom p plus (free plus s) s P i w c) → In r.first.activity t → Here p i w
      → ByRule (open_rules plus s (chosen (free plus s) s) ++ map (from_rule plus s) (chosen (is_bound free plus s) t)) (Means p free) i w c
  first_down s t P i w c r at_t h = go (free plus s r.first.activity) refl
    where
      go : (v : Bool) → free plus s r.first.activity ≡ v → ByRule (open_rules plus s (chosen (free plus s) s) ++ map (from_rule plus s) (chosen (is_bound free plus s) t)) (Means p free) i w c
      go true e = record {
        own = plain 0 (named (open_list plus s) ∷ []);
        paid = c;
        one = in_first (plain 0 (named (open_list plus s) ∷ [])) (open_rules plus s (chosen (free plus s) s)) (map (from_rule plus s) (chosen (is_bound free plus s) t))
            (open_one s (chosen (free plus s) s) r.first.activity (to_chosen (free plus s) r.first.activity s r.lawful.0.one e));
        fits = plain_fits p 0 (named (open_list plus s) ∷ []) i w h;
        parts = as_one (Means p free) (open_list plus s) i w c (again s P (λ x. IsTrue (free plus s x)) i w c r e) h.some;
        cost = omega arith;
      }
      go false e =
          let bound : IsTrue (not (free plus s r.first.activity)) = ap not e in
          record {
            own = from_rule plus s r.first.activity;
            paid = c;
            one = in_second (from_rule plus s r.first.activity) (open_rules plus s (chosen (free plus s) s)) (map (from_rule plus s) (chosen (is_bound free plus s) t))
                (in_map (from_rule plus s) r.first.activity (chosen (is_bound free plus s) t) (to_chosen (is_bound free plus s) r.first.activity t at_t bound));
            fits = plain_fits p 0 (named (from plus s r.first.activity) ∷ []) i w h;
            parts = as_one (Means p free) (from plus s r.first.activity) i w c (again s P (λ x. x ≡ r.first.activity) i w c r refl) h.some;
            cost = omega arith;
          }

  any_down : (s : List Activity) (i : ℕ) (w : List ℕ) (c : ℕ) → IsSet p (free plus s) s → Means p free (any_list plus s) i w c → Here p i w → (bs : List Activity) → chosen (is_bound free plus s) s ≡ bs
      → ByRule (any_rules p plus s (chosen (free plus s) s) bs) (Means p free) i w c
  any_down s i w c set m h (b ∷ bs) e =
      subst (λ (xs : List Activity). ByRule (open_rules plus s (chosen (free plus s) s) ++ map (from_rule plus s) xs) (Means p free) i w c) e (first_down s s (λ x. Unit {0}) i w c m m.lawful.0.one h)
  any_down s i w c set m h [] e = go (free plus s m.first.activity) refl
    where
      go : (v : Bool) → free plus s m.first.activity ≡ v → ByRule (touch_rules p plus s) (Means p free) i w c
      go true f = open_down s i w c set (again s (λ x. Unit {0}) (λ x. IsTrue (free plus s x)) i w c m f) h
      go false f = absurd (subst (λ (xs : List Activity). In m.first.activity xs) e (to_chosen (is_bound free plus s) m.first.activity s m.lawful.0.one (ap not f)))

  work_down : (s : List Activity) (long : Window) (i : ℕ) (w : List ℕ) (c : ℕ) → IsStretchSet p (free plus s) s long.hi → Means p free (work plus s long) i w c → Here p i w → ByRule (rules_for p free (work plus s long)) (Means p free) i w c
  work_down s long i w c set m h = go (change_in p s) m.others (narrow s m.others m.blocks.lawful m.blocks.differ m.change) m.blocks
    where
      narrow : (s : List Activity) (bs : List Block) → Each (IsBlock s) (m.first ∷ bs) → Differ (m.first ∷ bs) → MayChange p.change bs → MayChange (change_in p s) bs
      narrow [] bs lawful differ h = h
      narrow (a ∷ b ∷ s) bs lawful differ h = h
      narrow (a ∷ []) [] lawful differ h = refl
      narrow (a ∷ []) (d ∷ ds) lawful differ h = absurd (differ.0 (ap (λ (x : Activity). x.code) (only d.activity lawful.1.0.one ∙ sym (only m.first.activity lawful.0.one))))
        where
          only : (x : Activity) → In x (a ∷ []) → x ≡ a
          only x (inl e) = e
          only x (inr e) = absurd e

      go : (ch : Option ℕ) (bs : List Block) → MayChange ch bs → AreBlocks p plus s i w c m.first bs → ByRule (work_rules plus ch s long) (Means p free) i w c
      go None bs no_more r =
          let word : m.first.word ≡ w = sym (r.word ∙ (ap (λ (xs : List Block). joined (m.first ∷ xs)) no_more ∙ append-nil m.first.word)) in
          let none : length bs ≡ 0 = ap length no_more in
          let paid : length bs * change_cost p ≡ 0 = rw none (omega arith) in
          let f = plain_fits p 0 [] i w h in
          let b = m.first.activity in
          record {
            own = record (block_rule plus b) { span = long };
            paid = c;
            one = in_map (λ (a : Activity). record (block_rule plus a) { span = long }) b s r.lawful.0.one;
            fits = record { span = m.long; first = f.first; last = f.last };
            parts = as_one (Means p free) (block plus b) i w c (subst (λ (v : List ℕ). IsAlone b v) word r.lawful.0.alone, omega (arith, r.cost, paid)) h.some;
            cost = omega arith;
          }
      go (Some z) bs change r =
          let f = plain_fits p 0 [] i w h in
          record {
            own = record (plain 0 (named (any_list plus s) ∷ [])) { span = long };
            paid = c;
            one = inl refl;
            fits = record { span = m.long; first = f.first; last = f.last };
            parts = as_one (Means p free) (any_list plus s) i w c
                (record { first = m.first; others = bs; lawful = r.lawful; loose = loose (free plus s) s long.hi set.long (m.first ∷ bs) r.differ; word = r.word; cost = r.cost; begins = tt }) h.some;
            cost = omega arith;
          }

  to_opened : (begin : Option Window) (i : ℕ) → MayBegin begin i → IsInWindow whole i → IsInWindow (opened begin) i
  to_opened None i m h = h
  to_opened (Some begin) i m h = m

  rest_down : (a : Activity) (begin : Option Window) (i : ℕ) (w : List ℕ) (c : ℕ) → Means p free (rest plus a begin) i w c → Here p i w → (few : Bool) → ByRule (rest_rules plus few a begin) (Means p free) i w c
  rest_down a begin i w c m h true =
      let f = plain_fits p 0 [] i w h in
      let ns = numbers_from a.least (suc (a.greatest - a.least)) in
      record {
        own = length_rule plus a begin (length w);
        paid = c;
        one = in_map (length_rule plus a begin) (length w) ns (to_numbers (length w) a.least (suc (a.greatest - a.least)) m.alone.least (omega (arith, m.alone.least, m.alone.greatest)));
        fits = record { span = f.span; first = to_opened begin i m.begins f.first; last = f.last };
        parts = rw m.cost (alone_copies a w i m.alone.alone);
        cost = omega arith;
      }
  rest_down a begin i w c m h false =
      let f = plain_fits p 0 [] i w h in
      record {
        own = record (plain 0 (named (block plus a) ∷ [])) { first = opened begin };
        paid = c;
        one = inl refl;
        fits = record { span = f.span; first = to_opened begin i m.begins f.first; last = f.last };
        parts = as_one (Means p free) (block plus a) i w c (m.alone, m.cost) h.some;
        cost = omega arith;
      }

module _ (p : PeriodPlan) (free : Free) where
  part_some : (r : ℕ) (long : Window) (x : PeriodPart) (i : ℕ) (w : List ℕ) (c : ℕ) → IsGoodPart p free r long x → IsPart p r long x i w c → 0 < length w
  part_some r long (Working s) i w c u m = blocks_some p s m.first m.others w u.set.lines m.blocks.lawful m.blocks.word
  part_some r long (Pausing a begin) i w c u m = block_some p a w u m.alone

  parts_some : (r : ℕ) (long : Window) (xs : List PeriodPart) (i : ℕ) (w : List ℕ) (c : ℕ) → Each (IsGoodPart p free r long) xs → 1 ≤ length xs → AreParts p r long xs i w c → 0 < length w
  parts_some r long [] i w c u some m = absurd (omega arith)
  parts_some r long (x ∷ xs) i w c u some m = rw m.4 (omega (arith, part_some r long x i m.0 m.2 u.0 m.6, length-append m.0 m.1))

  duty_some : (ds : List PeriodDuty) (i : ℕ) (w : List ℕ) (c : ℕ) → Each (IsGoodDuty p free) ds → IsDutyOf p ds i w c → 0 < length w
  duty_some ds i w c u m =
      let line = each_in (IsGoodDuty p free) m.line ds u m.one in
      parts_some m.line.plus m.line.stretch m.line.parts i w m.duty.paid line.parts line.some m.duty.parts

  pub some : (k : Kind) (i : ℕ) (w : List ℕ) (c : ℕ) → IsUsed p free k → Means p free k i w c → 0 < length w
  some (at r a) i w c u m = rw m.0 (omega arith)
  some (run r a) i w c u m = m.1
  some (block r a) i w c u m = block_some p a w u m.0
  some (free_one r s) i w c u m = block_some p m.activity w (each_in (IsLine p) m.activity s u.lines m.one) m.alone
  some (any_list r s) i w c u m = list_some p free r s (λ x. Unit {0}) i w c u.lines m
  some (open_list r s) i w c u m = list_some p free r s (λ x. IsTrue (free r s x)) i w c u.lines m
  some (from r s a) i w c u m = list_some p free r s (λ x. x ≡ a) i w c u.0.lines m
  some (other r s a) i w c u m = list_some p free r s (λ x. x.code ≢ a.code) i w c u.0.lines m
  some (work r s long) i w c u m = blocks_some p s m.first m.others w u.set.lines m.blocks.lawful m.blocks.word
  some (rest r a begin) i w c u m = block_some p a w u m.alone
  some off i w c u m = m.1
  some step i w c u m = omega (arith, m.1, u)
  some steps i w c u m = let more : suc m.1.0 * p.starts ≡ p.starts + m.1.0 * p.starts = omega arith in omega (arith, m.1.1, more, u)
  some lead i w c u m = m.1
  some (duty tag ds) i w c u m = duty_some ds i w c u m
  some (start dss) i w c u m =
      let ds = each_in (λ (x : NamedLines). Each (IsGoodDuty p free) x.lines) m.0 dss u.1 m.1 in
      let d = m.2.0 in
      let inner = duty_some m.0.lines (i + length d.before) d.work c ds d.duty in
      rw d.word (omega (arith, inner, length-append d.before (d.work ++ d.after), length-append d.work d.after))
  some (day tag ds) i w c u m =
      let d = m.0 in
      let inner = duty_some ds (i + length d.before) d.work c u.1 d.duty in
      rw d.word (omega (arith, inner, length-append d.before (d.work ++ d.after), length-append d.work d.after))

  off_down : (w : List ℕ) (i c : ℕ) → Means p free off i w c → Here p i w → ByRule (rules_for p free off) (Means p free) i w c
  off_down [] i c m h = absurd (omega (arith, h.some))
  off_down (x ∷ []) i c m h = record {
    own = plain 0 (coded p.off ∷ []);
    paid = 0;
    one = inl refl;
    fits = plain_fits p 0 (coded p.off ∷ []) i (x ∷ []) h;
    parts = ([], ap (λ (y : ℕ). y ∷ []) m.0.0, (refl, refl));
    cost = omega (arith, m.2);
  }
  off_down (x ∷ y ∷ v) i c m h = record {
    own = plain 0 (coded p.off ∷ named off ∷ []);
    paid = 0;
    one = inr (inl refl);
    fits = plain_fits p 0 (coded p.off ∷ named off ∷ []) i (x ∷ y ∷ v) h;
    parts = (y ∷ v, ap (λ (z : ℕ). z ∷ y ∷ v) m.0.0, as_one (Means p free) off (i + 1) (y ∷ v) 0 (m.0.1, omega arith, refl) (omega arith));
    cost = omega (arith, m.2);
  }

  part_down : (r : ℕ) (long : Window) (x : PeriodPart) (i : ℕ) (w : List ℕ) (c : ℕ) → IsGoodPart p free r long x → IsPart p r long x i w c → Means p free (kind_of r long x) i w c
  part_down r long (Working s) i w c u m = m
  part_down r long (Pausing a begin) i w c u m = go begin (nat_eq a.greatest 1) refl m
    where
      as_rest : (begin : Option Window) → IsRest p r a begin i w c → IsRest p (plus_of r a) a begin i w c
      as_rest begin m = record { alone = m.alone; begins = m.begins; cost = m.cost ∙ sym (carried_word p r a w i u m.alone.alone) }

      -- a rest of one letter
      letter : (w : List ℕ) → a.greatest ≡ 1 → IsAlone a w → c ≡ word_cost p (plus_of r a) i w → (w ≡ a.code ∷ []) × (c ≡ letter_cost p (plus_of r a) a.code i)
      letter [] e h paid = absurd (omega (arith, h.least, u.some))
      letter (x ∷ y ∷ v) e h paid = absurd (omega (arith, h.greatest, e))
      letter (x ∷ []) e h paid =
          let same : letter_cost p (plus_of r a) x i ≡ letter_cost p (plus_of r a) a.code i = ap (λ (n : ℕ). letter_cost p (plus_of r a) n i) h.alone.0 in
          (ap (λ (n : ℕ). n ∷ []) h.alone.0, omega (arith, paid, word_cost-one p (plus_of r a) i x [], word_cost-none p (plus_of r a) (i + 1), same))

      go : (begin : Option Window) (one : Bool) → nat_eq a.greatest 1 ≡ one → IsRest p r a begin i w c → Means p free (rest_kind (plus_of r a) a begin one) i w c
      go None true e m = let n = as_rest None m in letter w (eqb-true a.greatest 1 e) n.alone n.cost
      go None false e m = as_rest None m
      go (Some window) one e m = as_rest (Some window) m

  parts_down : (r : ℕ) (long : Window) (xs : List PeriodPart) (i : ℕ) (w : List ℕ) (c : ℕ) → Each (IsGoodPart p free r long) xs → AreParts p r long xs i w c → SideBySide (Means p free) (symbols_of r long xs) i w c
  parts_down r long [] i w c u m = m
  parts_down r long (x ∷ xs) i w c u m =
      (m.0, m.1, m.2, m.3, m.4, m.5, part_some r long x i m.0 m.2 u.0 m.6, part_down r long x i m.0 m.2 u.0 m.6, parts_down r long xs (i + length m.0) m.1 m.3 u.1 m.7)

  duty_down : (tag : List ℕ) (ds : List PeriodDuty) (i : ℕ) (w : List ℕ) (c : ℕ) → Each (IsGoodDuty p free) ds → Means p free (duty tag ds) i w c → Here p i w → ByRule (rules_for p free (duty tag ds)) (Means p free) i w c
  duty_down tag ds i w c u m h =
      let d = m.line in
      let line = each_in (IsGoodDuty p free) d ds u m.one in
      record {
        own = duty_rule p d;
        paid = m.duty.paid;
        one = in_map (duty_rule p) d ds m.one;
        fits = record { span = m.duty.lasts; first = m.duty.begins; last = m.duty.ends };
        parts = parts_down d.plus d.stretch d.parts i w m.duty.paid line.parts m.duty.parts;
        cost = m.duty.cost;
      }

  moved : (ds : List PeriodDuty) (i j : ℕ) (w : List ℕ) (c : ℕ) → i ≡ j → IsDutyOf p ds i w c → IsDutyOf p ds j w c
  moved ds i j w c e m = rw (← e) m

  alone_dots : (w : List ℕ) (i : ℕ) → Alone p.off w → SideBySide (Means p free) (dots p (length w)) i w 0
  alone_dots [] i h = (refl, refl)
  alone_dots (x ∷ w) i h = (w, ap (λ (y : ℕ). y ∷ w) h.0, alone_dots w (i + 1) h.1)

  -- the first letters, and the others
  record Cut (n : ℕ) (w : List ℕ) : Type 0 where
    left : List ℕ
    right : List ℕ
    word : w ≡ left ++ right
    long : length left ≡ n
    alone : Alone p.off left × Alone p.off right

  cut : (n : ℕ) (w : List ℕ) → Alone p.off w → n ≤ length w → Cut n w
  cut zero w h le = record { left = []; right = w; word = refl; long = refl; alone = (tt, h) }
  cut (suc n) [] h le = absurd (omega arith)
  cut (suc n) (x ∷ w) h le =
      let r = cut n w h.1 (omega arith) in
      record { left = x ∷ r.left; right = r.right; word = ap (λ (v : List ℕ). x ∷ v) r.word; long = omega (arith, r.long); alone = ((h.0, r.alone.0), r.alone.1) }

  dots_then : (n : ℕ) (ss : List (Symbol Kind)) (u v : List ℕ) (i c : ℕ) → length u ≡ n → Alone p.off u → SideBySide (Means p free) ss (i + n) v c
      → SideBySide (Means p free) (dots p n ++ ss) i (u ++ v) c
  dots_then zero ss [] v i c e h m = let at_i : i + 0 ≡ i = omega arith in subst (λ (j : ℕ). SideBySide (Means p free) ss j v c) at_i m
  dots_then zero ss (x ∷ u) v i c e h m = absurd (omega (arith, e))
  dots_then (suc n) ss [] v i c e h m = absurd (omega (arith, e))
  dots_then (suc n) ss (x ∷ u) v i c e h m =
      let at_i : i + suc n ≡ i + 1 + n = omega arith in
      (u ++ v, ap (λ (y : ℕ). y ∷ u ++ v) h.0, dots_then n ss u v (i + 1) c (omega (arith, e)) h.1 (subst (λ (j : ℕ). SideBySide (Means p free) ss j v c) at_i m))

  step_down : (i : ℕ) (w : List ℕ) (c : ℕ) → Means p free step i w c → Here p i w → ByRule (rules_for p free step) (Means p free) i w c
  step_down i w c m h = record {
    own = plain 0 (dots p p.starts);
    paid = 0;
    one = inl refl;
    fits = plain_fits p 0 (dots p p.starts) i w h;
    parts = subst (λ (n : ℕ). SideBySide (Means p free) (dots p n) i w 0) m.1 (alone_dots w i m.0);
    cost = omega (arith, m.2);
  }

  steps_down : (i : ℕ) (w : List ℕ) (c : ℕ) → 1 ≤ p.starts → Means p free steps i w c → Here p i w → ByRule (rules_for p free steps) (Means p free) i w c
  steps_down i w c some_starts m h = go m.1.0 m.1.1
    where
      go : (q : ℕ) → length w ≡ suc q * p.starts → ByRule (rules_for p free steps) (Means p free) i w c
      go zero e = record {
        own = plain 0 (named step ∷ []);
        paid = c;
        one = inl refl;
        fits = plain_fits p 0 (named step ∷ []) i w h;
        parts = as_one (Means p free) step i w c (m.0, omega (arith, e), m.2) h.some;
        cost = omega arith;
      }
      go (suc q) e =
          let more : suc (suc q) * p.starts ≡ p.starts + suc q * p.starts = omega arith in
          let at_least : suc q * p.starts ≡ p.starts + q * p.starts = omega arith in
          let k = cut p.starts w m.0 (omega (arith, e, more)) in
          let len : length w ≡ length k.left + length k.right = ap length k.word ∙ length-append k.left k.right in
          let right : length k.right ≡ suc q * p.starts = omega (arith, len, k.long, e, more) in
          record {
            own = plain 0 (named step ∷ named steps ∷ []);
            paid = c;
            one = inr (inl refl);
            fits = plain_fits p 0 (named step ∷ named steps ∷ []) i w h;
            parts = as_two (Means p free) step steps i w k.left k.right c 0 0 k.word (omega (arith, m.2)) (k.alone.0, k.long, refl) (omega (arith, k.long, some_starts))
                (k.alone.1, (q, right), refl) (omega (arith, right, at_least, some_starts));
            cost = omega arith;
          }

  lead_down : (n i : ℕ) (w : List ℕ) (c : ℕ) → p.first_start ≡ n → 1 ≤ p.starts → Means p free lead i w c → Here p i w → ByRule (lead_rules p n) (Means p free) i w c
  lead_down n i w c first some_starts m h = go n m.2.0 first m.2.1
    where
      go : (n q : ℕ) → p.first_start ≡ n → length w ≡ p.first_start + q * p.starts → ByRule (lead_rules p n) (Means p free) i w c
      go zero zero f e = absurd (omega (arith, e, f, h.some))
      go zero (suc q) f e = record {
        own = plain 0 (named steps ∷ []);
        paid = c;
        one = inl refl;
        fits = plain_fits p 0 (named steps ∷ []) i w h;
        parts = as_one (Means p free) steps i w c (m.0, (q, omega (arith, e, f)), m.3) h.some;
        cost = omega arith;
      }
      go (suc n) zero f e =
          let len : length w ≡ suc n = omega (arith, e, f) in
          record {
            own = plain 0 (dots p (suc n));
            paid = 0;
            one = inl refl;
            fits = plain_fits p 0 (dots p (suc n)) i w h;
            parts = subst (λ (k : ℕ). SideBySide (Means p free) (dots p k) i w 0) len (alone_dots w i m.0);
            cost = omega (arith, m.3);
          }
      go (suc n) (suc q) f e =
          let more : suc q * p.starts ≡ p.starts + q * p.starts = omega arith in
          let k = cut (suc n) w m.0 (omega (arith, e, f)) in
          let len : length w ≡ length k.left + length k.right = ap length k.word ∙ length-append k.left k.right in
          let right : length k.right ≡ suc q * p.starts = omega (arith, len, k.long, e, f) in
          let steps_mean : Means p free steps (i + suc n) k.right 0 = (k.alone.1, (q, right), refl) in
          let parts = dots_then (suc n) (named steps ∷ []) k.left k.right i 0 k.long k.alone.0 (as_one (Means p free) steps (i + suc n) k.right 0 steps_mean (omega (arith, right, more, some_starts))) in
          record {
            own = plain 0 (dots p (suc n) ++ named steps ∷ []);
            paid = 0;
            one = inr (inl refl);
            fits = plain_fits p 0 (dots p (suc n) ++ named steps ∷ []) i w h;
            parts = subst (λ (v : List ℕ). SideBySide (Means p free) (dots p (suc n) ++ named steps ∷ []) i v 0) (sym k.word) parts;
            cost = omega (arith, m.3);
          }

  lead_back : (a b : ℕ) → p.first_start ≡ b → (i : ℕ) (w : List ℕ) → Alone p.off w → 1 ≤ length w → IsStart p (length w) → Means p free (lead_of a b) i w 0
  lead_back zero b first i w alone some_letter st = (alone, some_letter, st, refl)
  lead_back (suc zero) zero first i w alone some_letter st = (alone, some_letter, refl)
  lead_back (suc zero) (suc b) first i w alone some_letter st = (alone, some_letter, st, refl)
  lead_back (suc (suc a)) zero first i w alone some_letter st = (alone, go st.0 st.1, refl)
    where
      go : (q : ℕ) → length w ≡ p.first_start + q * p.starts → (q : ℕ) × (length w ≡ suc q * p.starts)
      go zero e = absurd (omega (arith, e, first, some_letter))
      go (suc q) e = (q, omega (arith, e, first))
  lead_back (suc (suc a)) (suc b) first i w alone some_letter st = (alone, some_letter, st, refl)

  in_kept : (own : NamedRule Kind) (v : Bool) → IsTrue v → In own (kept_rule v own)
  in_kept own true h = inl refl
  in_kept own false h = absurd (never h)
    where
      never : false ≡ true → ⊥
      never e = cc

  day_down : (tag : List ℕ) (ds : List PeriodDuty) (i : ℕ) (w : List ℕ) (c : ℕ) → Each (IsGoodDuty p free) ds → Means p free (day tag ds) i w c → Here p i w → ByRule (rules_for p free (day tag ds)) (Means p free) i w c
  day_down tag ds i w c u left_day h = let m = left_day.0 in
      go m.before m.after m.word m.off_before m.off_after m.start m.duty (duty_some ds (i + length m.before) m.work c u m.duty) left_day.1
    where
      m : IsDayOf p ds i w c
      m = left_day.0

      early : (own : NamedRule Kind) (q : ℕ) → 0 ≡ p.first_start + q * p.starts → In own (early_days p 0 tag ds) → In own (rules_for p free (day tag ds))
      early own q e at_early =
          let zero_first : 0 ≡ p.first_start = omega (arith, e) in
          in_second own (kept_rule (leaves p ds false true) (plain 0 (named (lead_kind p) ∷ named (duty tag ds) ∷ [])))
          (kept_rule (leaves p ds false false) (plain 0 (named (lead_kind p) ∷ named (duty tag ds) ∷ named off ∷ [])) ++ early_days p p.first_start tag ds)
          (in_second own (kept_rule (leaves p ds false false) (plain 0 (named (lead_kind p) ∷ named (duty tag ds) ∷ named off ∷ []))) (early_days p p.first_start tag ds)
          (subst (λ (n : ℕ). In own (early_days p n tag ds)) zero_first at_early))

      go : (before after : List ℕ) → w ≡ before ++ (m.work ++ after) → Alone p.off before → Alone p.off after → IsStart p (length before) → IsDutyOf p ds (i + length before) m.work c → 0 < length m.work
          → IsTrue (leaves p ds (no_letters before) (no_letters after)) → ByRule (rules_for p free (day tag ds)) (Means p free) i w c
      go [] [] e off_before off_after st d pos l =
          let word : w ≡ m.work = e ∙ append-nil m.work in
          record {
            own = plain 0 (named (duty tag ds) ∷ []);
            paid = c;
            one = early (plain 0 (named (duty tag ds) ∷ [])) st.0 st.1
                (in_first (plain 0 (named (duty tag ds) ∷ [])) (kept_rule (leaves p ds true true) (plain 0 (named (duty tag ds) ∷ []))) (kept_rule (leaves p ds true false) (plain 0 (named (duty tag ds) ∷ named off ∷ [])))
                (in_kept (plain 0 (named (duty tag ds) ∷ [])) (leaves p ds true true) l));
            fits = plain_fits p 0 (named (duty tag ds) ∷ []) i w h;
            parts = as_one (Means p free) (duty tag ds) i w c (rw word (moved ds (i + 0) i m.work c (omega arith) d)) h.some;
            cost = omega arith;
          }
      go (x ∷ xs) [] e off_before off_after st d pos l =
          let word : w ≡ (x ∷ xs) ++ m.work = e ∙ ap (λ (v : List ℕ). (x ∷ xs) ++ v) (append-nil m.work) in
          record {
            own = plain 0 (named (lead_kind p) ∷ named (duty tag ds) ∷ []);
            paid = c;
            one = in_first (plain 0 (named (lead_kind p) ∷ named (duty tag ds) ∷ [])) (kept_rule (leaves p ds false true) (plain 0 (named (lead_kind p) ∷ named (duty tag ds) ∷ [])))
                (kept_rule (leaves p ds false false) (plain 0 (named (lead_kind p) ∷ named (duty tag ds) ∷ named off ∷ [])) ++ early_days p p.first_start tag ds)
                (in_kept (plain 0 (named (lead_kind p) ∷ named (duty tag ds) ∷ [])) (leaves p ds false true) l);
            fits = plain_fits p 0 (named (lead_kind p) ∷ named (duty tag ds) ∷ []) i w h;
            parts = as_two (Means p free) (lead_kind p) (duty tag ds) i w (x ∷ xs) m.work c 0 c word (omega arith) (lead_back p.starts p.first_start refl i (x ∷ xs) off_before (omega arith) st) (omega arith) d pos;
            cost = omega arith;
          }
      go [] (y ∷ ys) e off_before off_after st d pos l =
          record {
            own = plain 0 (named (duty tag ds) ∷ named off ∷ []);
            paid = c;
            one = early (plain 0 (named (duty tag ds) ∷ named off ∷ [])) st.0 st.1
                (in_second (plain 0 (named (duty tag ds) ∷ named off ∷ [])) (kept_rule (leaves p ds true true) (plain 0 (named (duty tag ds) ∷ []))) (kept_rule (leaves p ds true false) (plain 0 (named (duty tag ds) ∷ named off ∷ [])))
                (in_kept (plain 0 (named (duty tag ds) ∷ named off ∷ [])) (leaves p ds true false) l));
            fits = plain_fits p 0 (named (duty tag ds) ∷ named off ∷ []) i w h;
            parts = as_two (Means p free) (duty tag ds) off i w m.work (y ∷ ys) c c 0 e (omega arith) (moved ds (i + 0) i m.work c (omega arith) d) pos (off_after, omega arith, refl) (omega arith);
            cost = omega arith;
          }
      go (x ∷ xs) (y ∷ ys) e off_before off_after st d pos l =
          record {
            own = plain 0 (named (lead_kind p) ∷ named (duty tag ds) ∷ named off ∷ []);
            paid = c;
            one = in_second (plain 0 (named (lead_kind p) ∷ named (duty tag ds) ∷ named off ∷ [])) (kept_rule (leaves p ds false true) (plain 0 (named (lead_kind p) ∷ named (duty tag ds) ∷ [])))
                (kept_rule (leaves p ds false false) (plain 0 (named (lead_kind p) ∷ named (duty tag ds) ∷ named off ∷ [])) ++ early_days p p.first_start tag ds)
                (in_first (plain 0 (named (lead_kind p) ∷ named (duty tag ds) ∷ named off ∷ [])) (kept_rule (leaves p ds false false) (plain 0 (named (lead_kind p) ∷ named (duty tag ds) ∷ named off ∷ []))) (early_days p p.first_start tag ds)
                (in_kept (plain 0 (named (lead_kind p) ∷ named (duty tag ds) ∷ named off ∷ [])) (leaves p ds false false) l));
            fits = plain_fits p 0 (named (lead_kind p) ∷ named (duty tag ds) ∷ named off ∷ []) i w h;
            parts = (
              x ∷ xs,
              m.work ++ (y ∷ ys),
              0,
              c,
              e,
              omega arith,
              omega arith,
              lead_back p.starts p.first_start refl i (x ∷ xs) off_before (omega arith) st,
              as_two (Means p free) (duty tag ds) off (i + length (x ∷ xs)) (m.work ++ (y ∷ ys)) m.work (y ∷ ys) c c 0 refl (omega arith) d pos (off_after, omega arith, refl) (omega arith),
            );
            cost = omega arith;
          }

  down : (k : Kind) (i : ℕ) (w : List ℕ) (c : ℕ) → IsUsed p free k → Means p free k i w c → Here p i w → ByRule (rules_for p free k) (Means p free) i w c
  down (at r a) i w c u m h = at_down p free r a i w c m h
  down (run r a) i w c u m h = run_down p free r a w i c m h
  down (block r a) i w c u m h = block_down p free r a i w c u m h (nat_le a.least 8)
  down (free_one r s) i w c u m h = one_down p free r s i w c m h
  down (any_list r s) i w c u m h = any_down p free r s i w c u m h (chosen (is_bound free r s) s) refl
  down (open_list r s) i w c u m h = open_down p free r s i w c u m h
  down (from r s a) i w c u m h = from_down p free r s a i w c u.0 u.2 m h
  down (other r s a) i w c u m h = first_down p free r s (others a s) (λ x. x.code ≢ a.code) i w c m (to_others a m.first.activity s m.lawful.0.one m.begins) h
  down (work r s long) i w c u m h = work_down p free r s long i w c u m h
  down (rest r a begin) i w c u m h = rest_down p free r a begin i w c m h (has_few a)
  down off i w c u m h = off_down w i c m h
  down (duty tag ds) i w c u m h = duty_down tag ds i w c u m h
  down step i w c u m h = step_down i w c m h
  down steps i w c u m h = steps_down i w c u m h
  down lead i w c u m h = lead_down p.first_start i w c refl u m h
  down (day tag ds) i w c u m h = day_down tag ds i w c u.1 m h
  down (start dss) i w c u m h = record {
    own = plain 0 (named (day m.0.name m.0.lines) ∷ []);
    paid = c;
    one = in_map day_rule m.0 dss m.1;
    fits = plain_fits p 0 (named (day m.0.name m.0.lines) ∷ []) i w h;
    parts = as_one (Means p free) (day m.0.name m.0.lines) i w c m.2 h.some;
    cost = omega arith;
  }

  below : (k : Kind) → rank k < 10
  below (at r a) = omega arith
  below (run r a) = omega arith
  below (block r a) = omega arith
  below (free_one r s) = omega arith
  below (any_list r s) = omega arith
  below (open_list r s) = omega arith
  below (from r s a) = omega arith
  below (other r s a) = omega arith
  below (work r s long) = omega arith
  below (rest r a begin) = omega arith
  below off = omega arith
  below step = omega arith
  below steps = omega arith
  below lead = omega arith
  below (duty tag ds) = omega arith
  below (day tag ds) = omega arith
  below (start dss) = omega arith

  -- the rules of each name keep what it means
  pub kept : p.periods ≤ 96 → Kept p.periods (rules_for p free) (IsLetter p) (IsUsed p free) rank 10 (Means p free)
  kept few = record {
    up = up p free;
    down = λ k i w c u m lo hi. down k i w c u m (record { begins = lo; some = some k i w c u m; within = hi; few = few });
    some = some;
    below = below;
  }
