-- The case of time off of a shift is one that its lines' times leave.
use Rattle.std.proofs.Common.{◌≡◌, ◌≢◌, ◌⊎◌, ℕ, zero, suc, ◌<◌, ◌≤◌, ◌+◌, ◌-◌, ◌*◌, Bool, true, false, not, ◌&&◌, ◌||◌, IsTrue, nat_eq, nat_le, List, [], ◌∷◌, ◌++◌, length, append-nil, arith, refl, subst, sym, ap, ◌∙◌, length-append, inl, inr, mul-le-mul_left}
use Rattle.std.proofs.Math.Nat.{eq-or-lt_of_le}
use Rattle.std.proofs.lemmas.Bool.{eq-eqb, eqb-true, le-leb}
use Rattle.std.proofs.lemmas.Bool.Decides.{eqb_tells}
use Rattle.model_rosters.specs.declared.grammar.Window.{Window}
use Rattle.model_rosters.specs.Folds.{In}
use Rattle.model_rosters.specs.Grammar.{IsInWindow}
use Rattle.plan_laws.specs.declared.period_plan.PeriodDuty.{PeriodDuty}
use Rattle.plan_laws.specs.declared.period_plan.PeriodPlan.{PeriodPlan}
use Rattle.plan_laws.specs.PeriodShifts.{IsDuty, IsStart}
use Rattle.plan_laws.specs.Named.{named, NamedRule}
use Rattle.plan_laws.specs.Names.{Kind, off, duty, day, plain, lead_kind, early_days, kept_rule, rules_for, Free, no_letters, is_within, some_number, agrees, may_stand, line_leaves, lines_leave, none_left, leaves, IsDayOf}

both : (a b : Bool) → IsTrue a → IsTrue b → IsTrue (a && b)
both true b h k = k
both false b h k = h

first : (a b : Bool) → IsTrue a → IsTrue (a || b)
first true b h = refl
first false b h = absurd (never h)
  where
    never : false ≡ true → ⊥
    never e = cc

second : (a b : Bool) → IsTrue b → IsTrue (a || b)
second true b h = refl
second false b h = h

found : (t : ℕ → Bool) (x lo k : ℕ) → lo ≤ x → x < lo + k → IsTrue (t x) → IsTrue (some_number t lo k)
found t x lo zero le less h = absurd (omega arith)
found t x lo (suc k) le less h = go (eq-or-lt_of_le le) (λ lt. found t x (lo + 1) k (omega (arith, lt)) (omega (arith, less)) h)
  where
    go : (lo ≡ x) ⊎ (lo < x) → (lo < x → IsTrue (some_number t (lo + 1) k)) → IsTrue (some_number t lo (suc k))
    go (inl e) ih = first (t lo) (some_number t (lo + 1) k) (subst (λ (n : ℕ). IsTrue (t n)) (sym e) h)
    go (inr lt) ih = second (t lo) (some_number t (lo + 1) k) (ih lt)

within : (w : Window) (n : ℕ) → IsInWindow w n → IsTrue (is_within w n)
within w n h = both _ _ (le-leb w.lo n h.0) (le-leb n w.hi h.1)

-- no letters are none, and some are not
agreed : (w : List ℕ) (n m : ℕ) → n ≡ m + length w → IsTrue (agrees (no_letters w) (nat_eq m n))
agreed [] n m e = eq-eqb m n (omega (arith, e))
agreed (x ∷ w) n m e = go (eqb_tells m n)
  where
    go : ((nat_eq m n ≡ true) × (m ≡ n)) ⊎ ((nat_eq m n ≡ false) × (m ≢ n)) → IsTrue (not (nat_eq m n))
    go (inl q) = absurd (omega (arith, q.1, e))
    go (inr q) = ap not q.0

agreed_first : (w : List ℕ) → IsTrue (agrees (no_letters w) (nat_eq (length w) 0))
agreed_first [] = eq-eqb 0 0 refl
agreed_first (x ∷ w) = go (eqb_tells (length (x ∷ w)) 0)
  where
    go : ((nat_eq (length (x ∷ w)) 0 ≡ true) × (length (x ∷ w) ≡ 0)) ⊎ ((nat_eq (length (x ∷ w)) 0 ≡ false) × (length (x ∷ w) ≢ 0)) → IsTrue (not (nat_eq (length (x ∷ w)) 0))
    go (inl q) = let none = q.1 in absurd (omega (arith, none))
    go (inr q) = ap not q.0

module _ (p : PeriodPlan) where
  started : (b : ℕ) → 1 ≤ p.starts → IsStart p b → IsTrue (some_number (λ (q : ℕ). nat_eq b (p.first_start + q * p.starts)) 0 (suc b))
  started b some h =
      let most : h.0 * 1 ≤ h.0 * p.starts = mul-le-mul_left h.0 some in
      found (λ (q : ℕ). nat_eq b (p.first_start + q * p.starts)) h.0 0 (suc b) (omega arith) (omega (arith, most, h.1)) (eq-eqb b (p.first_start + h.0 * p.starts) h.1)

  stands : (d : PeriodDuty) (b : ℕ) (w : List ℕ) (c : ℕ) → 1 ≤ p.starts → IsStart p b → b + length w ≤ p.periods → IsDuty p d (1 + b) w c → IsTrue (may_stand p d b (length w))
  stands d b w c some st le h =
      both _ _ (both _ _ (both _ _ (both _ _ (within d.length (length w) h.lasts) (within d.begin (1 + b) h.begins)) (within d.end (1 + b + length w - 1) h.ends)) (le-leb (b + length w) p.periods le)) (started b some st)

  in_leaves : (d : PeriodDuty) (ds : List PeriodDuty) (early late : Bool) → In d ds → IsTrue (line_leaves p d early late) → IsTrue (lines_leave p ds early late)
  in_leaves d [] early late at h = absurd at
  in_leaves d (x ∷ ds) early late (inl e) h = first (line_leaves p x early late) (lines_leave p ds early late) (subst (λ (y : PeriodDuty). IsTrue (line_leaves p y early late)) e h)
  in_leaves d (x ∷ ds) early late (inr at) h = second (line_leaves p x early late) (lines_leave p ds early late) (in_leaves d ds early late at h)

  pub shift_leaves : (ds : List PeriodDuty) (w : List ℕ) (c : ℕ) → 1 ≤ p.starts → length w ≡ p.periods → (m : IsDayOf p ds 1 w c) → IsTrue (leaves p ds (no_letters m.before) (no_letters m.after))
  shift_leaves ds w c some fills m =
      let len : length w ≡ length m.before + length (m.work ++ m.after) = ap length m.word ∙ length-append m.before (m.work ++ m.after) in
      let rest : length (m.work ++ m.after) ≡ length m.work + length m.after = length-append m.work m.after in
      let all : p.periods ≡ length m.before + length m.work + length m.after = omega (arith, len, rest, fills) in
      let one : IsTrue (some_number (λ (n : ℕ). agrees (no_letters m.after) (nat_eq (length m.before + n) p.periods) && may_stand p m.duty.line (length m.before) n) 0 (suc p.periods)) =
      found (λ (n : ℕ). agrees (no_letters m.after) (nat_eq (length m.before + n) p.periods) && may_stand p m.duty.line (length m.before) n) (length m.work) 0 (suc p.periods) (omega arith) (omega (arith, all))
      (both _ _ (agreed m.after p.periods (length m.before + length m.work) all) (stands m.duty.line (length m.before) m.work c some m.start (omega (arith, all)) m.duty.duty)) in
      first (lines_leave p ds (no_letters m.before) (no_letters m.after)) (not (no_letters m.before) && not (no_letters m.after) && none_left p ds)
      (in_leaves m.duty.line ds (no_letters m.before) (no_letters m.after) m.duty.one
      (found (λ (b : ℕ). agrees (no_letters m.before) (nat_eq b 0) && some_number (λ (n : ℕ). agrees (no_letters m.after) (nat_eq (b + n) p.periods) && may_stand p m.duty.line b n) 0 (suc p.periods)) (length m.before) 0 (suc p.periods) (omega arith) (omega (arith, all))
      (both _ _ (agreed_first m.before) one)))

-- a search that succeeds found one
some_true : (t : ℕ → Bool) (lo k : ℕ) → IsTrue (some_number t lo k) → (x : ℕ) × IsTrue (t x)
some_true t lo zero h = absurd (never h)
  where
    never : false ≡ true → ⊥
    never e = cc
some_true t lo (suc k) h = go (t lo) refl h (some_true t (lo + 1) k)
  where
    go : (v : Bool) → t lo ≡ v → IsTrue (v || some_number t (lo + 1) k) → (IsTrue (some_number t (lo + 1) k) → (x : ℕ) × IsTrue (t x)) → (x : ℕ) × IsTrue (t x)
    go true e h ih = (lo, e)
    go false e h ih = ih h

pub parted : (a b : Bool) → IsTrue (a && b) → IsTrue a × IsTrue b
parted true b h = (refl, h)
parted false b h = absurd (never h)
  where
    never : false ≡ true → ⊥
    never e = cc

module _ (p : PeriodPlan) where
  -- where a line leaves a duty that begins with the day, the first period is a start
  line_early : (d : PeriodDuty) (late : Bool) → IsTrue (line_leaves p d true late) → p.first_start ≡ 0
  line_early d late h =
      let b = some_true (λ (b : ℕ). agrees true (nat_eq b 0) && some_number (λ (n : ℕ). agrees late (nat_eq (b + n) p.periods) && may_stand p d b n) 0 (suc p.periods)) 0 (suc p.periods) h in
      let at_b = parted (agrees true (nat_eq b.0 0)) (some_number (λ (n : ℕ). agrees late (nat_eq (b.0 + n) p.periods) && may_stand p d b.0 n) 0 (suc p.periods)) b.1 in
      let n = some_true (λ (n : ℕ). agrees late (nat_eq (b.0 + n) p.periods) && may_stand p d b.0 n) 0 (suc p.periods) at_b.1 in
      let stand = parted (agrees late (nat_eq (b.0 + n.0) p.periods)) (may_stand p d b.0 n.0) n.1 in
      let start = parted (is_within d.length n.0 && is_within d.begin (1 + b.0) && is_within d.end (1 + b.0 + n.0 - 1) && nat_le (b.0 + n.0) p.periods) (some_number (λ (q : ℕ). nat_eq b.0 (p.first_start + q * p.starts)) 0 (suc b.0)) stand.1 in
      let q = some_true (λ (q : ℕ). nat_eq b.0 (p.first_start + q * p.starts)) 0 (suc b.0) start.1 in
      let none : b.0 ≡ 0 = eqb-true b.0 0 at_b.0 in
      let is : b.0 ≡ p.first_start + q.0 * p.starts = eqb-true b.0 (p.first_start + q.0 * p.starts) q.1 in
      omega (arith, none, is)

  lines_early : (ds : List PeriodDuty) (late : Bool) → IsTrue (lines_leave p ds true late) → p.first_start ≡ 0
  lines_early [] late h = absurd (never h)
    where
      never : false ≡ true → ⊥
      never e = cc
  lines_early (d ∷ ds) late h = go (line_leaves p d true late) refl h (lines_early ds late)
    where
      go : (v : Bool) → line_leaves p d true late ≡ v → IsTrue (v || lines_leave p ds true late) → (IsTrue (lines_leave p ds true late) → p.first_start ≡ 0) → p.first_start ≡ 0
      go true e h ih = line_early d late e
      go false e h ih = ih h

  kept_some : (v : Bool) (own : NamedRule Kind) (rest : List (NamedRule Kind)) → IsTrue v → 1 ≤ length (kept_rule v own ++ rest)
  kept_some true own rest h = omega arith
  kept_some false own rest h = absurd (never h)
    where
      never : false ≡ true → ⊥
      never e = cc

  behind_some : (v : Bool) (own : NamedRule Kind) (rest : List (NamedRule Kind)) → 1 ≤ length rest → 1 ≤ length (kept_rule v own ++ rest)
  behind_some true own rest h = omega arith
  behind_some false own rest h = h

  -- each name of duty lines has a rule
  pub day_some : (free : Free) (tag : List ℕ) (ds : List PeriodDuty) → 1 ≤ length (rules_for p free (day tag ds))
  day_some free tag ds = go (lines_leave p ds true true) (lines_leave p ds true false) (lines_leave p ds false true) (lines_leave p ds false false) refl refl refl refl
    where
      early : (n : ℕ) → p.first_start ≡ n → p.first_start ≡ 0 → (IsTrue (lines_leave p ds true true)) ⊎ (IsTrue (lines_leave p ds true false)) → 1 ≤ length (early_days p n tag ds)
      early (suc n) e z h = absurd (omega (arith, e, z))
      early zero e z (inl h) = kept_some (leaves p ds true true) (plain 0 (named (duty tag ds) ∷ [])) (kept_rule (leaves p ds true false) (plain 0 (named (duty tag ds) ∷ named off ∷ [])))
          (first (lines_leave p ds true true) (not true && not true && none_left p ds) h)
      early zero e z (inr h) = behind_some (leaves p ds true true) (plain 0 (named (duty tag ds) ∷ [])) (kept_rule (leaves p ds true false) (plain 0 (named (duty tag ds) ∷ named off ∷ [])))
          (subst (λ (xs : List (NamedRule Kind)). 1 ≤ length xs) (append-nil (kept_rule (leaves p ds true false) (plain 0 (named (duty tag ds) ∷ named off ∷ []))))
          (kept_some (leaves p ds true false) (plain 0 (named (duty tag ds) ∷ named off ∷ [])) [] (first (lines_leave p ds true false) (not true && not false && none_left p ds) h)))

      last : (IsTrue (lines_leave p ds true true)) ⊎ (IsTrue (lines_leave p ds true false)) → p.first_start ≡ 0 → 1 ≤ length (rules_for p free (day tag ds))
      last h z = behind_some (leaves p ds false true) (plain 0 (named (lead_kind p) ∷ named (duty tag ds) ∷ []))
          (kept_rule (leaves p ds false false) (plain 0 (named (lead_kind p) ∷ named (duty tag ds) ∷ named off ∷ [])) ++ early_days p p.first_start tag ds)
          (behind_some (leaves p ds false false) (plain 0 (named (lead_kind p) ∷ named (duty tag ds) ∷ named off ∷ [])) (early_days p p.first_start tag ds) (early p.first_start refl z h))

      middle : IsTrue (leaves p ds false false) → 1 ≤ length (rules_for p free (day tag ds))
      middle h = behind_some (leaves p ds false true) (plain 0 (named (lead_kind p) ∷ named (duty tag ds) ∷ []))
          (kept_rule (leaves p ds false false) (plain 0 (named (lead_kind p) ∷ named (duty tag ds) ∷ named off ∷ [])) ++ early_days p p.first_start tag ds)
          (kept_some (leaves p ds false false) (plain 0 (named (lead_kind p) ∷ named (duty tag ds) ∷ named off ∷ [])) (early_days p p.first_start tag ds) h)

      go : (a b c d : Bool) → lines_leave p ds true true ≡ a → lines_leave p ds true false ≡ b → lines_leave p ds false true ≡ c → lines_leave p ds false false ≡ d
          → 1 ≤ length (rules_for p free (day tag ds))
      go true b c d ea eb ec ed = last (inl ea) (lines_early ds true ea)
      go false true c d ea eb ec ed = last (inr eb) (lines_early ds false eb)
      go false false true d ea eb ec ed = kept_some (leaves p ds false true) (plain 0 (named (lead_kind p) ∷ named (duty tag ds) ∷ []))
          (kept_rule (leaves p ds false false) (plain 0 (named (lead_kind p) ∷ named (duty tag ds) ∷ named off ∷ [])) ++ early_days p p.first_start tag ds)
          (first (lines_leave p ds false true) (not false && not true && none_left p ds) ec)
      go false false false true ea eb ec ed = middle (first (lines_leave p ds false false) (not false && not false && none_left p ds) ed)
      go false false false false ea eb ec ed =
          let none : none_left p ds ≡ true = rw (ea, eb, ec, ed) refl in
          middle (second (lines_leave p ds false false) (not false && not false && none_left p ds) none)
