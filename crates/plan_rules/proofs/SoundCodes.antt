-- The codes of a writable plan are sound.
use Rattle.std.proofs.Common.{◌≡◌, ◌≢◌, inl, inr, ℕ, zero, suc, ◌+◌, ◌<◌, ◌≤◌, Bool, true, false, not, cond, ◌&&◌, ◌||◌, Option, None, Some, List, [], ◌∷◌, ◌++◌, length, slice_get, count_by, arith, refl, sym, ap, ◌∙◌, length-append, eqb, leb}
use Rattle.std.proofs.lemmas.Bool.{and_from, and_parts, eqb-true, le-leb, leb-true, ne_eqb, or_cases}
use Rattle.std.proofs.lemmas.List.Sums.{sum_by-cons}
use Rattle.model_rosters.specs.declared.grammar.CodeDef.{CodeDef}
use Rattle.model_rosters.specs.Folds.{Each, In, count}
use Rattle.model_rosters.specs.Names.{is_code_byte, is_letter, is_name_byte}
use Rattle.model_rosters.specs.Sound.{AreCodes}
use Rattle.model_rosters.proofs.EachLemmas.{each_all, get-in}
use Rattle.plan_laws.specs.declared.period_plan.Activity.{Activity}
use Rattle.plan_laws.specs.declared.period_plan.PeriodPlan.{PeriodPlan}
use Rattle.plan_laws.proofs.Sides.{all_each}
use Rattle.plan_laws.proofs.Trees.{each_in}
use Rattle.plan_laws.proofs.Words.{each_side}
use Rattle.plan_names.specs.Same.{same_bool}
use Rattle.plan_rules.specs.Grammars.{codes_of, plan_codes}
use Rattle.plan_rules.specs.Writable.{AreApart, AreFineCodes, IsFineCode}

no_false : false ≡ true → ⊥
no_false e = cc

no_both : (v : Bool) → v ≡ true → v ≡ false → ⊥
no_both true e f = no_false (sym f)
no_both false e f = no_false e

abbrev code_of : Bool → Activity → CodeDef
code_of work a = record { byte = a.code; work = work }

abbrev IsWork : CodeDef → Bool
IsWork c = c.work

count_cons : (x : CodeDef) (cs : List CodeDef) → count_by IsWork (x ∷ cs) ≡ cond (IsWork x) 1 0 + count_by IsWork cs
count_cons x cs = sum_by-cons (λ (y : CodeDef). cond (IsWork y) 1 0) x cs

true_count : (ys : List Activity) (more : List CodeDef) → count_by IsWork (codes_of true ys ++ more) ≡ count (λ (a : Activity). a.work) ys + count_by IsWork more
true_count [] more = omega arith
true_count (y ∷ ys) more = go y.work (true_count ys more)
  where
    go : (v : Bool) → count_by IsWork (codes_of true ys ++ more) ≡ count (λ (a : Activity). a.work) ys + count_by IsWork more
        → count_by IsWork (cond (same_bool v true) ((code_of true y) ∷ codes_of true ys) (codes_of true ys) ++ more) ≡ cond v 1 0 + count (λ (a : Activity). a.work) ys + count_by IsWork more
    go true m = let c = count_cons (code_of true y) (codes_of true ys ++ more) in omega (arith, c, m)
    go false m = omega (arith, m)

false_count : (ys : List Activity) → count_by IsWork (codes_of false ys) ≡ 0
false_count [] = refl
false_count (y ∷ ys) = go y.work (false_count ys)
  where
    go : (v : Bool) → count_by IsWork (codes_of false ys) ≡ 0 → count_by IsWork (cond (same_bool v false) ((code_of false y) ∷ codes_of false ys) (codes_of false ys)) ≡ 0
    go true m = m
    go false m = let c = count_cons (code_of false y) (codes_of false ys) in omega (arith, c, m)

true_long : (ys : List Activity) → length (codes_of true ys) ≡ count (λ (a : Activity). a.work) ys
true_long [] = refl
true_long (y ∷ ys) = go y.work (true_long ys)
  where
    go : (v : Bool) → length (codes_of true ys) ≡ count (λ (a : Activity). a.work) ys
        → length (cond (same_bool v true) ((code_of true y) ∷ codes_of true ys) (codes_of true ys)) ≡ cond v 1 0 + count (λ (a : Activity). a.work) ys
    go true m = omega (arith, m)
    go false m = omega (arith, m)

false_long : (ys : List Activity) → length (codes_of false ys) ≡ count (λ (a : Activity). not a.work) ys
false_long [] = refl
false_long (y ∷ ys) = go y.work (false_long ys)
  where
    go : (v : Bool) → length (codes_of false ys) ≡ count (λ (a : Activity). not a.work) ys
        → length (cond (same_bool v false) ((code_of false y) ∷ codes_of false ys) (codes_of false ys)) ≡ cond (not v) 1 0 + count (λ (a : Activity). not a.work) ys
    go true m = omega (arith, m)
    go false m = omega (arith, m)

-- a code is one of an activity
pub record IsCodeOf (work : Bool) (ys : List Activity) (d : CodeDef) : Type 0 where
  pub activity : Activity
  pub listed : In activity ys
  pub work_is : activity.work ≡ work
  pub byte_is : d.byte ≡ activity.code

of_activity : (work : Bool) (ys : List Activity) (d : CodeDef) → In d (codes_of work ys) → IsCodeOf work ys d
of_activity work [] d at = absurd at
of_activity work (y ∷ ys) d at = go y.work refl work refl at (of_activity work ys d)
  where
    later : IsCodeOf work ys d → IsCodeOf work (y ∷ ys) d
    later o = record { activity = o.activity; listed = inr o.listed; work_is = o.work_is; byte_is = o.byte_is }

    here : y.work ≡ work → In d ((code_of work y) ∷ codes_of work ys) → (In d (codes_of work ys) → IsCodeOf work ys d) → IsCodeOf work (y ∷ ys) d
    here same (inl e) more = record { activity = y; listed = inl refl; work_is = same; byte_is = ap (λ (z : CodeDef). z.byte) e }
    here same (inr at) more = later (more at)

    go : (v : Bool) → y.work ≡ v → (w : Bool) → work ≡ w → In d (cond (same_bool v w) ((code_of work y) ∷ codes_of work ys) (codes_of work ys)) → (In d (codes_of work ys) → IsCodeOf work ys d) → IsCodeOf work (y ∷ ys) d
    go true e true f at more = here (e ∙ sym f) at more
    go true e false f at more = later (more at)
    go false e true f at more = later (more at)
    go false e false f at more = here (e ∙ sym f) at more

one_line : (ys : List Activity) (a b : Activity) → AreApart ys → In a ys → In b ys → a.code ≡ b.code → a ≡ b
one_line [] a b apart at_a at_b e = absurd at_a
one_line (y ∷ ys) a b apart (inl e) (inl f) same = e ∙ sym f
one_line (y ∷ ys) a b apart (inl e) (inr f) same = absurd (each_in (λ (z : Activity). z.code ≢ y.code) b ys apart.0 f (sym same ∙ ap (λ (z : Activity). z.code) e))
one_line (y ∷ ys) a b apart (inr e) (inl f) same = absurd (each_in (λ (z : Activity). z.code ≢ y.code) a ys apart.0 e (same ∙ ap (λ (z : Activity). z.code) f))
one_line (y ∷ ys) a b apart (inr e) (inr f) same = one_line ys a b apart.1 e f same

-- bytes
name_range : (b : ℕ) → is_name_byte b ≡ true → (48 ≤ b) × (b ≤ 122)
name_range b e = elim (or_cases (is_letter b || (leb 48 b && leb b 57)) (eqb b 95) e) [
  | inl h ↦ elim (or_cases (is_letter b) (leb 48 b && leb b 57) h) [
    | inl l ↦ elim (or_cases (leb 65 b && leb b 90) (leb 97 b && leb b 122) l) [
      | inl k ↦ let q = and_parts _ _ k in let low : 65 ≤ b = leb-true 65 b q.0 in let high : b ≤ 90 = leb-true b 90 q.1 in (omega arith, omega arith)
      | inr k ↦ let q = and_parts _ _ k in let low : 97 ≤ b = leb-true 97 b q.0 in let high : b ≤ 122 = leb-true b 122 q.1 in (omega arith, omega arith)
    ]
    | inr k ↦ let q = and_parts _ _ k in let low : 48 ≤ b = leb-true 48 b q.0 in let high : b ≤ 57 = leb-true b 57 q.1 in (omega arith, omega arith)
  ]
  | inr h ↦ let same : b ≡ 95 = eqb-true b 95 h in (omega arith, omega arith)
]

code_byte : (b : ℕ) → 48 ≤ b → b ≤ 122 → is_code_byte b ≡ true
code_byte b low high =
    and_from _ _ (and_from _ _ (and_from _ _ (le-leb 33 b (omega (arith, low))) (le-leb b 126 (omega (arith, high))))
    (ap not (ne_eqb b 39 (λ q. omega (arith, q, low))))) (ap not (ne_eqb b 35 (λ q. omega (arith, q, low))))

-- no two have one byte
abbrev Differ : List CodeDef → Type 0
Differ [] = Unit {0}
Differ (d ∷ ds) = Each (λ (e : CodeDef). e.byte ≢ d.byte) ds × Differ ds

codes_differ : (work : Bool) (ys : List Activity) → AreApart ys → Differ (codes_of work ys)
codes_differ work [] apart = tt
codes_differ work (y ∷ ys) apart = go (same_bool y.work work) (codes_differ work ys apart.1)
  where
    go : (v : Bool) → Differ (codes_of work ys) → Differ (cond v ((code_of work y) ∷ codes_of work ys) (codes_of work ys))
    go true m = (
      all_each _ (codes_of work ys) (λ d at_d.
          let o = of_activity work ys d at_d in
          λ same. each_in (λ (z : Activity). z.code ≢ y.code) o.activity ys apart.0 o.listed (sym o.byte_is ∙ same)),
      m,
    )
    go false m = m

both_differ : (cs ds : List CodeDef) → Differ cs → Differ ds → ((c d : CodeDef) → In c cs → In d ds → d.byte ≢ c.byte) → Differ (cs ++ ds)
both_differ [] ds h k other = k
both_differ (c ∷ cs) ds h k other =
    (each_side (λ (e : CodeDef). e.byte ≢ c.byte) cs ds h.0 (all_each _ ds (λ d at_d. other c d (inl refl) at_d)), both_differ cs ds h.1 k (λ b d at_b at_d. other b d (inr at_b) at_d))

differ_at : (ds : List CodeDef) → Differ ds → (i j : ℕ) (a b : CodeDef) → i < j → slice_get ds i ≡ Some a → slice_get ds j ≡ Some b → a.byte ≢ b.byte
differ_at [] h i j a b less e f = absurd (never e)
  where
    never : ◌≡◌ {A = Option CodeDef} None (Some a) → ⊥
    never e = cc
differ_at (d ∷ ds) h zero zero a b less e f = absurd (omega (arith, less))
differ_at (d ∷ ds) h zero (suc j) a b less e f = λ same. each_in (λ (c : CodeDef). c.byte ≢ d.byte) b ds h.0 (get-in ds j b f) (sym same ∙ ap (λ (c : CodeDef). c.byte) (sym (some e)))
  where
    some : ◌≡◌ {A = Option CodeDef} (Some d) (Some a) → d ≡ a
    some e = cc
differ_at (d ∷ ds) h (suc i) zero a b less e f = absurd (omega (arith, less))
differ_at (d ∷ ds) h (suc i) (suc j) a b less e f = differ_at ds h.1 i j a b (omega (arith, less)) e f

module _ (p : PeriodPlan) (h : AreFineCodes p) where
  abbrev off : CodeDef
  off = record { byte = p.off; work = false }

  abbrev works : List CodeDef
  works = codes_of true p.activities

  abbrev pauses : List CodeDef
  pauses = codes_of false p.activities

  fine_byte : (work : Bool) (d : CodeDef) → In d (codes_of work p.activities) → (48 ≤ d.byte) × (d.byte ≤ 122)
  fine_byte work d at =
      let o = of_activity work p.activities d at in
      let r = name_range o.activity.code (each_in (λ (a : Activity). IsFineCode a.code) o.activity p.activities h.codes o.listed).0 in
      (omega (arith, r.0, o.byte_is), omega (arith, r.1, o.byte_is))

  bytes_of : (work : Bool) → Each (λ (d : CodeDef). is_code_byte d.byte ≡ true) (codes_of work p.activities)
  bytes_of work = all_each _ (codes_of work p.activities) (λ d at. let r = fine_byte work d at in code_byte d.byte r.0 r.1)

  off_byte : is_code_byte p.off ≡ true
  off_byte = ap is_code_byte h.off

  pauses_differ : Differ (off ∷ pauses)
  pauses_differ = (all_each _ pauses (λ d at. let r = (fine_byte false d at).0 in let dot = h.off in λ same. omega (arith, r, same, dot)), codes_differ false p.activities h.apart)

  work_apart : (c d : CodeDef) → In c works → In d (off ∷ pauses) → d.byte ≢ c.byte
  work_apart c d at (inl e) = let r = (fine_byte true c at).0 in let dot = h.off in let byte = ap (λ (z : CodeDef). z.byte) e in λ same. omega (arith, r, same, dot, byte)
  work_apart c d at (inr at_d) =
      let o = of_activity true p.activities c at in
      let q = of_activity false p.activities d at_d in
      λ same.
      let one = one_line p.activities o.activity q.activity h.apart o.listed q.listed (sym o.byte_is ∙ sym same ∙ q.byte_is) in
      no_both o.activity.work o.work_is (ap (λ (a : Activity). a.work) one ∙ q.work_is)

  pub sound_codes : AreCodes (plan_codes p)
  sound_codes =
      let long = length-append works (off ∷ pauses) in
      let few = true_long p.activities in
      let more = false_long p.activities in
      let most = h.few_work in
      let others = h.few_pauses in
      let counted = true_count p.activities (off ∷ pauses) in
      let one = count_cons off pauses in
      let none = false_count p.activities in
      record {
        few = omega (arith, long, few, more, most, others);
        few_work = omega (arith, counted, one, none, most);
        bytes = each_all (λ (d : CodeDef). is_code_byte d.byte ≡ true) (plan_codes p)
            (each_side (λ (d : CodeDef). is_code_byte d.byte ≡ true) works (off ∷ pauses) (bytes_of true) (off_byte, bytes_of false));
        apart = differ_at (plan_codes p) (both_differ works (off ∷ pauses) (codes_differ true p.activities h.apart) pauses_differ work_apart);
      }
