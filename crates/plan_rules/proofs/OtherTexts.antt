-- No two names are called the same.
use Rattle.std.proofs.Common.{◌≡◌, ◌≢◌, ◌⊎◌, inl, inr, ℕ, zero, suc, ◌+◌, ◌/◌, ◌%◌, ◌<◌, ◌≤◌, Bool, true, false, cond, nat_lt, Option, None, Some, List, [], ◌∷◌, ◌++◌, length, slice_get, arith, refl, sym, ap, ◌∙◌, subst}
use Rattle.std.proofs.lemmas.Option.{slice_get_within}
use Rattle.model_rosters.specs.Folds.{Each, In}
use Rattle.model_rosters.proofs.EachLemmas.{Each-get, get-in}
use Rattle.plan_laws.specs.declared.period_plan.NamedLines.{NamedLines}
use Rattle.plan_laws.specs.declared.period_plan.PeriodPlan.{PeriodPlan}
use Rattle.plan_laws.specs.Names.{Free, Kind, day}
use Rattle.plan_laws.proofs.Trees.{each_in}
use Rattle.plan_laws.proofs.Words.{each_side, in_second}
use Rattle.plan_names.specs.Gathered.{has, with_all, with_new}
use Rattle.plan_names.specs.Same.{same}
use Rattle.plan_names.proofs.Gathering.{in_has}
use Rattle.plan_names.proofs.SameNames.{is_same, own_same}
use Rattle.plan_rules.specs.NameTexts.{digits, name_text, name_texts}
use Rattle.plan_rules.specs.Writable.{AreFineNames, AreOtherNames, IsWritable}
use Rattle.plan_rules.proofs.FineRules.{Fine}
use Rattle.plan_rules.proofs.SoundTexts.{IsDutyText, IsNumbered, fine_digits, texts_are}

no_false : false ≡ true → ⊥
no_false e = cc

-- what stands behind the last `_`
last_number : (u v a b : List ℕ) → u ++ 95 ∷ a ≡ v ++ 95 ∷ b → Each (λ (c : ℕ). c ≢ 95) a → Each (λ (c : ℕ). c ≢ 95) b → a ≡ b
last_number [] [] a b e plain other = same e
  where
    same : ◌≡◌ {A = List ℕ} (95 ∷ a) (95 ∷ b) → a ≡ b
    same e = cc
last_number [] (x ∷ v) a b e plain other =
    absurd (each_in (λ (c : ℕ). c ≢ 95) 95 a plain (subst (λ (w : List ℕ). In 95 w) (sym (same e)) (in_second 95 v (95 ∷ b) (inl refl))) refl)
  where
    same : ◌≡◌ {A = List ℕ} (95 ∷ a) (x ∷ (v ++ 95 ∷ b)) → a ≡ v ++ 95 ∷ b
    same e = cc
last_number (x ∷ u) [] a b e plain other =
    absurd (each_in (λ (c : ℕ). c ≢ 95) 95 b other (subst (λ (w : List ℕ). In 95 w) (same e) (in_second 95 u (95 ∷ a) (inl refl))) refl)
  where
    same : ◌≡◌ {A = List ℕ} (x ∷ (u ++ 95 ∷ a)) (95 ∷ b) → u ++ 95 ∷ a ≡ b
    same e = cc
last_number (x ∷ u) (y ∷ v) a b e plain other = last_number u v a b (same e) plain other
  where
    same : ◌≡◌ {A = List ℕ} (x ∷ (u ++ 95 ∷ a)) (y ∷ (v ++ 95 ∷ b)) → u ++ 95 ∷ a ≡ v ++ 95 ∷ b
    same e = cc

one_digit : (i j : ℕ) → ◌≡◌ {A = List ℕ} (i ∷ []) (j ∷ []) → i ≡ j
one_digit i j e = cc

two_digits : (i j k l : ℕ) → ◌≡◌ {A = List ℕ} (i ∷ j ∷ []) (k ∷ l ∷ []) → (i ≡ k) × (j ≡ l)
two_digits i j k l e = (cc, cc)

same_digits : (i j : ℕ) → digits i ≡ digits j → i ≡ j
same_digits i j e = go (nat_lt i 10) (nat_lt j 10) e
  where
    go : (v w : Bool) → cond v ((48 + i) ∷ []) ((48 + i / 10) ∷ (48 + i % 10) ∷ []) ≡ cond w ((48 + j) ∷ []) ((48 + j / 10) ∷ (48 + j % 10) ∷ []) → i ≡ j
    go true true e = omega (arith, one_digit (48 + i) (48 + j) e)
    go true false e = absurd (omega (arith, ap length e))
    go false true e = absurd (omega (arith, ap length e))
    go false false e = let d = two_digits (48 + i / 10) (48 + i % 10) (48 + j / 10) (48 + j % 10) e in omega (arith, d.0, d.1)

-- no two names that are gathered are one
abbrev pub Distinct : List Kind → Type 0
Distinct [] = Unit {0}
Distinct (k ∷ ks) = Each (λ (j : Kind). j ≢ k) ks × Distinct ks

push : (js : List Kind) (k : Kind) → Distinct js → (In k js → ⊥) → Distinct (js ++ k ∷ [])
push [] k d out = (tt, tt)
push (j ∷ js) k d out = (each_side (λ (i : Kind). i ≢ j) js (k ∷ []) d.0 ((λ e. out (inl e)), tt), push js k d.1 (λ h. out (inr h)))

new_distinct : (js : List Kind) (y : Kind) → Distinct js → Distinct (with_new same js y)
new_distinct js y d = go (has same y js) refl
  where
    go : (v : Bool) → has same y js ≡ v → Distinct (cond v js (js ++ y ∷ []))
    go true e = d
    go false e = push js y d (λ h. no_false (sym e ∙ in_has same is_same own_same y js h))

pub all_distinct : (js ys : List Kind) → Distinct js → Distinct (with_all same js ys)
all_distinct js [] d = d
all_distinct js (y ∷ ys) d = all_distinct (with_new same js y) ys (new_distinct js y d)

pub distinct_at : (ks : List Kind) → Distinct ks → (i j : ℕ) (a b : Kind) → i < j → slice_get ks i ≡ Some a → slice_get ks j ≡ Some b → a ≢ b
distinct_at [] d i j a b less e f = absurd (never e)
  where
    never : ◌≡◌ {A = Option Kind} None (Some a) → ⊥
    never e = cc
distinct_at (k ∷ ks) d zero zero a b less e f = absurd (omega (arith, less))
distinct_at (k ∷ ks) d zero (suc j) a b less e f = λ is. each_in (λ (i : Kind). i ≢ k) b ks d.0 (get-in ks j b f) (sym is ∙ some e)
  where
    some : ◌≡◌ {A = Option Kind} (Some k) (Some a) → a ≡ k
    some e = cc
distinct_at (k ∷ ks) d (suc i) zero a b less e f = absurd (omega (arith, less))
distinct_at (k ∷ ks) d (suc i) (suc j) a b less e f = distinct_at ks d.1 i j a b (omega (arith, less)) e f

-- the name that a text is of
pub text_of : (n : ℕ) (ks : List Kind) (i : ℕ) (text : List ℕ) → slice_get (name_texts n ks) i ≡ Some text → (k : Kind) × (slice_get ks i ≡ Some k) × (text ≡ name_text (n + i) k)
text_of n [] i text e = absurd (never e)
  where
    never : ◌≡◌ {A = Option (List ℕ)} None (Some text) → ⊥
    never e = cc
text_of n (k ∷ ks) zero text e =
    let same_place : n ≡ n + 0 = omega arith in
    (k, refl, some e ∙ ap (λ (m : ℕ). name_text m k) same_place)
  where
    some : ◌≡◌ {A = Option (List ℕ)} (Some (name_text n k)) (Some text) → text ≡ name_text n k
    some e = cc
text_of n (k ∷ ks) (suc i) text e =
    let t = text_of (n + 1) ks i text e in
    let same_place : n + 1 + i ≡ n + suc i = omega arith in
    (t.0, t.1, t.2 ∙ ap (λ (m : ℕ). name_text m t.0) same_place)

no_more : (n : ℕ) → 0 + n ≡ n
no_more n = omega arith

-- lines of one name are one
other_lines : (ys : List NamedLines) (x y : NamedLines) → AreOtherNames ys → In x ys → In y ys → x.name ≡ y.name → x ≡ y
other_lines [] x y others in_x in_y e = absurd in_x
other_lines (z ∷ ys) x y others (inl e) (inl f) is = e ∙ sym f
other_lines (z ∷ ys) x y others (inl e) (inr f) is = absurd (each_in (λ (v : NamedLines). v.name ≢ z.name) y ys others.0 f (sym is ∙ ap (λ (v : NamedLines). v.name) e))
other_lines (z ∷ ys) x y others (inr e) (inl f) is = absurd (each_in (λ (v : NamedLines). v.name ≢ z.name) x ys others.0 e (is ∙ ap (λ (v : NamedLines). v.name) f))
other_lines (z ∷ ys) x y others (inr e) (inr f) is = other_lines ys x y others.1 e f is

one_of : (ys : List NamedLines) → AreFineNames ys → (x y : NamedLines) → In x ys → In y ys → x.name ≡ y.name → x ≡ y
one_of ys (inl only) x y in_x in_y e = lone x (subst (λ (zs : List NamedLines). In x zs) only.1 in_x) ∙ sym (lone y (subst (λ (zs : List NamedLines). In y zs) only.1 in_y))
  where
    lone : (z : NamedLines) → In z (only.0 ∷ []) → z ≡ only.0
    lone z (inl e) = e
    lone z (inr q) = absurd q
one_of ys (inr named) x y in_x in_y e = other_lines ys x y named.2 in_x in_y e

module _ (p : PeriodPlan) (free : Free) (xs : List NamedLines) (h : IsWritable p xs) (ks : List Kind) (few : length ks ≤ 32) (fine : Each (Fine p free xs) ks) (distinct : Distinct ks) where
  abbrev IsText : ℕ → Kind → Type 0
  IsText n k = IsNumbered n (name_text n k) ⊎ IsDutyText xs k (name_text n k)

  kinds_apart : (i j : ℕ) (k l : Kind) → i < j → i < 100 → j < 100 → slice_get ks i ≡ Some k → slice_get ks j ≡ Some l → IsText i k → IsText j l → name_text i k ≢ name_text j l
  kinds_apart i j k l less low high e f (inl t) (inl u) = λ is.
      let both : t.word ++ 95 ∷ digits i ≡ u.word ++ 95 ∷ digits j = sym t.is ∙ is ∙ u.is in
      let one = same_digits i j (last_number t.word u.word (digits i) (digits j) both (fine_digits i low).plain (fine_digits j high).plain) in
      omega (arith, one, less)
  kinds_apart i j k l less low high e f (inl t) (inr u) = λ is.
      let both : t.word ++ 95 ∷ digits i ≡ u.lines.name = sym t.is ∙ is ∙ u.text_is in
      each_in (λ (c : ℕ). c ≢ 95) 95 u.lines.name u.named.plain (subst (λ (w : List ℕ). In 95 w) both (in_second 95 t.word (95 ∷ digits i) (inl refl))) refl
  kinds_apart i j k l less low high e f (inr t) (inl u) = λ is.
      let both : u.word ++ 95 ∷ digits j ≡ t.lines.name = sym u.is ∙ sym is ∙ t.text_is in
      each_in (λ (c : ℕ). c ≢ 95) 95 t.lines.name t.named.plain (subst (λ (w : List ℕ). In 95 w) both (in_second 95 u.word (95 ∷ digits j) (inl refl))) refl
  kinds_apart i j k l less low high e f (inr t) (inr u) = λ is.
      let lines = one_of xs h.names t.lines u.lines t.listed u.listed (sym t.text_is ∙ is ∙ u.text_is) in
      distinct_at ks distinct i j k l less e f (t.kind ∙ ap (λ (x : NamedLines). day x.name x.lines) lines ∙ sym u.kind)

  pub texts_apart : (i j : ℕ) (a b : List ℕ) → i < j → slice_get (name_texts 0 ks) i ≡ Some a → slice_get (name_texts 0 ks) j ≡ Some b → a ≢ b
  texts_apart i j a b less e f =
      let k = text_of 0 ks i a e in
      let l = text_of 0 ks j b f in
      let low = slice_get_within ks i k.0 k.1 in
      let high = slice_get_within ks j l.0 l.1 in
      λ is. kinds_apart i j k.0 l.0 less (omega (arith, low, few)) (omega (arith, high, few)) k.1 l.1
      (texts_are p free xs h i k.0 (Each-get (Fine p free xs) ks i k.0 fine k.1))
      (texts_are p free xs h j l.0 (Each-get (Fine p free xs) ks j l.0 fine l.1)) (sym (k.2 ∙ ap (λ (n : ℕ). name_text n k.0) (no_more i)) ∙ is ∙ (l.2 ∙ ap (λ (n : ℕ). name_text n l.0) (no_more j)))
