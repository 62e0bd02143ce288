-- What the names of a writable plan are called are names of a rules text.
use Rattle.std.proofs.Common.{◌≡◌, ◌≢◌, ◌⊎◌, inl, inr, ℕ, suc, ◌+◌, ◌/◌, ◌%◌, ◌<◌, ◌≤◌, Bool, true, false, not, cond, nat_lt, ◌&&◌, ◌||◌, List, [], ◌∷◌, ◌++◌, length, codes, arith, refl, sym, ap, ◌∙◌, subst, length-append, get_or, eqb, leb}
use Rattle.std.specs.List.{list_all}
use Rattle.std.specs.Str.{bytes_eq}
use Rattle.std.proofs.lemmas.Bool.{and_from, and_parts, le-leb, lt-ltb, ltb-true}
use Rattle.std.proofs.lemmas.List.{length-map}
use Rattle.std.proofs.lemmas.Slice.Eq.{bytes_eq-Decides}
use Rattle.model_rosters.specs.Folds.{Each, In}
use Rattle.model_rosters.specs.Names.{is_letter, is_name, is_name_byte, is_window_word}
use Rattle.plan_laws.specs.declared.period_plan.Activity.{Activity}
use Rattle.plan_laws.specs.declared.period_plan.NamedLines.{NamedLines}
use Rattle.plan_laws.specs.declared.period_plan.PeriodPlan.{PeriodPlan}
use Rattle.plan_laws.specs.Names.{Free, Kind, at, run, block, free_one, any_list, open_list, from, other, work, rest, off, step, steps, lead, duty, day, start}
use Rattle.plan_laws.proofs.Sides.{all_each, map_each}
use Rattle.plan_laws.proofs.Trees.{each_in}
use Rattle.plan_laws.proofs.Words.{each_side, in_second}
use Rattle.plan_rules.specs.NameTexts.{day_text, digits, name_or, name_text, numbered, set_codes, with_code, with_codes}
use Rattle.plan_rules.specs.Writable.{AreFineNames, IsDutyName, IsFineCode, IsFineLine, IsFineSet, IsWritable}
use Rattle.plan_rules.proofs.FineRules.{Fine}

no_false : false ≡ true → ⊥
no_false e = cc

abbrev pub IsByte : ℕ → Type 0
IsByte b = is_name_byte b ≡ true

abbrev pub AreBytes : List ℕ → Type 0
AreBytes w = Each IsByte w

all_of : (w : List ℕ) → AreBytes w → list_all is_name_byte w ≡ true
all_of [] h = refl
all_of (b ∷ w) h = and_from _ _ h.0 (all_of w h.1)

each_of : (w : List ℕ) → list_all is_name_byte w ≡ true → AreBytes w
each_of [] h = tt
each_of (b ∷ w) h = let q = and_parts (is_name_byte b) (list_all is_name_byte w) h in (q.0, each_of w q.1)

-- a word that begins with a letter
pub record Begins (w : List ℕ) : Type 0 where
  pub byte : ℕ
  pub more : List ℕ
  pub is : w ≡ byte ∷ more
  pub letter : is_letter byte ≡ true

begins_on : (w v : List ℕ) → Begins w → Begins (w ++ v)
begins_on w v b = record { byte = b.byte; more = b.more ++ v; is = ap (λ (u : List ℕ). u ++ v) b.is; letter = b.letter }

-- no word of the windows has a `_`
no_window : (w : List ℕ) → In 95 w → is_window_word w ≡ false
unfolding is_window_word
no_window w here = neither (bytes_eq w (codes "len")) (bytes_eq w (codes "begin")) (bytes_eq w (codes "end")) refl refl refl
  where
    same : (v : List ℕ) → bytes_eq w v ≡ true → In 95 v
    same v e = subst (λ (u : List ℕ). In 95 u) ((bytes_eq-Decides w v).0 e) here

    neither : (a b c : Bool) → bytes_eq w (codes "len") ≡ a → bytes_eq w (codes "begin") ≡ b → bytes_eq w (codes "end") ≡ c → (a || b || c) ≡ false
    neither true b c e f g = absurd (three (same (codes "len") e))
      where
        three : In 95 (codes "len") → ⊥
        three (inl q) = absurd (omega (arith, q))
        three (inr (inl q)) = absurd (omega (arith, q))
        three (inr (inr (inl q))) = absurd (omega (arith, q))
        three (inr (inr (inr q))) = absurd q
    neither false true c e f g = absurd (five (same (codes "begin") f))
      where
        five : In 95 (codes "begin") → ⊥
        five (inl q) = absurd (omega (arith, q))
        five (inr (inl q)) = absurd (omega (arith, q))
        five (inr (inr (inl q))) = absurd (omega (arith, q))
        five (inr (inr (inr (inl q)))) = absurd (omega (arith, q))
        five (inr (inr (inr (inr (inl q))))) = absurd (omega (arith, q))
        five (inr (inr (inr (inr (inr q))))) = absurd q
    neither false false true e f g = absurd (three (same (codes "end") g))
      where
        three : In 95 (codes "end") → ⊥
        three (inl q) = absurd (omega (arith, q))
        three (inr (inl q)) = absurd (omega (arith, q))
        three (inr (inr (inl q))) = absurd (omega (arith, q))
        three (inr (inr (inr q))) = absurd q
    neither false false false e f g = refl

name_of_parts : (w : List ℕ) → Begins w → AreBytes w → length w ≤ 32 → In 95 w → is_name w ≡ true
unfolding is_name
name_of_parts w b bytes short here =
    let long : length w ≡ suc (length b.more) = ap length b.is in
    let first : is_letter (get_or w 0 0) ≡ true = ap (λ (u : List ℕ). is_letter (get_or u 0 0)) b.is ∙ b.letter in
    and_from _ _ (and_from _ _ (and_from _ _ (and_from _ _ (lt-ltb 0 (length w) (omega (arith, long))) (le-leb (length w) 32 short)) first) (all_of w bytes)) (ap not (no_window w here))

-- digits
digit_byte : (b : ℕ) → 48 ≤ b → b ≤ 57 → IsByte b
digit_byte b low high = by (is_letter b) (leb 48 b && leb b 57) (eqb b 95) (and_from _ _ (le-leb 48 b low) (le-leb b 57 high))
  where
    by : (x y z : Bool) → y ≡ true → (x || y || z) ≡ true
    by true y z e = refl
    by false true z e = refl
    by false false z e = absurd (no_false e)

-- digits of a number below 100, none of which is a `_`
pub record AreDigits (ds : List ℕ) : Type 0 where
  pub bytes : AreBytes ds
  pub plain : Each (λ (b : ℕ). b ≢ 95) ds
  pub short : length ds ≤ 2

pub fine_digits : (n : ℕ) → n < 100 → AreDigits (digits n)
fine_digits n few = go (nat_lt n 10) refl
  where
    go : (v : Bool) → nat_lt n 10 ≡ v → AreDigits (cond v ((48 + n) ∷ []) ((48 + n / 10) ∷ (48 + n % 10) ∷ []))
    go true e =
        let less = ltb-true n 10 e in
        record {
          bytes = (digit_byte (48 + n) (omega arith) (omega (arith, less)), tt);
          plain = ((λ q. omega (arith, q, less)), tt);
          short = omega arith;
        }
    go false e =
        let tens : n / 10 ≤ 9 = omega (arith, few) in
        let ones : n % 10 ≤ 9 = omega arith in
        record {
          bytes = (digit_byte (48 + n / 10) (omega arith) (omega (arith, tens)), (digit_byte (48 + n % 10) (omega arith) (omega (arith, ones)), tt));
          plain = ((λ q. omega (arith, q, tens)), ((λ q. omega (arith, q, ones)), tt));
          short = omega arith;
        }

-- a word, `_` and a number
pub record IsWord (w : List ℕ) : Type 0 where
  pub begins : Begins w
  pub bytes : AreBytes w
  pub short : length w ≤ 29

numbered_name : (w : List ℕ) (n : ℕ) → n < 100 → IsWord w → is_name (numbered w n) ≡ true
numbered_name w n few h =
    let d = fine_digits n few in
    let long = length-append w (95 ∷ digits n) in
    let short = h.short in
    let more = d.short in
    name_of_parts (w ++ 95 ∷ digits n) (begins_on w (95 ∷ digits n) h.begins) (each_side IsByte w (95 ∷ digits n) h.bytes (refl, d.bytes))
    (omega (arith, long, short, more)) (in_second 95 w (95 ∷ digits n) (inl refl))

-- a word with the codes of activities
coded_word : (w cs : List ℕ) → Begins w → AreBytes w → length w ≤ 5 → AreBytes cs → length cs ≤ 8 → IsWord (w ++ 95 ∷ cs)
coded_word w cs b bytes short fine few =
    let long = length-append w (95 ∷ cs) in
    record {
      begins = begins_on w (95 ∷ cs) b;
      bytes = each_side IsByte w (95 ∷ cs) bytes (refl, fine);
      short = omega (arith, long, short, few);
    }

bare_word : (w : List ℕ) → Begins w → AreBytes w → length w ≤ 5 → IsWord w
bare_word w b bytes short = record { begins = b; bytes = bytes; short = omega (arith, short) }

capital : (b : ℕ) (w : List ℕ) → is_letter b ≡ true → Begins (b ∷ w)
capital b w e = record { byte = b; more = w; is = refl; letter = e }

-- what a name is called: a duty name, or a word and a number
pub record IsNumbered (n : ℕ) (text : List ℕ) : Type 0 where
  pub word : List ℕ
  pub fine : IsWord word
  pub is : text ≡ numbered word n

pub record IsDutyText (xs : List NamedLines) (k : Kind) (text : List ℕ) : Type 0 where
  pub lines : NamedLines
  pub listed : In lines xs
  pub kind : k ≡ day lines.name lines.lines
  pub text_is : text ≡ lines.name
  pub named : IsDutyName lines.name

module _ (p : PeriodPlan) (free : Free) (xs : List NamedLines) (h : IsWritable p xs) where
  code_fine : (a : Activity) → In a p.activities → IsByte a.code
  code_fine a here = (each_in (λ (b : Activity). IsFineCode b.code) a p.activities h.codes.codes here).0

  set_fine : (r : ℕ) (s : List Activity) → IsFineSet p r s → AreBytes (set_codes s)
  set_fine r s set = map_each IsByte (λ (a : Activity). a.code) s (all_each (λ (a : Activity). IsByte a.code) s (λ a at_s. code_fine a (each_in (IsFineLine p r) a s set.lines at_s).line.one))

  with_one : (w : List ℕ) (r : ℕ) (a : Activity) → Begins w → AreBytes w → length w ≤ 5 → IsFineLine p r a → IsWord (with_code w a)
  with_one w r a b bytes short line = coded_word w (a.code ∷ []) b bytes short (code_fine a line.line.one, tt) (omega arith)

  with_set : (w : List ℕ) (r : ℕ) (s : List Activity) → Begins w → AreBytes w → length w ≤ 5 → IsFineSet p r s → IsWord (with_codes w s)
  with_set w r s b bytes short set =
      let long = length-map s (λ (a : Activity). a.code) in
      let few = set.few in
      coded_word w (set_codes s) b bytes short (set_fine r s set) (omega (arith, long, few))

  -- a name of lines is none, or a duty name
  lines_named : (ys : List NamedLines) → AreFineNames ys → (x : NamedLines) → In x ys → (x.name ≡ []) ⊎ IsDutyName x.name
  lines_named ys (inl only) x here = inl (one (subst (λ (zs : List NamedLines). In x zs) only.1 here))
    where
      one : In x (only.0 ∷ []) → x.name ≡ []
      one (inl e) = ap (λ (y : NamedLines). y.name) e ∙ only.2
      one (inr q) = absurd q
  lines_named ys (inr named) x here = inr (each_in (λ (y : NamedLines). IsDutyName y.name) x ys named.1 here)

  first_letter : (name : List ℕ) → is_name name ≡ true → Begins name × AreBytes name
  unfolding is_name
  first_letter [] e = absurd (no_false e)
  first_letter (c ∷ cs) e =
      let a = and_parts _ (not (is_window_word (c ∷ cs))) e in
      let b = and_parts _ (list_all is_name_byte (c ∷ cs)) a.0 in
      let d = and_parts _ (is_letter (get_or (c ∷ cs) 0 0)) b.0 in
      (record { byte = c; more = cs; is = refl; letter = d.1 }, each_of (c ∷ cs) b.1)

  duty_text : (name : List ℕ) → (name ≡ []) ⊎ IsDutyName name → IsWord (name_or (codes "Any") name ++ codes "_duty")
  duty_text [] h = record {
    begins = capital 65 (codes "ny_duty") refl;
    bytes = (refl, (refl, (refl, (refl, (refl, (refl, (refl, (refl, tt))))))));
    short = omega arith;
  }
  duty_text (c ∷ cs) (inl none) = absurd (never none)
    where
      never : ◌≡◌ {A = List ℕ} (c ∷ cs) [] → ⊥
      never e = cc
  duty_text (c ∷ cs) (inr d) =
      let f = first_letter (c ∷ cs) d.word in
      let long = length-append (c ∷ cs) (codes "_duty") in
      let short = d.short in
      record {
        begins = begins_on (c ∷ cs) (codes "_duty") f.0;
        bytes = each_side IsByte (c ∷ cs) (codes "_duty") f.1 (refl, (refl, (refl, (refl, (refl, tt)))));
        short = omega (arith, long, short);
      }

  abbrev IsText : ℕ → Kind → Type 0
  IsText n k = IsNumbered n (name_text n k) ⊎ IsDutyText xs k (name_text n k)

  word_text : (n : ℕ) (k : Kind) (w : List ℕ) → IsWord w → name_text n k ≡ numbered w n → IsText n k
  word_text n k w fine e = inl (record { word = w; fine = fine; is = e })

  day_texts : (n : ℕ) (tag : List ℕ) (x : NamedLines) → In x xs → x.name ≡ tag → (x.name ≡ []) ⊎ IsDutyName x.name → IsNumbered n (day_text tag n) ⊎ IsDutyText xs (day tag x.lines) (day_text tag n)
  day_texts n [] x here e named = inl (record { word = codes "Day"; fine = bare_word (codes "Day") (capital 68 (codes "ay") refl) (refl, (refl, (refl, tt))) (omega arith); is = refl })
  day_texts n (c ∷ cs) x here e (inl none) = absurd (never (sym e ∙ none))
    where
      never : ◌≡◌ {A = List ℕ} (c ∷ cs) [] → ⊥
      never e = cc
  day_texts n (c ∷ cs) x here e (inr named) = inr (record { lines = x; listed = here; kind = ap (λ (t : List ℕ). day t x.lines) (sym e); text_is = sym e; named = named })

  pub texts_are : (n : ℕ) (k : Kind) → Fine p free xs k → IsText n k
  texts_are n (at r a) m = word_text n (at r a) (with_code (codes "At") a) (with_one (codes "At") r a (capital 65 (codes "t") refl) (refl, (refl, tt)) (omega arith) m) refl
  texts_are n (run r a) m = word_text n (run r a) (with_code (codes "Run") a) (with_one (codes "Run") r a (capital 82 (codes "un") refl) (refl, (refl, (refl, tt))) (omega arith) m) refl
  texts_are n (block r a) m = word_text n (block r a) (with_code (codes "Block") a) (with_one (codes "Block") r a (capital 66 (codes "lock") refl) (refl, (refl, (refl, (refl, (refl, tt))))) (omega arith) m) refl
  texts_are n (free_one r s) m = word_text n (free_one r s) (with_codes (codes "One") s) (with_set (codes "One") r s (capital 79 (codes "ne") refl) (refl, (refl, (refl, tt))) (omega arith) m.pair.set) refl
  texts_are n (any_list r s) m = word_text n (any_list r s) (with_codes (codes "Some") s) (with_set (codes "Some") r s (capital 83 (codes "ome") refl) (refl, (refl, (refl, (refl, tt)))) (omega arith) m.set) refl
  texts_are n (open_list r s) m = word_text n (open_list r s) (with_codes (codes "Open") s) (with_set (codes "Open") r s (capital 79 (codes "pen") refl) (refl, (refl, (refl, (refl, tt)))) (omega arith) m.pair.set) refl
  texts_are n (from r s a) m = word_text n (from r s a) (with_code (codes "From") a)
      (with_one (codes "From") r a (capital 70 (codes "rom") refl) (refl, (refl, (refl, (refl, tt)))) (omega arith) (each_in (IsFineLine p r) a s m.pair.set.lines m.listed)) refl
  texts_are n (other r s a) m = word_text n (other r s a) (with_code (codes "Not") a)
      (with_one (codes "Not") r a (capital 78 (codes "ot") refl) (refl, (refl, (refl, tt))) (omega arith) (each_in (IsFineLine p r) a s m.pair.set.lines m.listed)) refl
  texts_are n (work r s long) m = word_text n (work r s long) (with_codes (codes "Work") s) (with_set (codes "Work") r s (capital 87 (codes "ork") refl) (refl, (refl, (refl, (refl, tt)))) (omega arith) m.0) refl
  texts_are n (rest r a begin) m = word_text n (rest r a begin) (with_code (codes "Pause") a) (with_one (codes "Pause") r a (capital 80 (codes "ause") refl) (refl, (refl, (refl, (refl, (refl, tt))))) (omega arith) m.0) refl
  texts_are n off m = word_text n off (codes "Off") (bare_word (codes "Off") (capital 79 (codes "ff") refl) (refl, (refl, (refl, tt))) (omega arith)) refl
  texts_are n step m = word_text n step (codes "Step") (bare_word (codes "Step") (capital 83 (codes "tep") refl) (refl, (refl, (refl, (refl, tt)))) (omega arith)) refl
  texts_are n steps m = word_text n steps (codes "Steps") (bare_word (codes "Steps") (capital 83 (codes "teps") refl) (refl, (refl, (refl, (refl, (refl, tt))))) (omega arith)) refl
  texts_are n lead m = word_text n lead (codes "Lead") (bare_word (codes "Lead") (capital 76 (codes "ead") refl) (refl, (refl, (refl, (refl, tt)))) (omega arith)) refl
  texts_are n (duty tag ds) m = word_text n (duty tag ds) (name_or (codes "Any") tag ++ codes "_duty") (duty_text tag (lines_named xs h.names (record { name = tag; lines = ds }) m)) refl
  texts_are n (day tag ds) m = day_texts n tag (record { name = tag; lines = ds }) m refl (lines_named xs h.names (record { name = tag; lines = ds }) m)
  texts_are n (start ys) m = word_text n (start ys) (codes "Day") (bare_word (codes "Day") (capital 68 (codes "ay") refl) (refl, (refl, (refl, tt))) (omega arith)) refl

  pub text_name : (n : ℕ) (k : Kind) → n < 100 → IsText n k → is_name (name_text n k) ≡ true
  text_name n k few (inl t) = ap is_name t.is ∙ numbered_name t.word n few t.fine
  text_name n k few (inr t) = ap is_name t.text_is ∙ t.named.word
