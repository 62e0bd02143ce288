-- Readings that take exactly the lines of a form.
use Rattle.std.proofs.Common.{◌≡◌, ℕ, List, [], ◌∷◌, ◌++◌, Option, Some, None, Result, Ok, Err, refl, sym, ap, ◌∙◌, subst, append_assoc}
use Rattle.text_lines.specs.Steps as steps
use Rattle.text_lines.proofs.StepsLemmas.{bind_ok, same_ok, err}
use Rattle.model_rosters.specs.Folds.{Each}
use Rattle.text_proof_pieces.proofs.FineItems.{AreFine, IsFine}
use Rattle.text_reports.specs.declared.fault.ReportFault.{ReportFault}
use Rattle.text_reports.specs.declared.fault.ReportFault.TheVariants.{BadByte, BadLine, CutShort, Trailing, Memory}
use Rattle.text_reports.specs.Readable.{Begins}
use Rattle.text_reports.specs.Readings.{Items, Reading, said_or, line_next, done, ◌>>=◌}

abbrev pub Lines : Type 0
Lines = List (List (List ℕ))

-- the lines that may say a value
abbrev pub Form : Type 0 → Type 1
Form A = A → Lines → Type 0

-- the lines are the first ones of some that have the form, and not all of them
abbrev pub Front : {A : Type 0} → Form A → Lines → Type 0
Front {A} f before = (a : A) × (l : List (List ℕ)) × (after : Lines) × f a (before ++ l ∷ after)

-- no lines of the form begin in this way, nor are they the first ones of such
abbrev pub Apart : {A : Type 0} → Form A → Lines → List (List ℕ) → Type 0
Apart {A} f before words = (a : A) (all more after : Lines) → f a all → all ++ more ≡ before ++ words ∷ after → ⊥

-- the first lines that are left have the form
abbrev pub Took : {A : Type 0} → Form A → Items → A × Items → Type 0
Took f items x = (ls : Lines) × f x.0 ls × Begins items ls x.1

abbrev pub BadBytes : {A : Type 0} → Form A → Items → ℕ → Type 0
BadBytes f items k = (before : Lines) × (after : Items) × Begins items before (Err (record { line = k }) ∷ after) × Front f before

abbrev pub BadLines : {A : Type 0} → Form A → Items → ℕ → Type 0
BadLines f items k =
    (before : Lines) × (words : List (List ℕ)) × (after : Items) × Begins items before (Ok (record { number = k; words = words }) ∷ after)
    × Front f before × Apart f before words

abbrev pub CutsShort : {A : Type 0} → Form A → Items → Type 0
CutsShort f items = (before : Lines) × Begins items before [] × Front f before

abbrev pub Refuses : {A : Type 0} → Form A → Items → ReportFault → Type 0
Refuses f items (BadByte k) = BadBytes f items k
Refuses f items (BadLine k) = BadLines f items k
Refuses f items CutShort = CutsShort f items
Refuses f items (Trailing k) = ⊥
Refuses f items Memory = ⊥

pub record IsExact {A : Type 0} (f : Form A) (p : Reading A) : Type 0 where
  pub some : (a : A) × (ls : Lines) × f a ls
  pub takes : (items : Items) → Each IsFine items → (x : A × Items) → p items ≡ Ok x → Took f items x
  pub gives : (items rest : Items) (a : A) (ls : Lines) → f a ls → Begins items ls rest → p items ≡ Ok (a, rest)
  pub refuses : (items : Items) → Each IsFine items → (e : ReportFault) → p items ≡ Err e → Refuses f items e
  pub once : (a b : A) (u v x y : Lines) → f a u → f b v → u ++ x ≡ v ++ y → (a ≡ b) × (u ≡ v) × (x ≡ y)

-- ---- items that begin with lines

pub begins_append : (items mid rest : Items) (u v : Lines) → Begins items u mid → Begins mid v rest → Begins items (u ++ v) rest
begins_append items mid rest [] v h k = subst (λ (m : Items). Begins m v rest) (sym h) k
begins_append [] mid rest (l ∷ u) v h k = absurd h
begins_append (Err b ∷ items) mid rest (l ∷ u) v h k = absurd h
begins_append (Ok line ∷ items) mid rest (l ∷ u) v h k = (h.0, begins_append items mid rest u v h.1 k)

pub begins_split : (items rest : Items) (u v : Lines) → Begins items (u ++ v) rest → (mid : Items) × Begins items u mid × Begins mid v rest
begins_split items rest [] v h = (items, refl, h)
begins_split [] rest (l ∷ u) v h = absurd h
begins_split (Err b ∷ items) rest (l ∷ u) v h = absurd h
begins_split (Ok line ∷ items) rest (l ∷ u) v h = let r = begins_split items rest u v h.1 in (r.0, (h.0, r.1), r.2)

pub begins_fine : (items rest : Items) (u : Lines) → Begins items u rest → Each IsFine items → Each IsFine rest
begins_fine items rest [] h k = subst (Each IsFine) h k
begins_fine [] rest (l ∷ u) h k = absurd h
begins_fine (Err b ∷ items) rest (l ∷ u) h k = absurd h
begins_fine (Ok line ∷ items) rest (l ∷ u) h k = begins_fine items rest u h.1 k.1

-- ---- nothing

abbrev pub Nothing : {A : Type 0} → A → Form A
Nothing x a ls = (a ≡ x) × (ls ≡ [])

pub done_exact : {A : Type 0} (x : A) → IsExact (Nothing x) (done x)
done_exact {A} x = record {
  some = (x, [], (refl, refl));
  takes = takes;
  gives = gives;
  refuses = λ items fine e h. absurd cc;
  once = once;
}
  where
    takes : (items : Items) → Each IsFine items → (y : A × Items) → done x items ≡ Ok y → Took (Nothing x) items y
    takes items fine y h =
        let same : (x, items) ≡ y = same_ok {E = ReportFault} (x, items) y h in
        ([], (ap (λ (z : A × Items). z.0) (sym same), refl), ap (λ (z : A × Items). z.1) same)

    gives : (items rest : Items) (a : A) (ls : Lines) → Nothing x a ls → Begins items ls rest → done x items ≡ Ok (a, rest)
    gives items rest a ls h b =
        let none : items ≡ rest = subst (λ (l : Lines). Begins items l rest) h.1 b in
        rw (none, h.0) refl

    once : (a b : A) (u v s t : Lines) → Nothing x a u → Nothing x b v → u ++ s ≡ v ++ t → (a ≡ b) × (u ≡ v) × (s ≡ t)
    once a b u v s t h k e =
        let same : s ≡ t = rw (h.1, k.1) at e in
        (h.0 ∙ sym k.0, h.1 ∙ sym k.1, same)

-- ---- one line

-- a line that says a value in its one way
abbrev pub Line : {A : Type 0} → (A → Type 0) → (A → List (List ℕ)) → Form A
Line fits says a ls = fits a × (ls ≡ says a ∷ [])

pub line_exact : {A : Type 0} (fits : A → Type 0) (says : A → List (List ℕ)) (read : List (List ℕ) → Option A) (x : A) → fits x
    → ((ws : List (List ℕ)) (a : A) → AreFine ws → read ws ≡ Some a → fits a × (says a ≡ ws)) → ((a : A) → fits a → read (says a) ≡ Some a)
    → IsExact (Line fits says) (line_next read)
line_exact {A} fits says read x fit sound whole = record {
  some = (x, says x ∷ [], (fit, refl));
  takes = takes;
  gives = gives;
  refuses = refuses;
  once = once;
}
  where
    same_line : (l m : List (List ℕ)) (s t : Lines) → l ∷ s ≡ m ∷ t → (l ≡ m) × (s ≡ t)
    same_line l m s t e = (cc, cc)

    same_value : (a b : A) → fits a → fits b → says a ≡ says b → a ≡ b
    same_value a b h k e =
        let both : Some a ≡ Some b = sym (whole a h) ∙ ap read e ∙ whole b k in
        cc

    takes : (items : Items) → Each IsFine items → (y : A × Items) → line_next read items ≡ Ok y → Took (Line fits says) items y
    takes [] fine y h = absurd cc
    takes (Err b ∷ items) fine y h = absurd cc
    takes (Ok line ∷ items) fine y h = by (read line.words) refl h
      where
        by : (o : Option A) → read line.words ≡ o → said_or line.number items o ≡ Ok y → Took (Line fits says) (Ok line ∷ items) y
        by None at k = absurd cc
        by (Some a) at k =
            let same : (a, items) ≡ y = same_ok {E = ReportFault} (a, items) y k in
            let s = sound line.words a fine.0 at in
            subst (Took (Line fits says) (Ok line ∷ items)) same (says a ∷ [], (s.0, refl), (sym s.1, refl))

    gives : (items rest : Items) (a : A) (ls : Lines) → Line fits says a ls → Begins items ls rest → line_next read items ≡ Ok (a, rest)
    gives items rest a ls h b = by items (subst (λ (l : Lines). Begins items l rest) h.1 b)
      where
        by : (items : Items) → Begins items (says a ∷ []) rest → line_next read items ≡ Ok (a, rest)
        by [] k = absurd k
        by (Err e ∷ items) k = absurd k
        by (Ok line ∷ items) k =
            let at : read line.words ≡ Some a = ap read k.0 ∙ whole a h.0 in
            rw (at, k.1) refl

    refuses : (items : Items) → Each IsFine items → (e : ReportFault) → line_next read items ≡ Err e → Refuses (Line fits says) items e
    refuses [] fine e h = subst (Refuses (Line fits says) []) (same_err CutShort e h) ([], refl, (x, says x, [], (fit, refl)))
      where
        same_err : (d e : ReportFault) → err {A = A × Items} d ≡ err e → d ≡ e
        same_err d e h = cc
    refuses (Err b ∷ items) fine e h = subst (Refuses (Line fits says) (Err b ∷ items)) (same_err (BadByte b.line) e h) ([], items, refl, (x, says x, [], (fit, refl)))
      where
        same_err : (d e : ReportFault) → err {A = A × Items} d ≡ err e → d ≡ e
        same_err d e h = cc
    refuses (Ok line ∷ items) fine e h = by (read line.words) refl h
      where
        same_err : (d e : ReportFault) → err {A = A × Items} d ≡ err e → d ≡ e
        same_err d e h = cc

        apart : read line.words ≡ None → Apart (Line fits says) [] line.words
        apart at a all more after h e =
            let first : says a ∷ more ≡ line.words ∷ after = subst (λ (l : Lines). l ++ more ≡ line.words ∷ after) h.1 e in
            let same = same_line (says a) line.words more after first in
            let some : read line.words ≡ Some a = ap read (sym same.0) ∙ whole a h.0 in
            absurd cc

        by : (o : Option A) → read line.words ≡ o → said_or line.number items o ≡ Err e → Refuses (Line fits says) (Ok line ∷ items) e
        by (Some a) at k = absurd cc
        by None at k =
            subst (Refuses (Line fits says) (Ok line ∷ items)) (same_err (BadLine line.number) e k)
            ([], line.words, items, refl, (x, says x, [], (fit, refl)), apart at)

    once : (a b : A) (u v s t : Lines) → Line fits says a u → Line fits says b v → u ++ s ≡ v ++ t → (a ≡ b) × (u ≡ v) × (s ≡ t)
    once a b u v s t h k e =
        let lines : says a ∷ s ≡ says b ∷ t = rw (h.1, k.1) at e in
        let same = same_line (says a) (says b) s t lines in
        let value = same_value a b h.0 k.0 same.0 in
        (value, h.1 ∙ ap (λ (z : A). says z ∷ []) value ∙ sym k.1, same.1)

-- ---- one form behind another

-- lines of the first form, and lines of the form that goes with what they say
abbrev pub Then : {A B : Type 0} → Form A → (A → Form B) → Form B
Then {A} f g b ls = (a : A) × (u : Lines) × (v : Lines) × f a u × g a b v × (ls ≡ u ++ v)

module _ {A B : Type 0} (f : Form A) (g : A → Form B) (p : Reading A) (q : A → Reading B) (first : IsExact f p) (second : (a : A) → IsExact (g a) (q a)) where
  front_first : (before : Lines) → Front f before → Front (Then f g) before
  front_first before h =
      let next = (second h.0).some in
      (next.0, h.1, h.2 ++ next.1, (h.0, before ++ h.1 ∷ h.2, next.1, h.3, next.2, sym (append_assoc before (h.1 ∷ h.2) next.1)))

  front_second : (a : A) (u before : Lines) → f a u → Front (g a) before → Front (Then f g) (u ++ before)
  front_second a u before h k = (k.0, k.1, k.2, (a, u, before ++ k.1 ∷ k.2, h, k.3, append_assoc u before (k.1 ∷ k.2)))

  apart_first : (before : Lines) (words : List (List ℕ)) → Apart f before words → Apart (Then f g) before words
  apart_first before words h b all more after k e =
      h k.0 k.1 (k.2 ++ more) after k.3 (sym (append_assoc k.1 k.2 more) ∙ ap (λ (l : Lines). l ++ more) (sym k.5) ∙ e)

  apart_second : (a : A) (u before : Lines) (words : List (List ℕ)) → f a u → Apart (g a) before words → Apart (Then f g) (u ++ before) words
  apart_second a u before words h k b all more after t e =
      let lines : t.1 ++ (t.2 ++ more) ≡ u ++ (before ++ words ∷ after) = sym (append_assoc t.1 t.2 more) ∙ ap (λ (l : Lines). l ++ more) (sym t.5) ∙ e ∙ append_assoc u before (words ∷ after) in
      let same = first.once t.0 a t.1 u (t.2 ++ more) (before ++ words ∷ after) t.3 h lines in
      k b t.2 more after (subst (λ (z : A). g z b t.2) same.0 t.4) same.2

  refuses_first : (items : Items) (e : ReportFault) → Refuses f items e → Refuses (Then f g) items e
  refuses_first items (BadByte k) h = (h.0, h.1, h.2, front_first h.0 h.3)
  refuses_first items (BadLine k) h = (h.0, h.1, h.2, h.3, front_first h.0 h.4, apart_first h.0 h.1 h.5)
  refuses_first items CutShort h = (h.0, h.1, front_first h.0 h.2)
  refuses_first items (Trailing k) h = absurd h
  refuses_first items Memory h = absurd h

  refuses_second : (items mid : Items) (a : A) (u : Lines) (e : ReportFault) → f a u → Begins items u mid → Refuses (g a) mid e → Refuses (Then f g) items e
  refuses_second items mid a u (BadByte k) h b r = (u ++ r.0, r.1, begins_append items mid _ u r.0 b r.2, front_second a u r.0 h r.3)
  refuses_second items mid a u (BadLine k) h b r =
      (u ++ r.0, r.1, r.2, begins_append items mid _ u r.0 b r.3, front_second a u r.0 h r.4, apart_second a u r.0 r.1 h r.5)
  refuses_second items mid a u CutShort h b r = (u ++ r.0, begins_append items mid _ u r.0 b r.1, front_second a u r.0 h r.2)
  refuses_second items mid a u (Trailing k) h b r = absurd r
  refuses_second items mid a u Memory h b r = absurd r

  pub then_exact : IsExact (Then f g) (p >>= q)
  then_exact = record {
    some = let one = first.some in let two = (second one.0).some in (two.0, one.1 ++ two.1, (one.0, one.1, two.1, one.2, two.2, refl));
    takes = takes;
    gives = gives;
    refuses = refuses;
    once = once;
  }
    where
      next : A × Items → Result (B × Items) ReportFault
      next x = q x.0 x.1

      takes : (items : Items) → Each IsFine items → (y : B × Items) → (p >>= q) items ≡ Ok y → Took (Then f g) items y
      takes items fine y h =
          let parts = bind_ok (p items) next y h in
          let x : A × Items = parts.0 in
          let one = first.takes items fine x parts.1 in
          let two = (second x.0).takes x.1 (begins_fine items x.1 one.0 one.2 fine) y parts.2 in
          (one.0 ++ two.0, (x.0, one.0, two.0, one.1, two.1, refl), begins_append items x.1 y.1 one.0 two.0 one.2 two.2)

      gives : (items rest : Items) (b : B) (ls : Lines) → Then f g b ls → Begins items ls rest → (p >>= q) items ≡ Ok (b, rest)
      gives items rest b ls t h =
          let parts = begins_split items rest t.1 t.2 (subst (λ (l : Lines). Begins items l rest) t.5 h) in
          let one : p items ≡ Ok (t.0, parts.0) = first.gives items parts.0 t.0 t.1 t.3 parts.1 in
          ap (λ (r : Result (A × Items) ReportFault). steps.◌>>=◌ r next) one ∙ (second t.0).gives parts.0 rest b t.2 t.4 parts.2

      refuses : (items : Items) → Each IsFine items → (e : ReportFault) → (p >>= q) items ≡ Err e → Refuses (Then f g) items e
      refuses items fine e h = by (p items) refl h
        where
          same_err : (d e : ReportFault) → err {A = B × Items} d ≡ err e → d ≡ e
          same_err d e h = cc

          by : (r : Result (A × Items) ReportFault) → p items ≡ r → steps.◌>>=◌ r next ≡ Err e → Refuses (Then f g) items e
          by (Err d) at k = subst (Refuses (Then f g) items) (same_err d e k) (refuses_first items d (first.refuses items fine d at))
          by (Ok x) at k =
              let one = first.takes items fine x at in
              refuses_second items x.1 x.0 one.0 e one.1 one.2 ((second x.0).refuses x.1 (begins_fine items x.1 one.0 one.2 fine) e k)

      once : (b c : B) (u v x y : Lines) → Then f g b u → Then f g c v → u ++ x ≡ v ++ y → (b ≡ c) × (u ≡ v) × (x ≡ y)
      once b c u v x y s t e =
          let lines : s.1 ++ (s.2 ++ x) ≡ t.1 ++ (t.2 ++ y) = sym (append_assoc s.1 s.2 x) ∙ ap (λ (l : Lines). l ++ x) (sym s.5) ∙ e ∙ ap (λ (l : Lines). l ++ y) t.5 ∙ append_assoc t.1 t.2 y in
          let one = first.once s.0 t.0 s.1 t.1 (s.2 ++ x) (t.2 ++ y) s.3 t.3 lines in
          let theirs : g s.0 c t.2 = subst (λ (z : A). g z c t.2) (sym one.0) t.4 in
          let two = (second s.0).once b c s.2 t.2 x y s.4 theirs one.2 in
          let all : s.1 ++ s.2 ≡ t.1 ++ t.2 = ap (λ (l : Lines). l ++ s.2) one.1 ∙ ap (λ (l : Lines). t.1 ++ l) two.1 in
          (two.0, s.5 ∙ all ∙ sym t.5, two.2)

-- ---- the same form in other words

module _ {A : Type 0} (f g : Form A) (p : Reading A) (to : (a : A) (ls : Lines) → f a ls → g a ls) (back : (a : A) (ls : Lines) → g a ls → f a ls) where
  same_front : (before : Lines) → Front f before → Front g before
  same_front before h = (h.0, h.1, h.2, to h.0 (before ++ h.1 ∷ h.2) h.3)

  same_apart : (before : Lines) (words : List (List ℕ)) → Apart f before words → Apart g before words
  same_apart before words h a all more after k e = h a all more after (back a all k) e

  same_refuses : (items : Items) (e : ReportFault) → Refuses f items e → Refuses g items e
  same_refuses items (BadByte k) h = (h.0, h.1, h.2, same_front h.0 h.3)
  same_refuses items (BadLine k) h = (h.0, h.1, h.2, h.3, same_front h.0 h.4, same_apart h.0 h.1 h.5)
  same_refuses items CutShort h = (h.0, h.1, same_front h.0 h.2)
  same_refuses items (Trailing k) h = absurd h
  same_refuses items Memory h = absurd h

  pub same_exact : IsExact f p → IsExact g p
  same_exact h = record {
    some = let s = h.some in (s.0, s.1, to s.0 s.1 s.2);
    takes = λ items fine x e. let t = h.takes items fine x e in (t.0, to x.0 t.0 t.1, t.2);
    gives = λ items rest a ls k b. h.gives items rest a ls (back a ls k) b;
    refuses = λ items fine e k. same_refuses items e (h.refuses items fine e k);
    once = λ a b u v x y k l e. h.once a b u v x y (back a u k) (back b v l) e;
  }
