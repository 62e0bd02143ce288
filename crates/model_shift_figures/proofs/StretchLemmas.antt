-- The stretches of a word and the time off between them give the word back, and no stretch has time off.
use Rattle.std.proofs.Common.{◌≡◌, ℕ, zero, suc, ◌+◌, ◌-◌, ◌≤◌, ◌<◌, Bool, true, false, cond, eqb, eqb-true, Option, None, Some, List, [], ◌∷◌, ◌++◌, length, get_or, take, drop, refl, sym, ap, ◌∙◌, append_assoc, append-nil, arith}
use Rattle.std.specs.Prelude.{◌&&◌, not, All}
use Rattle.std.specs.List.{list_all}
use Rattle.std.proofs.lemmas.List.{at_drop_more, drop_more, get_or-drop, length-drop, take_more}
use Rattle.std.proofs.lemmas.List.Elements.{All-cons, All-nil}
use Rattle.std.proofs.lemmas.List.Folds.{list_all-append}
use Rattle.model_shift_figures.specs.StretchLaws.{is_on, letters, pasted, stretch_letters}
use Rattle.model_shift_figures.specs.Stretches.{cut_off, grown, last_stretch, next_live, stretches_from, stretches_of}
use Rattle.model_shift_figures.specs.declared.stretch.Stretch.{Stretch}

-- one letter more at the end
more_letters : (n byte : ℕ) → letters (suc n) byte ≡ letters n byte ++ byte ∷ []
more_letters zero byte = refl
more_letters (suc n) byte = ap (λ (t : List ℕ). byte ∷ t) (more_letters n byte)

-- a letter stands behind so many periods
abbrev Follows : List ℕ → ℕ → ℕ → List ℕ → Type 0
Follows word k b bs = (k < length word) × (get_or word k 0 ≡ b) × (drop (k + 1) word ≡ bs)

follows : (word : List ℕ) (k b : ℕ) (bs : List ℕ) → drop k word ≡ b ∷ bs → Follows word k b bs
follows word k b bs e =
    let lt : k < length word = omega (arith, ap length e, length-drop k word) in
    let both : get_or word k 0 ∷ drop (k + 1) word ≡ b ∷ bs = sym (drop_more word k 0 lt) ∙ e in
    (lt, ap (λ (l : List ℕ). get_or l 0 0) both, ap (λ (l : List ℕ). drop (suc 0) l) both)

-- the stretch of one letter
first_letter : (word : List ℕ) (k b : ℕ) (bs : List ℕ) → drop k word ≡ b ∷ bs
    → stretch_letters word (record { first = k + 1; last = k + 1 }) ≡ b ∷ []
first_letter word k b bs e =
    let one : k + 1 + 1 - (k + 1) ≡ suc 0 = omega arith in
    let back : k + 1 - 1 ≡ k = omega arith in
    ap (λ (n : ℕ). take n (drop (k + 1 - 1) word)) one ∙ ap (λ (m : ℕ). take (suc 0) (drop m word)) back
    ∙ ap (λ (l : List ℕ). take (suc 0) l) e

-- the stretch with one letter more
more_stretch : (word : List ℕ) (t : Stretch) (k b : ℕ) (bs : List ℕ) → drop k word ≡ b ∷ bs → 1 ≤ t.first → t.first ≤ t.last
    → t.last ≡ k → stretch_letters word (record { first = t.first; last = k + 1 }) ≡ stretch_letters word t ++ b ∷ []
more_stretch word t k b bs e some order last =
    let n = t.last + 1 - t.first in
    let m = t.first - 1 in
    let at = follows word k b bs e in
    let longer : k + 1 + 1 - t.first ≡ n + 1 = omega (arith, some, order, last) in
    let place : m + n ≡ k = omega (arith, some, order, last) in
    let lt : n < length (drop m word) = omega (arith, length-drop m word, at.0, place) in
    let letter : get_or (drop m word) n 0 ≡ b = get_or-drop m word n 0 ∙ ap (λ (x : ℕ). get_or word x 0) place ∙ at.1 in
    ap (λ (x : ℕ). take x (drop m word)) longer ∙ take_more (drop m word) n 0 lt
    ∙ ap (λ (x : ℕ). take n (drop m word) ++ x ∷ []) letter

-- a stretch that is open ends at the last period, and begins behind these periods
abbrev IsLive : ℕ → ℕ → Option Stretch → Type 0
IsLive j k None = j ≤ k
IsLive j k (Some t) = (1 ≤ t.first) × (j ≤ t.first - 1) × (t.first ≤ t.last) × (t.last ≡ k)

-- the letters from there to the last period
abbrev before : List ℕ → ℕ → ℕ → ℕ → Option Stretch → List ℕ
before word off j k None = letters (k - j) off
before word off j k (Some t) = letters (t.first - 1 - j) off ++ stretch_letters word t

abbrev Gives : List ℕ → ℕ → ℕ → List ℕ → Type 0
Gives word off k bs =
    (live : Option Stretch) (j : ℕ) → IsLive j k live
    → pasted word off j (stretches_from (Some off) live k bs) ≡ before word off j k live ++ bs

step : (word : List ℕ) (off : ℕ) (live : Option Stretch) (j k b : ℕ) (bs : List ℕ) (o : Bool) → eqb off b ≡ o
    → drop k word ≡ b ∷ bs → IsLive j k live → Gives word off (k + 1) bs
    → pasted word off j (cond o (last_stretch live) [] ++ stretches_from (Some off) (cond o None (Some (grown live k))) (k + 1) bs)
    ≡ before word off j k live ++ b ∷ bs
step word off None j k b bs true eo e h ih =
    let more : k + 1 - j ≡ suc (k - j) = omega (arith, h) in
    ih None j (omega (arith, h))
    ∙ ap (λ (l : List ℕ). l ++ bs) (ap (λ (n : ℕ). letters n off) more ∙ more_letters (k - j) off)
    ∙ append_assoc (letters (k - j) off) (off ∷ []) bs
    ∙ ap (λ (x : ℕ). letters (k - j) off ++ x ∷ bs) (eqb-true off b eo)
step word off None j k b bs false eo e h ih =
    let back : k + 1 - 1 - j ≡ k - j = omega (arith, h) in
    let t : Stretch = record { first = k + 1; last = k + 1 } in
    ih (Some t) j (omega arith, omega (arith, h), omega arith, refl)
    ∙ ap (λ (n : ℕ). (letters n off ++ stretch_letters word t) ++ bs) back
    ∙ ap (λ (l : List ℕ). (letters (k - j) off ++ l) ++ bs) (first_letter word k b bs e)
    ∙ append_assoc (letters (k - j) off) (b ∷ []) bs
step word off (Some t) j k b bs true eo e h ih =
    let gap = letters (t.first - 1 - j) off in
    let own = stretch_letters word t in
    let one : k + 1 - t.last ≡ suc 0 = omega (arith, h.3) in
    ap (λ (l : List ℕ). gap ++ (own ++ l)) (ih None t.last (omega (arith, h.3)) ∙ ap (λ (n : ℕ). letters n off ++ bs) one)
    ∙ sym (append_assoc gap own (off ∷ bs))
    ∙ ap (λ (x : ℕ). (gap ++ own) ++ x ∷ bs) (eqb-true off b eo)
step word off (Some t) j k b bs false eo e h ih =
    let gap = letters (t.first - 1 - j) off in
    let own = stretch_letters word t in
    ih (Some (record { first = t.first; last = k + 1 })) j (h.0, h.1, omega (arith, h.2, h.3), refl)
    ∙ ap (λ (l : List ℕ). (gap ++ l) ++ bs) (more_stretch word t k b bs e h.0 h.2 h.3)
    ∙ ap (λ (l : List ℕ). l ++ bs) (sym (append_assoc gap own (b ∷ [])))
    ∙ append_assoc (gap ++ own) (b ∷ []) bs

give_back : (word : List ℕ) (off k : ℕ) (rest : List ℕ) → drop k word ≡ rest → k + length rest ≡ length word → Gives word off k rest
unfolding cut_off next_live
give_back word off k [] e n None j h =
    let all : length word - j ≡ k - j = omega (arith, n) in
    ap (λ (m : ℕ). letters m off) all ∙ sym (append-nil (letters (k - j) off))
give_back word off k [] e n (Some t) j h =
    let gap = letters (t.first - 1 - j) off in
    let own = stretch_letters word t in
    let none : length word - t.last ≡ zero = omega (arith, n, h.3) in
    ap (λ (m : ℕ). gap ++ (own ++ letters m off)) none ∙ sym (append_assoc gap own [])
give_back word off k (b ∷ bs) e n live j h =
    step word off live j k b bs (eqb off b) refl e h
    (give_back word off (k + 1) bs (follows word k b bs e).2 (omega (arith, n)))

pub stretches_back : (off : ℕ) (word : List ℕ) → pasted word off 0 (stretches_of (Some off) word) ≡ word
stretches_back off word = give_back word off 0 word refl (omega arith) None 0 (omega arith)

-- no letter of a stretch is that of time off
abbrev IsClear : List ℕ → ℕ → Stretch → Type 0
IsClear word off t = list_all (is_on off) (stretch_letters word t) ≡ true

-- a stretch that is open ends at the last period, and has no time off
abbrev IsOpen : List ℕ → ℕ → ℕ → Option Stretch → Type 0
IsOpen word off k None = Unit {0}
IsOpen word off k (Some t) = (1 ≤ t.first) × (t.first ≤ t.last) × (t.last ≡ k) × IsClear word off t

abbrev Clear : List ℕ → ℕ → ℕ → List ℕ → Type 0
Clear word off k bs = (live : Option Stretch) → IsOpen word off k live → All (IsClear word off) (stretches_from (Some off) live k bs)

on_letter : (off b : ℕ) → eqb off b ≡ false → list_all (is_on off) (b ∷ []) ≡ true
on_letter off b e = rw e refl

clear_step : (word : List ℕ) (off : ℕ) (live : Option Stretch) (k b : ℕ) (bs : List ℕ) (o : Bool) → eqb off b ≡ o
    → drop k word ≡ b ∷ bs → IsOpen word off k live → Clear word off (k + 1) bs
    → All (IsClear word off) (cond o (last_stretch live) [] ++ stretches_from (Some off) (cond o None (Some (grown live k))) (k + 1) bs)
clear_step word off None k b bs true eo e h ih = ih None tt
clear_step word off None k b bs false eo e h ih =
    let t : Stretch = record { first = k + 1; last = k + 1 } in
    let clear : IsClear word off t = ap (λ (l : List ℕ). list_all (is_on off) l) (first_letter word k b bs e) ∙ on_letter off b eo in
    ih (Some t) (omega arith, omega arith, refl, clear)
clear_step word off (Some t) k b bs true eo e h ih = All-cons (IsClear word off) t _ h.3 (ih None tt)
clear_step word off (Some t) k b bs false eo e h ih =
    let more : Stretch = record { first = t.first; last = k + 1 } in
    let clear : IsClear word off more =
    ap (λ (l : List ℕ). list_all (is_on off) l) (more_stretch word t k b bs e h.0 h.1 h.2)
    ∙ list_all-append (is_on off) (stretch_letters word t) (b ∷ [])
    ∙ ap (λ (x : Bool). x && list_all (is_on off) (b ∷ [])) h.3 ∙ on_letter off b eo in
    ih (Some more) (h.0, omega (arith, h.1, h.2), refl, clear)

clear_from : (word : List ℕ) (off k : ℕ) (rest : List ℕ) → drop k word ≡ rest → Clear word off k rest
unfolding cut_off next_live
clear_from word off k [] e None h = All-nil (IsClear word off)
clear_from word off k [] e (Some t) h = All-cons (IsClear word off) t [] h.3 (All-nil (IsClear word off))
clear_from word off k (b ∷ bs) e live h =
    clear_step word off live k b bs (eqb off b) refl e h (clear_from word off (k + 1) bs (follows word k b bs e).2)

pub stretches_on : (off : ℕ) (word : List ℕ) → All (IsClear word off) (stretches_of (Some off) word)
stretches_on off word = clear_from word off 0 word refl None tt

-- one letter more of the loop
pub one_more : (off : Option ℕ) (word : List ℕ) (i k d : ℕ) (from after : List Stretch) (live next : Option Stretch) → i < length word
    → stretches_of off word ≡ from ++ stretches_from off live k (drop i word)
    → after ≡ from ++ cut_off off live (get_or word i d) → next ≡ next_live off live k (get_or word i d)
    → stretches_of off word ≡ after ++ stretches_from off next (k + 1) (drop (i + 1) word)
one_more off word i k d from after live next lt e h g =
    let x = get_or word i d in
    let rest = stretches_from off (next_live off live k x) (k + 1) (drop (i + 1) word) in
    e ∙ at_drop_more (λ (ys : List ℕ). from ++ stretches_from off live k ys) word i d lt ∙ sym (append_assoc from (cut_off off live x) rest)
    ∙ ap (λ (t : List Stretch). t ++ rest) (sym h)
    ∙ ap (λ (p : Option Stretch). after ++ stretches_from off p (k + 1) (drop (i + 1) word)) (sym g)
