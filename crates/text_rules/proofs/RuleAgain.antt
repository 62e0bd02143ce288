-- A rule that was written is read again.
use Rattle.std.proofs.Common.{◌≡◌, ℕ, suc, zero, ◌+◌, ◌<◌, ◌≤◌, Bool, true, false, cond, not, ◌&&◌, min, max, List, [], ◌∷◌, ◌++◌, length, take, drop, get_or, map, Option, Some, None, Ok, refl, sym, ap, ◌∙◌, arith, inl, inr, ltb, leb, eqb, add-one, append_assoc, append-nil, length-append, add_comm, subst}
use Rattle.std.specs.Prelude.{codes}
use Rattle.std.specs.List.{position_or_len}
use Rattle.std.specs.Fmt.{decimal}
use Rattle.std.specs.Str.{bytes_eq}
use Rattle.std.proofs.lemmas.Bool.{and_from, and_parts, lt-leb, lt-ltb, le-ltb, eqb-true, ne_eqb, cases_lt, not-true, or_cases, leb-true}
use Rattle.std.proofs.lemmas.List.{length-take, length-map, take_at, drop_at}
use Rattle.std.proofs.Math.Seq.{take-suc}
use Rattle.text_lines.proofs.FieldsLemmas.{number_at_again}
use Rattle.text_rules.specs.declared.fault.RulesFault.TheVariants.{BadNumber, OutOfRange}
use Rattle.model_rosters.specs.declared.grammar.Sym.{Sym}
use Rattle.model_rosters.specs.declared.grammar.Sym.TheVariants.{Code, Name}
use Rattle.model_rosters.specs.declared.grammar.CodeDef.{CodeDef}
use Rattle.model_rosters.specs.declared.grammar.Window.{Window}
use Rattle.model_rosters.specs.declared.grammar.Rule.{Rule}
use Rattle.text_rules.specs.declared.place.Place.{Place}
use Rattle.text_rules.specs.declared.window.Windows.{Windows}
use Rattle.text_rules.specs.declared.rules.Rules.{Rules}
use Rattle.text_rules.specs.Steps.{each}
use Rattle.model_rosters.specs.Names.{is_name, is_window_word, is_letter}
use Rattle.model_rosters.specs.Sound.{IsWindow, names_of}
use Rattle.text_rules.specs.Names.{Named, has_name, place_of, name_at}
use Rattle.text_rules.specs.Fields.{number_at}
use Rattle.text_rules.specs.RuleLine.{symbol_at, bounds_at, written, with_window, window_at, windows_at, are_windows, symbol_count, no_windows, whole, rule_of, rule_at}
use Rattle.text_rules.specs.Written.{symbol_word, window_words, all_window_words, rule_words}
use Rattle.text_rules.specs.Drafts.{known_after}
use Rattle.text_lines.proofs.StepsLemmas.{ok}
use Rattle.text_lines.specs.Names.{name_of, code_of}
use Rattle.text_rules.proofs.Places.{any_place}
use Rattle.text_rules.proofs.RuleSound.{NamesSound, CodesSound, SymbolsSound, RuleSound}

-- names

module _ {X : Type 0} (p : X → Bool) where
  place_in_take : (m : ℕ) (xs : List X) → position_or_len p (take m xs) ≡ min m (position_or_len p xs)
  place_in_take zero xs = sym (omega arith)
  place_in_take (suc m) [] = omega arith
  place_in_take (suc m) (x ∷ xs) = by (p x) (place_in_take m xs)
    where
      by : (t : Bool) → position_or_len p (take m xs) ≡ min m (position_or_len p xs) → cond (not t) (1 + position_or_len p (take m xs)) 0 ≡ min (suc m) (cond (not t) (1 + position_or_len p xs) 0)
      by true h = omega arith
      by false h = omega (arith, h)

name_known : (p : Place) (st : Named) (w : List ℕ) (k : ℕ) → is_name w ≡ true → has_name st.texts w ≡ true → place_of st.texts w ≡ k → name_at p st w ≡ Ok (st, k)
unfolding name_at
name_known p st w k e h i = rw (e, h, i) refl

name_new : (p : Place) (st : Named) (w : List ℕ) (k : ℕ) (ts : List (List ℕ)) → is_name w ≡ true → has_name st.texts w ≡ false → leb 32 (length st.texts) ≡ false → length st.texts ≡ k → st.texts ++ w ∷ [] ≡ ts → name_at p st w ≡ Ok (record { texts = ts; places = st.places ++ p ∷ [] }, k)
unfolding name_at
name_new p st w k ts e h few l t = rw (e, h, few, l, t) refl

abbrev pub known : List (List ℕ) → ℕ → List Place → Named
known ns m ps = record { texts = take m ns; places = ps }

abbrev is_text : List ℕ → List ℕ → Bool
is_text w n = bytes_eq w n

name_again : (p : Place) (ns : List (List ℕ)) (s : NamesSound ns) (m x : ℕ) (ps : List Place) → m ≤ length ns → x < length ns → x ≤ m → (qs : List Place) × (name_at p (known ns m ps) (name_of ns x) ≡ Ok (known ns (max m (x + 1)) qs, x))
name_again p ns s m x ps some lt le =
    let w : List ℕ = name_of ns x in
    let len : length (take m ns) ≡ m = omega (arith, length-take m ns) in
    let place : place_of (take m ns) w ≡ min m x = place_in_take (is_text w) m ns ∙ ap (λ (n : ℕ). min m n) (s.distinct x lt) in
    let has : has_name (take m ns) w ≡ ltb (min m x) m = any_place (is_text w) (take m ns) ∙ ap (λ (n : ℕ). ltb n (length (take m ns))) place ∙ ap (λ (n : ℕ). ltb (min m x) n) len in
    elim (cases_lt x m) [
      | inl old ↦
          let same : max m (x + 1) ≡ m = omega arith in
          (ps, rw same (name_known p (known ns m ps) w x (s.names x lt) (has ∙ lt-ltb _ _ (omega arith)) (place ∙ omega arith)))
      | inr new ↦
          let at : x ≡ m = omega arith in
          let next : max m (x + 1) ≡ suc m = omega arith in
          let more : take m ns ++ w ∷ [] ≡ take (suc m) ns = rw at (sym (take-suc ns m [] (omega arith))) in
          (ps ++ p ∷ [], rw next (name_new p (known ns m ps) w x (take (suc m) ns) (s.names x lt) (has ∙ le-ltb _ _ (omega arith)) (lt-leb 32 _ (omega (arith, len, s.few))) (len ∙ sym at) more))
    ]

-- symbols

letter_high : (b : ℕ) → is_letter b ≡ true → 65 ≤ b
letter_high b e = elim (or_cases (leb 65 b && leb b 90) (leb 97 b && leb b 122) e) [
  | inl h ↦ leb-true 65 b ((and_parts _ _ h).0)
  | inr h ↦ let l : 97 ≤ b = leb-true 97 b ((and_parts _ _ h).0) in omega arith
]

-- what a name is not
record IsPlainWord (w : List ℕ) : Type 0 where
  mark : eqb (get_or w 0 0) 39 ≡ false
  window : is_window_word w ≡ false

name_plain : (w : List ℕ) → is_name w ≡ true → IsPlainWord w
unfolding is_name
name_plain w e =
    let a = and_parts _ (not (is_window_word w)) e in
    let b = and_parts _ _ a.0 in
    let c = and_parts _ (is_letter (get_or w 0 0)) b.0 in
    let high : 65 ≤ get_or w 0 0 = letter_high _ c.1 in
    record { mark = ne_eqb _ 39 (λ q. omega (arith, q)); window = not-true _ a.1 }

symbol_code : (k : ℕ) (defs : List CodeDef) (s : CodesSound defs) (c : ℕ) (st : Named) (done : List Sym) → c < length defs → length done < 8 → symbol_at k defs (st, done) (symbol_word defs [] (Code c)) ≡ Ok (st, done ++ Code c ∷ [])
unfolding symbol_at
symbol_code k defs s c st done lt few = rw (lt-leb 8 (length done) few, s.bytes c lt, s.distinct c lt) refl

symbol_name : (k : ℕ) (defs : List CodeDef) (w : List ℕ) (x : ℕ) (st st2 : Named) (done : List Sym) → IsPlainWord w → length done < 8 → name_at (record { line = k; word = 5 + length done }) st w ≡ Ok (st2, x) → symbol_at k defs (st, done) w ≡ Ok (st2, done ++ Name x ∷ [])
unfolding symbol_at
symbol_name k defs w x st st2 done p few e = rw (lt-leb 8 (length done) few, p.mark, e) refl

symbols_again : (k : ℕ) (defs : List CodeDef) (cs : CodesSound defs) (ns : List (List ℕ)) (s : NamesSound ns) (m : ℕ) (ps : List Place) (done ss : List Sym) → m ≤ length ns → SymbolsSound defs ns m ss → length done + length ss ≤ 8
    → (qs : List Place) × (each (symbol_at k defs) (known ns m ps, done) (map (symbol_word defs ns) ss) ≡ Ok (known ns (known_after m (names_of ss)) qs, done ++ ss))
symbols_again k defs cs ns s m ps done [] some h few = (ps, rw (append-nil done) refl)
symbols_again k defs cs ns s m ps done (Code c ∷ ss) some h few =
    let more = symbols_again k defs cs ns s m ps (done ++ Code c ∷ []) ss some h.1 (omega (arith, length-append done (Code c ∷ []))) in
    let one = symbol_code k defs cs c (known ns m ps) done h.0 (omega arith) in
    (more.0, rw one (more.1 ∙ ap (λ (q : List Sym). ok (known ns (known_after m (names_of ss)) more.0, q)) (append_assoc done (Code c ∷ []) ss)))
symbols_again k defs cs ns s m ps done (Name x ∷ ss) some h few =
    let n = name_again (record { line = k; word = 5 + length done }) ns s m x ps some h.0 h.1 in
    let m2 : ℕ = max m (x + 1) in
    let more = symbols_again k defs cs ns s m2 n.0 (done ++ Name x ∷ []) ss (omega arith) h.2 (omega (arith, length-append done (Name x ∷ []))) in
    let one = symbol_name k defs (name_of ns x) x (known ns m ps) (known ns m2 n.0) done (name_plain _ (s.names x h.0)) (omega arith) n.1 in
    (more.0, rw one (more.1 ∙ ap (λ (q : List Sym). ok (known ns (known_after m2 (names_of ss)) more.0, q)) (append_assoc done (Name x ∷ []) ss)))

-- how many words stand before the windows

abbrev AllPlain : List (List ℕ) → Type 0
AllPlain [] = Unit {0}
AllPlain (w ∷ ws) = (is_window_word w ≡ false) × AllPlain ws

abbrev StartsWindows : List (List ℕ) → Type 0
StartsWindows [] = Unit {0}
StartsWindows (w ∷ ws) = is_window_word w ≡ true

count_plain : (ws vs : List (List ℕ)) → AllPlain ws → StartsWindows vs → symbol_count (ws ++ vs) ≡ length ws
count_plain [] [] h s = refl
count_plain [] (v ∷ vs) h s = rw s refl
count_plain (w ∷ ws) vs h s = rw (h.0, count_plain ws vs h.1 s) (add_comm 1 (length ws) ∙ add-one (length ws))

code_plain : (b : ℕ) → is_window_word (39 ∷ b ∷ 39 ∷ []) ≡ false
unfolding is_window_word
code_plain b = refl

symbols_plain : (defs : List CodeDef) (ns : List (List ℕ)) (s : NamesSound ns) (m : ℕ) (ss : List Sym) → SymbolsSound defs ns m ss → AllPlain (map (symbol_word defs ns) ss)
symbols_plain defs ns s m [] h = tt
symbols_plain defs ns s m (Code c ∷ ss) h = (code_plain (code_of defs c).byte, symbols_plain defs ns s m ss h.1)
symbols_plain defs ns s m (Name x ∷ ss) h = ((name_plain _ (s.names x h.0)).window, symbols_plain defs ns s (max m (x + 1)) ss h.2)

-- windows

bounds_again : (k : ℕ) (x : Window) → IsWindow x → bounds_at k (decimal x.lo) (decimal x.hi) ≡ Ok x
unfolding bounds_at
bounds_again k x s = rw (number_at_again (BadNumber k) (OutOfRange k) 1 96 x.lo s.first (omega (arith, s.order, s.last)) (omega arith), number_at_again (BadNumber k) (OutOfRange k) x.lo 96 x.hi s.order s.last (omega arith)) refl

abbrev is_whole : Window → Bool
is_whole x = eqb x.lo 1 && eqb x.hi 96

abbrev set_window : Windows → List ℕ → Window → Windows
set_window v w x = cond (is_whole x) v (with_window v w x)

window_one : (k : ℕ) (v : Windows) (w : List ℕ) (x : Window) → IsWindow x → written v w ≡ None → window_at k v w (decimal x.lo) (decimal x.hi) ≡ Ok (with_window v w x)
unfolding window_at
window_one k v w x s none = rw (none, bounds_again k x s) refl

-- one window, or none where it is 1 to 96
window_again : (k : ℕ) (v : Windows) (w : List ℕ) (x : Window) (ws : List (List ℕ)) → IsWindow x → written v w ≡ None → windows_at k v (window_words w x ++ ws) ≡ windows_at k (set_window v w x) ws
window_again k v w x ws s none = by (is_whole x) (window_one k v w x s none)
  where
    by : (t : Bool) → window_at k v w (decimal x.lo) (decimal x.hi) ≡ Ok (with_window v w x) → windows_at k v (cond t [] (w ∷ decimal x.lo ∷ decimal x.hi ∷ []) ++ ws) ≡ windows_at k (cond t v (with_window v w x)) ws
    by true e = refl
    by false e = rw e refl

window_form : (w : List ℕ) (x : Window) (ws : List (List ℕ)) → is_window_word w ≡ true → are_windows ws ≡ true → are_windows (window_words w x ++ ws) ≡ true
window_form w x ws e h = by (is_whole x)
  where
    by : (t : Bool) → are_windows (cond t [] (w ∷ decimal x.lo ∷ decimal x.hi ∷ []) ++ ws) ≡ true
    by true = h
    by false = and_from _ _ e h

window_starts : (w : List ℕ) (x : Window) (ws : List (List ℕ)) → is_window_word w ≡ true → StartsWindows ws → StartsWindows (window_words w x ++ ws)
window_starts w x ws e h = by (is_whole x)
  where
    by : (t : Bool) → StartsWindows (cond t [] (w ∷ decimal x.lo ∷ decimal x.hi ∷ []) ++ ws)
    by true = h
    by false = e

is_len : is_window_word (codes "len") ≡ true
unfolding is_window_word
is_len = refl

is_begin : is_window_word (codes "begin") ≡ true
unfolding is_window_word
is_begin = refl

is_last : is_window_word (codes "end") ≡ true
unfolding is_window_word
is_last = refl

whole_again : (x : Window) → whole (cond (is_whole x) None (Some x)) ≡ x
whole_again x = by (is_whole x) refl
  where
    by : (t : Bool) → is_whole x ≡ t → whole (cond t None (Some x)) ≡ x
    by false e = refl
    by true e =
        let p = and_parts (eqb x.lo 1) (eqb x.hi 96) e in
        let low : ℕ → Window = λ n. record { lo = n; hi = 96 } in
        let high : ℕ → Window = λ n. record { lo = x.lo; hi = n } in
        ap low (sym (eqb-true x.lo 1 p.0)) ∙ ap high (sym (eqb-true x.hi 96 p.1))

set_len : (v : Windows) (x : Window) → set_window v (codes "len") x ≡ record v { span = cond (is_whole x) v.span (Some x) }
set_len v x = by (is_whole x)
  where
    by : (t : Bool) → cond t v (record v { span = Some x }) ≡ record v { span = cond t v.span (Some x) }
    by true = refl
    by false = refl

set_begin : (v : Windows) (x : Window) → set_window v (codes "begin") x ≡ record v { first = cond (is_whole x) v.first (Some x) }
set_begin v x = by (is_whole x)
  where
    by : (t : Bool) → cond t v (record v { first = Some x }) ≡ record v { first = cond t v.first (Some x) }
    by true = refl
    by false = refl

set_end : (v : Windows) (x : Window) → set_window v (codes "end") x ≡ record v { last = cond (is_whole x) v.last (Some x) }
set_end v x = by (is_whole x)
  where
    by : (t : Bool) → cond t v (record v { last = Some x }) ≡ record v { last = cond t v.last (Some x) }
    by true = refl
    by false = refl

abbrev slot : Window → Option Window
slot x = cond (is_whole x) None (Some x)

abbrev slots : Rule → Windows
slots r = record { span = slot r.span; first = slot r.first; last = slot r.last }

windows_again : (k : ℕ) (r : Rule) → IsWindow r.span → IsWindow r.first → IsWindow r.last → windows_at k no_windows (all_window_words r) ≡ Ok (slots r)
windows_again k r a b c =
    let v1 : Windows = record { span = slot r.span; first = None; last = None } in
    let v2 : Windows = record { span = slot r.span; first = slot r.first; last = None } in
    let tail : List (List ℕ) = window_words (codes "end") r.last in
    let one : windows_at k no_windows (all_window_words r) ≡ windows_at k v1 (window_words (codes "begin") r.first ++ tail) =
    window_again k no_windows (codes "len") r.span _ a refl ∙ ap (λ (v : Windows). windows_at k v (window_words (codes "begin") r.first ++ tail)) (set_len no_windows r.span) in
    let two : windows_at k v1 (window_words (codes "begin") r.first ++ tail) ≡ windows_at k v2 tail =
    window_again k v1 (codes "begin") r.first tail b refl ∙ ap (λ (v : Windows). windows_at k v tail) (set_begin v1 r.first) in
    let three : windows_at k v2 (tail ++ []) ≡ windows_at k (slots r) [] =
    window_again k v2 (codes "end") r.last [] c refl ∙ ap (λ (v : Windows). windows_at k v []) (set_end v2 r.last) in
    one ∙ two ∙ ap (windows_at k v2) (sym (append-nil tail)) ∙ three

form_again : (r : Rule) → are_windows (all_window_words r) ≡ true
form_again r =
    let last = window_form (codes "end") r.last [] is_last refl in
    window_form (codes "len") r.span _ is_len (window_form (codes "begin") r.first _ is_begin (rw (← append-nil (window_words (codes "end") r.last)) last))

starts_again : (r : Rule) → StartsWindows (all_window_words r)
starts_again r =
    let last = window_starts (codes "end") r.last [] is_last tt in
    window_starts (codes "len") r.span _ is_len (window_starts (codes "begin") r.first _ is_begin (subst StartsWindows (append-nil (window_words (codes "end") r.last)) last))

-- the rule

form_read : (k : ℕ) (defs : List CodeDef) (st : Rules) (n c : List ℕ) (ms vs : List (List ℕ)) → symbol_count (ms ++ vs) ≡ length ms → are_windows vs ≡ true → rule_at k defs st (n ∷ c ∷ codes "=" ∷ (ms ++ vs)) ≡ rule_of k defs st n c ms vs
unfolding rule_at
form_read k defs st n c ms vs count form =
    let front : take (symbol_count (ms ++ vs)) (ms ++ vs) ≡ ms = ap (λ (i : ℕ). take i (ms ++ vs)) count ∙ take_at ms vs (length ms) refl in
    let back : drop (symbol_count (ms ++ vs)) (ms ++ vs) ≡ vs = ap (λ (i : ℕ). drop i (ms ++ vs)) count ∙ drop_at ms vs (length ms) refl in
    rw (front, back, form) refl

abbrev rule_made : ℕ → ℕ → List Sym → Windows → Rule
rule_made left cost right v = record { left = left; cost = cost; right = right; span = whole v.span; first = whole v.first; last = whole v.last }

abbrev made : Rules → Named → ℕ → ℕ → List Sym → Windows → Rules
made st ns left cost right v = record { names = ns; rules = st.rules ++ rule_made left cost right v ∷ [] }

rule_read : (k : ℕ) (defs : List CodeDef) (st : Rules) (n c : List ℕ) (ms vs : List (List ℕ)) (n1 n2 : Named) (left cost : ℕ) (right : List Sym) (v : Windows)
    → leb 64 (length st.rules) ≡ false → name_at (record { line = k; word = 2 }) st.names n ≡ Ok (n1, left) → number_at k 0 10000 c ≡ Ok cost → eqb (length ms) 0 ≡ false
    → each (symbol_at k defs) (n1, []) ms ≡ Ok (n2, right) → windows_at k no_windows vs ≡ Ok v → rule_of k defs st n c ms vs ≡ Ok (made st n2 left cost right v)
unfolding rule_of
rule_read k defs st n c ms vs n1 n2 left cost right v few en ec some es ew = rw (few, en, ec, some, es, ew) refl

abbrev rules_with : Named → List Rule → Rules
rules_with ns rs = record { names = ns; rules = rs }

rule_is : (r : Rule) → rule_made r.left r.cost r.right (slots r) ≡ r
rule_is r = rw (whole_again r.span, whole_again r.first, whole_again r.last) refl

pub rule_again : (k : ℕ) (defs : List CodeDef) (ns : List (List ℕ)) (m : ℕ) (ps : List Place) (rules : List Rule) (r : Rule) → CodesSound defs → NamesSound ns → m ≤ length ns → RuleSound defs ns m r → length rules < 64
    → (qs : List Place) × (rule_at k defs (record { names = known ns m ps; rules = rules }) (rule_words defs ns r) ≡ Ok (record { names = known ns (known_after (max m (r.left + 1)) (names_of r.right)) qs; rules = rules ++ r ∷ [] }))
rule_again k defs ns m ps rules r cs s some sound few =
    let st : Rules = record { names = known ns m ps; rules = rules } in
    let ms : List (List ℕ) = map (symbol_word defs ns) r.right in
    let m1 : ℕ = max m (r.left + 1) in
    let left = name_again (record { line = k; word = 2 }) ns s m r.left ps some sound.left sound.left_order in
    let right = symbols_again k defs cs ns s m1 left.0 [] r.right (omega (arith, sound.left)) sound.symbols (omega (arith, sound.few)) in
    let count = count_plain ms (all_window_words r) (symbols_plain defs ns s m1 r.right sound.symbols) (starts_again r) in
    let len : length ms ≡ length r.right = simp length-map in
    let full : eqb (length ms) 0 ≡ false = ne_eqb (length ms) 0 (λ e. omega (arith, e, len, sound.some)) in
    let read = rule_read k defs st (name_of ns r.left) (decimal r.cost) ms (all_window_words r) (known ns m1 left.0) (known ns (known_after m1 (names_of r.right)) right.0) r.left r.cost r.right (slots r)
    (lt-leb 64 (length rules) few) left.1 (number_at_again (BadNumber k) (OutOfRange k) 0 10000 r.cost (omega arith) sound.cost (omega arith)) full right.1 (windows_again k r sound.span sound.first sound.last) in
    (right.0, form_read k defs st (name_of ns r.left) (decimal r.cost) ms (all_window_words r) count (form_again r) ∙ read ∙ ap (λ (x : Rule). ok (rules_with (known ns (known_after m1 (names_of r.right)) right.0) (rules ++ x ∷ []))) (rule_is r))
