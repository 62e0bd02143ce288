-- The fault of a line carries the number of the line.
use Rattle.std.proofs.Common.{◌≡◌, ℕ, ◌+◌, Bool, true, false, cond, not, ◌&&◌, ◌||◌, List, [], ◌∷◌, ◌++◌, length, take, drop, Option, Some, None, Result, Ok, Err, refl, ap, sym, ◌∙◌, eqb, leb, ltb}
use Rattle.std.specs.Prelude.{slice_index, position, is_some, codes, count_by}
use Rattle.std.specs.Str.{bytes_eq}
use Rattle.text_lines.specs.Lines.{TextLine, text_items}
use Rattle.text_lines.specs.declared.line.BadByte as bad
use Rattle.text_lines.specs.declared.number.NumberFault.{NumberFault}
use Rattle.text_lines.specs.declared.number.NumberFault.TheVariants.{Form, Wide}
use Rattle.text_lines.specs.Numbers.{natural_of}
use Rattle.model_rosters.specs.declared.grammar.CodeDef.{CodeDef}
use Rattle.model_rosters.specs.declared.grammar.Sym.{Sym}
use Rattle.model_rosters.specs.declared.grammar.Sym.TheVariants.{Code, Name}
use Rattle.model_rosters.specs.declared.grammar.Window.{Window}
use Rattle.model_rosters.specs.Names.{is_name, is_code_byte}
use Rattle.text_rules.specs.declared.fault.RulesFault.{RulesFault}
use Rattle.text_rules.specs.declared.fault.RulesFault.TheVariants.{BadByte, BadName, BadNumber, EmptyRight, OutOfRange, TooMany, Twice, UnknownCode, UnknownLine}
use Rattle.text_rules.specs.declared.fault.Limit.TheVariants as limits
use Rattle.text_rules.specs.declared.draft.Draft.{Draft}
use Rattle.text_rules.specs.declared.place.Place.{Place}
use Rattle.text_rules.specs.declared.rules.Rules.{Rules}
use Rattle.text_rules.specs.declared.window.Windows.{Windows}
use Rattle.text_rules.specs.Steps.{◌>>=◌, each}
use Rattle.text_rules.specs.Names.{Named, has_name, place_of, name_at}
use Rattle.text_lines.specs.Fields as fields
use Rattle.text_rules.specs.Fields.{number_at}
use Rattle.text_rules.specs.RuleLine.{is_quoted, declared, code_at, symbol_at, bounds_at, written, with_window, window_at, windows_at, are_windows, no_windows, symbol_count, rule_of, rule_at}
use Rattle.text_rules.specs.Lines.{is_declared, declare_at, codes_at, periods_at, start_at, line_at, item_at}
use Rattle.text_rules.specs.RulesOf.{no_draft, draft_of}
use Rattle.text_rules.specs.FaultLine.{line_of}
use Rattle.text_rules.specs.Forms.{number_of, IsFirstRefused}
use Rattle.text_lines.proofs.StepsLemmas.{err, ok}

-- a refusal carries this line
pub record At {A : Type 0} (k : ℕ) (r : Result A RulesFault) : Type 0 where
  pub at : (e : RulesFault) → r ≡ Err e → line_of e ≡ Some k

at_ok : {A : Type 0} (k : ℕ) (x : A) → At {A = A} k (Ok x)
at_ok k x = record { at = λ e h. absurd cc }

at_err : {A : Type 0} (k : ℕ) (d : RulesFault) → line_of d ≡ Some k → At {A = A} k (Err d)
at_err k d h = record { at = λ e q. let same : d ≡ e = cc in ap line_of (sym same) ∙ h }

at_cond : {A : Type 0} (k : ℕ) (t : Bool) (r s : Result A RulesFault) → At k r → At k s → At k (cond t r s)
at_cond k true r s h g = h
at_cond k false r s h g = g

at_bind : {A B : Type 0} (k : ℕ) (r : Result A RulesFault) (f : A → Result B RulesFault) → At k r → ((x : A) → At k (f x)) → At k (r >>= f)
at_bind k (Ok x) f h g = g x
at_bind {A} k (Err d) f h g = record { at = λ e q. let same : d ≡ e = cc in h.at e (ap refused same) }
  where
    refused : RulesFault → Result A RulesFault
    refused c = Err c

-- a test that refuses
refuse : {A : Type 0} (k : ℕ) (t : Bool) (d : RulesFault) (r : Result A RulesFault) → line_of d ≡ Some k → At k r → At k (cond t (err d) r)
refuse k t d r h g = at_cond k t (err d) r (at_err k d h) g

-- a test that is due
demand : {A : Type 0} (k : ℕ) (t : Bool) (d : RulesFault) (r : Result A RulesFault) → At k r → line_of d ≡ Some k → At k (cond t r (err d))
demand k t d r g h = at_cond k t r (err d) g (at_err k d h)

at_each : {S W : Type 0} (k : ℕ) (f : S → W → Result S RulesFault) → ((s : S) (w : W) → At k (f s w)) → (s : S) (ws : List W) → At k (each f s ws)
at_each k f h s [] = at_ok k s
at_each {S} k f h s (w ∷ ws) = at_bind k (f s w) (λ (t : S). each f t ws) (h s w) (λ t. at_each k f h t ws)

name_line : (p : Place) (ns : Named) (w : List ℕ) → At p.line (name_at p ns w)
unfolding name_at
name_line p ns w =
    refuse p.line (not (is_name w)) (BadName p.line) _ refl
    (at_cond p.line (has_name ns.texts w) (ok (ns, place_of ns.texts w)) _ (at_ok p.line (ns, place_of ns.texts w))
    (refuse p.line (leb 32 (length ns.texts)) (TooMany p.line limits.Names 32) _ refl
    (at_ok p.line (record { texts = ns.texts ++ w ∷ []; places = ns.places ++ p ∷ [] }, length ns.texts))))

number_line : (k low high : ℕ) (w : List ℕ) → At k (number_at k low high w)
unfolding fields.number_at
number_line k low high w = by (natural_of w)
  where
    by : (r : Result ℕ NumberFault) → At k (fields.in_range (BadNumber k) (OutOfRange k) low high r)
    by (Ok n) = refuse k (ltb n low || ltb high n) (OutOfRange k) _ refl (at_ok k n)
    by (Err Form) = at_err k (BadNumber k) refl
    by (Err Wide) = at_err k (OutOfRange k) refl

code_line : (k : ℕ) (o : Option ℕ) → At k (declared k o)
code_line k (Some c) = at_ok k (Code c)
code_line k None = at_err k (UnknownCode k) refl

symbol_line : (k : ℕ) (defs : List CodeDef) (st : Named × List Sym) (w : List ℕ) → At k (symbol_at k defs st w)
unfolding symbol_at
symbol_line k defs st w =
    let place : Place = record { line = k; word = 5 + length st.1 } in
    refuse k (leb 8 (length st.1)) (TooMany k limits.Right 8) _ refl
    (at_cond k (eqb (slice_index w 0) 39) _ _
    (demand k (is_quoted w) (BadName k) _ (at_bind k (code_at k defs (slice_index w 1)) (λ (c : Sym). ok (st.0, st.1 ++ c ∷ [])) (code_line k (position (λ (d : CodeDef). eqb d.byte (slice_index w 1)) defs)) (λ c. at_ok k (st.0, st.1 ++ c ∷ []))) refl)
    (at_bind k (name_at place st.0 w) (λ (n : Named × ℕ). ok (n.0, st.1 ++ Name n.1 ∷ [])) (name_line place st.0 w) (λ n. at_ok k (n.0, st.1 ++ Name n.1 ∷ []))))

bounds_line : (k : ℕ) (a b : List ℕ) → At k (bounds_at k a b)
unfolding bounds_at
bounds_line k a b = at_bind k (number_at k 1 96 a) _ (number_line k 1 96 a) (λ low. at_bind k (number_at k low 96 b) _ (number_line k low 96 b) (λ high. at_ok k _))

window_line : (k : ℕ) (v : Windows) (w a b : List ℕ) → At k (window_at k v w a b)
unfolding window_at
window_line k v w a b = refuse k (is_some (written v w)) (Twice k) _ refl (at_bind k (bounds_at k a b) (λ (x : Window). ok (with_window v w x)) (bounds_line k a b) (λ x. at_ok k (with_window v w x)))

windows_line : (k : ℕ) (v : Windows) (ws : List (List ℕ)) → At k (windows_at k v ws)
windows_line k v [] = at_ok k v
windows_line k v (w ∷ []) = at_err k (UnknownLine k) refl
windows_line k v (w ∷ a ∷ []) = at_err k (UnknownLine k) refl
windows_line k v (w ∷ a ∷ b ∷ ws) = at_bind k (window_at k v w a b) (λ (u : Windows). windows_at k u ws) (window_line k v w a b) (λ u. windows_line k u ws)

rule_of_line : (k : ℕ) (defs : List CodeDef) (st : Rules) (name cost : List ℕ) (symbols windows : List (List ℕ)) → At k (rule_of k defs st name cost symbols windows)
unfolding rule_of
rule_of_line k defs st name cost symbols windows =
    let place : Place = record { line = k; word = 2 } in
    refuse k (leb 64 (length st.rules)) (TooMany k limits.Rules 64) _ refl
    (at_bind k (name_at place st.names name) _ (name_line place st.names name) (λ left.
    at_bind k (number_at k 0 10000 cost) _ (number_line k 0 10000 cost) (λ price.
    at_bind k (cond (eqb (length symbols) 0) (err (EmptyRight k)) (each (symbol_at k defs) (left.0, []) symbols)) _ (refuse k (eqb (length symbols) 0) (EmptyRight k) _ refl (at_each k (symbol_at k defs) (symbol_line k defs) (left.0, []) symbols)) (λ right.
    at_bind k (windows_at k no_windows windows) _ (windows_line k no_windows windows) (λ v. at_ok k _)))))

rule_at_line : (k : ℕ) (defs : List CodeDef) (st : Rules) (ws : List (List ℕ)) → At k (rule_at k defs st ws)
unfolding rule_at
rule_at_line k defs st [] = at_err k (UnknownLine k) refl
rule_at_line k defs st (a ∷ []) = at_err k (UnknownLine k) refl
rule_at_line k defs st (a ∷ b ∷ []) = at_err k (UnknownLine k) refl
rule_at_line k defs st (name ∷ cost ∷ mark ∷ rest) = demand k (bytes_eq mark (codes "=") && are_windows (drop (symbol_count rest) rest)) (UnknownLine k) _ (rule_of_line k defs st name cost (take (symbol_count rest) rest) (drop (symbol_count rest) rest)) refl

declare_line : (k : ℕ) (work : Bool) (defs : List CodeDef) (w : List ℕ) → At k (declare_at k work defs w)
unfolding declare_at
declare_line k work defs w =
    let byte : ℕ = slice_index w 0 in
    refuse k (not (eqb (length w) 1) || not (is_code_byte byte)) (BadName k) _ refl
    (refuse k (is_declared defs byte) (Twice k) _ refl
    (refuse k (leb 32 (length defs)) (TooMany k limits.Codes 32) _ refl
    (refuse k (work && leb 8 (count_by (λ (d : CodeDef). d.work) defs)) (TooMany k limits.Work 8) _ refl
    (at_ok k (defs ++ record { byte = byte; work = work } ∷ [])))))

codes_line : (k : ℕ) (work : Bool) (d : Draft) (ws : List (List ℕ)) → At k (codes_at k work d ws)
unfolding codes_at
codes_line k work d [] = at_err k (UnknownLine k) refl
codes_line k work d (w ∷ ws) = at_bind k (each (declare_at k work) d.codes (w ∷ ws)) _ (at_each k (declare_at k work) (declare_line k work) d.codes (w ∷ ws)) (λ defs. at_ok k _)

periods_line : (k : ℕ) (d : Draft) (ws : List (List ℕ)) → At k (periods_at k d ws)
unfolding periods_at
periods_line k d [] = at_err k (UnknownLine k) refl
periods_line k d (n ∷ []) = at_bind k (number_at k 1 96 n) _ (number_line k 1 96 n) (λ p. refuse k (is_some d.periods) (Twice k) _ refl (at_ok k (record d { periods = Some p })))
periods_line k d (n ∷ m ∷ ws) = at_err k (UnknownLine k) refl

start_line : (k : ℕ) (d : Draft) (ws : List (List ℕ)) → At k (start_at k d ws)
unfolding start_at
start_line k d [] = at_err k (UnknownLine k) refl
start_line k d (n ∷ []) = refuse k (not (is_name n)) (BadName k) _ refl (refuse k (is_some d.start) (Twice k) _ refl (at_ok k (record d { start = Some (record { line = k; name = n }) })))
start_line k d (n ∷ m ∷ ws) = at_err k (UnknownLine k) refl

words_line : (k : ℕ) (d : Draft) (ws : List (List ℕ)) → At k (line_at k d ws)
unfolding line_at
words_line k d [] = at_err k (UnknownLine k) refl
words_line k d (w ∷ ws) =
    at_cond k (bytes_eq w (codes "periods")) _ _ (periods_line k d ws)
    (at_cond k (bytes_eq w (codes "work")) _ _ (codes_line k true d ws)
    (at_cond k (bytes_eq w (codes "idle")) _ _ (codes_line k false d ws)
    (at_cond k (bytes_eq w (codes "start")) _ _ (start_line k d ws)
    (demand k (bytes_eq w (codes "rule")) (UnknownLine k) _ (at_bind k (rule_at k d.codes d.rules ws) (λ (r : Rules). ok (record d { rules = r })) (rule_at_line k d.codes d.rules ws) (λ r. at_ok k (record d { rules = r }))) refl))))

item_line : (d : Draft) (item : Result TextLine bad.BadByte) → At (number_of item) (item_at d item)
item_line d (Ok line) = words_line line.number d line.words
item_line d (Err b) = at_err b.line (BadByte b.line) refl

-- the first line that is refused
record IsFirst (d : Draft) (items : List (Result TextLine bad.BadByte)) (e : RulesFault) : Type 0 where
  before : List (Result TextLine bad.BadByte)
  line : Result TextLine bad.BadByte
  after : List (Result TextLine bad.BadByte)
  draft : Draft
  split : items ≡ before ++ line ∷ after
  stand : each item_at d before ≡ Ok draft
  refused : item_at draft line ≡ Err e

first_refused : (d : Draft) (items : List (Result TextLine bad.BadByte)) (e : RulesFault) → each item_at d items ≡ Err e → IsFirst d items e
first_refused d [] e h = absurd cc
first_refused d (i ∷ is) e h = by (item_at d i) refl h (λ t q. first_refused t is e q)
  where
    by : (r : Result Draft RulesFault) → item_at d i ≡ r → (r >>= λ (t : Draft). each item_at t is) ≡ Err e → ((t : Draft) → each item_at t is ≡ Err e → IsFirst t is e) → IsFirst d (i ∷ is) e
    by (Err c) s q more = record { before = []; line = i; after = is; draft = d; split = refl; stand = refl; refused = s ∙ q }
    by (Ok t) s q more =
        let m = more t q in
        record { before = i ∷ m.before; line = m.line; after = m.after; draft = m.draft; split = ap (λ (l : List (Result TextLine bad.BadByte)). i ∷ l) m.split; stand = rw s m.stand; refused = m.refused }

pub refused_at : (text : List ℕ) (e : RulesFault) → draft_of text ≡ Err e → IsFirstRefused text e
refused_at text e h =
    let f = first_refused no_draft (text_items text) e h in
    record { before = f.before; line = f.line; after = f.after; draft = f.draft; split = f.split; stand = f.stand; refused = f.refused; carried = (item_line f.draft f.line).at e f.refused }
