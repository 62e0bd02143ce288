-- A rule line that is read keeps the rules sound.
use Rattle.std.proofs.Common.{◌≡◌, ℕ, ◌+◌, ◌<◌, ◌≤◌, Bool, true, false, cond, max, List, [], ◌∷◌, ◌++◌, length, take, drop, Option, Some, None, Ok, refl, sym, ap, ◌∙◌, arith, eqb, length-append, append-nil, subst}
use Rattle.std.specs.Prelude.{slice_index, position, All}
use Rattle.std.proofs.lemmas.Bool.{eqb-false}
use Rattle.std.proofs.lemmas.List.Elements.{All-nil, All-push, All-weaker}
use Rattle.std.proofs.lemmas.List.Quantifiers.{position-Some}
use Rattle.model_rosters.specs.declared.grammar.CodeDef.{CodeDef}
use Rattle.model_rosters.specs.declared.grammar.Rule.{Rule}
use Rattle.model_rosters.specs.declared.grammar.Sym.{Sym}
use Rattle.model_rosters.specs.declared.grammar.Sym.TheVariants.{Code, Name}
use Rattle.model_rosters.specs.Sound.{Exists, IsRule, AreInOrder, names_of, appearances}
use Rattle.model_rosters.proofs.ExtensionLemmas.{appearances-append}
use Rattle.text_rules.specs.declared.fault.RulesFault.TheVariants.{BadName, EmptyRight}
use Rattle.text_rules.specs.declared.rules.Rules.{Rules}
use Rattle.text_rules.specs.Steps.{◌>>=◌, each}
use Rattle.text_rules.specs.Names.{Named, name_at}
use Rattle.text_rules.specs.Fields.{number_at}
use Rattle.text_rules.specs.RuleLine.{is_quoted, declared, code_at, symbol_at, windows_at, no_windows, symbol_count, rule_of, rule_at}
use Rattle.text_rules.specs.Drafts.{known_after, AreNamed, AreRules}
use Rattle.text_lines.proofs.StepsLemmas.{each_keeps, held, passed, bind_ok, same_ok, err, ok}
use Rattle.text_lines.proofs.ListLemmas.{fewer}
use Rattle.text_rules.proofs.NamesKept.{IsNumbered, name_keeps}
use Rattle.text_rules.proofs.WindowsKept.{windows_keep, whole_window}
use Rattle.text_lines.proofs.FieldsLemmas.{number_within}
use Rattle.text_rules.proofs.Orders.{order-append, known-append, names-append}

pub exists_more : (c d n m : ℕ) → c ≤ d → n ≤ m → (s : Sym) → Exists c n s → Exists d m s
exists_more c d n m cd nm (Code k) h = omega arith
exists_more c d n m cd nm (Name x) h = omega arith

pub rule_more : (c d n m : ℕ) → c ≤ d → n ≤ m → (r : Rule) → IsRule c n r → IsRule d m r
rule_more c d n m cd nm r h = record {
  left = omega (arith, h.left);
  cost = h.cost;
  some = h.some;
  eight = h.eight;
  symbols = All-weaker (Exists c n) (Exists d m) (exists_more c d n m cd nm) r.right h.symbols;
  span = h.span;
  begins = h.begins;
  ends = h.ends;
}

-- the symbols of a right side so far, before which m names were known
record AreSymbols (codes m : ℕ) (st : Named × List Sym) : Type 0 where
  named : AreNamed st.0
  eight : length st.1 ≤ 8
  there : All (Exists codes (length st.0.texts)) st.1
  ordered : AreInOrder m (names_of st.1)
  counted : known_after m (names_of st.1) ≡ length st.0.texts

code_there : (k : ℕ) (defs : List CodeDef) (b : ℕ) (s : Sym) → code_at k defs b ≡ Ok s → (c : ℕ) × (c < length defs) × (s ≡ Code c)
code_there k defs b s e = by (position (λ (d : CodeDef). eqb d.byte b) defs) refl e
  where
    by : (o : Option ℕ) → position (λ (d : CodeDef). eqb d.byte b) defs ≡ o → declared k o ≡ Ok s → (c : ℕ) × (c < length defs) × (s ≡ Code c)
    by None h q = absurd cc
    by (Some c) h q = (c, (position-Some (λ (d : CodeDef). eqb d.byte b) defs c (record { byte = 0; work = false }) h).0, sym (same_ok (Code c) s q))

code_more : (codes m : ℕ) (st : Named × List Sym) (c : ℕ) → AreSymbols codes m st → length st.1 < 8 → c < codes → AreSymbols codes m (st.0, st.1 ++ Code c ∷ [])
code_more codes m st c s few lt =
    let same : names_of (st.1 ++ Code c ∷ []) ≡ names_of st.1 = names-append st.1 (Code c ∷ []) ∙ append-nil (names_of st.1) in
    record {
      named = s.named;
      eight = omega (arith, length-append st.1 (Code c ∷ []));
      there = All-push (Exists codes (length st.0.texts)) st.1 (Code c) s.there lt;
      ordered = subst (AreInOrder m) (sym same) s.ordered;
      counted = ap (known_after m) same ∙ s.counted;
    }

name_more : (codes m : ℕ) (st : Named × List Sym) (n : Named × ℕ) → AreSymbols codes m st → length st.1 < 8 → IsNumbered st.0 n → AreSymbols codes m (n.0, st.1 ++ Name n.1 ∷ [])
name_more codes m st n s few h =
    let same : names_of (st.1 ++ Name n.1 ∷ []) ≡ names_of st.1 ++ n.1 ∷ [] = names-append st.1 (Name n.1 ∷ []) in
    let order : n.1 ≤ known_after m (names_of st.1) = omega (arith, h.order, s.counted) in
    let grown : length st.0.texts ≤ length n.0.texts = omega (arith, h.counted) in
    let count : max (known_after m (names_of st.1)) (n.1 + 1) ≡ length n.0.texts = ap (λ (k : ℕ). max k (n.1 + 1)) s.counted ∙ h.counted in
    record {
      named = h.named;
      eight = omega (arith, length-append st.1 (Name n.1 ∷ []));
      there = All-push (Exists codes (length n.0.texts)) st.1 (Name n.1) (All-weaker (Exists codes (length st.0.texts)) (Exists codes (length n.0.texts)) (exists_more codes codes (length st.0.texts) (length n.0.texts) (omega arith) grown) st.1 s.there) h.there;
      ordered = subst (AreInOrder m) (sym same) (order-append m (names_of st.1) (n.1 ∷ []) s.ordered (order, tt));
      counted = ap (known_after m) same ∙ known-append m (names_of st.1) (n.1 ∷ []) ∙ count;
    }

abbrev Kept : ℕ → ℕ → Named × List Sym → Type 0
Kept codes m st = AreSymbols codes m st × (1 ≤ length st.1)

symbol_keeps : (k : ℕ) (defs : List CodeDef) (m : ℕ) (st new : Named × List Sym) (w : List ℕ) → AreSymbols (length defs) m st → symbol_at k defs st w ≡ Ok new → Kept (length defs) m new
unfolding symbol_at
symbol_keeps k defs m st new w s e =
    let a = passed _ _ _ _ e in
    by (eqb (slice_index w 0) 39) (fewer _ _ a.0) a.1
  where
    by : (t : Bool) → length st.1 < 8 → cond t (cond (is_quoted w) (code_at k defs (slice_index w 1) >>= λ (c : Sym). ok (st.0, st.1 ++ c ∷ [])) (err (BadName k)))
        (name_at (record { line = k; word = 5 + length st.1 }) st.0 w >>= λ (n : Named × ℕ). ok (n.0, st.1 ++ Name n.1 ∷ [])) ≡ ok new → Kept (length defs) m new
    by true few q =
        let h = held (is_quoted w) (BadName k) (code_at k defs (slice_index w 1) >>= λ (c : Sym). ok (st.0, st.1 ++ c ∷ [])) new q in
        let b = bind_ok (code_at k defs (slice_index w 1)) (λ (c : Sym). ok (st.0, st.1 ++ c ∷ [])) new h.1 in
        let c = code_there k defs (slice_index w 1) b.0 b.1 in
        let same : (st.0, st.1 ++ Code c.0 ∷ []) ≡ new = ap (λ (x : Sym). (st.0, st.1 ++ x ∷ [])) (sym c.2) ∙ same_ok _ _ b.2 in
        subst (Kept (length defs) m) same (code_more (length defs) m st c.0 s few c.1, omega (arith, length-append st.1 (Code c.0 ∷ [])))
    by false few q =
        let b = bind_ok (name_at (record { line = k; word = 5 + length st.1 }) st.0 w) (λ (n : Named × ℕ). ok (n.0, st.1 ++ Name n.1 ∷ [])) new q in
        let n = name_keeps (record { line = k; word = 5 + length st.1 }) st.0 w b.0 s.named b.1 in
        subst (Kept (length defs) m) (same_ok _ _ b.2) (name_more (length defs) m st b.0 s few n, omega (arith, length-append st.1 (Name b.0.1 ∷ [])))

symbols_keep : (k : ℕ) (defs : List CodeDef) (m : ℕ) (st new : Named × List Sym) (ws : List (List ℕ)) → AreSymbols (length defs) m st → eqb (length ws) 0 ≡ false → each (symbol_at k defs) st ws ≡ Ok new → Kept (length defs) m new
symbols_keep k defs m st new [] s some e = absurd (eqb-false 0 0 some refl)
symbols_keep k defs m st new (w ∷ ws) s some e =
    let first = bind_ok (symbol_at k defs st w) (λ (t : Named × List Sym). each (symbol_at k defs) t ws) new e in
    each_keeps (symbol_at k defs) (Kept (length defs) m) (λ t u v kept h. symbol_keeps k defs m t u v kept.0 h) first.0 new ws (symbol_keeps k defs m st first.0 w s first.1) first.2

-- one more rule
rule_pushed : (defs : List CodeDef) (st : Rules) (left right : Named) (r : Rule) → AreRules defs st → length st.rules < 64 → IsNumbered st.names (left, r.left) → Kept (length defs) (length left.texts) (right, r.right) → IsRule (length defs) (length right.texts) r → length left.texts ≤ length right.texts → AreRules defs (record { names = right; rules = st.rules ++ r ∷ [] })
rule_pushed defs st left right r s few numbered kept sound grown =
    let was : ℕ = length st.names.texts in
    let named : AreSymbols (length defs) (length left.texts) (right, r.right) = kept.0 in
    let appear : appearances (st.rules ++ r ∷ []) ≡ appearances st.rules ++ (r.left ∷ (names_of r.right ++ [])) = appearances-append st.rules (r ∷ []) in
    let appear' : appearances (st.rules ++ r ∷ []) ≡ appearances st.rules ++ (r.left ∷ names_of r.right) = appear ∙ ap (λ (l : List ℕ). appearances st.rules ++ (r.left ∷ l)) (append-nil (names_of r.right)) in
    let order : r.left ≤ known_after 0 (appearances st.rules) = omega (arith, numbered.order, s.counted) in
    let known : max (known_after 0 (appearances st.rules)) (r.left + 1) ≡ length left.texts = ap (λ (n : ℕ). max n (r.left + 1)) s.counted ∙ numbered.counted in
    let Order : ℕ → Type 0 = λ (n : ℕ). AreInOrder n (names_of r.right) in
    record {
      names = named.named;
      few = omega (arith, length-append st.rules (r ∷ []));
      each = All-push (IsRule (length defs) (length right.texts)) st.rules r (All-weaker (IsRule (length defs) was) (IsRule (length defs) (length right.texts)) (rule_more (length defs) (length defs) was (length right.texts) (omega arith) (omega (arith, numbered.counted))) st.rules s.each) sound;
      ordered = subst (AreInOrder 0) (sym appear') (order-append 0 (appearances st.rules) (r.left ∷ names_of r.right) s.ordered (order, subst Order (sym known) named.ordered));
      counted = ap (known_after 0) appear' ∙ known-append 0 (appearances st.rules) (r.left ∷ names_of r.right) ∙ ap (λ (n : ℕ). known_after n (names_of r.right)) known ∙ named.counted;
    }

no_symbols : (codes : ℕ) (ns : Named) → AreNamed ns → AreSymbols codes (length ns.texts) (ns, [])
no_symbols codes ns s = record { named = s; eight = omega arith; there = All-nil (Exists codes (length ns.texts)); ordered = tt; counted = refl }

rule_of_keeps : (k : ℕ) (defs : List CodeDef) (st new : Rules) (name cost : List ℕ) (symbols windows : List (List ℕ)) → AreRules defs st → rule_of k defs st name cost symbols windows ≡ Ok new → AreRules defs new
unfolding rule_of
rule_of_keeps k defs st new name cost symbols windows s e =
    let a = passed _ _ _ _ e in
    let left = bind_ok (name_at (record { line = k; word = 2 }) st.names name) _ _ a.1 in
    let price = bind_ok (number_at k 0 10000 cost) _ _ left.2 in
    let right = bind_ok (cond (eqb (length symbols) 0) (err (EmptyRight k)) (each (symbol_at k defs) (left.0.0, []) symbols)) _ _ price.2 in
    let v = bind_ok (windows_at k no_windows windows) _ _ right.2 in
    let some = passed (eqb (length symbols) 0) (EmptyRight k) _ _ right.1 in
    let numbered = name_keeps (record { line = k; word = 2 }) st.names name left.0 s.names left.1 in
    let start = no_symbols (length defs) left.0.0 numbered.named in
    let kept = symbols_keep k defs (length left.0.0.texts) (left.0.0, []) right.0 symbols start some.0 some.1 in
    let grown : length left.0.0.texts ≤ length right.0.0.texts = rises (length left.0.0.texts) (names_of right.0.1) (length right.0.0.texts) kept.0.counted in
    let within = number_within _ _ 0 10000 price.0 cost price.1 in
    let w = windows_keep k no_windows v.0 windows (record { span = tt; first = tt; last = tt }) v.1 in
    subst (AreRules defs) (same_ok _ _ v.2) (rule_pushed defs st left.0.0 right.0.0 _ s (fewer _ _ a.0) numbered kept (record {
      left = omega (arith, numbered.there);
      cost = within.1;
      some = kept.1;
      eight = kept.0.eight;
      symbols = kept.0.there;
      span = whole_window v.0.span w.span;
      begins = whole_window v.0.first w.first;
      ends = whole_window v.0.last w.last;
    }) grown)
  where
    rises : (m : ℕ) (xs : List ℕ) (n : ℕ) → known_after m xs ≡ n → m ≤ n
    rises m [] n e = omega arith
    rises m (x ∷ xs) n e = omega (arith, rises (max m (x + 1)) xs n e)

pub rule_keeps : (k : ℕ) (defs : List CodeDef) (st new : Rules) (ws : List (List ℕ)) → AreRules defs st → rule_at k defs st ws ≡ Ok new → AreRules defs new
unfolding rule_at
rule_keeps k defs st new [] s e = absurd cc
rule_keeps k defs st new (a ∷ []) s e = absurd cc
rule_keeps k defs st new (a ∷ b ∷ []) s e = absurd cc
rule_keeps k defs st new (name ∷ cost ∷ mark ∷ rest) s e =
    let form = held _ _ _ _ e in
    rule_of_keeps k defs st new name cost (take (symbol_count rest) rest) (drop (symbol_count rest) rest) s form.1
