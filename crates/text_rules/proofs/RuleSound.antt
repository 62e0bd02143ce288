-- A sound rule, in the form in which its written line is read again.
use Rattle.std.proofs.Common.{◌≡◌, ℕ, ◌+◌, ◌<◌, ◌≤◌, Bool, true, false, max, List, [], ◌∷◌, length, get_or, Some, refl, sym, arith, inl, inr, eqb}
use Rattle.std.specs.Prelude.{position, slice_get, All}
use Rattle.std.specs.List.{position_or_len}
use Rattle.std.specs.Str.{bytes_eq}
use Rattle.std.proofs.lemmas.Bool.{eq-eqb, ne_eqb, false_from_ne_true}
use Rattle.std.proofs.lemmas.Option.{slice_get-get_or}
use Rattle.std.proofs.lemmas.List.Sums.{position_or_len_is}
use Rattle.std.proofs.lemmas.List.Elements.{All-head, All-tail}
use Rattle.std.proofs.lemmas.Slice.Eq.{bytes_eq-Decides}
use Rattle.model_rosters.specs.declared.grammar.Sym.{Sym}
use Rattle.model_rosters.specs.declared.grammar.Sym.TheVariants.{Code, Name}
use Rattle.model_rosters.specs.declared.grammar.CodeDef.{CodeDef}
use Rattle.model_rosters.specs.declared.grammar.Rule.{Rule}
use Rattle.model_rosters.specs.declared.grammar.Grammar.{Grammar}
use Rattle.model_rosters.specs.Names.{is_name, is_code_byte}
use Rattle.text_lines.proofs.FieldsLemmas.{position_at}
use Rattle.text_lines.specs.Names.{name_of, code_of}
use Rattle.model_rosters.specs.Sound.{Exists, IsWindow, IsRule, AreCodes, AreNames, IsPlain, AreInOrder, names_of}
use Rattle.text_rules.specs.Names.{place_of}

pub record NamesSound (ns : List (List ℕ)) : Type 0 where
  pub few : length ns ≤ 32
  pub names : (x : ℕ) → x < length ns → is_name (name_of ns x) ≡ true
  pub distinct : (x : ℕ) → x < length ns → place_of ns (name_of ns x) ≡ x

pub record CodesSound (defs : List CodeDef) : Type 0 where
  pub bytes : (c : ℕ) → c < length defs → is_code_byte (code_of defs c).byte ≡ true
  pub distinct : (c : ℕ) → c < length defs → position (λ d. eqb d.byte (code_of defs c).byte) defs ≡ Some c

-- symbols that exist, the names in order of first appearance where m of them are known
abbrev pub SymbolsSound : List CodeDef → List (List ℕ) → ℕ → List Sym → Type 0
SymbolsSound defs ns m [] = Unit {0}
SymbolsSound defs ns m (Code c ∷ ss) = (c < length defs) × SymbolsSound defs ns m ss
SymbolsSound defs ns m (Name x ∷ ss) = (x < length ns) × (x ≤ m) × SymbolsSound defs ns (max m (x + 1)) ss

pub record RuleSound (defs : List CodeDef) (ns : List (List ℕ)) (m : ℕ) (r : Rule) : Type 0 where
  pub left : r.left < length ns
  pub left_order : r.left ≤ m
  pub cost : r.cost ≤ 10000
  pub some : 0 < length r.right
  pub few : length r.right ≤ 8
  pub symbols : SymbolsSound defs ns (max m (r.left + 1)) r.right
  pub span : IsWindow r.span
  pub first : IsWindow r.first
  pub last : IsWindow r.last

symbols_sound : (defs : List CodeDef) (ns : List (List ℕ)) (m : ℕ) (ss : List Sym) → All (Exists (length defs) (length ns)) ss → AreInOrder m (names_of ss) → SymbolsSound defs ns m ss
symbols_sound defs ns m [] h o = tt
symbols_sound defs ns m (Code c ∷ ss) h o = (All-head (Exists (length defs) (length ns)) (Code c) ss h, symbols_sound defs ns m ss (All-tail (Exists (length defs) (length ns)) (Code c) ss h) o)
symbols_sound defs ns m (Name x ∷ ss) h o = (All-head (Exists (length defs) (length ns)) (Name x) ss h, o.0, symbols_sound defs ns (max m (x + 1)) ss (All-tail (Exists (length defs) (length ns)) (Name x) ss h) o.1)

pub rule_sound : (defs : List CodeDef) (ns : List (List ℕ)) (m : ℕ) (r : Rule) → IsRule (length defs) (length ns) r → AreInOrder m (r.left ∷ names_of r.right) → RuleSound defs ns m r
rule_sound defs ns m r h o = record {
  left = h.left;
  left_order = o.0;
  cost = h.cost;
  some = omega (arith, h.some);
  few = h.eight;
  symbols = symbols_sound defs ns (max m (r.left + 1)) r.right h.symbols o.1;
  span = h.span;
  first = h.begins;
  last = h.ends;
}

pub names_sound : (g : Grammar) → AreNames g → IsPlain g → NamesSound g.names
names_sound g s p = record {
  few = p.few_names;
  names = λ x lt. elim (s.each x (name_of g.names x) (at x lt)) [
    | inl spelled ↦ spelled
    | inr added ↦ absurd (p.spelled x [] lt added.0)
  ];
  distinct = λ x lt. position_or_len_is (same x) g.names x [] (omega arith) (before x lt) (λ h. (bytes_eq-Decides (name_of g.names x) (name_of g.names x)).1 refl);
}
  where
    at : (x : ℕ) → x < length g.names → slice_get g.names x ≡ Some (name_of g.names x)
    at x lt = slice_get-get_or g.names x [] lt

    same : ℕ → List ℕ → Bool
    same x n = bytes_eq (name_of g.names x) n

    before : (x : ℕ) → x < length g.names → (k : ℕ) → k < x → bytes_eq (name_of g.names x) (get_or g.names k []) ≡ false
    before x lt k kx = false_from_ne_true _ (λ equal. s.apart k x (name_of g.names k) (name_of g.names x) kx (slice_get-get_or g.names k [] (omega arith)) (slice_get-get_or g.names x [] lt) (sym ((bytes_eq-Decides (name_of g.names x) (get_or g.names k [])).0 equal)))

pub first_code : (defs : List CodeDef) → AreCodes defs → (c : ℕ) → c < length defs → position_or_len (λ (d : CodeDef). eqb d.byte (code_of defs c).byte) defs ≡ c
first_code defs s c lt = position_or_len_is (λ (d : CodeDef). eqb d.byte (code_of defs c).byte) defs c none (omega arith) (λ k kc. ne_eqb _ _ (λ e. s.apart k c (get_or defs k none) (get_or defs c none) kc (slice_get-get_or defs k none (omega arith)) (slice_get-get_or defs c none lt) e)) (λ h. eq-eqb _ _ refl)
  where
    none : CodeDef
    none = record { byte = 0; work = false }

pub codes_sound : (defs : List CodeDef) → AreCodes defs → CodesSound defs
codes_sound defs s = record {
  bytes = λ c lt. s.bytes c (record { byte = 0; work = false }) lt;
  distinct = λ c lt. position_at _ defs c (first_code defs s c lt) lt;
}
