-- Lines that were written are read again, one by one.
use Rattle.std.proofs.Common.{◌≡◌, ℕ, ℤ, pos, negsuc, ◌+◌, ◌<◌, ◌≤◌, ◌^◌, true, false, eqb, List, [], ◌∷◌, ◌++◌, length, map, Option, Some, None, Result, Ok, Err, refl, sym, ap, ◌∙◌, arith, append_assoc, append-nil}
use Rattle.std.specs.Prelude.{codes, unsigned_abs, IfSome, ◌≤ℤ◌}
use Rattle.std.specs.Fmt.{decimal}
use Rattle.std.specs.Str.{bytes_eq}
use Rattle.std.proofs.lemmas.Bool.{le-ltb, lt-leb, eq-eqb, false_from_ne_true}
use Rattle.std.proofs.lemmas.Int.{ints}
use Rattle.std.proofs.lemmas.List.{length-map}
use Rattle.std.proofs.lemmas.Slice.Eq.{bytes_eq-Decides}
use Rattle.text_lines.specs.declared.number.NumberFault.TheVariants.{Form}
use Rattle.text_lines.specs.Numbers.{is_plain, natural_of, number_text}
use Rattle.text_lines.specs.Steps.{each}
use Rattle.text_lines.proofs.NumbersLemmas.{natural_again, number_again}
use Rattle.model_rosters.specs.declared.grammar.ArcKey.{ArcKey}
use Rattle.model_rosters.specs.declared.instance.Group.{Group}
use Rattle.model_rosters.specs.declared.instance.Instance.{Instance}
use Rattle.model_rosters.specs.declared.instance.Mult.{Mult}
use Rattle.model_rosters.specs.declared.instance.Prices.{Prices}
use Rattle.model_rosters.specs.Folds.{Each}
use Rattle.model_rosters.specs.Sums.{Within}
use Rattle.check_certificates.specs.declared.cert.Node.{Node}
use Rattle.check_certificates.specs.declared.cert.Node.TheVariants as of
use Rattle.check_certificates.specs.Sound.{most_cost, most_rule, IsKey}
use Rattle.text_proof_pieces.specs.declared.fault.PieceFault.{PieceFault}
use Rattle.text_proof_pieces.specs.declared.node.NodeLine.{NodeLine}
use Rattle.text_proof_pieces.specs.declared.node.NodeLine.TheVariants.{Split, Priced, Pinned, Bare}
use Rattle.text_lines.proofs.FieldsLemmas.{number_at_again}
use Rattle.text_lines.proofs.WordLemmas.{same_bytes}
use Rattle.text_proof_pieces.specs.declared.fault.PieceFault.TheVariants.{BadNumber, OutOfRange}
use Rattle.text_proof_pieces.specs.Fields.{signed_at, amount_at}
use Rattle.text_proof_pieces.specs.NodeLines.{arc_at, split_of, split_at, priced_at, leaf_at, node_at}
use Rattle.text_proof_pieces.specs.PriceLines.{due_byte, price_step, price_line, last_cut, mult_of, mult_line}
use Rattle.text_proof_pieces.specs.ShiftLines.{amount_line}
use Rattle.text_certificates.specs.Written.{amount_word, amount_words, own_words, head_words, price_words, mult_words}
use Rattle.text_proof_pieces.proofs.FieldsKept.{IsDenominator}

pub signed_again : (k : ℕ) (z : ℤ) → Within (2 ^ 80) z → signed_at k (number_text z) ≡ Ok z
unfolding signed_at
signed_again k z w =
    let low = w.low in
    let high = w.high in
    let small : unsigned_abs z ≤ 2 ^ 80 = omega (arith, ints, low, high) in
    rw (number_again z (omega arith), le-ltb (2 ^ 80) (unsigned_abs z) small) refl

none_is_no_number : natural_of (codes "none") ≡ Err Form
unfolding natural_of is_plain
none_is_no_number = refl

-- no number is spelled `none`
no_none : (n : ℕ) → n < 2 ^ 127 → bytes_eq (decimal n) (codes "none") ≡ false
no_none n lt = false_from_ne_true _ (λ t.
    let same : decimal n ≡ codes "none" = (bytes_eq-Decides (decimal n) (codes "none")).0 t in
    let read : natural_of (codes "none") ≡ Ok n = ap natural_of (sym same) ∙ natural_again n lt in
    let no_number = none_is_no_number in
    cc)

pub amount_again : (k : ℕ) (x : Option ℕ) → IfSome x (λ n. n ≤ most_cost) → amount_at k (amount_word x) ≡ Ok x
unfolding amount_at
amount_again k None h = refl
amount_again k (Some n) h = rw (no_none n (omega (arith, h)), number_at_again (BadNumber k) (OutOfRange k) 0 most_cost n (omega arith) h (omega arith)) refl

pub amount_line_again : (k : ℕ) (first : List ℕ) (x : Option ℕ) → IfSome x (λ n. n ≤ most_cost) → amount_line k first (amount_words first x) ≡ Ok x
unfolding amount_line
amount_line_again k first x h = rw (same_bytes first) (amount_again k x h)

-- ---- lines of nodes

abbrev pub own_line : Option Prices → Option ℕ
own_line None = None
own_line (Some p) = Some p.d

-- what the line of a node says
abbrev pub line_of_node : Node → NodeLine
line_of_node (of.Split a b own) = Split a b (own_line own)
line_of_node (of.Priced p) = Priced p.d
line_of_node of.Pinned = Pinned
line_of_node of.Bare = Bare

-- the numbers of a node's line are in their ranges
abbrev pub HasLine : Instance → Node → Type 0
HasLine i (of.Split a b own) = IsKey i a × (b ≤ 63) × IfSome own (λ p. IsDenominator p.d)
HasLine i (of.Priced p) = IsDenominator p.d
HasLine i of.Pinned = Unit {0}
HasLine i of.Bare = Unit {0}

few_rules : (groups : List Group) → most_rule groups < 2 ^ 127
few_rules [] = omega arith
few_rules (g ∷ gs) = omega arith

arc_again : (k : ℕ) (i : Instance) (a : ArcKey) → IsKey i a → arc_at k i.groups (decimal a.rule) (decimal a.suffix) (decimal a.start) (decimal a.len) (decimal a.part) ≡ Ok a
unfolding arc_at
arc_again k i a h =
    rw (
      number_at_again (BadNumber k) (OutOfRange k) 1 (most_rule i.groups) a.rule h.first_rule h.last_rule (few_rules i.groups),
      number_at_again (BadNumber k) (OutOfRange k) 0 6 a.suffix (omega arith) h.suffix (omega arith),
      number_at_again (BadNumber k) (OutOfRange k) 1 96 a.start h.first_start h.last_start (omega arith),
      number_at_again (BadNumber k) (OutOfRange k) 1 96 a.len h.least_len h.most_len (omega arith),
      number_at_again (BadNumber k) (OutOfRange k) 1 96 a.part h.least_part h.most_part (omega arith),
    ) refl

split_again : (k : ℕ) (i : Instance) (n : ℕ) (a : ArcKey) (b : ℕ) (own : Option Prices) → n < 20001 → HasLine i (of.Split a b own)
    → split_at k i.groups n (decimal a.rule ∷ decimal a.suffix ∷ decimal a.start ∷ decimal a.len ∷ decimal a.part ∷ decimal b ∷ own_words own) ≡ Ok (Split a b (own_line own))
unfolding split_at split_of
split_again k i n a b None lt h = rw (lt-leb 20001 n lt, arc_again k i a h.0, number_at_again (BadNumber k) (OutOfRange k) 0 63 b (omega arith) h.1 (omega arith)) refl
split_again k i n a b (Some p) lt h =
    rw (lt-leb 20001 n lt, arc_again k i a h.0, number_at_again (BadNumber k) (OutOfRange k) 0 63 b (omega arith) h.1 (omega arith), number_at_again (BadNumber k) (OutOfRange k) 1 (2 ^ 30) p.d h.2.0 h.2.1 (omega arith)) refl

pub node_again : (k : ℕ) (i : Instance) (n : ℕ) (x : Node) → n < 20001 → HasLine i x → node_at k i.groups n (head_words x) ≡ Ok (line_of_node x)
unfolding node_at priced_at leaf_at
node_again k i n (of.Split a b own) lt h = split_again k i n a b own lt h
node_again k i n (of.Priced p) lt h = rw (lt-leb 20001 n lt, number_at_again (BadNumber k) (OutOfRange k) 1 (2 ^ 30) p.d h.0 h.1 (omega arith)) refl
node_again k i n of.Pinned lt h = rw (lt-leb 20001 n lt) refl
node_again k i n of.Bare lt h = rw (lt-leb 20001 n lt) refl

-- ---- lines of prices and multipliers

prices_again : (k : ℕ) (cs ps : List ℤ) → Each (Within (2 ^ 80)) ps → each (price_step k) cs (map number_text ps) ≡ Ok (cs ++ ps)
prices_again k cs [] h = rw (append-nil cs) refl
prices_again k cs (p ∷ ps) h =
    rw (signed_again k p h.0) (prices_again k (cs ++ p ∷ []) ps h.1 ∙ ap (λ (xs : List ℤ). ok xs) (append_assoc cs (p ∷ []) ps))
  where
    ok : List ℤ → Result (List ℤ) PieceFault
    ok xs = Ok xs

pub price_line_again : (k : ℕ) (i : Instance) (cs ps : List ℤ) → length ps ≡ i.grammar.periods → Each (Within (2 ^ 80)) ps → price_line k i cs (price_words (due_byte i (length cs)) ps) ≡ Ok (cs ++ ps)
unfolding price_line
price_line_again k i cs ps e h =
    let whole : eqb (length (map number_text ps)) i.grammar.periods ≡ true = eq-eqb _ _ (length-map ps number_text ∙ e) in
    rw (same_bytes (due_byte i (length cs) ∷ []), whole) (prices_again k cs ps h)

positive : (z : ℤ) → pos 1 ≤ℤ z → (v : ℕ) × (z ≡ pos v) × (1 ≤ v)
positive (pos v) le = (v, refl, omega (arith, ints, le))
positive (negsuc v) le = absurd (omega (arith, ints, le))

pub mult_line_again : (k cuts : ℕ) (ms : List Mult) (m : Mult) → length ms < 1500 → last_cut ms < m.cut → m.cut ≤ cuts → cuts < 2 ^ 127 → pos 1 ≤ℤ m.value → m.value ≤ℤ pos (2 ^ 80)
    → mult_line k cuts ms (mult_words m) ≡ Ok (ms ++ m ∷ [])
unfolding mult_line mult_of
mult_line_again k cuts ms m few more last small least most =
    let p = positive m.value least in
    let word : number_text m.value ≡ decimal p.0 = ap number_text p.1 in
    let within : p.0 ≤ 2 ^ 80 = omega (arith, ints, most, p.1) in
    let le : last_cut ms + 1 ≤ m.cut = omega (arith, more) in
    rw (lt-leb 1500 (length ms) few, number_at_again (BadNumber k) (OutOfRange k) (last_cut ms + 1) cuts m.cut le last small, word, number_at_again (BadNumber k) (OutOfRange k) 1 (2 ^ 80) p.0 p.2 within (omega arith), sym p.1) refl
