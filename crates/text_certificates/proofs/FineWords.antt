-- The lines of a sound certificate are lines of words.
use Rattle.std.proofs.Common.{◌≡◌, ℕ, ℤ, pos, negsuc, zero, suc, ◌+◌, ◌-◌, ◌*◌, ◌/◌, ◌<◌, ◌≤◌, ◌^◌, true, false, List, [], ◌∷◌, length, get_or, map, take, drop, Option, Some, None, refl, ap, ◌∙◌, arith, inl, inr, length-append}
use Rattle.std.specs.Prelude.{codes, slice_get, IfSome, All}
use Rattle.std.specs.List.{list_all}
use Rattle.std.specs.Fmt.{decimal}
use Rattle.std.proofs.lemmas.Bool.{and_from, lt-ltb}
use Rattle.std.proofs.lemmas.Int.{ints}
use Rattle.std.proofs.lemmas.List.Elements.{All-head, All-tail}
use Rattle.std.proofs.lemmas.Option.{slice_get_within, slice_get-get_or}
use Rattle.std.proofs.Math.Nat.{mul-div-le}
use Rattle.text_lines.specs.Numbers.{number_text}
use Rattle.text_lines.specs.Written.{is_word_byte, is_written, are_written}
use Rattle.model_rosters.specs.declared.grammar.ArcKey.{ArcKey}
use Rattle.model_rosters.specs.declared.grammar.Grammar.{Grammar}
use Rattle.model_rosters.specs.declared.instance.Cell.{Cell}
use Rattle.model_rosters.specs.declared.instance.Cut.{Cut}
use Rattle.model_rosters.specs.declared.instance.Group.{Group}
use Rattle.model_rosters.specs.declared.instance.Instance.{Instance}
use Rattle.model_rosters.specs.declared.instance.Mult.{Mult}
use Rattle.model_rosters.specs.declared.instance.Prices.{Prices}
use Rattle.model_rosters.specs.declared.instance.Shift.{Shift}
use Rattle.model_rosters.specs.Folds.{Each}
use Rattle.model_rosters.specs.Limits.{IsDayCell}
use Rattle.model_rosters.specs.Names.{is_code_byte, added_name}
use Rattle.model_rosters.specs.PriceLimits.{IsMult, FitPrices}
use Rattle.model_rosters.specs.Sound.{IsSound}
use Rattle.model_rosters.specs.SoundInstance.{IsGroup, HasGroups, IsSoundInstance}
use Rattle.model_rosters.specs.Sums.{Within}
use Rattle.model_rosters.proofs.SoundCells.{cells_of_day}
use Rattle.model_rosters.proofs.EachLemmas.{all_each, Each-append}
use Rattle.check_certificates.specs.declared.cert.Node.{Node}
use Rattle.check_certificates.specs.declared.cert.Node.TheVariants.{Split, Priced, Pinned, Bare}
use Rattle.check_certificates.specs.Sound.{most_cost, most_rule, IsKey, IsGroupNumber, IsWordByte, IsSoundShift, IsSoundNode}
use Rattle.text_proof_pieces.specs.PriceLines.{code_byte, due_byte}
use Rattle.text_certificates.specs.Written.{header_words, amount_word, amount_words, name_word, shift_words, shift_line, head_words, price_lines, mult_words, block_lines, node_lines}
use Rattle.text_lines.proofs.WordLemmas.{word_byte, code_byte_fine, name_fine, digits_written, number_written}
use Rattle.text_certificates.proofs.TreeAgain.{each_take}

-- a word that can be written
abbrev pub IsFine : List ℕ → Type 0
IsFine w = is_written w ≡ true

-- a line that can be written
abbrev pub IsFineLine : List (List ℕ) → Type 0
IsFineLine l = are_written l ≡ true

all_fine : (ws : List (List ℕ)) → Each IsFine ws → list_all is_written ws ≡ true
all_fine [] h = refl
all_fine (w ∷ ws) h = and_from _ _ h.0 (all_fine ws h.1)

pub line_fine : (w : List ℕ) (ws : List (List ℕ)) → IsFine w → Each IsFine ws → IsFineLine (w ∷ ws)
line_fine w ws h k = and_from _ _ (lt-ltb 0 (length (w ∷ ws)) (omega arith)) (and_from _ _ h (all_fine ws k))

pub lines_fine : (ls : List (List (List ℕ))) → Each IsFineLine ls → list_all are_written ls ≡ true
lines_fine [] h = refl
lines_fine (l ∷ ls) h = and_from _ _ h.0 (lines_fine ls h.1)

-- ---- names and codes

pub any_name_fine : (g : Grammar) → IsSound g → (x : ℕ) → x < length g.names → IsFine (get_or g.names x [])
any_name_fine g s x lt = elim (s.names.each x (get_or g.names x []) (slice_get-get_or g.names x [] lt)) [
  | inl h ↦ (name_fine _ h).written
  | inr h ↦ rw h.0 refl
]

-- ---- numbers

pub number_fine : (n : ℕ) → n < 10 ^ 64 → IsFine (decimal n)
number_fine n lt = number_written n lt

signed_fine : (z : ℤ) → Within (2 ^ 80) z → IsFine (number_text z)
signed_fine (pos n) w = let high = w.high in number_fine n (omega (arith, ints, high))
signed_fine (negsuc n) w =
    let low = w.low in
    let h = digits_written (suc n) (omega (arith, ints, low)) in
    and_from _ _ (lt-ltb 0 (length (45 ∷ decimal (suc n))) (omega arith)) h.bytes

-- ---- lines

pub header_fine : (groups : List Group) → IsFineLine (header_words groups)
header_fine [] = refl
header_fine (g ∷ gs) = refl

amount_fine : (x : Option ℕ) → IfSome x (λ n. n ≤ most_cost) → IsFine (amount_word x)
amount_fine None h = refl
amount_fine (Some n) h = number_fine n (omega (arith, h))

pub amounts_fine : (first : List ℕ) (x : Option ℕ) → IsFine first → IfSome x (λ n. n ≤ most_cost) → IsFineLine (amount_words first x)
amounts_fine first x f h = line_fine first (amount_word x ∷ []) f (amount_fine x h, tt)

pub bytes_fine : (w : List ℕ) → Each IsWordByte w → list_all is_word_byte w ≡ true
bytes_fine [] h = refl
bytes_fine (b ∷ w) h = and_from _ _ (word_byte b h.0.first h.0.last h.0.mark) (bytes_fine w h.1)

letters_fine : (i : Instance) (s : Shift) → IsSoundShift i s → IsFine s.word
letters_fine i s h = and_from _ _ (lt-ltb 0 (length s.word) (omega (arith, h.some))) (bytes_fine s.word h.bytes)

-- a group's name is one of the grammar's
pub name_within : (i : Instance) (g : Group) (gs : List Group) (k : ℕ) → HasGroups i (g ∷ gs) → i.groups ≡ g ∷ gs → k < length (g ∷ gs) → (get_or (g ∷ gs) k g).name < length i.grammar.names
name_within i g gs k h e lt =
    let by = h.1 in
    let long : length i.grammar.names ≡ length h.0.names + 1 = ap (λ (x : Grammar). length x.names) by.grammar ∙ length-append h.0.names (added_name ∷ []) in
    let each : All (IsGroup (length h.0.names)) (g ∷ gs) = rw e at by.groups.each in
    let one : IsGroup (length h.0.names) (get_or (g ∷ gs) k g) = each k g lt in
    let within : (get_or (g ∷ gs) k g).name < length h.0.names = one.name in
    omega arith

pub shift_fine : (i : Instance) (s : Shift) → IsSoundInstance i → IsSoundShift i s → IsFineLine (shift_line i s)
shift_fine i s si h = by i.groups refl si.groups h.group
  where
    price : IsFine (decimal s.price)
    price = number_fine s.price (omega (arith, h.price))

    by : (gs : List Group) → i.groups ≡ gs → HasGroups i gs → IsGroupNumber gs s.group → IsFineLine (shift_words i gs s)
    by [] e hg m = line_fine (codes "shift") (s.word ∷ decimal s.price ∷ []) refl (letters_fine i s h, (price, tt))
    by (g ∷ gs) e hg m =
        let lt : s.group - 1 < length (g ∷ gs) = omega (arith, m.0, m.1) in
        let at : slice_get (g ∷ gs) (s.group - 1) ≡ Some (get_or (g ∷ gs) (s.group - 1) g) = slice_get-get_or (g ∷ gs) (s.group - 1) g lt in
        let name : IsFine (name_word i.grammar.names (slice_get (g ∷ gs) (s.group - 1))) = rw at (any_name_fine i.grammar si.grammar (get_or (g ∷ gs) (s.group - 1) g).name (name_within i g gs (s.group - 1) hg e lt)) in
        line_fine (codes "shift") (name_word i.grammar.names (slice_get (g ∷ gs) (s.group - 1)) ∷ s.word ∷ decimal s.price ∷ []) refl (name, (letters_fine i s h, (price, tt)))

rule_wide : (groups : List Group) (r : ℕ) → r ≤ most_rule groups → r < 10 ^ 64
rule_wide [] r h = omega (arith, h)
rule_wide (g ∷ gs) r h = omega (arith, h)

split_fine : (i : Instance) (a : ArcKey) (b : ℕ) (ws : List (List ℕ)) → IsKey i a → b ≤ 63 → Each IsFine ws
    → IsFineLine (codes "split" ∷ decimal a.rule ∷ decimal a.suffix ∷ decimal a.start ∷ decimal a.len ∷ decimal a.part ∷ decimal b ∷ ws)
split_fine i a b ws k le h =
    line_fine (codes "split") (decimal a.rule ∷ decimal a.suffix ∷ decimal a.start ∷ decimal a.len ∷ decimal a.part ∷ decimal b ∷ ws) refl (
      number_fine a.rule (rule_wide i.groups a.rule k.last_rule),
      (
        number_fine a.suffix (omega (arith, k.suffix)),
        (
          number_fine a.start (omega (arith, k.last_start)),
          (
            number_fine a.len (omega (arith, k.most_len)),
            (number_fine a.part (omega (arith, k.most_part)), (number_fine b (omega (arith, le)), h)),
          ),
        ),
      ),
    )

head_fine : (i : Instance) (cuts : List Cut) (x : Node) → IsSoundNode i cuts x → IsFineLine (head_words x)
head_fine i cuts (Split a b None) s = split_fine i a b [] s.0 s.1 tt
head_fine i cuts (Split a b (Some p)) s = split_fine i a b (decimal p.d ∷ []) s.0 s.1 (number_fine p.d (omega (arith, s.2.small)), tt)
head_fine i cuts (Priced p) s = line_fine (codes "priced") (decimal p.d ∷ []) refl (number_fine p.d (omega (arith, s.small)), tt)
head_fine i cuts Pinned s = refl
head_fine i cuts Bare s = refl

-- the code of a cell is one of the grammar's
pub due_fine : (i : Instance) (place : ℕ) → IsSoundInstance i → place < length i.cells → IsFine (due_byte i place ∷ [])
due_fine i place s lt =
    let none : Cell = record { code = 0; period = 0; need = 0; under = 0; over = 0; floor = 0; ceiling = 0 } in
    let cell : Cell = get_or i.cells place none in
    let day : IsDayCell i.grammar cell = cells_of_day i.grammar i.cells s.cells place none lt in
    let at : slice_get i.cells place ≡ Some cell = slice_get-get_or i.cells place none lt in
    let code : cell.code < length i.grammar.codes = slice_get_within i.grammar.codes cell.code day.work.0 day.work.1 in
    let byte : is_code_byte (code_byte i.grammar.codes cell.code) ≡ true = s.grammar.codes.bytes cell.code (record { byte = 0; work = false }) code in
    let is : due_byte i place ≡ code_byte i.grammar.codes cell.code = rw at refl in
    rw is (and_from _ _ (code_byte_fine (code_byte i.grammar.codes cell.code) byte) refl)

numbers_fine : (ps : List ℤ) → Each (Within (2 ^ 80)) ps → Each IsFine (map number_text ps)
numbers_fine [] h = tt
numbers_fine (p ∷ ps) h = (signed_fine p h.0, numbers_fine ps h.1)

price_lines_fine : (i : Instance) (place m : ℕ) (ps : List ℤ) → IsSoundInstance i → place + m * i.grammar.periods ≤ length i.cells → Each (Within (2 ^ 80)) ps → Each IsFineLine (price_lines i place m ps)
price_lines_fine i place zero ps s le h = tt
price_lines_fine i place (suc m) ps s le h =
    let n : ℕ = i.grammar.periods in
    let some : 1 ≤ n = s.grammar.some_period in
    let parts = each_take (Within (2 ^ 80)) n ps h in
    let lt : place < length i.cells = omega (arith, le, some) in (
      line_fine (codes "price") ((due_byte i place ∷ []) ∷ map number_text (take n ps)) refl (due_fine i place s lt, numbers_fine (take n ps) parts.0),
      price_lines_fine i (place + n) m (drop n ps) s (omega (arith, le)) parts.1,
    )

mult_fine : (cuts : ℕ) (m : Mult) → IsMult cuts m → cuts < 10 ^ 64 → IsFineLine (mult_words m)
mult_fine cuts m h small =
    let least = h.least in
    let most = h.most in
    let within : Within (2 ^ 80) m.value = record { low = omega (arith, ints, least); high = most } in
    line_fine (codes "mult") (decimal m.cut ∷ number_text m.value ∷ []) refl (number_fine m.cut (omega (arith, h.last, small)), (signed_fine m.value within, tt))

mults_fine : (cuts : ℕ) (ms : List Mult) → All (IsMult cuts) ms → cuts < 10 ^ 64 → Each IsFineLine (map mult_words ms)
mults_fine cuts [] h small = tt
mults_fine cuts (m ∷ ms) h small = (mult_fine cuts m (All-head (IsMult cuts) m ms h) small, mults_fine cuts ms (All-tail (IsMult cuts) m ms h) small)

block_fine : (i : Instance) (cuts : List Cut) (p : Prices) → IsSoundInstance i → length cuts < 10 ^ 64 → FitPrices i p.d p.cell p.mult cuts → Each IsFineLine (block_lines i p)
block_fine i cuts p s small fit =
    let n : ℕ = i.grammar.periods in
    let some : 1 ≤ n = s.grammar.some_period in
    let parts : n * (length p.cell / n) ≤ length p.cell = mul-div-le (length p.cell) n in
    Each-append IsFineLine (price_lines i 0 (length p.cell / n) p.cell) (map mult_words p.mult)
    (price_lines_fine i 0 (length p.cell / n) p.cell s (omega (arith, parts, fit.cells)) (all_each (Within (2 ^ 80)) p.cell fit.each))
    (mults_fine (length cuts) p.mult fit.mults small)

pub node_fine : (i : Instance) (cuts : List Cut) (x : Node) → IsSoundInstance i → length cuts < 10 ^ 64 → IsSoundNode i cuts x → Each IsFineLine (node_lines i x)
node_fine i cuts (Split a b None) s small h = (head_fine i cuts (Split a b None) h, tt)
node_fine i cuts (Split a b (Some p)) s small h = (head_fine i cuts (Split a b (Some p)) h, block_fine i cuts p s small h.2)
node_fine i cuts (Priced p) s small h = (head_fine i cuts (Priced p) h, block_fine i cuts p s small h)
node_fine i cuts Pinned s small h = (head_fine i cuts Pinned h, tt)
node_fine i cuts Bare s small h = (head_fine i cuts Bare h, tt)
