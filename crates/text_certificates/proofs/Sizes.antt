-- How long the text of a certificate is at most.
use Rattle.std.proofs.Common.{◌≡◌, ℕ, ℤ, pos, negsuc, zero, suc, ◌+◌, ◌-◌, ◌*◌, ◌/◌, ◌<◌, ◌≤◌, ◌^◌, true, not, ltb, leb, List, [], ◌∷◌, ◌++◌, length, get_or, map, take, drop, Option, Some, None, refl, sym, ap, ◌∙◌, arith, inl, inr, length-append, length-take, length-drop}
use Rattle.std.specs.Prelude.{codes, slice_get, IfSome}
use Rattle.std.specs.List.{list_all}
use Rattle.std.specs.Fmt.{decimal}
use Rattle.std.proofs.lemmas.Bool.{and_parts, leb-true}
use Rattle.std.proofs.lemmas.Fmt.{length-decimal-le_wide}
use Rattle.std.proofs.lemmas.Int.{ints}
use Rattle.std.proofs.lemmas.Option.{slice_get-get_or}
use Rattle.std.proofs.Math.Nat.{mul-div_cancel}
use Rattle.text_lines.specs.Numbers.{number_text}
use Rattle.text_lines.specs.Written.{spaced, written, tail}
use Rattle.model_rosters.specs.declared.grammar.ArcKey.{ArcKey}
use Rattle.model_rosters.specs.declared.grammar.Grammar.{Grammar}
use Rattle.model_rosters.specs.declared.instance.Cut.{Cut}
use Rattle.model_rosters.specs.declared.instance.Group.{Group}
use Rattle.model_rosters.specs.declared.instance.Instance.{Instance}
use Rattle.model_rosters.specs.declared.instance.Mult.{Mult}
use Rattle.model_rosters.specs.declared.instance.Prices.{Prices}
use Rattle.model_rosters.specs.declared.instance.Shift.{Shift}
use Rattle.model_rosters.specs.Cuts.{base_cuts}
use Rattle.model_rosters.specs.Folds.{Each, sum_n}
use Rattle.model_rosters.specs.Names.{is_name, is_letter, is_name_byte, is_window_word}
use Rattle.model_rosters.specs.PriceLimits.{IsMult, FitPrices}
use Rattle.model_rosters.specs.Sound.{IsSound}
use Rattle.model_rosters.specs.SoundInstance.{HasGroups, IsSoundInstance}
use Rattle.model_rosters.specs.Sums.{Within}
use Rattle.model_rosters.proofs.EachLemmas.{all_each, each_parts}
use Rattle.check_certificates.specs.declared.cert.Cert.{Cert}
use Rattle.check_certificates.specs.declared.cert.Node.{Node}
use Rattle.check_certificates.specs.declared.cert.Node.TheVariants.{Split, Priced, Pinned, Bare}
use Rattle.check_certificates.specs.Nodes.{Proof, split, priced, pinned, bare, preorder, low_cut, high_cut, visits}
use Rattle.check_certificates.specs.Sound.{most_cost, most_rule, IsKey, IsGroupNumber, IsSoundShift, IsSoundNode, IsSoundVisit, IsSoundCert}
use Rattle.text_proof_pieces.specs.PriceLines.{due_byte}
use Rattle.text_certificates.specs.Written.{header_words, amount_word, amount_words, name_word, shift_words, shift_line, head_words, price_lines, mult_words, block_lines, node_lines, tree_lines, end_words, cert_text, node_values}
use Rattle.text_certificates.proofs.CertAgain.{few_base_cuts}
use Rattle.text_certificates.proofs.FineWords.{name_within}
use Rattle.text_proof_pieces.proofs.PriceBlock.{cells_whole}
use Rattle.text_lines.proofs.WrittenLemmas.{spaced_tail, written_append}
use Rattle.text_certificates.proofs.TreeAgain.{each_take, tree_lines-append}

abbrev size : List (List (List ℕ)) → ℕ
size ls = length (written ls)

size-append : (ks ls : List (List (List ℕ))) → size (ks ++ ls) ≡ size ks + size ls
size-append ks ls = ap length (written_append ks ls) ∙ length-append (written ks) (written ls)

line_size : (w : List ℕ) (ws : List (List ℕ)) (ls : List (List (List ℕ))) → size ((w ∷ ws) ∷ ls) ≡ length w + length (tail ws) + 1 + size ls
line_size w ws ls = omega (arith, length-append (spaced (w ∷ ws)) (10 ∷ written ls), ap length (spaced_tail w ws), length-append w (tail ws))

more_size : (w : List ℕ) (ws : List (List ℕ)) → length (tail (w ∷ ws)) ≡ 1 + length w + length (tail ws)
more_size w ws = omega (arith, length-append w (tail ws))

-- ---- words

signed_short : (z : ℤ) → Within (2 ^ 80) z → length (number_text z) ≤ 26
signed_short (pos n) w =
    let high = w.high in
    let few : length (decimal n) ≤ 25 = length-decimal-le_wide 25 n (omega arith) (omega (arith, ints, high)) (omega (arith, ints, high)) in
    omega arith
signed_short (negsuc n) w =
    let low = w.low in
    let few : length (decimal (suc n)) ≤ 25 = length-decimal-le_wide 25 (suc n) (omega arith) (omega (arith, ints, low)) (omega (arith, ints, low)) in
    omega arith

amount_short : (x : Option ℕ) → IfSome x (λ n. n ≤ most_cost) → length (amount_word x) ≤ 13
amount_short None h = omega arith
amount_short (Some n) h = length-decimal-le_wide 13 n (omega arith) (omega (arith, h)) (omega (arith, h))

name_short : (w : List ℕ) → is_name w ≡ true → length w ≤ 32
unfolding is_name
name_short w e =
    let a = and_parts _ (not (is_window_word w)) e in
    let b = and_parts _ (list_all is_name_byte w) a.0 in
    let c = and_parts _ (is_letter (get_or w 0 0)) b.0 in
    let d = and_parts (ltb 0 (length w)) (leb (length w) 32) c.0 in
    leb-true (length w) 32 d.1

any_name_short : (g : Grammar) → IsSound g → (x : ℕ) → x < length g.names → length (get_or g.names x []) ≤ 32
any_name_short g s x lt = elim (s.names.each x (get_or g.names x []) (slice_get-get_or g.names x [] lt)) [
  | inl h ↦ name_short _ h
  | inr h ↦ rw h.0 (omega arith)
]

-- ---- lines

header_size : (groups : List Group) (ls : List (List (List ℕ))) → size (header_words groups ∷ ls) ≤ 8 + size ls
header_size [] ls = omega (arith, line_size (codes "proof") (codes "1" ∷ []) ls)
header_size (g ∷ gs) ls = omega (arith, line_size (codes "proof") (codes "2" ∷ []) ls)

amounts_size : (first : List ℕ) (x : Option ℕ) (ls : List (List (List ℕ))) → length first ≤ 5 → IfSome x (λ n. n ≤ most_cost) → size (amount_words first x ∷ ls) ≤ 20 + size ls
amounts_size first x ls f h = omega (arith, line_size first (amount_word x ∷ []) ls, more_size (amount_word x) [], amount_short x h, f)

shift_size : (i : Instance) (s : Shift) → IsSoundInstance i → IsSoundShift i s → size (shift_line i s ∷ []) ≤ 150
shift_size i s si h = by i.groups refl si.groups h.group
  where
    price : length (decimal s.price) ≤ 13
    price = length-decimal-le_wide 13 s.price (omega arith) (omega (arith, h.price)) (omega (arith, h.price))

    by : (gs : List Group) → i.groups ≡ gs → HasGroups i gs → IsGroupNumber gs s.group → size (shift_words i gs s ∷ []) ≤ 150
    by [] e hg m =
        omega (arith, line_size (codes "shift") (s.word ∷ decimal s.price ∷ []) [], more_size s.word (decimal s.price ∷ []), more_size (decimal s.price) [], price, h.short)
    by (g ∷ gs) e hg m =
        let lt : s.group - 1 < length (g ∷ gs) = omega (arith, m.0, m.1) in
        let at : slice_get (g ∷ gs) (s.group - 1) ≡ Some (get_or (g ∷ gs) (s.group - 1) g) = slice_get-get_or (g ∷ gs) (s.group - 1) g lt in
        let name : List ℕ = name_word i.grammar.names (slice_get (g ∷ gs) (s.group - 1)) in
        let short : length name ≤ 32 = rw at (any_name_short i.grammar si.grammar (get_or (g ∷ gs) (s.group - 1) g).name (name_within i g gs (s.group - 1) hg e lt)) in
        omega (arith, line_size (codes "shift") (name ∷ s.word ∷ decimal s.price ∷ []) [], more_size name (s.word ∷ decimal s.price ∷ []), more_size s.word (decimal s.price ∷ []), more_size (decimal s.price) [], price, h.short, short)

shifts_size : (i : Instance) (ss : List Shift) → IsSoundInstance i → Each (IsSoundShift i) ss → size (map (shift_line i) ss) ≤ 150 * length ss
shifts_size i [] s h = omega arith
shifts_size i (x ∷ ss) s h = omega (arith, size-append (shift_line i x ∷ []) (map (shift_line i) ss), shift_size i x s h.0, shifts_size i ss s h.1)

two_digits : (n : ℕ) → n ≤ 96 → length (decimal n) ≤ 2
two_digits n h = length-decimal-le_wide 2 n (omega arith) (omega (arith, h)) (omega (arith, h))

few_rules : (groups : List Group) (r : ℕ) → r ≤ most_rule groups → r ≤ 96
few_rules [] r h = omega (arith, h)
few_rules (g ∷ gs) r h = omega (arith, h)

denominator_short : (d : ℕ) → d ≤ 2 ^ 30 → length (decimal d) ≤ 10
denominator_short d h = length-decimal-le_wide 10 d (omega arith) (omega (arith, h)) (omega (arith, h))

split_size : (i : Instance) (a : ArcKey) (b : ℕ) (ws : List (List ℕ)) → IsKey i a → b ≤ 63 → size ((codes "split" ∷ decimal a.rule ∷ decimal a.suffix ∷ decimal a.start ∷ decimal a.len ∷ decimal a.part ∷ decimal b ∷ ws) ∷ []) ≤ 24 + length (tail ws)
split_size i a b ws k le =
    let five : List (List ℕ) = decimal b ∷ ws in
    let four : List (List ℕ) = decimal a.part ∷ five in
    let three : List (List ℕ) = decimal a.len ∷ four in
    let two : List (List ℕ) = decimal a.start ∷ three in
    let one : List (List ℕ) = decimal a.suffix ∷ two in
    omega (
      arith,
      line_size (codes "split") (decimal a.rule ∷ one) [],
      more_size (decimal a.rule) one,
      more_size (decimal a.suffix) two,
      more_size (decimal a.start) three,
      more_size (decimal a.len) four,
      more_size (decimal a.part) five,
      more_size (decimal b) ws,
      two_digits a.rule (few_rules i.groups a.rule k.last_rule),
      two_digits a.suffix (omega (arith, k.suffix)),
      two_digits a.start k.last_start,
      two_digits a.len k.most_len,
      two_digits a.part k.most_part,
      two_digits b (omega (arith, le)),
    )

head_size : (i : Instance) (cuts : List Cut) (x : Node) → IsSoundNode i cuts x → size (head_words x ∷ []) ≤ 40
head_size i cuts (Split a b None) s = omega (arith, split_size i a b [] s.0 s.1)
head_size i cuts (Split a b (Some p)) s = omega (arith, split_size i a b (decimal p.d ∷ []) s.0 s.1, more_size (decimal p.d) [], denominator_short p.d s.2.small)
head_size i cuts (Priced p) s = omega (arith, line_size (codes "priced") (decimal p.d ∷ []) [], more_size (decimal p.d) [], denominator_short p.d s.small)
head_size i cuts Pinned s = omega arith
head_size i cuts Bare s = omega arith

numbers_size : (ps : List ℤ) → Each (Within (2 ^ 80)) ps → length (tail (map number_text ps)) ≤ 27 * length ps
numbers_size [] h = omega arith
numbers_size (p ∷ ps) h = omega (arith, more_size (number_text p) (map number_text ps), signed_short p h.0, numbers_size ps h.1)

prices_size : (i : Instance) (place m : ℕ) (ps : List ℤ) → 1 ≤ i.grammar.periods → length ps ≡ m * i.grammar.periods → Each (Within (2 ^ 80)) ps → size (price_lines i place m ps) ≤ 40 * length ps
prices_size i place zero ps some e h = omega arith
prices_size i place (suc m) ps some e h =
    let n : ℕ = i.grammar.periods in
    let parts = each_take (Within (2 ^ 80)) n ps h in
    let byte : List ℕ = due_byte i place ∷ [] in
    let numbers : List (List ℕ) = map number_text (take n ps) in
    let rest : List (List (List ℕ)) = price_lines i (place + n) m (drop n ps) in
    let long : length (take n ps) ≡ n = omega (arith, length-take n ps, e) in
    omega (
      arith,
      line_size (codes "price") (byte ∷ numbers) rest,
      more_size byte numbers,
      numbers_size (take n ps) parts.0,
      long,
      length-drop n ps,
      e,
      some,
      prices_size i (place + n) m (drop n ps) some (omega (arith, length-drop n ps, e)) parts.1,
    )

mults_size : (cuts : ℕ) (ms : List Mult) → cuts < 100000 → Each (IsMult cuts) ms → size (map mult_words ms) ≤ 40 * length ms
mults_size cuts [] small h = omega arith
mults_size cuts (m ∷ ms) small h =
    let least = h.0.least in
    let within : Within (2 ^ 80) m.value = record { low = omega (arith, ints, least); high = h.0.most } in
    let cut : length (decimal m.cut) ≤ 5 = length-decimal-le_wide 5 m.cut (omega arith) (omega (arith, h.0.last, small)) (omega (arith, h.0.last, small)) in
    omega (
      arith,
      line_size (codes "mult") (decimal m.cut ∷ number_text m.value ∷ []) (map mult_words ms),
      more_size (decimal m.cut) (number_text m.value ∷ []),
      more_size (number_text m.value) [],
      cut,
      signed_short m.value within,
      mults_size cuts ms small h.1,
    )

block_size : (i : Instance) (cuts : List Cut) (p : Prices) → IsSoundInstance i → length cuts < 100000 → FitPrices i p.d p.cell p.mult cuts → size (block_lines i p) ≤ 40 * (length p.cell + length p.mult)
block_size i cuts p s small fit =
    let n : ℕ = i.grammar.periods in
    let w = cells_whole i s in
    let made : length p.cell ≡ w.lines * n = fit.cells ∙ w.made in
    let least : 0 < n = omega (arith, s.grammar.some_period) in
    let lines : length p.cell / n ≡ w.lines = ap (λ (m : ℕ). m / n) made ∙ mul-div_cancel w.lines least in
    let whole : length p.cell ≡ length p.cell / n * n = made ∙ ap (λ (m : ℕ). m * n) (sym lines) in
    omega (
      arith,
      size-append (price_lines i 0 (length p.cell / n) p.cell) (map mult_words p.mult),
      prices_size i 0 (length p.cell / n) p.cell (omega arith) whole (all_each (Within (2 ^ 80)) p.cell fit.each),
      mults_size (length cuts) p.mult small (all_each (IsMult (length cuts)) p.mult fit.mults),
    )

node_size : (i : Instance) (cuts : List Cut) (x : Node) → IsSoundInstance i → length cuts < 100000 → IsSoundNode i cuts x → size (node_lines i x) ≤ 128 + 40 * node_values x
node_size i cuts (Split a b None) s small h = omega (arith, head_size i cuts (Split a b None) h)
node_size i cuts (Split a b (Some p)) s small h =
    omega (arith, size-append (head_words (Split a b (Some p)) ∷ []) (block_lines i p), head_size i cuts (Split a b (Some p)) h, block_size i cuts p s small h.2)
node_size i cuts (Priced p) s small h = omega (arith, size-append (head_words (Priced p) ∷ []) (block_lines i p), head_size i cuts (Priced p) h, block_size i cuts p s small h)
node_size i cuts Pinned s small h = omega (arith, head_size i cuts Pinned h)
node_size i cuts Bare s small h = omega (arith, head_size i cuts Bare h)

values-append : (xs ys : List Node) → sum_n node_values (xs ++ ys) ≡ sum_n node_values xs + sum_n node_values ys
values-append [] ys = omega arith
values-append (x ∷ xs) ys = omega (arith, values-append xs ys)

-- the lines of one node
alone : (i : Instance) (cuts : List Cut) (x : Node) → IsSoundInstance i → length cuts < 100000 → IsSoundNode i cuts x → size (tree_lines i (x ∷ [])) ≤ 128 * 1 + 40 * (node_values x + 0)
alone i cuts x s small h = omega (arith, size-append (node_lines i x) [], node_size i cuts x s small h)

tree_size : (i : Instance) (cuts : List Cut) (t : Proof) → IsSoundInstance i → length cuts + length (preorder t) < 100000 → Each (IsSoundVisit i) (visits cuts t)
    → size (tree_lines i (preorder t)) ≤ 128 * length (preorder t) + 40 * sum_n node_values (preorder t)
tree_size i cuts (split a b own low high) s small h =
    let x : Node = Split a b own in
    let lows : List Node = preorder low in
    let highs : List Node = preorder high in
    let parts = each_parts (IsSoundVisit i) (visits (cuts ++ low_cut a b ∷ []) low) (visits (cuts ++ high_cut a b ∷ []) high) h.1 in
    let first = node_size i cuts x s (omega (arith, small)) h.0 in
    let second = tree_size i (cuts ++ low_cut a b ∷ []) low s (omega (arith, small, length-append cuts (low_cut a b ∷ []), length-append lows highs)) parts.0 in
    let third = tree_size i (cuts ++ high_cut a b ∷ []) high s (omega (arith, small, length-append cuts (high_cut a b ∷ []), length-append lows highs)) parts.1 in
    omega (arith, size-append (node_lines i x) (tree_lines i (lows ++ highs)), ap size (tree_lines-append i lows highs), size-append (tree_lines i lows) (tree_lines i highs), values-append lows highs, length-append lows highs, first, second, third)
tree_size i cuts (priced p) s small h = alone i cuts (Priced p) s (omega (arith, small)) h.0
tree_size i cuts pinned s small h = alone i cuts Pinned s (omega (arith, small)) tt
tree_size i cuts bare s small h = alone i cuts Bare s (omega (arith, small)) tt

pub cert_size : (i : Instance) (c : Cert) → IsSoundInstance i → IsSoundCert i c → length (cert_text i c) ≤ 10000 + 128 * length c.nodes + 40 * sum_n node_values c.nodes
cert_size i c s h =
    let few : length (preorder h.proof) ≤ 20001 = rw h.nodes.whole h.nodes.few in
    let tree : size (tree_lines i c.nodes) ≤ 128 * length c.nodes + 40 * sum_n node_values c.nodes =
    rw (← h.nodes.whole) (tree_size i (base_cuts i) h.proof s (omega (arith, few_base_cuts i s, few)) h.nodes.each) in
    let es : List (List (List ℕ)) = end_words ∷ [] in
    let ts : List (List (List ℕ)) = tree_lines i c.nodes ++ es in
    let ss : List (List (List ℕ)) = map (shift_line i) c.shifts ++ ts in
    omega (
      arith,
      header_size i.groups (amount_words (codes "cost") c.cost ∷ amount_words (codes "bound") c.bound ∷ ss),
      amounts_size (codes "cost") c.cost (amount_words (codes "bound") c.bound ∷ ss) (omega arith) h.cost,
      amounts_size (codes "bound") c.bound ss (omega arith) h.bound,
      size-append (map (shift_line i) c.shifts) ts,
      size-append (tree_lines i c.nodes) es,
      shifts_size i c.shifts s h.shifts,
      h.few,
      tree,
    )
