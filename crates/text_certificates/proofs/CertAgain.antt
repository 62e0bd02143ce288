-- The whole text of a certificate is read as the certificate.
use Rattle.std.proofs.Common.{◌≡◌, ℕ, ◌+◌, ◌-◌, ◌*◌, ◌<◌, ◌≤◌, ◌^◌, Bool, true, false, cond, ltb, List, [], ◌∷◌, ◌++◌, length, get_or, map, Option, Some, None, Result, Ok, Err, refl, sym, ap, ◌∙◌, arith, subst, inl, inr, append_assoc, append-nil, length-append}
use Rattle.std.specs.Prelude.{codes, position, slice_get, is_some, IfSome, ◌≢◌}
use Rattle.std.specs.List.{list_all}
use Rattle.std.specs.Fmt.{decimal}
use Rattle.std.specs.Str.{bytes_eq}
use Rattle.std.proofs.lemmas.Bool.{cases_lt, le-ltb, lt-leb, ne_eqb, false_from_ne_true}
use Rattle.std.proofs.lemmas.List.Sums.{position_or_len_is}
use Rattle.std.proofs.lemmas.Option.{slice_get-get_or}
use Rattle.std.proofs.lemmas.Slice.Eq.{bytes_eq-Decides}
use Rattle.text_lines.specs.Lines.{text_items}
use Rattle.text_lines.specs.Written.{are_written, numbered}
use Rattle.text_lines.proofs.WrittenAgain.{written_again}
use Rattle.model_rosters.specs.declared.instance.Cut.{Cut}
use Rattle.model_rosters.specs.declared.instance.Group.{Group}
use Rattle.model_rosters.specs.declared.instance.Instance.{Instance}
use Rattle.model_rosters.specs.declared.instance.Shift.{Shift}
use Rattle.model_rosters.specs.Cuts.{base_cuts, group_cut_count}
use Rattle.model_rosters.specs.Folds.{Each, sum_n}
use Rattle.model_rosters.specs.SoundInstance.{HasGroups, IsSoundInstance}
use Rattle.check_certificates.specs.declared.cert.Cert.{Cert}
use Rattle.check_certificates.specs.declared.cert.Node.{Node}
use Rattle.check_certificates.specs.declared.cert.Node.TheVariants as of
use Rattle.check_certificates.specs.Nodes.{Proof, split, priced, pinned, bare, preorder, low_cut, high_cut, visits}
use Rattle.check_certificates.specs.Sound.{most_cost, IsSoundVisit, IsSoundShift, IsSoundCert, IsGroupNumber, NoneIsZero}
use Rattle.text_proof_pieces.specs.declared.fault.ProofFault.{ProofFault}
use Rattle.text_proof_pieces.specs.Ahead.{NoShift}
use Rattle.text_proof_pieces.specs.CertOf.{no_cert, collected, node_pieces, shift_pieces, cert_pieces, proof_of}
use Rattle.text_proof_pieces.specs.Fields.{numbered_or, has_name, group_at}
use Rattle.text_proof_pieces.specs.Items.{Items}
use Rattle.text_proof_pieces.specs.PieceList.{Given, Place, no_place, after_bound, start, shifts, nodes, pieces_from, pieces_left, pieces_of}
use Rattle.text_proof_pieces.specs.ShiftLines.{version, is_shift, letters_of, shift_of, shift_at}
use Rattle.text_proof_pieces.specs.Told.{cost, bound, shift, node, done}
use Rattle.text_certificates.specs.Written.{header_words, amount_words, name_word, shift_words, shift_line, node_lines, tree_lines, end_words, cert_lines, cert_text}
use Rattle.model_rosters.proofs.CutCounts.{base_length, few_groups}
use Rattle.model_rosters.proofs.EachLemmas.{Each-append, each_parts}
use Rattle.text_certificates.proofs.FieldsAgain.{amount_line_again}
use Rattle.text_lines.proofs.FieldsLemmas.{number_at_again, position_at}
use Rattle.text_proof_pieces.specs.declared.fault.PieceFault.TheVariants.{BadNumber, OutOfRange}
use Rattle.text_certificates.proofs.FineWords.{IsFineLine, lines_fine, header_fine, amounts_fine, shift_fine, node_fine, name_within}
use Rattle.text_lines.proofs.WordLemmas.{same_bytes}
use Rattle.text_certificates.proofs.TextAgain.{tree_told}
use Rattle.text_certificates.proofs.TreeAgain.{nodes_then, numbered-then, tree_lines-append}

-- ---- shifts

letters_again : (k group : ℕ) (word : List ℕ) (price : ℕ) → length word ≤ 96 → price ≤ most_cost → letters_of k group word (decimal price) ≡ Ok (record { group = group; word = word; price = price })
unfolding letters_of
letters_again k group word price le h = rw (le-ltb 96 (length word) le, number_at_again (BadNumber k) (OutOfRange k) 0 most_cost price (omega arith) h (omega arith)) refl

-- the name of a group is that of no other
group_again : (i : Instance) (g : Group) (gs : List Group) (k p : ℕ) → IsSoundInstance i → HasGroups i (g ∷ gs) → i.groups ≡ g ∷ gs → p < length (g ∷ gs)
    → group_at k i.grammar.names (g ∷ gs) (name_word i.grammar.names (slice_get (g ∷ gs) p)) ≡ Ok (p + 1)
unfolding group_at
group_again i g gs k p s hg e lt =
    let names : List (List ℕ) = i.grammar.names in
    let all : List Group = g ∷ gs in
    let one : Group = get_or all p g in
    let at : slice_get all p ≡ Some one = slice_get-get_or all p g lt in
    let w : List ℕ = get_or names one.name [] in
    let word : name_word names (slice_get all p) ≡ w = rw at refl in
    let named : (x : Group) → x.name < length names → has_name names w x ≡ bytes_eq (get_or names x.name []) w = λ x h. rw (slice_get-get_or names x.name [] h) refl in
    let within : (j : ℕ) → j < length all → (get_or all j g).name < length names = λ j h. name_within i g gs j hg e h in
    let here : has_name names w one ≡ true = named one (within p lt) ∙ same_bytes w in
    let before : (j : ℕ) → j < p → has_name names w (get_or all j g) ≡ false = λ j jp.
    let x : Group = get_or all j g in
    let jl : j < length all = omega arith in
    let there : slice_get all j ≡ Some x = slice_get-get_or all j g jl in
    let apart : x.name ≢ one.name = (rw e at hg.1.groups.apart) j p x one jp there at in
    let differ : get_or names x.name [] ≡ w → ⊥ = λ same. names_apart i s x.name one.name (within j jl) (within p lt) apart same in
    named x (within j jl) ∙ false_from_ne_true _ (λ t. differ ((bytes_eq-Decides (get_or names x.name []) w).0 t)) in
    let found : position (has_name names w) all ≡ Some p = position_at (has_name names w) all p (position_or_len_is (has_name names w) all p g (omega arith) before (λ h. here)) lt in
    ap (λ (v : List ℕ). numbered_or k (position (has_name names v) all)) word ∙ ap (numbered_or k) found
  where
    names_apart : (i : Instance) → IsSoundInstance i → (x y : ℕ) → x < length i.grammar.names → y < length i.grammar.names → x ≢ y → get_or i.grammar.names x [] ≡ get_or i.grammar.names y [] → ⊥
    names_apart i s x y hx hy ne same = elim (cases_lt x y) [
      | inl lt ↦ s.grammar.names.apart x y (get_or i.grammar.names x []) (get_or i.grammar.names y []) lt (slice_get-get_or i.grammar.names x [] hx) (slice_get-get_or i.grammar.names y [] hy) same
      | inr ge ↦ let less : y < x = omega (arith, ne) in
          s.grammar.names.apart y x (get_or i.grammar.names y []) (get_or i.grammar.names x []) less (slice_get-get_or i.grammar.names y [] hy) (slice_get-get_or i.grammar.names x [] hx) (sym same)
    ]

abbrev IsShiftAgain : Instance → ℕ → ℕ → Shift → Type 0
IsShiftAgain i k n s = (is_shift i.groups (shift_line i s) ≡ true) × (shift_at k i n (shift_line i s) ≡ Ok s)

shift_again : (i : Instance) (k n : ℕ) (s : Shift) → IsSoundInstance i → IsSoundShift i s → n < 64 → IsShiftAgain i k n s
unfolding is_shift shift_at shift_of
shift_again i k n s si h lt = by i.groups refl si.groups h.group
  where
    by : (gs : List Group) → i.groups ≡ gs → HasGroups i gs → IsGroupNumber gs s.group → (is_shift i.groups (shift_words i gs s) ≡ true) × (shift_at k i n (shift_words i gs s) ≡ Ok s)
    by [] e hg m =
        (rw e refl, rw (lt-leb 64 n lt, sym m) (letters_again k s.group s.word s.price h.short h.price))
    by (g ∷ gs) e hg m =
        let p : s.group - 1 < length (g ∷ gs) = omega (arith, m.0, m.1) in
        let number : s.group - 1 + 1 ≡ s.group = omega (arith, m.0) in
        (rw e refl, rw (lt-leb 64 n lt, e, group_again i g gs k (s.group - 1) si hg e p, number) (letters_again k s.group s.word s.price h.short h.price))

shifts_read : (i : Instance) (p : Place) (k n : ℕ) (ss : List Shift) (rest : Items) → IsSoundInstance i → n + length ss ≤ 64 → Each (IsSoundShift i) ss
    → pieces_from i (shifts n) p (numbered k (map (shift_line i) ss) ++ rest) ≡ shift_pieces ss (pieces_from i (shifts (n + length ss)) p rest)
shifts_read i p k n [] rest s few h = ap (λ (m : ℕ). pieces_from i (shifts m) p rest) (omega arith)
shifts_read i p k n (x ∷ ss) rest s few h =
    let again = shift_again i k n x s h.0 (omega (arith, few)) in
    let next = shifts_read i p (k + 1) (n + 1) ss rest s (omega (arith, few)) h.1 in
    let whole : pieces_from i (shifts (n + 1)) p (numbered (k + 1) (map (shift_line i) ss) ++ rest) ≡ shift_pieces ss (pieces_from i (shifts (n + length (x ∷ ss))) p rest) =
    next ∙ ap (λ (m : ℕ). shift_pieces ss (pieces_from i (shifts m) p rest)) (omega arith) in
    rw (again.0, again.1) (ap (λ (g : Given). Ok (shift x) ∷ g) whole)

-- a line that is none of a shift is read as one of a node
no_shift : (i : Instance) (p : Place) (n : ℕ) (items : Items) → NoShift i.groups items → pieces_from i (shifts n) p items ≡ pieces_from i nodes p items
no_shift i p n [] h = refl
no_shift i p n (Err b ∷ items) h = refl
no_shift i p n (Ok line ∷ items) h = rw h refl

node_no_shift : (i : Instance) (k : ℕ) (x : Node) (rest : Items) → NoShift i.groups (numbered k (node_lines i x) ++ rest)
unfolding is_shift
node_no_shift i k (of.Split a b None) rest = refl
node_no_shift i k (of.Split a b (Some pr)) rest = refl
node_no_shift i k (of.Priced pr) rest = refl
node_no_shift i k of.Pinned rest = refl
node_no_shift i k of.Bare rest = refl

nodes_no_shift : (i : Instance) (k : ℕ) (x : Node) (xs : List Node) (rest : Items) → NoShift i.groups (numbered k (tree_lines i (x ∷ xs)) ++ rest)
nodes_no_shift i k x xs rest =
    subst (NoShift i.groups) (sym (numbered-then k (node_lines i x) (tree_lines i xs) rest)) (node_no_shift i k x (numbered (k + length (node_lines i x)) (tree_lines i xs) ++ rest))

tree_no_shift : (i : Instance) (k : ℕ) (t : Proof) (rest : Items) → NoShift i.groups (numbered k (tree_lines i (preorder t)) ++ rest)
tree_no_shift i k (split a b own low high) rest = nodes_no_shift i k (of.Split a b own) (preorder low ++ preorder high) rest
tree_no_shift i k (priced pr) rest = nodes_no_shift i k (of.Priced pr) [] rest
tree_no_shift i k pinned rest = nodes_no_shift i k of.Pinned [] rest
tree_no_shift i k bare rest = nodes_no_shift i k of.Bare [] rest

some_nodes : (t : Proof) → 1 ≤ length (preorder t)
some_nodes (split a b own low high) = omega arith
some_nodes (priced pr) = omega arith
some_nodes pinned = omega arith
some_nodes bare = omega arith

-- ---- the whole text

roster_read : (i : Instance) (x : Option ℕ) (k : ℕ) (ss : List Shift) (rest : Items) → IsSoundInstance i → (x ≡ None → ss ≡ []) → length ss ≤ 64 → Each (IsSoundShift i) ss → NoShift i.groups rest
    → pieces_from i (after_bound (is_some x)) no_place (numbered k (map (shift_line i) ss) ++ rest) ≡ shift_pieces ss (pieces_from i nodes no_place rest)
roster_read i None k ss rest s none few h other = rw (none refl) refl
roster_read i (Some n) k ss rest s none few h other =
    shifts_read i no_place k 0 ss rest s (omega (arith, few)) h ∙ ap (shift_pieces ss) (no_shift i no_place (0 + length ss) rest other)

end_read : (i : Instance) (k n : ℕ) → 1 ≤ n → pieces_from i nodes (record { nodes = n; halves = [] }) (numbered k (end_words ∷ []) ++ []) ≡ Ok done ∷ []
end_read i k n h = rw (ne_eqb n 0 (λ e. omega (arith, e, h))) refl

front_read : (i : Instance) (p : Place) (x y : Option ℕ) (ls : List (List (List ℕ))) → IfSome x (λ n. n ≤ most_cost) → IfSome y (λ n. n ≤ most_cost)
    → pieces_from i start p (numbered 1 (header_words i.groups ∷ amount_words (codes "cost") x ∷ amount_words (codes "bound") y ∷ ls)) ≡ Ok (cost x) ∷ Ok (bound y) ∷ pieces_from i (after_bound (is_some x)) no_place (numbered 4 ls)
front_read i p x y ls hx hy = rw (same_bytes (version i.groups), amount_line_again 2 (codes "cost") x hx, amount_line_again 3 (codes "bound") y hy) refl

pieces_end : (ns : List Node) → nodes_then ns (Ok done ∷ []) ≡ node_pieces ns
pieces_end [] = refl
pieces_end (n ∷ ns) = ap (λ (g : Given). Ok (node n) ∷ g) (pieces_end ns)

pub few_base_cuts : (i : Instance) → IsSoundInstance i → length (base_cuts i) ≤ 16
few_base_cuts i s = omega (arith, base_length i, twice i.groups, few_groups i s)
  where
    at_most : (b : Bool) → cond b 1 0 ≤ 1
    at_most true = omega arith
    at_most false = omega arith

    twice : (gs : List Group) → sum_n (group_cut_count i.heads_max) gs ≤ 2 * length gs
    twice [] = omega arith
    twice (g ∷ gs) = omega (arith, at_most (ltb g.heads_max i.heads_max), at_most (ltb 0 g.heads_min), twice gs)

-- the lines of a certificate whose nodes are those of a tree
lines_read : (i : Instance) (p : Place) (t : Proof) (c : Cert) → IsSoundInstance i → c.nodes ≡ preorder t → length (preorder t) ≤ 20001 → Each (IsSoundVisit i) (visits (base_cuts i) t) → Each NoneIsZero (preorder t)
    → (c.cost ≡ None → c.shifts ≡ []) → length c.shifts ≤ 64 → Each (IsSoundShift i) c.shifts → IfSome c.cost (λ n. n ≤ most_cost) → IfSome c.bound (λ n. n ≤ most_cost)
    → pieces_from i start p (numbered 1 (cert_lines i c)) ≡ cert_pieces c
lines_read i p t c s e few sound some none few_shifts hs hx hy =
    let ns : List Node = preorder t in
    let ss : List (List (List ℕ)) = map (shift_line i) c.shifts in
    let ts : List (List (List ℕ)) = tree_lines i ns in
    let es : List (List (List ℕ)) = end_words ∷ [] in
    let k1 : ℕ = 4 + length ss in
    let k2 : ℕ = k1 + length ts in
    let behind : Items = numbered k2 es ++ [] in
    let tree : Items = numbered k1 ts ++ behind in
    let front = front_read i p c.cost c.bound (ss ++ (ts ++ es)) hx hy in
    let items : numbered 4 (ss ++ (ts ++ es)) ≡ numbered 4 ss ++ tree =
    sym (append-nil (numbered 4 (ss ++ (ts ++ es)))) ∙ numbered-then 4 ss (ts ++ es) [] ∙ ap (λ (is : Items). numbered 4 ss ++ is) (numbered-then k1 ts es []) in
    let roster = roster_read i c.cost 4 c.shifts tree s none few_shifts hs (tree_no_shift i k1 t behind) in
    let told = tree_told i s (few_base_cuts i s) t no_place k1 behind refl (omega (arith, few)) (omega arith) (base_cuts i, omega arith, sound) some refl in
    let ended = end_read i k2 (0 + length ns) (omega (arith, some_nodes t)) in
    let nodes_all : pieces_from i nodes no_place tree ≡ node_pieces ns = told ∙ ap (nodes_then ns) ended ∙ pieces_end ns in
    ap (λ (xs : List Node). pieces_from i start p (numbered 1 (header_words i.groups ∷ amount_words (codes "cost") c.cost ∷ amount_words (codes "bound") c.bound ∷ (ss ++ (tree_lines i xs ++ es))))) e
    ∙ front
    ∙ ap (λ (g : Given). Ok (cost c.cost) ∷ Ok (bound c.bound) ∷ g) (ap (pieces_from i (after_bound (is_some c.cost)) no_place) items ∙ roster ∙ ap (shift_pieces c.shifts) (nodes_all ∙ ap node_pieces (sym e)))

-- ---- what is collected

abbrev ok_cert : Cert → Result Cert ProofFault
ok_cert c = Ok c

collect_nodes : (c : Cert) (ns : List Node) → collected c (node_pieces ns) ≡ Ok (record c { nodes = c.nodes ++ ns })
collect_nodes c [] = ap (λ (xs : List Node). ok_cert (record c { nodes = xs })) (sym (append-nil c.nodes))
collect_nodes c (n ∷ ns) = collect_nodes (record c { nodes = c.nodes ++ n ∷ [] }) ns ∙ ap (λ (xs : List Node). ok_cert (record c { nodes = xs })) (append_assoc c.nodes (n ∷ []) ns)

collect_shifts : (c : Cert) (ss : List Shift) (ns : List Node) → collected c (shift_pieces ss (node_pieces ns)) ≡ Ok (record c { shifts = c.shifts ++ ss; nodes = c.nodes ++ ns })
collect_shifts c [] ns = collect_nodes c ns ∙ ap (λ (xs : List Shift). ok_cert (record c { shifts = xs; nodes = c.nodes ++ ns })) (sym (append-nil c.shifts))
collect_shifts c (s ∷ ss) ns =
    collect_shifts (record c { shifts = c.shifts ++ s ∷ [] }) ss ns ∙ ap (λ (xs : List Shift). ok_cert (record c { shifts = xs; nodes = c.nodes ++ ns })) (append_assoc c.shifts (s ∷ []) ss)

pub collect_cert : (c : Cert) → collected no_cert (cert_pieces c) ≡ Ok c
collect_cert c = collect_shifts (record { shifts = []; cost = c.cost; bound = c.bound; nodes = [] }) c.shifts c.nodes

-- ---- bytes

each_of : {A : Type 0} (P : A → Type 0) (f : Shift → A) (ss : List Shift) (Q : Shift → Type 0) → ((s : Shift) → Q s → P (f s)) → Each Q ss → Each P (map f ss)
each_of P f [] Q step h = tt
each_of P f (s ∷ ss) Q step h = (step s h.0, each_of P f ss Q step h.1)

tree_fine : (i : Instance) (cuts : List Cut) (t : Proof) → IsSoundInstance i → length cuts + length (preorder t) < 10 ^ 64 → Each (IsSoundVisit i) (visits cuts t) → Each IsFineLine (tree_lines i (preorder t))
tree_fine i cuts (split a b own low high) s small h =
    let lows : List Node = preorder low in
    let highs : List Node = preorder high in
    let parts = each_parts (IsSoundVisit i) (visits (cuts ++ low_cut a b ∷ []) low) (visits (cuts ++ high_cut a b ∷ []) high) h.1 in
    let first = node_fine i cuts (of.Split a b own) s (omega (arith, small)) h.0 in
    let second = tree_fine i (cuts ++ low_cut a b ∷ []) low s (omega (arith, small, length-append cuts (low_cut a b ∷ []), length-append lows highs)) parts.0 in
    let third = tree_fine i (cuts ++ high_cut a b ∷ []) high s (omega (arith, small, length-append cuts (high_cut a b ∷ []), length-append lows highs)) parts.1 in
    Each-append IsFineLine (node_lines i (of.Split a b own)) (tree_lines i (lows ++ highs)) first
    (rw (tree_lines-append i lows highs) (Each-append IsFineLine (tree_lines i lows) (tree_lines i highs) second third))
tree_fine i cuts (priced pr) s small h = Each-append IsFineLine (node_lines i (of.Priced pr)) [] (node_fine i cuts (of.Priced pr) s (omega (arith, small)) h.0) tt
tree_fine i cuts pinned s small h = Each-append IsFineLine (node_lines i of.Pinned) [] (node_fine i cuts of.Pinned s (omega (arith, small)) tt) tt
tree_fine i cuts bare s small h = Each-append IsFineLine (node_lines i of.Bare) [] (node_fine i cuts of.Bare s (omega (arith, small)) tt) tt

cert_fine : (i : Instance) (c : Cert) → IsSoundInstance i → IsSoundCert i c → list_all are_written (cert_lines i c) ≡ true
cert_fine i c s h =
    let nodes_few : length (preorder h.proof) ≤ 20001 = rw h.nodes.whole h.nodes.few in
    let tree : Each IsFineLine (tree_lines i c.nodes) =
    rw (← h.nodes.whole) (tree_fine i (base_cuts i) h.proof s (omega (arith, few_base_cuts i s, nodes_few)) h.nodes.each) in
    lines_fine (cert_lines i c) (
      header_fine i.groups,
      (
        amounts_fine (codes "cost") c.cost refl h.cost,
        (
          amounts_fine (codes "bound") c.bound refl h.bound,
          Each-append IsFineLine (map (shift_line i) c.shifts) (tree_lines i c.nodes ++ end_words ∷ []) (each_of IsFineLine (shift_line i) c.shifts (IsSoundShift i) (λ x q. shift_fine i x s q) h.shifts)
              (Each-append IsFineLine (tree_lines i c.nodes) (end_words ∷ []) tree (refl, tt)),
        ),
      ),
    )

-- the lines of a sound certificate tell its pieces
pub cert_read : (i : Instance) (c : Cert) → IsSoundInstance i → IsSoundCert i c → pieces_from i start no_place (numbered 1 (cert_lines i c)) ≡ cert_pieces c
cert_read i c s h =
    let few : length (preorder h.proof) ≤ 20001 = rw h.nodes.whole h.nodes.few in
    let zeros : Each NoneIsZero (preorder h.proof) = rw h.nodes.whole h.listed in
    lines_read i no_place h.proof c s (sym h.nodes.whole) few h.nodes.each zeros h.none h.few h.shifts h.cost h.bound

pub cert_again : (i : Instance) (c : Cert) → IsSoundInstance i → IsSoundCert i c → length (cert_text i c) ≤ 1073741824 → proof_of i (cert_text i c) ≡ Ok c
unfolding proof_of pieces_of pieces_left
cert_again i c s h short =
    let items : text_items (cert_text i c) ≡ numbered 1 (cert_lines i c) = written_again 1 (cert_lines i c) (cert_fine i c s h) in
    rw (le-ltb 1073741824 (length (cert_text i c)) short, items, cert_read i c s h) (collect_cert c)
