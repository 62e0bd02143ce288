-- What was read of a line is spelled by the line's words.
use Rattle.std.proofs.Common.{◌≡◌, ℕ, ℤ, pos, negsuc, zero, suc, ◌+◌, ◌-◌, ◌^◌, Bool, true, false, cond, ltb, leb, eqb, ◌&&◌, ◌||◌, List, [], ◌∷◌, ◌++◌, length, get_or, map, drop, Option, Some, None, Result, Ok, Err, refl, sym, ap, ◌∙◌, arith, append_assoc, append-nil}
use Rattle.std.specs.Prelude.{codes, position, slice_get, slice_index, unsigned_abs}
use Rattle.std.specs.Fmt.{decimal}
use Rattle.std.specs.Str.{bytes_eq}
use Rattle.std.proofs.lemmas.Bool.{and_parts, ne_eqb}
use Rattle.std.proofs.lemmas.List.{length-map}
use Rattle.std.proofs.lemmas.List.Quantifiers.{position-Some}
use Rattle.std.proofs.lemmas.Option.{slice_get-get_or, get_or_from_slice_get}
use Rattle.std.proofs.lemmas.Slice.Eq.{bytes_eq-Decides}
use Rattle.text_lines.specs.declared.number.NumberFault.{NumberFault}
use Rattle.text_lines.specs.declared.number.NumberFault.TheVariants.{Form, Wide}
use Rattle.text_lines.specs.Fields as fields
use Rattle.text_lines.specs.Numbers.{natural_of, number_of, number_text, negated, as_signed}
use Rattle.text_lines.specs.Steps.{◌>>=◌, each}
use Rattle.text_lines.proofs.StepsLemmas.{ok, err, same_ok, bind_ok, passed, held}
use Rattle.text_lines.proofs.ListLemmas.{same_number}
use Rattle.model_rosters.specs.declared.grammar.ArcKey.{ArcKey}
use Rattle.model_rosters.specs.declared.instance.Group.{Group}
use Rattle.model_rosters.specs.declared.instance.Instance.{Instance}
use Rattle.model_rosters.specs.declared.instance.Mult.{Mult}
use Rattle.model_rosters.specs.declared.instance.Shift.{Shift}
use Rattle.check_certificates.specs.Sound.{most_cost, most_rule}
use Rattle.text_proof_pieces.specs.declared.fault.PieceFault.{PieceFault}
use Rattle.text_proof_pieces.specs.declared.fault.PieceFault.TheVariants.{UnknownLine, BadNumber, OutOfRange}
use Rattle.text_proof_pieces.specs.declared.node.NodeLine.{NodeLine}
use Rattle.text_proof_pieces.specs.declared.node.NodeLine.TheVariants.{Split, Priced, Pinned, Bare}
use Rattle.text_proof_pieces.specs.Fields.{number_at, in_size, signed_at, amount_at, numbered_or, is_named, has_name, group_at}
use Rattle.text_proof_pieces.specs.NodeLines.{arc_at, own_at, if_room, split_of, split_at, priced_at, leaf_at, node_at}
use Rattle.text_proof_pieces.specs.PieceList.{is_end, node_of}
use Rattle.text_proof_pieces.specs.PriceLines.{due_byte, price_step, price_line, is_mult, last_cut, mult_of, mult_line}
use Rattle.text_proof_pieces.specs.ShiftLines.{version, is_pair, is_header, amount_line, shift_width, is_shift, letters_of, shift_of, shift_at}
use Rattle.text_certificates.specs.Written.{header_words, amount_word, amount_words, name_word, shift_words, shift_line, head_words, price_words, mult_words, end_words}
use Rattle.text_certificates.proofs.NumberWords.{natural_is}

same_word : (v w : List ℕ) → bytes_eq v w ≡ true → v ≡ w
same_word v w t = (bytes_eq-Decides v w).0 t

-- ---- fields

number_said : (k low high n : ℕ) (w : List ℕ) → number_at k low high w ≡ Ok n → w ≡ decimal n
unfolding fields.number_at
number_said k low high n w e = by (natural_of w) refl e
  where
    by : (r : Result ℕ NumberFault) → natural_of w ≡ r → fields.in_range (BadNumber k) (OutOfRange k) low high r ≡ Ok n → w ≡ decimal n
    by (Err Form) at q = absurd cc
    by (Err Wide) at q = absurd cc
    by (Ok m) at q =
        let a = passed (ltb m low || ltb high m) _ _ _ q in
        let same : m ≡ n = same_ok {E = PieceFault} m n a.1 in
        sym (natural_is w m at) ∙ ap decimal same

-- a word that begins with a sign
signed_word : (w : List ℕ) → eqb (slice_index w 0) 45 ≡ true → w ≡ 45 ∷ drop 1 w
signed_word [] e = absurd cc
signed_word (b ∷ bs) e = ap (λ (c : ℕ). c ∷ bs) (same_number b 45 e)

number_text_said : (w : List ℕ) (z : ℤ) → number_of w ≡ Ok z → w ≡ number_text z
unfolding number_of
number_text_said w z e = by (eqb (slice_index w 0) 45) refl e
  where
    below : (r : Result ℕ NumberFault) → natural_of (drop 1 w) ≡ r → negated r ≡ Ok z → eqb (slice_index w 0) 45 ≡ true → w ≡ number_text z
    below (Err d) at q s = absurd cc
    below (Ok zero) at q s = absurd cc
    below (Ok (suc n)) at q s =
        let some : eqb (suc n) 0 ≡ false = ne_eqb (suc n) 0 (λ e. omega (arith, e)) in
        let same : negsuc n ≡ z = same_ok {E = NumberFault} (negsuc n) z (rw some at q) in
        signed_word w s ∙ ap (λ (v : List ℕ). 45 ∷ v) (sym (natural_is (drop 1 w) (suc n) at)) ∙ ap number_text same

    plain : (r : Result ℕ NumberFault) → natural_of w ≡ r → as_signed r ≡ Ok z → w ≡ number_text z
    plain (Err d) at q = absurd cc
    plain (Ok n) at q =
        let same : pos n ≡ z = same_ok {E = NumberFault} (pos n) z q in
        sym (natural_is w n at) ∙ ap number_text same

    by : (t : Bool) → eqb (slice_index w 0) 45 ≡ t → cond t (negated (natural_of (drop 1 w))) (as_signed (natural_of w)) ≡ Ok z → w ≡ number_text z
    by true s q = below (natural_of (drop 1 w)) refl q s
    by false s q = plain (natural_of w) refl q

signed_said : (k : ℕ) (w : List ℕ) (z : ℤ) → signed_at k w ≡ Ok z → w ≡ number_text z
unfolding signed_at
signed_said k w z e = by (number_of w) refl e
  where
    by : (r : Result ℤ NumberFault) → number_of w ≡ r → in_size k r ≡ Ok z → w ≡ number_text z
    by (Err Form) at q = absurd cc
    by (Err Wide) at q = absurd cc
    by (Ok y) at q =
        let a = passed (ltb (2 ^ 80) (unsigned_abs y)) _ _ _ q in
        number_text_said w y at ∙ ap number_text (same_ok {E = PieceFault} y z a.1)

amount_said : (k : ℕ) (w : List ℕ) (x : Option ℕ) → amount_at k w ≡ Ok x → w ≡ amount_word x
unfolding amount_at
amount_said k w x e = by (bytes_eq w (codes "none")) refl (number_at k 0 most_cost w) refl e
  where
    by : (t : Bool) → bytes_eq w (codes "none") ≡ t → (r : Result ℕ PieceFault) → number_at k 0 most_cost w ≡ r → cond t (ok None) (r >>= λ n. Ok (Some n)) ≡ Ok x → w ≡ amount_word x
    by true s r at q = same_word w (codes "none") s ∙ ap amount_word (same_ok {E = PieceFault} None x q)
    by false s (Err d) at q = absurd cc
    by false s (Ok n) at q = number_said k 0 most_cost n w at ∙ ap amount_word (same_ok {E = PieceFault} (Some n) x q)

pub amounts_said : (k : ℕ) (first : List ℕ) (ws : List (List ℕ)) (x : Option ℕ) → amount_line k first ws ≡ Ok x → ws ≡ amount_words first x
unfolding amount_line
amounts_said k first [] x e = absurd cc
amounts_said k first (v ∷ []) x e = absurd cc
amounts_said k first (v ∷ w ∷ []) x e =
    let h = held (bytes_eq v first) _ _ _ e in
    rw (same_word v first h.0, amount_said k w x h.1) refl
amounts_said k first (v ∷ w ∷ u ∷ ws) x e = absurd cc

pair_said : (first second : List ℕ) (ws : List (List ℕ)) → is_pair first second ws ≡ true → ws ≡ first ∷ second ∷ []
pair_said first second [] e = absurd cc
pair_said first second (v ∷ []) e = absurd cc
pair_said first second (v ∷ w ∷ []) e =
    let p = and_parts (bytes_eq v first) (bytes_eq w second) e in
    rw (same_word v first p.0, same_word w second p.1) refl
pair_said first second (v ∷ w ∷ u ∷ ws) e = absurd cc

pub header_said : (groups : List Group) (ws : List (List ℕ)) → is_header groups ws ≡ true → ws ≡ header_words groups
header_said groups ws e = pair_said (codes "proof") (version groups) ws e

pub end_said : (ws : List (List ℕ)) → is_end ws ≡ true → ws ≡ end_words
end_said [] e = absurd cc
end_said (w ∷ []) e = ap (λ (v : List ℕ). v ∷ []) (same_word w (codes "end") e)
end_said (w ∷ v ∷ ws) e = absurd cc

-- ---- lines of shifts

group_said : (k : ℕ) (names : List (List ℕ)) (g : Group) (gs : List Group) (w : List ℕ) (n : ℕ) → group_at k names (g ∷ gs) w ≡ Ok n → w ≡ name_word names (slice_get (g ∷ gs) (n - 1))
unfolding group_at
group_said k names g gs w n e = by (position (has_name names w) (g ∷ gs)) refl e
  where
    named : (x : Group) (o : Option (List ℕ)) → slice_get names x.name ≡ o → is_named w o ≡ true → w ≡ name_word names (Some x)
    named x None at t = absurd cc
    named x (Some name) at t = sym (same_word name w t) ∙ sym (get_or_from_slice_get names x.name name [] at)

    by : (o : Option ℕ) → position (has_name names w) (g ∷ gs) ≡ o → numbered_or k o ≡ Ok n → w ≡ name_word names (slice_get (g ∷ gs) (n - 1))
    by None at q = absurd cc
    by (Some place) at q =
        let found = position-Some (has_name names w) (g ∷ gs) place g at in
        let one : Group = get_or (g ∷ gs) place g in
        let same : place + 1 ≡ n = same_ok {E = PieceFault} (place + 1) n q in
        let back : n - 1 ≡ place = omega (arith, same) in
        let there : slice_get (g ∷ gs) place ≡ Some one = slice_get-get_or (g ∷ gs) place g found.0 in
        named one (slice_get names one.name) refl found.1 ∙ ap (name_word names) (sym there) ∙ ap (λ (m : ℕ). name_word names (slice_get (g ∷ gs) m)) (sym back)

group_of : (k : ℕ) (names : List (List ℕ)) (groups : List Group) (g : Group) (gs : List Group) (w : List ℕ) (n : ℕ) → groups ≡ g ∷ gs → group_at k names groups w ≡ Ok n
    → w ≡ name_word names (slice_get (g ∷ gs) (n - 1))
group_of k names groups g gs w n at e = group_said k names g gs w n (rw at at e)

letters_said : (k group : ℕ) (word price : List ℕ) (s : Shift) → letters_of k group word price ≡ Ok s → (s.group ≡ group) × (s.word ≡ word) × (price ≡ decimal s.price)
unfolding letters_of
letters_said k group word price s e =
    let p = passed (ltb 96 (length word)) _ _ _ e in
    let paid = bind_ok (number_at k 0 most_cost price) _ _ p.1 in
    let made : Shift = record { group = group; word = word; price = paid.0 } in
    let same : made ≡ s = same_ok {E = PieceFault} made s paid.2 in
    (ap (λ (x : Shift). x.group) (sym same), ap (λ (x : Shift). x.word) (sym same), number_said k 0 most_cost paid.0 price paid.1 ∙ ap (λ (x : Shift). decimal x.price) same)

-- with groups a shift line has a word more
three_words : (groups : List Group) (g : Group) (gs : List Group) → groups ≡ g ∷ gs → eqb 2 (shift_width groups) ≡ true → ⊥
three_words [] g gs at e = cc
three_words (x ∷ xs) g gs at e = cc

two_words : (groups : List Group) → groups ≡ [] → eqb 3 (shift_width groups) ≡ true → ⊥
two_words [] at e = cc
two_words (x ∷ xs) at e = cc

pub shift_said : (k : ℕ) (i : Instance) (n : ℕ) (ws : List (List ℕ)) (s : Shift) → is_shift i.groups ws ≡ true → shift_at k i n ws ≡ Ok s → ws ≡ shift_line i s
unfolding shift_of is_shift shift_at
shift_said k i n ws s form e = by i.groups refl ws form e
  where
    plain : (v word price : List ℕ) → bytes_eq v (codes "shift") ≡ true → shift_of k i None word price ≡ Ok s → v ∷ word ∷ price ∷ [] ≡ shift_words i [] s
    plain v word price t q =
        let l = letters_said k 0 word price s q in
        rw (same_word v (codes "shift") t, sym l.1, l.2) refl

    named : (g : Group) (gs : List Group) → i.groups ≡ g ∷ gs → (v name word price : List ℕ) → bytes_eq v (codes "shift") ≡ true → shift_of k i (Some name) word price ≡ Ok s
        → v ∷ name ∷ word ∷ price ∷ [] ≡ shift_words i (g ∷ gs) s
    named g gs at v name word price t q =
        let group = bind_ok (group_at k i.grammar.names i.groups name) _ _ q in
        let l = letters_said k group.0 word price s group.2 in
        let said : name ≡ name_word i.grammar.names (slice_get (g ∷ gs) (s.group - 1)) =
        group_of k i.grammar.names i.groups g gs name group.0 at group.1 ∙ ap (λ (m : ℕ). name_word i.grammar.names (slice_get (g ∷ gs) (m - 1))) (sym l.0) in
        rw (same_word v (codes "shift") t, said, sym l.1, l.2) refl

    by : (gs : List Group) → i.groups ≡ gs → (vs : List (List ℕ)) → is_shift i.groups vs ≡ true → shift_at k i n vs ≡ Ok s → vs ≡ shift_words i i.groups s
    by gs at [] f q = absurd cc
    by gs at (v ∷ []) f q = absurd cc
    by gs at (v ∷ w ∷ []) f q = absurd cc
    by [] at (v ∷ word ∷ price ∷ []) f q =
        let p = passed (leb 64 n) _ _ _ q in
        rw at (plain v word price (and_parts _ _ f).0 p.1)
    by (g ∷ gs) at (v ∷ word ∷ price ∷ []) f q =
        absurd (three_words i.groups g gs at ((and_parts _ _ f).1))
    by [] at (v ∷ name ∷ word ∷ price ∷ []) f q =
        absurd (two_words i.groups at ((and_parts _ _ f).1))
    by (g ∷ gs) at (v ∷ name ∷ word ∷ price ∷ []) f q =
        let p = passed (leb 64 n) _ _ _ q in
        rw at (named g gs at v name word price (and_parts _ _ f).0 p.1)
    by gs at (v ∷ name ∷ word ∷ price ∷ u ∷ ws) f q = absurd cc

-- ---- lines of nodes

abbrev own_number : Option ℕ → List (List ℕ)
own_number None = []
own_number (Some d) = decimal d ∷ []

-- the line of a node, whatever its prices
abbrev pub line_words : NodeLine → List (List ℕ)
line_words (Split a b own) = codes "split" ∷ decimal a.rule ∷ decimal a.suffix ∷ decimal a.start ∷ decimal a.len ∷ decimal a.part ∷ decimal b ∷ own_number own
line_words (Priced d) = codes "priced" ∷ decimal d ∷ []
line_words Pinned = codes "pinned" ∷ []
line_words Bare = codes "bare" ∷ []

pub head_said : (h : NodeLine) (cs : List ℤ) (ms : List Mult) → line_words h ≡ head_words (node_of h cs ms)
head_said (Split a b None) cs ms = refl
head_said (Split a b (Some d)) cs ms = refl
head_said (Priced d) cs ms = refl
head_said Pinned cs ms = refl
head_said Bare cs ms = refl

arc_said : (k : ℕ) (groups : List Group) (r s b l p : List ℕ) (a : ArcKey) → arc_at k groups r s b l p ≡ Ok a
    → (r ≡ decimal a.rule) × (s ≡ decimal a.suffix) × (b ≡ decimal a.start) × (l ≡ decimal a.len) × (p ≡ decimal a.part)
unfolding arc_at
arc_said k groups r s b l p a e =
    let rule = bind_ok (number_at k 1 (most_rule groups) r) _ _ e in
    let suffix = bind_ok (number_at k 0 6 s) _ _ rule.2 in
    let start = bind_ok (number_at k 1 96 b) _ _ suffix.2 in
    let len = bind_ok (number_at k 1 96 l) _ _ start.2 in
    let part = bind_ok (number_at k 1 96 p) _ _ len.2 in
    let key : ArcKey = record { rule = rule.0; suffix = suffix.0; start = start.0; len = len.0; part = part.0 } in
    let same : key ≡ a = same_ok {E = PieceFault} key a part.2 in (
      number_said k 1 (most_rule groups) rule.0 r rule.1 ∙ ap (λ (x : ArcKey). decimal x.rule) same,
      number_said k 0 6 suffix.0 s suffix.1 ∙ ap (λ (x : ArcKey). decimal x.suffix) same,
      number_said k 1 96 start.0 b start.1 ∙ ap (λ (x : ArcKey). decimal x.start) same,
      number_said k 1 96 len.0 l len.1 ∙ ap (λ (x : ArcKey). decimal x.len) same,
      number_said k 1 96 part.0 p part.1 ∙ ap (λ (x : ArcKey). decimal x.part) same,
    )

room_said : (k n : ℕ) (r : Result NodeLine PieceFault) (h : NodeLine) → if_room k n r ≡ Ok h → r ≡ Ok h
room_said k n r h e = (passed (leb 20001 n) _ r h e).1

same_split : (a : ArcKey) (n : ℕ) (own : Option ℕ) (w r s b l p c : List ℕ) (rest : List (List ℕ)) → w ≡ codes "split" → r ≡ decimal a.rule → s ≡ decimal a.suffix → b ≡ decimal a.start → l ≡ decimal a.len
    → p ≡ decimal a.part → c ≡ decimal n → rest ≡ own_number own → w ∷ r ∷ s ∷ b ∷ l ∷ p ∷ c ∷ rest ≡ line_words (Split a n own)
same_split a n own w r s b l p c rest e0 e1 e2 e3 e4 e5 e6 e7 = rw (e0, e1, e2, e3, e4, e5, e6, e7) refl

split_said : (k : ℕ) (groups : List Group) (w r s b l p c : List ℕ) (d : Option (List ℕ)) (rest : List (List ℕ)) (h : NodeLine) → w ≡ codes "split"
    → ((own : Option ℕ) → own_at k d ≡ Ok own → rest ≡ own_number own)
    → split_of k groups r s b l p c d ≡ Ok h → w ∷ r ∷ s ∷ b ∷ l ∷ p ∷ c ∷ rest ≡ line_words h
unfolding split_of
split_said k groups w r s b l p c d rest h first last e =
    let arc = bind_ok (arc_at k groups r s b l p) _ _ e in
    let count = bind_ok (number_at k 0 63 c) _ _ arc.2 in
    let own = bind_ok (own_at k d) _ _ count.2 in
    let a = arc_said k groups r s b l p arc.0 arc.1 in
    let made : NodeLine = Split arc.0 count.0 own.0 in
    let words : w ∷ r ∷ s ∷ b ∷ l ∷ p ∷ c ∷ rest ≡ line_words made = same_split arc.0 count.0 own.0 w r s b l p c rest first a.0 a.1 a.2 a.3 a.4 (number_said k 0 63 count.0 c count.1) (last own.0 own.1) in
    words ∙ ap line_words (same_ok {E = PieceFault} made h own.2)

pub node_said : (k : ℕ) (groups : List Group) (n : ℕ) (ws : List (List ℕ)) (h : NodeLine) → node_at k groups n ws ≡ Ok h → ws ≡ line_words h
unfolding node_at split_at priced_at leaf_at
node_said k groups n [] h e = absurd cc
node_said k groups n (w ∷ ws) h e = by (bytes_eq w (codes "split")) refl (bytes_eq w (codes "priced")) refl (bytes_eq w (codes "pinned")) refl (bytes_eq w (codes "bare")) refl e
  where
    no_own : (own : Option ℕ) → own_at k None ≡ Ok own → [] ≡ own_number own
    no_own own q = ap own_number (same_ok {E = PieceFault} None own q)

    one_own : (d : List ℕ) (own : Option ℕ) → own_at k (Some d) ≡ Ok own → d ∷ [] ≡ own_number own
    one_own d own q =
        let x = bind_ok (number_at k 1 (2 ^ 30) d) _ _ q in
        ap (λ (v : List ℕ). v ∷ []) (number_said k 1 (2 ^ 30) x.0 d x.1) ∙ ap own_number (same_ok {E = PieceFault} (Some x.0) own x.2)

    splits : (vs : List (List ℕ)) → bytes_eq w (codes "split") ≡ true → split_at k groups n vs ≡ Ok h → w ∷ vs ≡ line_words h
    splits (r ∷ s ∷ b ∷ l ∷ p ∷ c ∷ []) t q = split_said k groups w r s b l p c None [] h (same_word w (codes "split") t) no_own (room_said k n (split_of k groups r s b l p c None) h q)
    splits (r ∷ s ∷ b ∷ l ∷ p ∷ c ∷ d ∷ []) t q =
        split_said k groups w r s b l p c (Some d) (d ∷ []) h (same_word w (codes "split") t) (one_own d) (room_said k n (split_of k groups r s b l p c (Some d)) h q)
    splits vs t q = absurd cc

    prices : (vs : List (List ℕ)) → bytes_eq w (codes "priced") ≡ true → priced_at k n vs ≡ Ok h → w ∷ vs ≡ line_words h
    prices [] t q = absurd cc
    prices (d ∷ []) t q =
        let x = bind_ok (number_at k 1 (2 ^ 30) d) _ _ (room_said k n _ h q) in
        rw (same_word w (codes "priced") t) (ap (λ (v : List ℕ). codes "priced" ∷ v ∷ []) (number_said k 1 (2 ^ 30) x.0 d x.1)) ∙ ap line_words (same_ok {E = PieceFault} (Priced x.0) h x.2)
    prices (d ∷ u ∷ vs) t q = absurd cc

    leaf : (x : NodeLine) (vs : List (List ℕ)) → w ∷ [] ≡ line_words x → leaf_at k n x vs ≡ Ok h → w ∷ vs ≡ line_words h
    leaf x [] t q = t ∙ ap line_words (same_ok {E = PieceFault} x h (room_said k n (ok x) h q))
    leaf x (u ∷ vs) t q = absurd cc

    alone : (v : List ℕ) → bytes_eq w v ≡ true → w ∷ [] ≡ v ∷ []
    alone v t = ap (λ (u : List ℕ). u ∷ []) (same_word w v t)

    by : (s : Bool) → bytes_eq w (codes "split") ≡ s → (p : Bool) → bytes_eq w (codes "priced") ≡ p → (q : Bool) → bytes_eq w (codes "pinned") ≡ q → (b : Bool) → bytes_eq w (codes "bare") ≡ b
        → cond s (split_at k groups n ws) (cond p (priced_at k n ws) (cond q (leaf_at k n Pinned ws) (cond b (leaf_at k n Bare ws) (err (UnknownLine k))))) ≡ Ok h → w ∷ ws ≡ line_words h
    by true es p ep q eq b eb g = splits ws es g
    by false es true ep q eq b eb g = prices ws ep g
    by false es false ep true eq b eb g = leaf Pinned ws (alone (codes "pinned") eq) g
    by false es false ep false eq true eb g = leaf Bare ws (alone (codes "bare") eb) g
    by false es false ep false eq false eb g = absurd cc

-- ---- lines of prices and multipliers

-- more prices, and the words that say them
pub record MorePrices (cs ds : List ℤ) (vs : List (List ℕ)) : Type 0 where
  pub more : List ℤ
  pub made : ds ≡ cs ++ more
  pub words : vs ≡ map number_text more

prices_said : (k : ℕ) (cs ds : List ℤ) (vs : List (List ℕ)) → each (price_step k) cs vs ≡ Ok ds → MorePrices cs ds vs
prices_said k cs ds [] e = record { more = []; made = sym (same_ok {E = PieceFault} cs ds e) ∙ sym (append-nil cs); words = refl }
prices_said k cs ds (v ∷ vs) e =
    let first = bind_ok (price_step k cs v) (λ (es : List ℤ). each (price_step k) es vs) ds e in
    let z = bind_ok (signed_at k v) (λ (y : ℤ). ok (cs ++ y ∷ [])) first.0 first.1 in
    let one : cs ++ z.0 ∷ [] ≡ first.0 = same_ok {E = PieceFault} (cs ++ z.0 ∷ []) first.0 z.2 in
    let rest = prices_said k first.0 ds vs first.2 in
    record {
      more = z.0 ∷ rest.more;
      made = rest.made ∙ ap (λ (es : List ℤ). es ++ rest.more) (sym one) ∙ append_assoc cs (z.0 ∷ []) rest.more;
      words = rw (sym (signed_said k v z.0 z.1)) (ap (λ (us : List (List ℕ)). v ∷ us) rest.words);
    }

-- the line of prices behind these
pub record OneLine (i : Instance) (cs ds : List ℤ) (ws : List (List ℕ)) : Type 0 where
  pub more : List ℤ
  pub made : ds ≡ cs ++ more
  pub long : length more ≡ i.grammar.periods
  pub words : ws ≡ price_words (due_byte i (length cs)) more

length_words : (zs : List ℤ) → length (map number_text zs) ≡ length zs
length_words zs = length-map zs number_text

same_prices : (byte : ℕ) (zs : List ℤ) (w c : List ℕ) (vs : List (List ℕ)) → w ≡ codes "price" → c ≡ byte ∷ [] → vs ≡ map number_text zs → w ∷ c ∷ vs ≡ price_words byte zs
same_prices byte zs w c vs e0 e1 e2 = rw (e0, e1, e2) refl

pub price_said : (k : ℕ) (i : Instance) (cs ds : List ℤ) (ws : List (List ℕ)) → price_line k i cs ws ≡ Ok ds → OneLine i cs ds ws
unfolding price_line
price_said k i cs ds [] e = absurd cc
price_said k i cs ds (w ∷ []) e = absurd cc
price_said k i cs ds (w ∷ c ∷ vs) e =
    let p = held (bytes_eq w (codes "price") && bytes_eq c (due_byte i (length cs) ∷ []) && eqb (length vs) i.grammar.periods) _ _ _ e in
    let form = and_parts (bytes_eq w (codes "price") && bytes_eq c (due_byte i (length cs) ∷ [])) (eqb (length vs) i.grammar.periods) p.0 in
    let front = and_parts (bytes_eq w (codes "price")) (bytes_eq c (due_byte i (length cs) ∷ [])) form.0 in
    let said = prices_said k cs ds vs p.1 in
    let long : length said.more ≡ i.grammar.periods = sym (length_words said.more) ∙ ap (λ (us : List (List ℕ)). length us) (sym said.words) ∙ same_number (length vs) i.grammar.periods form.1 in
    record {
      more = said.more;
      made = said.made;
      long = long;
      words = same_prices (due_byte i (length cs)) said.more w c vs (same_word w (codes "price") front.0) (same_word c (due_byte i (length cs) ∷ []) front.1) said.words;
    }

-- one more multiplier, and the words that say it
pub record OneMult (ms ns : List Mult) (ws : List (List ℕ)) : Type 0 where
  pub last : Mult
  pub made : ns ≡ ms ++ last ∷ []
  pub words : ws ≡ mult_words last

same_mult : (m : Mult) (w j v : List ℕ) → w ≡ codes "mult" → j ≡ decimal m.cut → v ≡ number_text m.value → w ∷ j ∷ v ∷ [] ≡ mult_words m
same_mult m w j v e0 e1 e2 = rw (e0, e1, e2) refl

pub mult_said : (k cuts : ℕ) (ms ns : List Mult) (ws : List (List ℕ)) → is_mult ws ≡ true → mult_line k cuts ms ws ≡ Ok ns → OneMult ms ns ws
unfolding mult_line mult_of
mult_said k cuts ms ns [] f e = absurd cc
mult_said k cuts ms ns (w ∷ []) f e = absurd cc
mult_said k cuts ms ns (w ∷ j ∷ []) f e = absurd cc
mult_said k cuts ms ns (w ∷ j ∷ v ∷ []) f e =
    let p = passed (leb 1500 (length ms)) _ _ _ e in
    let cut = bind_ok (number_at k (last_cut ms + 1) cuts j) _ _ p.1 in
    let value = bind_ok (number_at k 1 (2 ^ 80) v) _ _ cut.2 in
    let m : Mult = record { cut = cut.0; value = pos value.0 } in
    record {
      last = m;
      made = sym (same_ok {E = PieceFault} (ms ++ m ∷ []) ns value.2);
      words = same_mult m w j v (same_word w (codes "mult") f) (number_said k (last_cut ms + 1) cuts cut.0 j cut.1) (number_said k 1 (2 ^ 80) value.0 v value.1);
    }
mult_said k cuts ms ns (w ∷ j ∷ v ∷ u ∷ ws) f e = absurd cc
