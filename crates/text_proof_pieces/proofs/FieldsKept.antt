-- What fields that were read say.
use Rattle.std.proofs.Common.{◌≡◌, ℕ, ℤ, ◌+◌, ◌<◌, ◌≤◌, ◌^◌, Bool, true, false, cond, ltb, leb, eqb, List, [], ◌∷◌, length, Option, Some, None, Result, Ok, Err, refl, arith, subst}
use Rattle.std.specs.Prelude.{codes, position, unsigned_abs, IfSome}
use Rattle.std.specs.Str.{bytes_eq}
use Rattle.std.proofs.lemmas.Bool.{and_parts}
use Rattle.std.proofs.lemmas.List.Quantifiers.{position-Some}
use Rattle.text_lines.specs.declared.number.NumberFault.{NumberFault}
use Rattle.text_lines.specs.declared.number.NumberFault.TheVariants.{Form, Wide}
use Rattle.text_lines.specs.Numbers.{number_of}
use Rattle.model_rosters.specs.declared.grammar.ArcKey.{ArcKey}
use Rattle.model_rosters.specs.declared.instance.Group.{Group}
use Rattle.model_rosters.specs.declared.instance.Instance.{Instance}
use Rattle.model_rosters.specs.declared.instance.Shift.{Shift}
use Rattle.model_rosters.specs.Folds.{Each}
use Rattle.check_certificates.specs.Sound.{most_cost, most_rule, IsKey, IsGroupNumber, IsWordByte, IsSoundShift}
use Rattle.text_proof_pieces.specs.declared.fault.PieceFault.{PieceFault}
use Rattle.text_proof_pieces.specs.declared.fault.PieceFault.TheVariants.{UnknownLine}
use Rattle.text_lines.specs.Steps.{◌>>=◌}
use Rattle.text_proof_pieces.specs.declared.node.NodeLine.{NodeLine}
use Rattle.text_proof_pieces.specs.declared.node.NodeLine.TheVariants.{Split, Priced, Pinned, Bare}
use Rattle.text_lines.proofs.FieldsLemmas.{number_within}
use Rattle.text_proof_pieces.specs.Fields.{number_at, in_size, signed_at, amount_at, numbered_or, has_name, group_at}
use Rattle.text_proof_pieces.specs.NodeLines.{arc_at, own_at, if_room, split_of, split_at, priced_at, leaf_at, node_at}
use Rattle.text_proof_pieces.specs.ShiftLines.{shift_width, is_shift, letters_of, shift_of, shift_at, amount_line}
use Rattle.text_proof_pieces.proofs.FineItems.{AreFine}
use Rattle.text_lines.proofs.ListLemmas.{at_least, fewer}
use Rattle.text_lines.proofs.StepsLemmas.{ok, err, same_ok, bind_ok, passed, held}

-- ---- fields

pub signed_within : (k : ℕ) (w : List ℕ) (z : ℤ) → signed_at k w ≡ Ok z → unsigned_abs z ≤ 2 ^ 80
unfolding signed_at
signed_within k w z e = by (number_of w) e
  where
    by : (r : Result ℤ NumberFault) → in_size k r ≡ Ok z → unsigned_abs z ≤ 2 ^ 80
    by (Err Form) q = absurd cc
    by (Err Wide) q = absurd cc
    by (Ok y) q =
        let a = passed (ltb (2 ^ 80) (unsigned_abs y)) _ _ _ q in
        subst (λ (x : ℤ). unsigned_abs x ≤ 2 ^ 80) (same_ok y z a.1) (at_least (2 ^ 80) (unsigned_abs y) a.0)

pub amount_within : (k : ℕ) (w : List ℕ) (x : Option ℕ) → amount_at k w ≡ Ok x → IfSome x (λ n. n ≤ most_cost)
unfolding amount_at
amount_within k w x e = by (bytes_eq w (codes "none")) (number_at k 0 most_cost w) (λ n. number_within _ _ 0 most_cost n w) e
  where
    by : (t : Bool) (r : Result ℕ PieceFault) → ((n : ℕ) → r ≡ Ok n → (0 ≤ n) × (n ≤ most_cost)) → cond t (ok None) (r >>= λ n. Ok (Some n)) ≡ Ok x → IfSome x (λ n. n ≤ most_cost)
    by true r h q = subst (λ (o : Option ℕ). IfSome o (λ n. n ≤ most_cost)) (same_ok None x q) tt
    by false (Err d) h q = absurd cc
    by false (Ok n) h q = subst (λ (o : Option ℕ). IfSome o (λ m. m ≤ most_cost)) (same_ok (Some n) x q) ((h n refl).1)

pub amount_line_within : (k : ℕ) (first : List ℕ) (ws : List (List ℕ)) (x : Option ℕ) → amount_line k first ws ≡ Ok x → IfSome x (λ n. n ≤ most_cost)
unfolding amount_line
amount_line_within k first [] x e = absurd cc
amount_line_within k first (v ∷ []) x e = absurd cc
amount_line_within k first (v ∷ w ∷ []) x e = amount_within k w x ((held (bytes_eq v first) _ _ _ e).1)
amount_line_within k first (v ∷ w ∷ u ∷ ws) x e = absurd cc

-- ---- lines of nodes

abbrev pub IsDenominator : ℕ → Type 0
IsDenominator d = (1 ≤ d) × (d ≤ 2 ^ 30)

-- the numbers of a node's line are in their ranges
abbrev pub IsHead : Instance → NodeLine → Type 0
IsHead i (Split a b own) = IsKey i a × (b ≤ 63) × IfSome own IsDenominator
IsHead i (Priced d) = IsDenominator d
IsHead i Pinned = Unit {0}
IsHead i Bare = Unit {0}

arc_is : (k : ℕ) (i : Instance) (r s b l p : List ℕ) (a : ArcKey) → arc_at k i.groups r s b l p ≡ Ok a → IsKey i a
unfolding arc_at
arc_is k i r s b l p a e =
    let rule = bind_ok (number_at k 1 (most_rule i.groups) r) _ _ e in
    let suffix = bind_ok (number_at k 0 6 s) _ _ rule.2 in
    let start = bind_ok (number_at k 1 96 b) _ _ suffix.2 in
    let len = bind_ok (number_at k 1 96 l) _ _ start.2 in
    let part = bind_ok (number_at k 1 96 p) _ _ len.2 in
    let wr = number_within _ _ 1 (most_rule i.groups) rule.0 r rule.1 in
    let ws = number_within _ _ 0 6 suffix.0 s suffix.1 in
    let wb = number_within _ _ 1 96 start.0 b start.1 in
    let wl = number_within _ _ 1 96 len.0 l len.1 in
    let wp = number_within _ _ 1 96 part.0 p part.1 in
    let key : ArcKey = record { rule = rule.0; suffix = suffix.0; start = start.0; len = len.0; part = part.0 } in
    let is : IsKey i key = record {
      first_rule = wr.0;
      last_rule = wr.1;
      suffix = ws.1;
      first_start = wb.0;
      last_start = wb.1;
      least_len = wl.0;
      most_len = wl.1;
      least_part = wp.0;
      most_part = wp.1;
    } in
    subst (IsKey i) (same_ok key a part.2) is

own_is : (k : ℕ) (d : Option (List ℕ)) (own : Option ℕ) → own_at k d ≡ Ok own → IfSome own IsDenominator
own_is k None own e = subst (λ (o : Option ℕ). IfSome o IsDenominator) (same_ok None own e) tt
own_is k (Some w) own e =
    let d = bind_ok (number_at k 1 (2 ^ 30) w) _ _ e in
    subst (λ (o : Option ℕ). IfSome o IsDenominator) (same_ok (Some d.0) own d.2) (number_within _ _ 1 (2 ^ 30) d.0 w d.1)

-- there was room for a node, and its numbers are in their ranges
abbrev pub IsNext : Instance → ℕ → NodeLine → Type 0
IsNext i n h = (n < 20001) × IsHead i h

room_for : (k n : ℕ) (said : Result NodeLine PieceFault) (h : NodeLine) → if_room k n said ≡ Ok h → (n < 20001) × (said ≡ Ok h)
room_for k n said h e = let p = passed (leb 20001 n) _ said h e in (fewer n 20001 p.0, p.1)

split_of_is : (k : ℕ) (i : Instance) (r s b l p c : List ℕ) (d : Option (List ℕ)) (h : NodeLine) → split_of k i.groups r s b l p c d ≡ Ok h → IsHead i h
unfolding split_of
split_of_is k i r s b l p c d h e =
    let arc = bind_ok (arc_at k i.groups r s b l p) _ _ e in
    let count = bind_ok (number_at k 0 63 c) _ _ arc.2 in
    let own = bind_ok (own_at k d) _ _ count.2 in
    subst (IsHead i) (same_ok (Split arc.0 count.0 own.0) h own.2)
    (arc_is k i r s b l p arc.0 arc.1, (number_within _ _ 0 63 count.0 c count.1).1, own_is k d own.0 own.1)

split_is : (k : ℕ) (i : Instance) (n : ℕ) (ws : List (List ℕ)) (h : NodeLine) → split_at k i.groups n ws ≡ Ok h → IsNext i n h
unfolding split_at
split_is k i n (r ∷ s ∷ b ∷ l ∷ p ∷ c ∷ []) h e =
    let q = room_for k n (split_of k i.groups r s b l p c None) h e in (q.0, split_of_is k i r s b l p c None h q.1)
split_is k i n (r ∷ s ∷ b ∷ l ∷ p ∷ c ∷ d ∷ []) h e =
    let q = room_for k n (split_of k i.groups r s b l p c (Some d)) h e in (q.0, split_of_is k i r s b l p c (Some d) h q.1)
split_is k i n ws h e = absurd cc

priced_is : (k : ℕ) (i : Instance) (n : ℕ) (ws : List (List ℕ)) (h : NodeLine) → priced_at k n ws ≡ Ok h → IsNext i n h
unfolding priced_at
priced_is k i n [] h e = absurd cc
priced_is k i n (w ∷ []) h e =
    let q = room_for k n _ h e in
    let d = bind_ok (number_at k 1 (2 ^ 30) w) _ _ q.1 in
    (q.0, subst (IsHead i) (same_ok (Priced d.0) h d.2) (number_within _ _ 1 (2 ^ 30) d.0 w d.1))
priced_is k i n (w ∷ v ∷ ws) h e = absurd cc

leaf_is : (k : ℕ) (i : Instance) (n : ℕ) (leaf : NodeLine) (ws : List (List ℕ)) (h : NodeLine) → IsHead i leaf → leaf_at k n leaf ws ≡ Ok h → IsNext i n h
unfolding leaf_at
leaf_is k i n leaf [] h s e = let q = room_for k n (ok leaf) h e in (q.0, subst (IsHead i) (same_ok leaf h q.1) s)
leaf_is k i n leaf (w ∷ ws) h s e = absurd cc

pub node_is : (k : ℕ) (i : Instance) (n : ℕ) (ws : List (List ℕ)) (h : NodeLine) → node_at k i.groups n ws ≡ Ok h → IsNext i n h
unfolding node_at
node_is k i n [] h e = absurd cc
node_is k i n (w ∷ ws) h e = by (bytes_eq w (codes "split")) (bytes_eq w (codes "priced")) (bytes_eq w (codes "pinned")) (bytes_eq w (codes "bare")) e
  where
    by : (s p q b : Bool) → cond s (split_at k i.groups n ws) (cond p (priced_at k n ws) (cond q (leaf_at k n Pinned ws) (cond b (leaf_at k n Bare ws) (err (UnknownLine k))))) ≡ Ok h → IsNext i n h
    by true p q b g = split_is k i n ws h g
    by false true q b g = priced_is k i n ws h g
    by false false true b g = leaf_is k i n Pinned ws h tt g
    by false false false true g = leaf_is k i n Bare ws h tt g
    by false false false false g = absurd cc

-- ---- lines of shifts

group_is : (k : ℕ) (names : List (List ℕ)) (g : Group) (gs : List Group) (w : List ℕ) (n : ℕ) → group_at k names (g ∷ gs) w ≡ Ok n → IsGroupNumber (g ∷ gs) n
unfolding group_at
group_is k names g gs w n e = by (position (has_name names w) (g ∷ gs)) refl e
  where
    by : (o : Option ℕ) → position (has_name names w) (g ∷ gs) ≡ o → numbered_or k o ≡ Ok n → IsGroupNumber (g ∷ gs) n
    by None at q = absurd cc
    by (Some place) at q =
        let within = (position-Some (has_name names w) (g ∷ gs) place g at).0 in
        let same : place + 1 ≡ n = same_ok (place + 1) n q in
        (omega arith, omega arith)

-- the word of a shift has bytes of words, and with groups it is that of a group
letters_are : (i : Instance) (k group : ℕ) (word price : List ℕ) (s : Shift) → 1 ≤ length word → Each IsWordByte word → IsGroupNumber i.groups group → letters_of k group word price ≡ Ok s → IsSoundShift i s
unfolding letters_of
letters_are i k group word price s some fine number e =
    let p = passed (ltb 96 (length word)) _ _ _ e in
    let paid = bind_ok (number_at k 0 most_cost price) _ _ p.1 in
    let made : Shift = record { group = group; word = word; price = paid.0 } in
    let is : IsSoundShift i made = record {
      some = some;
      short = at_least 96 (length word) p.0;
      bytes = fine;
      group = number;
      price = (number_within _ _ 0 most_cost paid.0 price paid.1).1;
    } in
    subst (IsSoundShift i) (same_ok made s paid.2) is

-- without groups none is named
no_group : (gs : List Group) → eqb 2 (shift_width gs) ≡ true → IsGroupNumber gs 0
no_group [] e = refl
no_group (g ∷ gs) e = absurd cc

-- with groups one is named
some_group : (gs : List Group) (k : ℕ) (names : List (List ℕ)) (w : List ℕ) (n : ℕ) → eqb 3 (shift_width gs) ≡ true → group_at k names gs w ≡ Ok n → IsGroupNumber gs n
some_group [] k names w n e h = absurd cc
some_group (g ∷ gs) k names w n e h = group_is k names g gs w n h

pub shift_is : (k : ℕ) (i : Instance) (n : ℕ) (ws : List (List ℕ)) (s : Shift) → AreFine ws → is_shift i.groups ws ≡ true → shift_at k i n ws ≡ Ok s → (n < 64) × IsSoundShift i s
unfolding is_shift shift_at shift_of
shift_is k i n [] s fine form e = absurd cc
shift_is k i n (v ∷ []) s fine form e = absurd cc
shift_is k i n (v ∷ w ∷ []) s fine form e = absurd cc
shift_is k i n (v ∷ word ∷ price ∷ []) s fine form e =
    let p = passed (leb 64 n) _ _ _ e in
    let width : eqb 2 (shift_width i.groups) ≡ true = (and_parts _ _ form).1 in
    (fewer n 64 p.0, letters_are i k 0 word price s fine.1.0.some fine.1.0.bytes (no_group i.groups width) p.1)
shift_is k i n (v ∷ name ∷ word ∷ price ∷ []) s fine form e =
    let p = passed (leb 64 n) _ _ _ e in
    let width : eqb 3 (shift_width i.groups) ≡ true = (and_parts _ _ form).1 in
    let group = bind_ok (group_at k i.grammar.names i.groups name) _ _ p.1 in
    let number = some_group i.groups k i.grammar.names name group.0 width group.1 in
    (fewer n 64 p.0, letters_are i k group.0 word price s fine.1.1.0.some fine.1.1.0.bytes number group.2)
shift_is k i n (v ∷ name ∷ word ∷ price ∷ x ∷ ws) s fine form e = absurd cc
