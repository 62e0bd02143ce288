-- What a line tells hangs on its number only where it is refused.
use Rattle.std.proofs.Common.{◌≡◌, ℕ, ℤ, ◌+◌, ◌^◌, Bool, ◌||◌, true, false, cond, ltb, List, [], ◌∷◌, Option, Some, None, Result, Ok, Err}
use Rattle.std.specs.Prelude.{codes, position}
use Rattle.std.specs.Str.{bytes_eq}
use Rattle.text_lines.specs.Fields as fields
use Rattle.text_lines.specs.Numbers.{natural_of, number_of}
use Rattle.text_lines.specs.Steps.{◌>>=◌, each}
use Rattle.text_lines.specs.declared.number.NumberFault.{NumberFault}
use Rattle.text_lines.specs.declared.number.NumberFault.TheVariants.{Form, Wide}
use Rattle.text_lines.proofs.StepsLemmas.{ok, err, bind_ok}
use Rattle.model_rosters.specs.declared.instance.Group.{Group}
use Rattle.model_rosters.specs.declared.instance.Instance.{Instance}
use Rattle.model_rosters.specs.declared.instance.Mult.{Mult}
use Rattle.text_proof_pieces.specs.declared.fault.PieceFault.{PieceFault}
use Rattle.text_proof_pieces.specs.declared.fault.PieceFault.TheVariants.{UnknownLine, BadNumber, OutOfRange, TooManyNodes}
use Rattle.text_proof_pieces.specs.declared.node.NodeLine.{NodeLine}
use Rattle.text_proof_pieces.specs.declared.node.NodeLine.TheVariants.{Pinned, Bare}
use Rattle.text_proof_pieces.specs.Fields.{number_at, in_size, signed_at, amount_at, numbered_or, has_name, group_at}
use Rattle.text_proof_pieces.specs.NodeLines.{arc_at, own_at, if_room, split_of, split_at, priced_at, leaf_at, node_at}
use Rattle.text_proof_pieces.specs.PriceLines.{price_step, price_line, mult_of, mult_line, last_cut}
use Rattle.text_proof_pieces.specs.ShiftLines.{amount_line, team_at, letters_of, shift_of, shift_at}

-- what one answer gives, the other gives too
abbrev pub Agree : {E A : Type 0} → Result A E → Result A E → Type 0
Agree {E} {A} r q = (x : A) → r ≡ Ok x → q ≡ Ok x

pub agree_same : {E A : Type 0} (r : Result A E) → Agree r r
agree_same r x e = e

pub agree_fault : {E A : Type 0} (e : E) (q : Result A E) → Agree (err e) q
agree_fault e q x h = absurd cc

pub agree_bind : {E A B : Type 0} (r q : Result A E) (f g : A → Result B E) → Agree r q → ((x : A) → Agree (f x) (g x)) → Agree (r >>= f) (q >>= g)
agree_bind r q f g h k b e =
    let first = bind_ok r f b e in
    rw (h first.0 first.1) (k first.0 b first.2)

pub agree_test : {E A : Type 0} (t : Bool) (r q s p : Result A E) → Agree r q → Agree s p → Agree (cond t r s) (cond t q p)
agree_test true r q s p a b = a
agree_test false r q s p a b = b

module _ (k m : ℕ) where
  agree_number : (low high : ℕ) (w : List ℕ) → Agree (number_at k low high w) (number_at m low high w)
  unfolding fields.number_at
  agree_number low high w = by (natural_of w)
    where
      by : (r : Result ℕ NumberFault) → Agree (fields.in_range (BadNumber k) (OutOfRange k) low high r) (fields.in_range (BadNumber m) (OutOfRange m) low high r)
      by (Ok n) = agree_test (ltb n low || ltb high n) (err (OutOfRange k)) (err (OutOfRange m)) (ok n) (ok n) (agree_fault (OutOfRange k) (err (OutOfRange m))) (agree_same (ok n))
      by (Err Form) = agree_fault (BadNumber k) (err (BadNumber m))
      by (Err Wide) = agree_fault (OutOfRange k) (err (OutOfRange m))

  agree_signed : (w : List ℕ) → Agree (signed_at k w) (signed_at m w)
  unfolding signed_at
  agree_signed w = by (number_of w)
    where
      by : (r : Result ℤ NumberFault) → Agree (in_size k r) (in_size m r)
      by (Ok z) = agree_test _ (err (OutOfRange k)) (err (OutOfRange m)) (ok z) (ok z) (agree_fault (OutOfRange k) (err (OutOfRange m))) (agree_same (ok z))
      by (Err Form) = agree_fault (BadNumber k) (err (BadNumber m))
      by (Err Wide) = agree_fault (OutOfRange k) (err (OutOfRange m))

  agree_amount : (w : List ℕ) → Agree (amount_at k w) (amount_at m w)
  unfolding amount_at
  agree_amount w =
      agree_test (bytes_eq w (codes "none")) _ _ _ _ (agree_same (ok None))
      (agree_bind _ _ _ _ (agree_number 0 (2 ^ 40) w) (λ n. agree_same (ok (Some n))))

  agree_group : (names : List (List ℕ)) (groups : List Group) (w : List ℕ) → Agree (group_at k names groups w) (group_at m names groups w)
  unfolding group_at
  agree_group names groups w = by (position (has_name names w) groups)
    where
      by : (r : Option ℕ) → Agree (numbered_or k r) (numbered_or m r)
      by (Some place) = agree_same (ok (place + 1))
      by None = agree_fault (OutOfRange k) (err (OutOfRange m))

  pub agree_amounts : (first : List ℕ) (ws : List (List ℕ)) → Agree (amount_line k first ws) (amount_line m first ws)
  unfolding amount_line
  agree_amounts first [] = agree_fault (UnknownLine k) _
  agree_amounts first (v ∷ []) = agree_fault (UnknownLine k) _
  agree_amounts first (v ∷ w ∷ []) = agree_test (bytes_eq v first) _ _ _ _ (agree_amount w) (agree_fault (UnknownLine k) _)
  agree_amounts first (v ∷ w ∷ u ∷ ws) = agree_fault (UnknownLine k) _

  agree_arc : (groups : List Group) (r s b l p : List ℕ) → Agree (arc_at k groups r s b l p) (arc_at m groups r s b l p)
  unfolding arc_at
  agree_arc groups r s b l p =
      agree_bind _ _ _ _ (agree_number 1 _ r) (λ rule.
      agree_bind _ _ _ _ (agree_number 0 6 s) (λ suffix.
      agree_bind _ _ _ _ (agree_number 1 96 b) (λ start.
      agree_bind _ _ _ _ (agree_number 1 96 l) (λ len.
      agree_bind _ _ _ _ (agree_number 1 96 p) (λ part. agree_same _)))))

  agree_own : (d : Option (List ℕ)) → Agree (own_at k d) (own_at m d)
  agree_own None = agree_same (ok None)
  agree_own (Some w) = agree_bind _ _ _ _ (agree_number 1 (2 ^ 30) w) (λ d. agree_same (ok (Some d)))

  agree_room : (n : ℕ) (r q : Result NodeLine PieceFault) → Agree r q → Agree (if_room k n r) (if_room m n q)
  agree_room n r q h = agree_test _ (err (TooManyNodes k)) (err (TooManyNodes m)) r q (agree_fault (TooManyNodes k) (err (TooManyNodes m))) h

  agree_split : (groups : List Group) (r s b l p c : List ℕ) (d : Option (List ℕ)) → Agree (split_of k groups r s b l p c d) (split_of m groups r s b l p c d)
  unfolding split_of
  agree_split groups r s b l p c d =
      agree_bind _ _ _ _ (agree_arc groups r s b l p) (λ arc.
      agree_bind _ _ _ _ (agree_number 0 63 c) (λ count.
      agree_bind _ _ _ _ (agree_own d) (λ own. agree_same _)))

  agree_split_line : (groups : List Group) (n : ℕ) (ws : List (List ℕ)) → Agree (split_at k groups n ws) (split_at m groups n ws)
  unfolding split_at
  agree_split_line groups n (r ∷ s ∷ b ∷ l ∷ p ∷ c ∷ []) = agree_room n _ _ (agree_split groups r s b l p c None)
  agree_split_line groups n (r ∷ s ∷ b ∷ l ∷ p ∷ c ∷ d ∷ []) = agree_room n _ _ (agree_split groups r s b l p c (Some d))
  agree_split_line groups n (r ∷ s ∷ b ∷ l ∷ p ∷ c ∷ d ∷ e ∷ ws) = agree_fault (UnknownLine k) _
  agree_split_line groups n (r ∷ s ∷ b ∷ l ∷ p ∷ []) = agree_fault (UnknownLine k) _
  agree_split_line groups n (r ∷ s ∷ b ∷ l ∷ []) = agree_fault (UnknownLine k) _
  agree_split_line groups n (r ∷ s ∷ b ∷ []) = agree_fault (UnknownLine k) _
  agree_split_line groups n (r ∷ s ∷ []) = agree_fault (UnknownLine k) _
  agree_split_line groups n (r ∷ []) = agree_fault (UnknownLine k) _
  agree_split_line groups n [] = agree_fault (UnknownLine k) _

  agree_priced : (n : ℕ) (ws : List (List ℕ)) → Agree (priced_at k n ws) (priced_at m n ws)
  unfolding priced_at
  agree_priced n [] = agree_fault (UnknownLine k) _
  agree_priced n (d ∷ []) = agree_room n _ _ (agree_bind _ _ _ _ (agree_number 1 (2 ^ 30) d) (λ x. agree_same _))
  agree_priced n (d ∷ e ∷ ws) = agree_fault (UnknownLine k) _

  agree_leaf : (n : ℕ) (leaf : NodeLine) (ws : List (List ℕ)) → Agree (leaf_at k n leaf ws) (leaf_at m n leaf ws)
  unfolding leaf_at
  agree_leaf n leaf [] = agree_room n _ _ (agree_same (ok leaf))
  agree_leaf n leaf (w ∷ ws) = agree_fault (UnknownLine k) _

  pub agree_node : (groups : List Group) (n : ℕ) (ws : List (List ℕ)) → Agree (node_at k groups n ws) (node_at m groups n ws)
  unfolding node_at
  agree_node groups n [] = agree_fault (UnknownLine k) _
  agree_node groups n (w ∷ ws) =
      agree_test (bytes_eq w (codes "split")) _ _ _ _ (agree_split_line groups n ws)
      (agree_test (bytes_eq w (codes "priced")) _ _ _ _ (agree_priced n ws)
      (agree_test (bytes_eq w (codes "pinned")) _ _ _ _ (agree_leaf n Pinned ws)
      (agree_test (bytes_eq w (codes "bare")) _ _ _ _ (agree_leaf n Bare ws) (agree_fault (UnknownLine k) _))))

  agree_price : (cs : List ℤ) (w : List ℕ) → Agree (price_step k cs w) (price_step m cs w)
  agree_price cs w = agree_bind _ _ _ _ (agree_signed w) (λ z. agree_same _)

  agree_prices : (cs : List ℤ) (ws : List (List ℕ)) → Agree (each (price_step k) cs ws) (each (price_step m) cs ws)
  agree_prices cs [] = agree_same (ok cs)
  agree_prices cs (w ∷ ws) = agree_bind _ _ _ _ (agree_price cs w) (λ ds. agree_prices ds ws)

  pub agree_price_line : (i : Instance) (cs : List ℤ) (ws : List (List ℕ)) → Agree (price_line k i cs ws) (price_line m i cs ws)
  unfolding price_line
  agree_price_line i cs [] = agree_fault (UnknownLine k) _
  agree_price_line i cs (w ∷ []) = agree_fault (UnknownLine k) _
  agree_price_line i cs (w ∷ c ∷ vs) = agree_test _ _ _ _ _ (agree_prices cs vs) (agree_fault (UnknownLine k) _)

  agree_mult : (cuts : ℕ) (ms : List Mult) (j v : List ℕ) → Agree (mult_of k cuts ms j v) (mult_of m cuts ms j v)
  unfolding mult_of
  agree_mult cuts ms j v = agree_bind _ _ _ _ (agree_number (last_cut ms + 1) cuts j) (λ cut. agree_bind _ _ _ _ (agree_number 1 (2 ^ 80) v) (λ value. agree_same _))

  pub agree_mult_line : (cuts : ℕ) (ms : List Mult) (ws : List (List ℕ)) → Agree (mult_line k cuts ms ws) (mult_line m cuts ms ws)
  unfolding mult_line
  agree_mult_line cuts ms [] = agree_fault (UnknownLine k) _
  agree_mult_line cuts ms (w ∷ []) = agree_fault (UnknownLine k) _
  agree_mult_line cuts ms (w ∷ j ∷ []) = agree_fault (UnknownLine k) _
  agree_mult_line cuts ms (w ∷ j ∷ v ∷ []) = agree_test _ _ _ _ _ (agree_fault (OutOfRange k) _) (agree_mult cuts ms j v)
  agree_mult_line cuts ms (w ∷ j ∷ v ∷ u ∷ ws) = agree_fault (UnknownLine k) _

  agree_team : (names : List (List ℕ)) (groups : List Group) (name : Option (List ℕ)) → Agree (team_at k names groups name) (team_at m names groups name)
  agree_team names groups None = agree_same (ok 0)
  agree_team names groups (Some w) = agree_group names groups w

  agree_letters : (group : ℕ) (word price : List ℕ) → Agree (letters_of k group word price) (letters_of m group word price)
  unfolding letters_of
  agree_letters group word price =
      agree_test _ _ _ _ _ (agree_fault (OutOfRange k) _)
      (agree_bind _ _ _ _ (agree_number 0 (2 ^ 40) price) (λ paid. agree_same _))

  agree_shift : (i : Instance) (name : Option (List ℕ)) (word price : List ℕ) → Agree (shift_of k i name word price) (shift_of m i name word price)
  unfolding shift_of
  agree_shift i name word price = agree_bind _ _ _ _ (agree_team i.grammar.names i.groups name) (λ group. agree_letters group word price)

  pub agree_shift_line : (i : Instance) (n : ℕ) (ws : List (List ℕ)) → Agree (shift_at k i n ws) (shift_at m i n ws)
  unfolding shift_at
  agree_shift_line i n [] = agree_fault (UnknownLine k) _
  agree_shift_line i n (v ∷ []) = agree_fault (UnknownLine k) _
  agree_shift_line i n (v ∷ word ∷ []) = agree_fault (UnknownLine k) _
  agree_shift_line i n (v ∷ word ∷ price ∷ []) = agree_test _ _ _ _ _ (agree_fault (OutOfRange k) _) (agree_shift i None word price)
  agree_shift_line i n (v ∷ name ∷ word ∷ price ∷ []) = agree_test _ _ _ _ _ (agree_fault (OutOfRange k) _) (agree_shift i (Some name) word price)
  agree_shift_line i n (v ∷ name ∷ word ∷ price ∷ u ∷ ws) = agree_fault (UnknownLine k) _
