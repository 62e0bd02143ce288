-- Words with a space before each, and lines of them.
use Rattle.std.proofs.Common.{◌≡◌, ℕ, ℤ, zero, suc, ◌+◌, ◌*◌, ◌/◌, ◌<◌, ◌≤◌, List, [], ◌∷◌, ◌++◌, length, take, drop, get_or, refl, sym, ap, ◌∙◌, arith, append_assoc, append-nil, add-one, length-take, length-drop}
use Rattle.std.proofs.Math.Nat.{mul-div_cancel}
use Rattle.text_lines.proofs.WrittenLemmas.{written_append, line_then, lines_then}
use Rattle.text_lines.specs.Written.{written}
use Rattle.model_rosters.specs.declared.instance.Instance.{Instance}
use Rattle.model_rosters.specs.SoundInstance.{IsSoundInstance}
use Rattle.check_certificates.specs.declared.cert.Node.{Node}
use Rattle.text_proof_pieces.specs.PriceLines.{due_byte}
use Rattle.text_certificates.specs.Written.{node_lines, tree_lines, price_words, price_lines}
use Rattle.text_proof_pieces.proofs.PriceBlock.{cells_whole}

-- the lines of a longer tree
lines_more : (i : Instance) (ns : List Node) (k : ℕ) (d : Node) → k < length ns → written (tree_lines i (take (suc k) ns)) ≡ written (tree_lines i (take k ns)) ++ written (node_lines i (get_or ns k d))
lines_more i [] k d lt = absurd (omega (arith, lt))
lines_more i (n ∷ ns) zero d lt = ap written (append-nil (node_lines i n))
lines_more i (n ∷ ns) (suc k) d lt =
    written_append (node_lines i n) (tree_lines i (take (suc k) ns))
    ∙ ap (λ (t : List ℕ). written (node_lines i n) ++ t) (lines_more i ns k d (omega (arith, lt)))
    ∙ sym (append_assoc (written (node_lines i n)) (written (tree_lines i (take k ns))) (written (node_lines i (get_or ns k d))))
    ∙ ap (λ (t : List ℕ). t ++ written (node_lines i (get_or ns k d))) (sym (written_append (node_lines i n) (tree_lines i (take k ns))))

-- the lines of one more node
pub node_more : (i : Instance) (ns : List Node) (k : ℕ) (d : Node) (o0 o1 o2 : List ℕ) → k < length ns → o1 ≡ o0 ++ written (tree_lines i (take k ns))
    → o2 ≡ o1 ++ written (node_lines i (get_or ns k d)) → o2 ≡ o0 ++ written (tree_lines i (take (k + 1) ns))
node_more i ns k d o0 o1 o2 lt e h =
    rw (h, e, add-one k, lines_more i ns k d lt) (append_assoc o0 (written (tree_lines i (take k ns))) (written (node_lines i (get_or ns k d))))

-- the lines of prices that are still to be written
pub record PricesLeft (i : Instance) (place : ℕ) (rest : List ℤ) (out whole : List ℕ) : Type 0 where
  pub lines : ℕ
  pub long : length rest ≡ lines * i.grammar.periods
  pub text : out ++ written (price_lines i place lines rest) ≡ whole

pub prices_enough : (i : Instance) (place : ℕ) (rest : List ℤ) (out whole : List ℕ) → 1 ≤ length rest → PricesLeft i place rest out whole → i.grammar.periods ≤ length rest
prices_enough i place rest out whole some l = by l.lines l.long
  where
    by : (k : ℕ) → length rest ≡ k * i.grammar.periods → i.grammar.periods ≤ length rest
    by zero e = absurd (omega (arith, e))
    by (suc k) e = omega (arith, e)

-- the first line's prices
first_long : (i : Instance) (place : ℕ) (rest first : List ℤ) (out whole : List ℕ) → 1 ≤ length rest → first ≡ take i.grammar.periods rest → PricesLeft i place rest out whole → length first ≡ i.grammar.periods
first_long i place rest first out whole some f l = omega (arith, ap length f, length-take i.grammar.periods rest, prices_enough i place rest out whole some l)

pub prices_next : (i : Instance) (place byte : ℕ) (rest first others : List ℤ) (o1 o2 whole : List ℕ) → 1 ≤ length rest → first ≡ take i.grammar.periods rest → others ≡ drop i.grammar.periods rest
    → byte ≡ due_byte i place → o2 ≡ o1 ++ written (price_words byte first ∷ []) → PricesLeft i place rest o1 whole → PricesLeft i (place + length first) others o2 whole
prices_next i place byte rest first others o1 o2 whole some f b is w l = rw (first_long i place rest first o1 whole some f l) (by l.lines l.long l.text)
  where
    by : (k : ℕ) → length rest ≡ k * i.grammar.periods → o1 ++ written (price_lines i place k rest) ≡ whole → PricesLeft i (place + i.grammar.periods) others o2 whole
    by zero e t = absurd (omega (arith, e))
    by (suc k) e t =
        let line : List (List ℕ) = price_words (due_byte i place) (take i.grammar.periods rest) in
        let theirs : List (List (List ℕ)) = price_lines i (place + i.grammar.periods) k (drop i.grammar.periods rest) in
        let o2-is : o2 ≡ o1 ++ written (line ∷ []) = w ∙ ap (λ (x : ℕ). o1 ++ written (price_words x first ∷ [])) is ∙ ap (λ (ps : List ℤ). o1 ++ written (price_words (due_byte i place) ps ∷ [])) f in
        record {
          lines = k;
          long = omega (arith, ap length b, length-drop i.grammar.periods rest, e);
          text = rw b (ap (λ (o : List ℕ). o ++ written theirs) o2-is ∙ append_assoc o1 (written (line ∷ [])) (written theirs) ∙ ap (λ (o : List ℕ). o1 ++ o) (sym (written_append (line ∷ []) theirs)) ∙ t);
        }

-- the two parts have all prices that are left
pub prices_parted : (i : Instance) (place most : ℕ) (rest first others : List ℤ) → first ≡ take i.grammar.periods rest → others ≡ drop i.grammar.periods rest → place + length rest ≡ most → place + length first + length others ≡ most
prices_parted i place most rest first others f b e = omega (arith, ap length f, ap length b, length-take i.grammar.periods rest, length-drop i.grammar.periods rest, e)

pub prices_done : (i : Instance) (place : ℕ) (rest : List ℤ) (out whole : List ℕ) → length rest ≡ 0 → 1 ≤ i.grammar.periods → PricesLeft i place rest out whole → out ≡ whole
prices_done i place rest out whole none some l = by l.lines l.long l.text
  where
    by : (k : ℕ) → length rest ≡ k * i.grammar.periods → out ++ written (price_lines i place k rest) ≡ whole → out ≡ whole
    by zero e t = sym (append-nil out) ∙ t
    by (suc k) e t = absurd (omega (arith, e, none, some))

-- where there is a price for each cell, all lines are to be written
pub prices_left : (i : Instance) (ps : List ℤ) (o0 out : List ℕ) → IsSoundInstance i → length ps ≡ length i.cells → out ≡ o0
    → PricesLeft i 0 ps out (o0 ++ written (price_lines i 0 (length ps / i.grammar.periods) ps))
prices_left i ps o0 out s all e =
    let n : ℕ = i.grammar.periods in
    let w = cells_whole i s in
    let made : length ps ≡ w.lines * n = all ∙ w.made in
    let some : 0 < n = omega (arith, s.grammar.some_period) in
    let lines : length ps / n ≡ w.lines = ap (λ (m : ℕ). m / n) made ∙ mul-div_cancel w.lines some in
    record { lines = length ps / n; long = made ∙ ap (λ (k : ℕ). k * n) (sym lines); text = rw e refl }

-- the lines of a whole certificate
pub cert_joined : (o0 o1 o2 o3 o4 o5 o6 : List ℕ) (h a b e : List (List ℕ)) (ss ts : List (List (List ℕ))) → o0 ≡ [] → o1 ≡ o0 ++ written (h ∷ []) → o2 ≡ o1 ++ written (a ∷ []) → o3 ≡ o2 ++ written (b ∷ [])
    → o4 ≡ o3 ++ written ss → o5 ≡ o4 ++ written ts → o6 ≡ o5 ++ written (e ∷ []) → o6 ≡ written (h ∷ a ∷ b ∷ ss ++ (ts ++ e ∷ []))
cert_joined o0 o1 o2 o3 o4 o5 o6 h a b e ss ts none p q r s t u =
    let tree = lines_then o4 o5 o6 ts (e ∷ []) t u in
    let roster = lines_then o3 o4 o6 ss (ts ++ e ∷ []) s tree in
    let bound = line_then o2 o3 o6 b (ss ++ (ts ++ e ∷ [])) r roster in
    let cost = line_then o1 o2 o6 a (b ∷ ss ++ (ts ++ e ∷ [])) q bound in
    line_then o0 o1 o6 h (a ∷ b ∷ ss ++ (ts ++ e ∷ [])) p cost ∙ ap (λ (o : List ℕ). o ++ written (h ∷ a ∷ b ∷ ss ++ (ts ++ e ∷ []))) none
