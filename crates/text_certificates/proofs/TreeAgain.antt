-- The nodes of a tree that were written are read again.
use Rattle.std.proofs.Common.{◌≡◌, ℕ, ℤ, pos, zero, suc, ◌+◌, ◌*◌, ◌/◌, ◌<◌, ◌≤◌, ◌^◌, Bool, true, List, [], ◌∷◌, ◌++◌, length, map, take, drop, Some, None, Result, Ok, refl, sym, ap, ◌∙◌, arith, subst, append_assoc, append-nil, length-append, length-take, length-drop}
use Rattle.std.specs.Prelude.{codes, ◌≤ℤ◌}
use Rattle.std.proofs.lemmas.Bool.{lt-ltb, ne_eqb}
use Rattle.std.proofs.Math.Nat.{mul-div_cancel}
use Rattle.text_lines.specs.declared.line.BadByte.{BadByte}
use Rattle.text_lines.specs.Lines.{TextLine}
use Rattle.text_lines.specs.Written.{numbered}
use Rattle.text_lines.proofs.WordLemmas.{same_bytes}
use Rattle.model_rosters.specs.declared.instance.Cut.{Cut}
use Rattle.model_rosters.specs.declared.instance.Instance.{Instance}
use Rattle.model_rosters.specs.declared.instance.Mult.{Mult}
use Rattle.model_rosters.specs.declared.instance.Prices.{Prices}
use Rattle.model_rosters.specs.Folds.{Each}
use Rattle.model_rosters.specs.PriceLimits.{IsMult, AreRising, FitPrices, nonzero}
use Rattle.model_rosters.proofs.Mults.{nonzero-all}
use Rattle.model_rosters.specs.SoundInstance.{IsSoundInstance}
use Rattle.model_rosters.specs.Sums.{Within}
use Rattle.model_rosters.proofs.EachLemmas.{all_each}
use Rattle.check_certificates.specs.declared.cert.Node.{Node}
use Rattle.check_certificates.specs.declared.cert.Node.TheVariants as of
use Rattle.check_certificates.specs.Nodes.{Proof, split, priced, pinned, bare, preorder}
use Rattle.check_certificates.specs.Sound.{IsSoundNode, ListNoZero, NoneIsZero}
use Rattle.text_proof_pieces.specs.declared.node.NodeLine.{NodeLine}
use Rattle.text_proof_pieces.specs.declared.node.NodeLine.TheVariants.{Split, Priced}
use Rattle.text_proof_pieces.specs.Ahead.{NoMult}
use Rattle.text_proof_pieces.specs.Items.{Items}
use Rattle.text_proof_pieces.specs.PieceList.{Given, Place, wants, after_leaf, node_read, cut_count, node_of, block, nodes, pieces_from}
use Rattle.text_proof_pieces.specs.PriceLines.{due_byte, price_line, last_cut}
use Rattle.text_proof_pieces.specs.Told.{node}
use Rattle.text_certificates.specs.Written.{price_words, price_lines, mult_words, block_lines, node_lines, tree_lines}
use Rattle.text_proof_pieces.proofs.BlockKept.{last_is}
use Rattle.text_certificates.proofs.FieldsAgain.{HasLine, line_of_node, node_again, price_line_again, mult_line_again}
use Rattle.text_proof_pieces.proofs.PriceBlock.{price_read, mult_read, block_done, cells_whole}

-- nodes, told one after another, and what follows
abbrev pub nodes_then : List Node → Given → Given
nodes_then [] rest = rest
nodes_then (n ∷ ns) rest = Ok (node n) ∷ nodes_then ns rest

pub nodes_then-append : (xs ys : List Node) (rest : Given) → nodes_then (xs ++ ys) rest ≡ nodes_then xs (nodes_then ys rest)
nodes_then-append [] ys rest = refl
nodes_then-append (x ∷ xs) ys rest = ap (λ (g : Given). Ok (node x) ∷ g) (nodes_then-append xs ys rest)

-- the lines of two parts, and what follows
pub numbered-then : (k : ℕ) (ls ms : List (List (List ℕ))) (rest : Items) → numbered k (ls ++ ms) ++ rest ≡ numbered k ls ++ (numbered (k + length ls) ms ++ rest)
numbered-then k [] ms rest = ap (λ (n : ℕ). numbered n ms ++ rest) (omega arith)
numbered-then k (l ∷ ls) ms rest =
    let line : Result TextLine BadByte = Ok (record { number = k; words = l }) in
    ap (λ (is : Items). line ∷ is) (numbered-then (k + 1) ls ms rest ∙ ap (λ (n : ℕ). numbered (k + 1) ls ++ (numbered n ms ++ rest)) (omega arith))

pub each_take : {A : Type 0} (P : A → Type 0) (n : ℕ) (xs : List A) → Each P xs → Each P (take n xs) × Each P (drop n xs)
each_take P zero xs h = (tt, h)
each_take P (suc n) [] h = (tt, tt)
each_take P (suc n) (x ∷ xs) h = let r = each_take P n xs h.1 in ((h.0, r.0), r.1)

take_then_drop : {A : Type 0} (n : ℕ) (xs : List A) → take n xs ++ drop n xs ≡ xs
take_then_drop zero xs = refl
take_then_drop (suc n) [] = refl
take_then_drop {A} (suc n) (x ∷ xs) = ap (λ (ys : List A). x ∷ ys) (take_then_drop n xs)

no_prices : (ps : List ℤ) → length ps ≡ 0 → ps ≡ []
no_prices [] e = refl
no_prices (p ∷ ps) e = absurd (omega (arith, e))

module _ (i : Instance) (h : NodeLine) (p : Place) where
  prices_read : (k place m : ℕ) (cs ps : List ℤ) (rest : Items) → place ≡ length cs → length ps ≡ m * i.grammar.periods → length cs + length ps ≡ length i.cells → 1 ≤ i.grammar.periods → Each (Within (2 ^ 80)) ps
      → pieces_from i (block h cs []) p (numbered k (price_lines i place m ps) ++ rest) ≡ pieces_from i (block h (cs ++ ps) []) p rest
  prices_read k place zero cs ps rest at e all some w =
      let none : ps ≡ [] = no_prices ps (omega (arith, e)) in
      ap (λ (ds : List ℤ). pieces_from i (block h ds []) p rest) (sym (append-nil cs) ∙ ap (λ (qs : List ℤ). cs ++ qs) (sym none))
  prices_read k place (suc m) cs ps rest at e all some w =
      let n : ℕ = i.grammar.periods in
      let enough : n ≤ length ps = omega (arith, e) in
      let first : List ℤ = take n ps in
      let others : List ℤ = drop n ps in
      let long : length first ≡ n = omega (arith, length-take n ps) in
      let parts = each_take (Within (2 ^ 80)) n ps w in
      let line : TextLine = record { number = k; words = price_words (due_byte i place) first } in
      let items : Items = numbered (k + 1) (price_lines i (place + n) m others) ++ rest in
      let lt : length cs < length i.cells = omega (arith, all, enough, some) in
      let said : price_line k i cs (price_words (due_byte i place) first) ≡ Ok (cs ++ first) = rw at (price_line_again k i cs first long parts.0) in
      let next = prices_read (k + 1) (place + n) m (cs ++ first) others rest (omega (arith, at, length-append cs first, long)) (omega (arith, length-drop n ps, e))
      (omega (arith, length-append cs first, long, length-drop n ps, all, enough)) some parts.1 in
      price_read i h p cs (cs ++ first) [] line (Ok line ∷ items) items lt refl said ∙ next
      ∙ ap (λ (ds : List ℤ). pieces_from i (block h ds []) p rest) (append_assoc cs first others ∙ ap (λ (qs : List ℤ). cs ++ qs) (take_then_drop n ps))

  mults_read : (k : ℕ) (cs : List ℤ) (ms ns : List Mult) (rest : Items) → length cs ≡ length i.cells → cut_count i p < 2 ^ 127 → length ms + length ns ≤ 1500 → Each (IsMult (cut_count i p)) ns
      → Each (λ (m : Mult). pos 1 ≤ℤ m.value) ns → AreRising ns → Each (λ (m : Mult). last_cut ms < m.cut) ns
      → pieces_from i (block h cs ms) p (numbered k (map mult_words ns) ++ rest) ≡ pieces_from i (block h cs (ms ++ ns)) p rest
  mults_read k cs ms [] rest all small few are some rising more = ap (λ (ds : List Mult). pieces_from i (block h cs ds) p rest) (sym (append-nil ms))
  mults_read k cs ms (m ∷ ns) rest all small few are some rising more =
      let line : TextLine = record { number = k; words = mult_words m } in
      let items : Items = numbered (k + 1) (map mult_words ns) ++ rest in
      let is : IsMult (cut_count i p) m = are.0 in
      let room : length ms < 1500 = omega (arith, few) in
      let said = mult_line_again k (cut_count i p) ms m room more.0 is.last small some.0 is.most in
      let above : Each (λ (n : Mult). last_cut (ms ++ m ∷ []) < n.cut) ns = rw (last_is ms m) rising.0 in
      mult_read i h p cs ms (ms ++ m ∷ []) line (Ok line ∷ items) items all refl (same_bytes (codes "mult")) said
      ∙ mults_read (k + 1) cs (ms ++ m ∷ []) ns rest all small (omega (arith, length-append ms (m ∷ []), few)) are.1 some.1 rising.1 above
      ∙ ap (λ (ds : List Mult). pieces_from i (block h cs ds) p rest) (append_assoc ms (m ∷ []) ns)

  above_none : (ns : List Mult) → Each (IsMult (cut_count i p)) ns → Each (λ (m : Mult). last_cut [] < m.cut) ns
  above_none [] are = tt
  above_none (m ∷ ns) are = (omega (arith, are.0.first), above_none ns are.1)

  -- a whole price block
  block_read : (cuts : List Cut) (k : ℕ) (pr : Prices) (rest : Items) → IsSoundInstance i → length cuts ≡ cut_count i p → cut_count i p < 2 ^ 127 → FitPrices i pr.d pr.cell pr.mult cuts
      → ListNoZero pr → NoMult rest
      → pieces_from i (block h [] []) p (numbered k (block_lines i pr) ++ rest) ≡ Ok (node (node_of h pr.cell pr.mult)) ∷ pieces_from i nodes (node_read h p) rest
  block_read cuts k pr rest s e small fit some other =
      let n : ℕ = i.grammar.periods in
      let w = cells_whole i s in
      let made : length pr.cell ≡ w.lines * n = fit.cells ∙ w.made in
      let least : 0 < n = omega (arith, s.grammar.some_period) in
      let lines : length pr.cell / n ≡ w.lines = ap (λ (m : ℕ). m / n) made ∙ mul-div_cancel w.lines least in
      let whole : length pr.cell ≡ length pr.cell / n * n = made ∙ ap (λ (m : ℕ). m * n) (sym lines) in
      let all : nonzero pr.mult ≡ length pr.mult = nonzero-all pr.mult some in
      let are : Each (IsMult (cut_count i p)) pr.mult = all_each (IsMult (cut_count i p)) pr.mult (rw e at fit.mults) in
      let ls : List (List (List ℕ)) = price_lines i 0 (length pr.cell / n) pr.cell in
      let behind : Items = numbered (k + length ls) (map mult_words pr.mult) ++ rest in
      ap (pieces_from i (block h [] []) p) (numbered-then k ls (map mult_words pr.mult) rest)
      ∙ prices_read k 0 (length pr.cell / n) [] pr.cell behind refl whole (omega (arith, fit.cells)) (omega arith) (all_each (Within (2 ^ 80)) pr.cell fit.each)
      ∙ mults_read (k + length ls) pr.cell [] pr.mult rest fit.cells small (omega (arith, all, fit.few)) are some fit.rising (above_none pr.mult are)
      ∙ block_done i h p pr.cell pr.mult rest fit.cells other

has_line : (i : Instance) (cuts : List Cut) (x : Node) → IsSoundNode i cuts x → HasLine i x
has_line i cuts (of.Split a b None) s = (s.0, s.1, tt)
has_line i cuts (of.Split a b (Some pr)) s = (s.0, s.1, (s.2.positive, s.2.small))
has_line i cuts (of.Priced pr) s = (s.positive, s.small)
has_line i cuts of.Pinned s = tt
has_line i cuts of.Bare s = tt

-- one node
pub node_told : (i : Instance) (cuts : List Cut) (p : Place) (k : ℕ) (x : Node) (rest : Items) → IsSoundInstance i → wants p ≡ true → p.nodes < 20001 → length cuts ≡ cut_count i p → cut_count i p < 2 ^ 127
    → IsSoundNode i cuts x → NoneIsZero x → NoMult rest
    → pieces_from i nodes p (numbered k (node_lines i x) ++ rest) ≡ Ok (node x) ∷ pieces_from i nodes (node_read (line_of_node x) p) rest
node_told i cuts p k (of.Split a b None) rest s w few e small is some other = rw (w, node_again k i p.nodes (of.Split a b None) few (has_line i cuts (of.Split a b None) is)) refl
node_told i cuts p k (of.Split a b (Some pr)) rest s w few e small is some other =
    let x : Node = of.Split a b (Some pr) in
    rw (w, node_again k i p.nodes x few (has_line i cuts x is)) (block_read i (Split a b (Some pr.d)) p cuts (k + 1) pr rest s e small is.2 some other)
node_told i cuts p k (of.Priced pr) rest s w few e small is some other =
    rw (w, node_again k i p.nodes (of.Priced pr) few (has_line i cuts (of.Priced pr) is)) (block_read i (Priced pr.d) p cuts (k + 1) pr rest s e small is some other)
node_told i cuts p k of.Pinned rest s w few e small is some other = rw (w, node_again k i p.nodes of.Pinned few tt) refl
node_told i cuts p k of.Bare rest s w few e small is some other = rw (w, node_again k i p.nodes of.Bare few tt) refl

pub tree_lines-append : (i : Instance) (xs ys : List Node) → tree_lines i (xs ++ ys) ≡ tree_lines i xs ++ tree_lines i ys
tree_lines-append i [] ys = refl
tree_lines-append i (x ∷ xs) ys =
    ap (λ (ls : List (List (List ℕ))). node_lines i x ++ ls) (tree_lines-append i xs ys) ∙ sym (append_assoc (node_lines i x) (tree_lines i xs) (tree_lines i ys))

-- a node's line is none of a multiplier
node_no_mult : (i : Instance) (k : ℕ) (x : Node) (rest : Items) → NoMult (numbered k (node_lines i x) ++ rest)
node_no_mult i k (of.Split a b None) rest = refl
node_no_mult i k (of.Split a b (Some pr)) rest = refl
node_no_mult i k (of.Priced pr) rest = refl
node_no_mult i k of.Pinned rest = refl
node_no_mult i k of.Bare rest = refl

nodes_no_mult : (i : Instance) (k : ℕ) (x : Node) (xs : List Node) (rest : Items) → NoMult (numbered k (tree_lines i (x ∷ xs)) ++ rest)
nodes_no_mult i k x xs rest = subst NoMult (sym (numbered-then k (node_lines i x) (tree_lines i xs) rest)) (node_no_mult i k x (numbered (k + length (node_lines i x)) (tree_lines i xs) ++ rest))

pub tree_no_mult : (i : Instance) (k : ℕ) (t : Proof) (rest : Items) → NoMult (numbered k (tree_lines i (preorder t)) ++ rest)
tree_no_mult i k (split a b own low high) rest = nodes_no_mult i k (of.Split a b own) (preorder low ++ preorder high) rest
tree_no_mult i k (priced pr) rest = nodes_no_mult i k (of.Priced pr) [] rest
tree_no_mult i k pinned rest = nodes_no_mult i k of.Pinned [] rest
tree_no_mult i k bare rest = nodes_no_mult i k of.Bare [] rest

pub wants_open : (n : ℕ) (b : Bool) (halves : List Bool) → wants (record { nodes = n + 1; halves = b ∷ halves }) ≡ true
wants_open n b halves = rw (ne_eqb (n + 1) 0 (λ e. omega (arith, e)), lt-ltb 0 (length (b ∷ halves)) (omega arith)) refl

-- how far the tree is read behind one more tree
abbrev pub tree_read : Place → List Node → Place
tree_read p ns = record { nodes = p.nodes + length ns; halves = after_leaf p.halves }
