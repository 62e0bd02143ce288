-- A certificate that was written is read again.
use Rattle.std.proofs.Common.{◌≡◌, ℕ, ◌+◌, ◌<◌, ◌≤◌, ◌^◌, Bool, true, false, List, [], ◌∷◌, ◌++◌, length, Ok, refl, sym, ap, ◌∙◌, arith, append-nil, length-append}
use Rattle.text_lines.specs.Written.{numbered}
use Rattle.model_rosters.specs.declared.instance.Cut.{Cut}
use Rattle.model_rosters.specs.declared.instance.Instance.{Instance}
use Rattle.model_rosters.specs.Cuts.{base_cuts}
use Rattle.model_rosters.specs.Folds.{Each}
use Rattle.model_rosters.specs.SoundInstance.{IsSoundInstance}
use Rattle.model_rosters.proofs.EachLemmas.{each_parts}
use Rattle.check_certificates.specs.declared.cert.Node.{Node}
use Rattle.check_certificates.specs.declared.cert.Node.TheVariants as of
use Rattle.check_certificates.specs.Nodes.{Proof, split, priced, pinned, bare, preorder, low_cut, high_cut, visits}
use Rattle.check_certificates.specs.Sound.{IsSoundVisit, NoneIsZero}
use Rattle.text_proof_pieces.specs.Ahead.{NoMult}
use Rattle.text_proof_pieces.specs.Items.{Items}
use Rattle.text_proof_pieces.specs.PieceList.{Given, Place, wants, after_leaf, node_read, cut_count, nodes, pieces_from}
use Rattle.text_proof_pieces.specs.Told.{node}
use Rattle.text_certificates.specs.Written.{node_lines, tree_lines}
use Rattle.text_certificates.proofs.FieldsAgain.{line_of_node}
use Rattle.text_certificates.proofs.TreeAgain.{nodes_then, nodes_then-append, numbered-then, node_told, tree_lines-append, tree_no_mult, wants_open, tree_read}

abbrev place : ℕ → List Bool → Place
place n halves = record { nodes = n; halves = halves }

-- the cuts of a sound tree at a place
abbrev pub IsSoundAt : Instance → Place → Proof → Type 0
IsSoundAt i p t = (cuts : List Cut) × (length cuts ≡ cut_count i p) × Each (IsSoundVisit i) (visits cuts t)

module _ (i : Instance) (s : IsSoundInstance i) (few_cuts : length (base_cuts i) ≤ 16) where
  -- a leaf is one node
  leaf_told : (cuts : List Cut) (p : Place) (k : ℕ) (x : Node) (rest : Items) → wants p ≡ true → p.nodes + 1 ≤ 20001 → length p.halves ≤ p.nodes → length cuts ≡ cut_count i p → Each (IsSoundVisit i) (record { path = cuts; node = x } ∷ [])
      → NoneIsZero x → NoMult rest → node_read (line_of_node x) p ≡ tree_read p (x ∷ [])
      → pieces_from i nodes p (numbered k (tree_lines i (x ∷ [])) ++ rest) ≡ nodes_then (x ∷ []) (pieces_from i nodes (tree_read p (x ∷ [])) rest)
  leaf_told cuts p k x rest w few depth e is some none to =
      let small : cut_count i p < 2 ^ 127 = omega (arith, few, depth, few_cuts) in
      ap (λ (ls : List (List (List ℕ))). pieces_from i nodes p (numbered k ls ++ rest)) (append-nil (node_lines i x))
      ∙ node_told i cuts p k x rest s w (omega (arith, few)) e small is.0 some none
      ∙ ap (λ (q : Place). Ok (node x) ∷ pieces_from i nodes q rest) to

  pub tree_told : (t : Proof) (p : Place) (k : ℕ) (rest : Items) → wants p ≡ true → p.nodes + length (preorder t) ≤ 20001 → length p.halves ≤ p.nodes → IsSoundAt i p t → Each NoneIsZero (preorder t) → NoMult rest
      → pieces_from i nodes p (numbered k (tree_lines i (preorder t)) ++ rest) ≡ nodes_then (preorder t) (pieces_from i nodes (tree_read p (preorder t)) rest)
  tree_told (priced pr) p k rest w few depth at some none = leaf_told at.0 p k (of.Priced pr) rest w few depth at.1 at.2 some.0 none refl
  tree_told pinned p k rest w few depth at some none = leaf_told at.0 p k of.Pinned rest w few depth at.1 at.2 some.0 none refl
  tree_told bare p k rest w few depth at some none = leaf_told at.0 p k of.Bare rest w few depth at.1 at.2 some.0 none refl
  tree_told (split a b own low high) p k rest w few depth at some none =
      let x : Node = of.Split a b own in
      let cuts : List Cut = at.0 in
      let lows : List Node = preorder low in
      let highs : List Node = preorder high in
      let counted : length (preorder (split a b own low high)) ≡ 1 + length lows + length highs = omega (arith, length-append lows highs) in
      let sound = each_parts (IsSoundVisit i) (visits (cuts ++ low_cut a b ∷ []) low) (visits (cuts ++ high_cut a b ∷ []) high) at.2.1 in
      let zeros = each_parts NoneIsZero lows highs some.1 in
      let one : Place = record { nodes = p.nodes + 1; halves = false ∷ p.halves } in
      let two : Place = tree_read one lows in
      let k1 : ℕ = k + length (node_lines i x) in
      let k2 : ℕ = k1 + length (tree_lines i lows) in
      let after : Items = numbered k2 (tree_lines i highs) ++ rest in
      let behind : Items = numbered k1 (tree_lines i lows) ++ after in
      let e = at.1 in
      let small : cut_count i p < 2 ^ 127 = omega (arith, few, depth, few_cuts, counted) in
      let at_low : IsSoundAt i one low = (cuts ++ low_cut a b ∷ [], omega (arith, length-append cuts (low_cut a b ∷ []), e), sound.0) in
      let at_high : IsSoundAt i two high = (cuts ++ high_cut a b ∷ [], omega (arith, length-append cuts (high_cut a b ∷ []), e), sound.1) in
      let w1 : wants one ≡ true = wants_open p.nodes false p.halves in
      let w2 : wants two ≡ true = ap (λ (n : ℕ). wants (place n (true ∷ p.halves))) (omega arith) ∙ wants_open (p.nodes + length lows) true p.halves in
      let lines : tree_lines i (preorder (split a b own low high)) ≡ node_lines i x ++ (tree_lines i lows ++ tree_lines i highs) = ap (λ (ls : List (List (List ℕ))). node_lines i x ++ ls) (tree_lines-append i lows highs) in
      let items : numbered k (tree_lines i (preorder (split a b own low high))) ++ rest ≡ numbered k (node_lines i x) ++ behind =
      ap (λ (ls : List (List (List ℕ))). numbered k ls ++ rest) lines
      ∙ numbered-then k (node_lines i x) (tree_lines i lows ++ tree_lines i highs) rest
      ∙ ap (λ (is : Items). numbered k (node_lines i x) ++ is) (numbered-then k1 (tree_lines i lows) (tree_lines i highs) rest) in
      let first = node_told i cuts p k x behind s w (omega (arith, few, counted)) e small at.2.0 some.0 (tree_no_mult i k1 low after) in
      let second = tree_told low one k1 after w1 (omega (arith, few, counted)) (omega (arith, depth)) at_low zeros.0 (tree_no_mult i k2 high rest) in
      let third = tree_told high two k2 rest w2 (omega (arith, few, counted)) (omega (arith, depth)) at_high zeros.1 none in
      let end : tree_read two highs ≡ tree_read p (preorder (split a b own low high)) = ap (λ (n : ℕ). place n (after_leaf p.halves)) (omega (arith, counted)) in
      ap (pieces_from i nodes p) items ∙ first
      ∙ ap (λ (g : Given). Ok (node x) ∷ g) (second ∙ ap (nodes_then lows) (third ∙ ap (λ (q : Place). nodes_then highs (pieces_from i nodes q rest)) end) ∙ sym (nodes_then-append lows highs (pieces_from i nodes (tree_read p (preorder (split a b own low high))) rest)))
