-- The numbers at the places, arc by arc, and what they tell at the end.
use Rattle.std.proofs.Common.{◌≡◌, ℕ, ℤ, pos, zero, suc, arith, ◌+◌, ◌*◌, ◌^◌, ◌<◌, ◌≤◌, ◌-ℤ◌, Bool, true, false, cond, List, [], ◌∷◌, ◌++◌, length, drop, get_or, refl, ap, sym, subst, ◌∙◌, ◌⊎◌, inl, inr, unsigned_abs, All}
use Rattle.std.proofs.lemmas.Bool.{eqb-true}
use Rattle.std.proofs.lemmas.Int.{ints}
use Rattle.std.proofs.lemmas.Nat.{mul-le}
use Rattle.std.proofs.lemmas.Option.{slice_get_within}
use Rattle.std.proofs.lemmas.List.Elements.{All-head, All-tail}
use Rattle.model_rosters.specs.declared.grammar.ArcKey.{ArcKey}
use Rattle.model_rosters.specs.declared.grammar.Grammar.{Grammar}
use Rattle.model_rosters.specs.declared.grammar.Sym.{Sym}
use Rattle.model_rosters.specs.declared.instance.Cell.{Cell}
use Rattle.model_rosters.specs.declared.instance.Instance.{Instance}
use Rattle.model_rosters.specs.Coverage.{penalty, IsWithinCell}
use Rattle.model_rosters.specs.Folds.{sum_n, count, Each, In}
use Rattle.model_rosters.specs.Arcs.{Letter, letters, arcs, IsArc}
use Rattle.model_rosters.specs.Limits.{IsDayCell}
use Rattle.model_rosters.specs.Sound.{IsSound}
use Rattle.model_rosters.proofs.EachLemmas.{Each-at, Each-in}
use Rattle.model_rosters.specs.arc_laws.OrNodes.{OrNode, name, suffix, leaf, made, made_by, right_of, used, used_by, same_node, root_of}
use Rattle.model_rosters.specs.arc_laws.Balance.{made_sum, used_sum, IsBalanced}
use Rattle.model_rosters.specs.arc_laws.Counts.{letter_count, root_count, AreCounts}
use Rattle.model_rosters.proofs.arc_laws.BalanceLemmas.{tree_balanced}
use Rattle.model_rosters.proofs.arc_laws.FoldsLemmas.{sum_n-append, sum_n-same, sum_n-zero, count-none, count-le-length}
use Rattle.model_rosters.proofs.arc_laws.Totals.{made_count, node_once}
use Rattle.check_parts.specs.pinned_part.Places.{node_place, place_count, IsPlaced}
use Rattle.check_parts.specs.pinned_part.Net.{made_in, used_in, at, IsCounted, IsNet, AreZero, size_at, cell_size, AreAllowed}
use Rattle.check_parts.proofs.pinned_part.PlacesLemmas.{node-itself, node-same, same-place, name-within, suffix-within, placed-within}
use Rattle.check_parts.proofs.pinned_part.NodeSums.{AreNodesPlaced, sum_n-in, made-at, used-at, touched}

-- no more than two nodes are used
pub two-used : (g : Grammar) (a : ArcKey) → length (used g a) ≤ 2
two-used g a = by (drop a.suffix (right_of g a.rule))
  where
    by : (ss : List Sym) → length (used_by ss a) ≤ 2
    by [] = omega arith
    by (s ∷ []) = omega arith
    by (s ∷ x ∷ []) = omega arith
    by (s ∷ x ∷ y ∷ ss) = omega arith

module _ (g : Grammar) (value : ArcKey → ℕ) where
  -- no arcs
  pub net-none : (nodes : List ℤ) → length nodes ≡ place_count g → ((p : ℕ) → p < length nodes → get_or nodes p (pos 0) ≡ pos 0) → IsNet g [] value nodes
  net-none nodes size all = record { size = size; net = λ p lt. all p (omega (arith, lt, size)) ∙ omega (arith, ints) }

  made_more : (t : OrNode → Bool) (listed : List ArcKey) (a : ArcKey) → made_in g t value (listed ++ a ∷ []) ≡ made_in g t value listed + value a * cond (t (made g a)) 1 0
  made_more t listed a = omega (arith, sum_n-append (λ a. value a * cond (t (made g a)) 1 0) listed (a ∷ []))

  used_more : (t : OrNode → Bool) (listed : List ArcKey) (a : ArcKey) → used_in g t value (listed ++ a ∷ []) ≡ used_in g t value listed + value a * count t (used g a)
  used_more t listed a = omega (arith, sum_n-append (λ a. value a * count t (used g a)) listed (a ∷ []))

  -- one arc more
  pub net-step : (listed : List ArcKey) (a : ArcKey) (old new : List ℤ) → IsNet g listed value old → IsCounted g a (value a) old new → IsNet g (listed ++ a ∷ []) value new
  net-step listed a old new h c = record {
    size = c.size ∙ h.size;
    net = λ p lt.
        let lt' : p < length old = omega (arith, lt, h.size) in
        let m = made_more (at g p) listed a in
        let u = used_more (at g p) listed a in
        let e = h.net p lt in
        let k = c.change p lt' in
        k ∙ omega (arith, ints, e, m, u);
  }

  module _ (small : (a : ArcKey) → value a ≤ 64) where
    made_small : (t : OrNode → Bool) (listed : List ArcKey) → made_in g t value listed ≤ 64 * length listed
    made_small t [] = omega arith
    made_small t (x ∷ xs) = by (t (made g x)) (made_small t xs)
      where
        by : (b : Bool) → made_in g t value xs ≤ 64 * length xs → value x * cond b 1 0 + made_in g t value xs ≤ 64 * length (x ∷ xs)
        by true ih = omega (arith, small x)
        by false ih = omega arith

    used_small : (t : OrNode → Bool) (listed : List ArcKey) → used_in g t value listed ≤ 128 * length listed
    used_small t [] = omega arith
    used_small t (x ∷ xs) =
        let c = count-le-length t (used g x) in
        let two = two-used g x in
        let m = mul-le (value x) (count t (used g x)) 64 2 (small x) (omega (arith, c, two)) in
        omega (arith, m, used_small t xs)

    -- the numbers are small
    pub net-small : (listed : List ArcKey) (nodes : List ℤ) → IsNet g listed value nodes → length listed ≤ 1099511627776 → (p : ℕ) → p < length nodes → size_at nodes p ≤ 2 ^ 50
    net-small listed nodes h few p lt =
        let m = made_small (at g p) listed in
        let u = used_small (at g p) listed in
        let e = h.net p (omega (arith, lt, h.size)) in
        rw e (between (made_in g (at g p) value listed) (used_in g (at g p) value listed) (omega (arith, m, few)) (omega (arith, u, few)))
      where
        between : (m u : ℕ) → m ≤ 2 ^ 50 → u ≤ 2 ^ 50 → unsigned_abs (pos m -ℤ pos u) ≤ 2 ^ 50
        between m u a b = omega (arith, ints)

-- no arc makes a letter
made-no-leaf : (g : Grammar) (l : Letter) (a : ArcKey) → same_node (leaf l) (made g a) ≡ false
made-no-leaf g l a = by a.suffix
  where
    by : (k : ℕ) → same_node (leaf l) (made_by g a.rule k a.start a.len) ≡ false
    by zero = refl
    by (suc k) = refl

-- no arc of the instance uses the root
pub root-unused : (g : Grammar) → IsSound g → (a : ArcKey) → IsArc g a → count (same_node (root_of g)) (used g a) ≡ 0
root-unused g sound a (t, day, here) =
    let p = same_node (root_of g) in
    let b = tree_balanced g p t day in
    let o = node_once g sound t (root_of g) day in
    let m = made_count g p (arcs 1 t) in
    let l = count-none (λ l. p (leaf l)) (letters 1 t) (λ l. refl) in
    let r : ◌≡◌ {A = ℕ} (cond (p (root_of g)) 1 0) 1 = ap (λ (b : Bool). cond b 1 0) (node-itself (root_of g)) in
    let i = sum_n-in (λ a. count p (used g a)) a (arcs 1 t) here in
    omega (arith, b, o, m, l, r, i)

module _ (g : Grammar) (sound : IsSound g) (value : ArcKey → ℕ) (listed : List ArcKey) (all : Each (AreNodesPlaced g) listed) (nodes : List ℤ) (h : IsNet g listed value nodes) where
  root_placed : IsPlaced g (root_of g)
  root_placed = (sound.start, record { begins = omega arith; some = sound.some_period; within = omega arith })

  -- the number at the place of a node
  number_at : (o : OrNode) → IsPlaced g o → get_or nodes (node_place g o) (pos 0) ≡ pos (made_sum g listed value o) -ℤ pos (used_sum g listed value o)
  number_at o k = rw (made-at g value o k listed all, used-at g value o k listed all) (h.net (node_place g o) (placed-within g o k))

  zero_same : (o : OrNode) → IsPlaced g o → get_or nodes (node_place g o) (pos 0) ≡ pos 0 → made_sum g listed value o ≡ used_sum g listed value o
  zero_same o k e = let n = number_at o k in omega (arith, ints, n, e)

  same_zero : (o : OrNode) → IsPlaced g o → made_sum g listed value o ≡ used_sum g listed value o → get_or nodes (node_place g o) (pos 0) ≡ pos 0
  same_zero o k e = let n = number_at o k in omega (arith, ints, n, e)

  -- where all places but the root's hold 0, all is balanced
  pub zero-balanced : AreZero g nodes → IsBalanced g listed value
  zero-balanced z = record {
    names = λ x i l apart. at_name x i l apart (touched g value (same_node (name x i l)) listed all);
    suffixes = λ r k i l. at_suffix r k i l (touched g value (same_node (suffix r k i l)) listed all);
  }
    where
      at_name : (x i l : ℕ) → same_node (name x i l) (root_of g) ≡ false
          → ((o : OrNode) × IsPlaced g o × (same_node (name x i l) o ≡ true)) ⊎ ((made_sum g listed value (name x i l) ≡ 0) × (used_sum g listed value (name x i l) ≡ 0))
          → made_sum g listed value (name x i l) ≡ used_sum g listed value (name x i l)
      at_name x i l apart (inr none) = omega (arith, none.0, none.1)
      at_name x i l apart (inl (o, k, e)) =
          let same = node-same (name x i l) o e in
          let placed : IsPlaced g (name x i l) = subst (IsPlaced g) (sym same) k in
          zero_same (name x i l) placed
          (z (node_place g (name x i l)) (name-within g x i l placed)
          (λ q. let root = same-place g (name x i l) (root_of g) placed root_placed q in
          let yes : same_node (name x i l) (root_of g) ≡ true = subst (λ (n : OrNode). same_node (name x i l) n ≡ true) root (node-itself (name x i l)) in cc))

      at_suffix : (r k i l : ℕ)
          → ((o : OrNode) × IsPlaced g o × (same_node (suffix r k i l) o ≡ true)) ⊎ ((made_sum g listed value (suffix r k i l) ≡ 0) × (used_sum g listed value (suffix r k i l) ≡ 0))
          → made_sum g listed value (suffix r k i l) ≡ used_sum g listed value (suffix r k i l)
      at_suffix r k i l (inr none) = omega (arith, none.0, none.1)
      at_suffix r k i l (inl (o, there, e)) =
          let same = node-same (suffix r k i l) o e in
          let placed : IsPlaced g (suffix r k i l) = subst (IsPlaced g) (sym same) there in
          zero_same (suffix r k i l) placed
          (z (node_place g (suffix r k i l)) (suffix-within g r k i l placed)
          (λ q. let root = same-place g (suffix r k i l) (root_of g) placed root_placed q in cc))

  -- and only there
  pub balanced-zero : IsBalanced g listed value → AreZero g nodes
  balanced-zero b p lt apart = by (touched g value (at g p) listed all)
    where
      node_zero : (o : OrNode) → IsPlaced g o → node_place g o ≡ p → get_or nodes (node_place g o) (pos 0) ≡ pos 0
      node_zero (name x i l) k e = pick (same_node (name x i l) (root_of g)) refl
        where
          pick : (s : Bool) → same_node (name x i l) (root_of g) ≡ s → get_or nodes (node_place g (name x i l)) (pos 0) ≡ pos 0
          pick true is = absurd (apart (sym e ∙ ap (node_place g) (node-same (name x i l) (root_of g) is)))
          pick false is = same_zero (name x i l) k (b.names x i l is)
      node_zero (suffix r q i l) k e = same_zero (suffix r q i l) k (b.suffixes r q i l)
      node_zero (leaf c) k e = absurd (omega (arith, lt, e))

      by : ((o : OrNode) × IsPlaced g o × (at g p o ≡ true)) ⊎ ((made_in g (at g p) value listed ≡ 0) × (used_in g (at g p) value listed ≡ 0)) → get_or nodes p (pos 0) ≡ pos 0
      by (inl (o, k, e)) =
          let is = eqb-true (node_place g o) p e in
          subst (λ (q : ℕ). get_or nodes q (pos 0) ≡ pos 0) is (node_zero o k is)
      by (inr none) = let n = h.net p (omega (arith, lt)) in omega (arith, ints, n, none.0, none.1)

  -- the number at the root's place counts the trees
  pub root-size : ((a : ArcKey) → In a listed → IsArc g a) → size_at nodes (node_place g (root_of g)) ≡ root_count g listed value
  root-size arc =
      let u : used_sum g listed value (root_of g) ≡ 0 =
      sum_n-same (λ a. value a * count (same_node (root_of g)) (used g a)) (λ a. 0) listed
      (λ a i. let z = ap (λ (n : ℕ). value a * n) (root-unused g sound a (arc a i)) in omega (arith, z)) ∙ sum_n-zero (λ a. 0) listed (λ a. refl) in
      ap unsigned_abs (number_at (root_of g) root_placed) ∙ alone (made_sum g listed value (root_of g)) (used_sum g listed value (root_of g)) u
    where
      alone : (m u : ℕ) → u ≡ 0 → unsigned_abs (pos m -ℤ pos u) ≡ m
      alone m u e = omega (arith, ints)

  -- that at a cell's letter counts those that have it
  pub cell-size : (c : Cell) → IsDayCell g c → cell_size g nodes c ≡ letter_count g listed value c
  cell-size c day =
      let l : Letter = record { code = c.code; period = c.period } in
      let code = slice_get_within g.codes c.code day.work.0 day.work.1 in
      let m : made_sum g listed value (leaf l) ≡ 0 =
      sum_n-zero (λ a. value a * cond (same_node (leaf l) (made g a)) 1 0) listed (λ a. let z = ap (λ (b : Bool). value a * cond b 1 0) (made-no-leaf g l a) in omega (arith, z)) in
      ap unsigned_abs (number_at (leaf l) (code, day.first, omega (arith, day.last, sound.few_periods))) ∙ alone (made_sum g listed value (leaf l)) (used_sum g listed value (leaf l)) m
    where
      alone : (m u : ℕ) → m ≡ 0 → unsigned_abs (pos m -ℤ pos u) ≡ u
      alone m u e = omega (arith, ints)

-- what holds of all holds of each
All-in : {A : Type 0} (P : A → Type 0) (xs : List A) → All P xs → (x : A) → In x xs → P x
All-in P [] h x i = absurd i
All-in P (y ∷ ys) h x (inl e) = subst P (sym e) (All-head P y ys h)
All-in P (y ∷ ys) h x (inr i) = All-in P ys (All-tail P y ys h) x i

module _ (i : Instance) (sound : IsSound i.grammar) (cells : All (IsDayCell i.grammar) i.cells) (value : ArcKey → ℕ) (listed : List ArcKey)
    (arc : (a : ArcKey) → In a listed → IsArc i.grammar a) (all : Each (AreNodesPlaced i.grammar) listed) (nodes : List ℤ) (h : IsNet i.grammar listed value nodes) where
  size_is : (c : Cell) → In c i.cells → cell_size i.grammar nodes c ≡ letter_count i.grammar listed value c
  size_is c here = cell-size i.grammar sound value listed all nodes h c (All-in (IsDayCell i.grammar) i.cells cells c here)

  -- the numbers are allowed where the counts are
  pub allowed-counts : AreAllowed i nodes → AreCounts i listed value
  allowed-counts a =
      let r = root-size i.grammar sound value listed all nodes h arc in
      record {
        balanced = zero-balanced i.grammar sound value listed all nodes h a.zero;
        enough = omega (arith, r, a.heads.enough);
        few = omega (arith, r, a.heads.few);
        cells = Each-in _ i.cells (λ c here. subst (λ (n : ℕ). IsWithinCell c n) (size_is c here) (Each-at _ c i.cells a.cells here));
      }

  pub counts-allowed : AreCounts i listed value → AreAllowed i nodes
  counts-allowed a =
      let r = root-size i.grammar sound value listed all nodes h arc in
      record {
        zero = balanced-zero i.grammar sound value listed all nodes h a.balanced;
        heads = record { enough = omega (arith, r, a.enough); few = omega (arith, r, a.few) };
        cells = Each-in _ i.cells (λ c here. subst (λ (n : ℕ). IsWithinCell c n) (sym (size_is c here)) (Each-at _ c i.cells a.cells here));
      }

  -- the penalties are those of the counts
  pub penalties-same : sum_n (λ (c : Cell). penalty c (cell_size i.grammar nodes c)) i.cells ≡ sum_n (λ (c : Cell). penalty c (letter_count i.grammar listed value c)) i.cells
  penalties-same = sum_n-same _ _ i.cells (λ c here. ap (penalty c) (size_is c here))
