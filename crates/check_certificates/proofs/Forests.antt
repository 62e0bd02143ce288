-- Nodes that are trees, one behind another, and the halves that a walk knows to be due.
use Rattle.std.proofs.Common.{◌≡◌, ℕ, zero, suc, arith, ◌+◌, ◌≤◌, ◌<◌, Bool, true, false, cond, Option, None, Some, List, [], ◌∷◌, ◌++◌, append_assoc, All, length, get_or, set, sym, refl, ap, subst, ◌∙◌, get_or-set_same, get_or-set_other}
use Rattle.std.specs.Prelude.{◌↔◌}
use Rattle.std.proofs.lemmas.List.{length-append, append-nil}
use Rattle.model_rosters.specs.declared.grammar.ArcKey.{ArcKey}
use Rattle.model_rosters.specs.declared.instance.Cut.{Cut}
use Rattle.model_rosters.specs.declared.instance.Instance.{Instance}
use Rattle.model_rosters.specs.declared.instance.Prices.{Prices}
use Rattle.model_rosters.specs.declared.instance.Side.TheVariants.{Low}
use Rattle.model_rosters.specs.Cuts.{base_cuts}
use Rattle.model_rosters.specs.Folds.{Each}
use Rattle.model_rosters.specs.PriceLimits.{IsMult}
use Rattle.model_rosters.proofs.EachLemmas.{Each-append, each_parts}
use Rattle.check_certificates.specs.declared.cert.Node.{Node}
use Rattle.check_certificates.specs.declared.cert.Node.TheVariants.{Split, Priced, Pinned, Bare}
use Rattle.check_certificates.specs.Forests.{IsSoundBelow, IsForest, due_after, due_high, due}
use Rattle.check_certificates.specs.Nodes.{Proof, split, priced, pinned, bare, preorder, low_cut, high_cut, visits}
use Rattle.check_certificates.specs.Sound.{AreFit, IsSoundNode, IsSoundVisit, IsSoundProof}

longer : (path : List Cut) (c : Cut) (n : ℕ) → length path ≡ n → length (path ++ c ∷ []) ≡ n + 1
longer path c n e = length-append path (c ∷ []) ∙ ap (λ (k : ℕ). k + 1) e

-- a path of so many cuts
some_cut : Cut
some_cut = record { arc = record { rule = 0; suffix = 0; start = 0; len = 0; part = 0 }; side = Low; b = 0 }

some_path : (n : ℕ) → (path : List Cut) × (length path ≡ n)
some_path zero = ([], refl)
some_path (suc n) = let p = some_path n in (some_cut ∷ p.0, omega (arith, p.1))

-- what is asked of a node depends on how many cuts are above it
fit-same : (i : Instance) (p q : List Cut) (prices : Prices) → length p ≡ length q → AreFit i p prices → AreFit i q prices
fit-same i p q prices e h = record {
  positive = h.positive;
  small = h.small;
  cells = h.cells;
  each = h.each;
  few = h.few;
  mults = subst (λ (n : ℕ). All (IsMult n) prices.mult) e h.mults;
  rising = h.rising;
}

node-same : (i : Instance) (p q : List Cut) (node : Node) → length p ≡ length q → IsSoundNode i p node → IsSoundNode i q node
node-same i p q (Split a b None) e h = h
node-same i p q (Split a b (Some prices)) e h = (h.0, h.1, fit-same i p q prices e h.2)
node-same i p q (Priced prices) e h = fit-same i p q prices e h
node-same i p q Pinned e h = h
node-same i p q Bare e h = h

module _ (i : Instance) where
  below : (n : ℕ) (path : List Cut) (node : Node) → length path ≡ n → IsSoundNode i path node → IsSoundBelow i n node
  below n path node e h q f = node-same i path q node (e ∙ sym f) h

  -- a tree of sound nodes, and the trees behind it
  pub tree-first : (t : Proof) (n : ℕ) (ns : List ℕ) (rest : List Node) (path : List Cut) → length path ≡ n → Each (IsSoundVisit i) (visits path t) → IsForest i ns rest
      → IsForest i (n ∷ ns) (preorder t ++ rest)
  tree-first (priced p) n ns rest path e each h = (below n path (Priced p) e each.0, h)
  tree-first pinned n ns rest path e each h = (below n path Pinned e each.0, h)
  tree-first bare n ns rest path e each h = (below n path Bare e each.0, h)
  tree-first (split a b own l r) n ns rest path e each h =
      let parts = each_parts (IsSoundVisit i) (visits (path ++ low_cut a b ∷ []) l) (visits (path ++ high_cut a b ∷ []) r) each.1 in
      let high = tree-first r (n + 1) ns rest (path ++ high_cut a b ∷ []) (longer path (high_cut a b) n e) parts.1 h in
      let low = tree-first l (n + 1) ((n + 1) ∷ ns) (preorder r ++ rest) (path ++ low_cut a b ∷ []) (longer path (low_cut a b) n e) parts.0 high in
      (below n path (Split a b own) e each.0, rw (append_assoc (preorder l) (preorder r) rest) low)

  -- the first tree of such nodes
  record IsTaken (n : ℕ) (ns : List ℕ) (nodes : List Node) : Type 0 where
    proof : Proof
    rest : List Node
    whole : nodes ≡ preorder proof ++ rest
    each : (path : List Cut) → length path ≡ n → Each (IsSoundVisit i) (visits path proof)
    others : IsForest i ns rest
    shorter : length rest < length nodes

  joined : (a : ArcKey) (b : ℕ) (own : Option Prices) (n : ℕ) (ns : List ℕ) (nodes : List Node) → IsSoundBelow i n (Split a b own) → (l : IsTaken (n + 1) ((n + 1) ∷ ns) nodes)
      → IsTaken (n + 1) ns l.rest → IsTaken n ns (Split a b own ∷ nodes)
  joined a b own n ns nodes sound l r = record {
    proof = split a b own l.proof r.proof;
    rest = r.rest;
    whole = ap (λ (xs : List Node). Split a b own ∷ xs) (l.whole ∙ ap (λ (xs : List Node). preorder l.proof ++ xs) r.whole ∙ sym (append_assoc (preorder l.proof) (preorder r.proof) r.rest));
    each = λ path e. (
      sound path e,
      Each-append (IsSoundVisit i) (visits (path ++ low_cut a b ∷ []) l.proof) (visits (path ++ high_cut a b ∷ []) r.proof)
          (l.each (path ++ low_cut a b ∷ []) (longer path (low_cut a b) n e))
          (r.each (path ++ high_cut a b ∷ []) (longer path (high_cut a b) n e)),
    );
    others = r.others;
    shorter = omega (arith, l.shorter, r.shorter);
  }

  take-tree : (most n : ℕ) (ns : List ℕ) (nodes : List Node) → length nodes ≤ most → IsForest i (n ∷ ns) nodes → IsTaken n ns nodes
  take-tree most n ns [] few h = absurd h
  take-tree zero n ns (node ∷ nodes) few h = absurd (omega (arith, few))
  take-tree (suc most) n ns (Priced p ∷ nodes) few h = record { proof = priced p; rest = nodes; whole = refl; each = λ path e. (h.0 path e, tt); others = h.1; shorter = omega arith }
  take-tree (suc most) n ns (Pinned ∷ nodes) few h = record { proof = pinned; rest = nodes; whole = refl; each = λ path e. (tt, tt); others = h.1; shorter = omega arith }
  take-tree (suc most) n ns (Bare ∷ nodes) few h = record { proof = bare; rest = nodes; whole = refl; each = λ path e. (tt, tt); others = h.1; shorter = omega arith }
  take-tree (suc most) n ns (Split a b own ∷ nodes) few h =
      let l = take-tree most (n + 1) ((n + 1) ∷ ns) nodes (omega (arith, few)) h.1 in
      let r = take-tree most (n + 1) ns l.rest (omega (arith, few, l.shorter)) l.others in
      joined a b own n ns nodes h.0 l r

  nothing-left : (nodes : List Node) → IsForest i [] nodes → nodes ≡ []
  nothing-left [] h = refl
  nothing-left (node ∷ nodes) h = absurd h

  module _ (n : ℕ) (nodes : List Node) (base : n ≡ length (base_cuts i)) where
    pub whole-tree : length nodes ≤ 20001 → IsForest i (n ∷ []) nodes → (proof : Proof) × IsSoundProof i nodes proof
    whole-tree few h =
        let t = take-tree (length nodes) n [] nodes (omega arith) h in
        let e = nothing-left t.rest t.others in
        (t.proof, record { whole = sym (t.whole ∙ ap (λ (xs : List Node). preorder t.proof ++ xs) e ∙ append-nil (preorder t.proof)); few = few; each = t.each (base_cuts i) (sym base) })

    pub tree-whole : (proof : Proof) × IsSoundProof i nodes proof → IsForest i (n ∷ []) nodes
    tree-whole p =
        subst (λ (xs : List Node). IsForest i (n ∷ []) xs) (append-nil (preorder p.0) ∙ p.1.whole) (tree-first p.0 n [] [] (base_cuts i) (sym base) p.1.each tt)

  -- ---- a step of the walk
  -- one node is taken
  pub one-taken : (n : ℕ) (ns : List ℕ) (node : Node) (nodes : List Node) → IsSoundBelow i n node → IsForest i (n ∷ ns) (node ∷ nodes) ↔ IsForest i (due_after n node ns) nodes
  one-taken n ns node nodes sound = (λ h. h.1, λ h. (sound, h))

  -- an unsound node is none of a forest
  pub none-unsound : (n : ℕ) (ns : List ℕ) (node : Node) (nodes : List Node) → ((path : List Cut) → length path ≡ n → IsSoundNode i path node → ⊥) → IsForest i (n ∷ ns) (node ∷ nodes) → ⊥
  none-unsound n ns node nodes bad h = let p = some_path n in bad p.0 p.1 (h.0 p.0 p.1)

-- ---- the halves that are due

-- halves that are told alike
pub same-high : (cuts : ℕ) (old new : List Bool) (n : ℕ) → ((k : ℕ) → k < n → get_or new k false ≡ get_or old k false) → due_high cuts new n ≡ due_high cuts old n
same-high cuts old new zero h = refl
same-high cuts old new (suc n) h =
    let rest = same-high cuts old new n (λ k l. h k (omega (arith, l))) in
    ap (λ (b : Bool). cond b (due_high cuts new n) ((cuts + suc n) ∷ due_high cuts new n)) (h n (omega arith))
    ∙ ap (λ (xs : List ℕ). cond (get_or old n false) xs ((cuts + suc n) ∷ xs)) rest

-- a split is opened in its Low half
pub opened : (cuts : ℕ) (halves : List Bool) (n : ℕ) → n < length halves → due_high cuts (set halves n false) (suc n) ≡ (cuts + suc n) ∷ due_high cuts halves n
opened cuts halves n l =
    let e = get_or-set_same halves n false false l in
    let rest = same-high cuts halves (set halves n false) n (λ k m. get_or-set_other halves n k false false (λ s. absurd (omega (arith, s, m)))) in
    ap (λ (b : Bool). cond b (due_high cuts (set halves n false) n) ((cuts + suc n) ∷ due_high cuts (set halves n false) n)) e
    ∙ ap (λ (xs : List ℕ). (cuts + suc n) ∷ xs) rest

-- behind a split both its halves are due
pub opened-after : (cuts : ℕ) (halves : List Bool) (n : ℕ) (node : Node) (a : ArcKey) (b : ℕ) (own : Option Prices) → n < length halves → node ≡ Split a b own
    → due cuts (set halves n false) (Some (n + 1)) ≡ due_after (cuts + n) node (due_high cuts halves n)
opened-after cuts halves n node a b own l is =
    let s : suc n ≡ n + 1 = omega arith in
    let e : cuts + suc n ≡ cuts + n + 1 = omega arith in
    let core : due cuts (set halves n false) (Some (suc n)) ≡ (cuts + suc n) ∷ (cuts + suc n) ∷ due_high cuts halves n = ap (λ (xs : List ℕ). (cuts + suc n) ∷ xs) (opened cuts halves n l) in
    let up : due cuts (set halves n false) (Some (n + 1)) ≡ (cuts + suc n) ∷ (cuts + suc n) ∷ due_high cuts halves n = subst (λ (m : ℕ). due cuts (set halves n false) (Some m) ≡ (cuts + suc n) ∷ (cuts + suc n) ∷ due_high cuts halves n) s core in
    up ∙ ap (λ (m : ℕ). m ∷ m ∷ due_high cuts halves n) e ∙ sym (ap (λ (x : Node). due_after (cuts + n) x (due_high cuts halves n)) is)

-- a split in its High half has none that is due
pub passed : (cuts : ℕ) (halves : List Bool) (n : ℕ) → get_or halves n false ≡ true → due_high cuts halves (suc n) ≡ due_high cuts halves n
passed cuts halves n e = ap (λ (b : Bool). cond b (due_high cuts halves n) ((cuts + suc n) ∷ due_high cuts halves n)) e

-- the High half of a split in its Low half comes next
pub turned : (cuts : ℕ) (halves : List Bool) (n : ℕ) → n < length halves → get_or halves n false ≡ false
    → due cuts (set halves n true) (Some (suc n)) ≡ due_high cuts halves (suc n)
turned cuts halves n l e =
    let s = get_or-set_same halves n true false l in
    let rest = same-high cuts halves (set halves n true) n (λ k m. get_or-set_other halves n k true false (λ q. absurd (omega (arith, q, m)))) in
    let new : due_high cuts (set halves n true) (suc n) ≡ due_high cuts halves n = passed cuts (set halves n true) n s ∙ rest in
    let old : due_high cuts halves (suc n) ≡ (cuts + suc n) ∷ due_high cuts halves n = ap (λ (b : Bool). cond b (due_high cuts halves n) ((cuts + suc n) ∷ due_high cuts halves n)) e in
    ap (λ (xs : List ℕ). (cuts + suc n) ∷ xs) new ∙ sym old
