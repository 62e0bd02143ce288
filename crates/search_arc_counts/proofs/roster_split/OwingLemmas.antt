-- A tree is taken from counts along arcs of counts above 0.
use Rattle.std.proofs.Common.{◌≡◌, ℕ, zero, suc, arith, ◌+◌, ◌*◌, ◌≤◌, ◌<◌, Bool, true, false, cond, List, [], ◌∷◌, ◌++◌, length, refl, ap, sym, subst}
use Rattle.model_rosters.specs.declared.grammar.ArcKey.{ArcKey}
use Rattle.model_rosters.specs.declared.grammar.Grammar.{Grammar}
use Rattle.model_rosters.specs.Trees.{Parts, done, letter, IsDayTree}
use Rattle.model_rosters.specs.Folds.{sum_n, count, Each, In}
use Rattle.model_rosters.specs.Arcs.{arcs, same_arc}
use Rattle.model_rosters.specs.Cuts.{arcs_of, arc_count}
use Rattle.model_rosters.specs.arc_laws.OrNodes.{OrNode, name, suffix, leaf, same_node, made_by, made, used, root_of}
use Rattle.model_rosters.specs.arc_laws.Balance.{made_sum, used_sum}
use Rattle.model_rosters.proofs.arc_laws.FoldsLemmas.{count-append}
use Rattle.model_rosters.specs.arc_laws.AtNodes.{IsAt}
use Rattle.search_arc_counts.specs.roster_split.Nodes.{arcs_at, IsInner, copies}
use Rattle.search_arc_counts.specs.roster_split.Owing.{Owes, Taken}
use Rattle.search_arc_counts.proofs.roster_split.Shape.{Shape}
use Rattle.search_arc_counts.proofs.roster_split.NodesLemmas.{KidsAt, kid_arcs, built, Uses, uses_one, uses_two, uses-some}
use Rattle.tree_graph.proofs.ArcUsesLemmas.{same-node, own-node}
use Rattle.search_arc_counts.proofs.roster_split.TakenCounts.{taken, taken-is, sum-taken, positive}

pub cond-one : (b : Bool) → 1 ≤ cond b 1 0 → b ≡ true
cond-one true h = refl
cond-one false h = absurd (omega (arith, h))

pub inner-leaf : (q : OrNode) (l : _) → IsInner q → same_node q (leaf l) ≡ false
inner-leaf (name x i n) l h = refl
inner-leaf (suffix r k i n) l h = refl
inner-leaf (leaf m) l h = absurd h

-- what an arc makes is no letter
pub inner-made : (g : Grammar) (a : ArcKey) → IsInner (made g a)
inner-made g a = by a.suffix
  where
    by : (k : ℕ) → IsInner (made_by g a.rule k a.start a.len)
    by zero = tt
    by (suc k) = tt

module _ (g : Grammar) (listed : List ArcKey) (shapes : (a : ArcKey) → In a listed → Shape g a) (once : (a : ArcKey) → In a listed → count (same_arc a) listed ≡ 1) where
  abbrev total : (ArcKey → ℕ) → ℕ
  total value = sum_n (λ a. value a * 1) listed

  total-le : (value left : ArcKey → ℕ) → ((a : ArcKey) → left a ≤ value a) → (xs : List ArcKey) → sum_n (λ a. left a * 1) xs ≤ sum_n (λ a. value a * 1) xs
  total-le value left h [] = omega arith
  total-le value left h (x ∷ xs) = omega (arith, h x, total-le value left h xs)

  -- an arc with a count above 0 that makes the node
  pub record Chosen (value : ArcKey → ℕ) (o : OrNode) : Type 0 where
    pub arc : ArcKey
    pub is : In arc listed
    pub some : 1 ≤ value arc
    pub makes : made g arc ≡ o

  -- a node that is owed has one
  pub chosen : (value : ArcKey → ℕ) (o : OrNode) (pending : List OrNode) → IsInner o → Owes g listed value (o ∷ pending) → Chosen value o
  chosen value o pending inner owes =
      let e = owes.each o inner in
      let s : ◌≡◌ {A = ℕ} (cond (same_node o o) 1 0) 1 = rw (own-node o) refl in
      let r = positive value (λ a. cond (same_node o (made g a)) 1 0) listed (omega (arith, e, s)) in
      record { arc = r.0; is = r.1; some = r.2; makes = sym (same-node o (made g r.0) (cond-one (same_node o (made g r.0)) r.3)) }

  -- once it is taken, what it uses is owed in place of the node
  pub owes-kids : (value : ArcKey → ℕ) (o : OrNode) (pending : List OrNode) → Owes g listed value (o ∷ pending) → (c : Chosen value o) → Owes g listed (taken c.arc value) (used g c.arc ++ pending)
  owes-kids value o pending owes c = record { each = λ q inner. at q inner }
    where
      at : (q : OrNode) → IsInner q → made_sum g listed (taken c.arc value) q ≡ used_sum g listed (taken c.arc value) q + count (same_node q) (used g c.arc ++ pending)
      at q inner =
          let m = sum-taken value (taken c.arc value) c.arc (taken-is c.arc value c.some) (λ b. cond (same_node q (made g b)) 1 0) listed (once c.arc c.is) in
          let u = sum-taken value (taken c.arc value) c.arc (taken-is c.arc value c.some) (λ b. count (same_node q) (used g b)) listed (once c.arc c.is) in
          let w = owes.each q inner in
          let e = ap {B = ℕ} (λ (x : OrNode). cond (same_node q x) 1 0) c.makes in
          let k = count-append (same_node q) (used g c.arc) pending in
          omega (arith, m, u, w, e, k)

  pub total-less : (value : ArcKey → ℕ) (o : OrNode) (c : Chosen value o) → total (taken c.arc value) + 1 ≡ total value
  total-less value o c = sum-taken value (taken c.arc value) c.arc (taken-is c.arc value c.some) (λ b. 1) listed (once c.arc c.is)

  abbrev Walks : ℕ → Type 0
  Walks n = (value : ArcKey → ℕ) (o : OrNode) (pending : List OrNode) → total value < n → Owes g listed value (o ∷ pending) → Taken g listed value o pending

  taken_of : (value : ArcKey → ℕ) (o : OrNode) (pending : List OrNode) (c : Chosen value o) (t u : Parts) → KidsAt g (used g c.arc) t u → (left : ArcKey → ℕ)
      → ((x : ArcKey) → taken c.arc value x ≡ left x + count (same_arc x) (kid_arcs (used g c.arc) t u)) → Owes g listed left pending → Taken g listed value o pending
  taken_of value o pending c t u kids left counts owes =
      let b = built g c.arc (shapes c.arc c.is) t u kids in
      let e : arcs_at o b.whole ≡ c.arc ∷ kid_arcs (used g c.arc) t u = subst (λ (q : OrNode). arcs_at q b.whole ≡ c.arc ∷ kid_arcs (used g c.arc) t u) c.makes b.listed in
      record {
        tree = b.whole;
        at = subst (λ (q : OrNode). IsAt g q b.whole) c.makes b.on;
        left = left;
        counts = λ x. counted x b.whole e;
        owes = owes;
      }
    where
      counted : (x : ArcKey) (w : Parts) → arcs_at o w ≡ c.arc ∷ kid_arcs (used g c.arc) t u → value x ≡ left x + count (same_arc x) (arcs_at o w)
      counted x w e =
          let n = taken-is c.arc value c.some x in
          let m = counts x in
          let k = ap (λ (xs : List ArcKey). count (same_arc x) xs) e in
          omega (arith, n, m, k)

  step : (n : ℕ) → Walks n → (value : ArcKey → ℕ) (o : OrNode) (pending : List OrNode) → IsInner o → total value < suc n → Owes g listed value (o ∷ pending) → Taken g listed value o pending
  step n rec value o pending inner less owes = by (uses-some g c.arc (shapes c.arc c.is))
    where
      c : Chosen value o
      c = chosen value o pending inner owes

      value1 : ArcKey → ℕ
      value1 = taken c.arc value

      less1 : total (taken c.arc value) < n
      less1 = omega (arith, less, total-less value o c)

      by : Uses g (used g c.arc) → Taken g listed value o pending
      by (uses_one k e) =
          let w : Owes g listed (taken c.arc value) (k ∷ pending) = subst (λ (os : List OrNode). Owes g listed (taken c.arc value) (os ++ pending)) e (owes-kids value o pending owes c) in
          let t = rec (taken c.arc value) k pending less1 w in
          let kids : KidsAt g (used g c.arc) t.tree done = subst (λ (os : List OrNode). KidsAt g os t.tree done) (sym e) t.at in
          let same : (x : ArcKey) → taken c.arc value x ≡ t.left x + count (same_arc x) (kid_arcs (used g c.arc) t.tree done) =
          λ x. subst (λ (os : List OrNode). taken c.arc value x ≡ t.left x + count (same_arc x) (kid_arcs os t.tree done)) (sym e) (t.counts x) in
          taken_of value o pending c t.tree done kids t.left same t.owes
      by (uses_two k q e) =
          let w : Owes g listed (taken c.arc value) (k ∷ q ∷ pending) = subst (λ (os : List OrNode). Owes g listed (taken c.arc value) (os ++ pending)) e (owes-kids value o pending owes c) in
          let t = rec (taken c.arc value) k (q ∷ pending) less1 w in
          let le : total t.left ≤ total (taken c.arc value) = total-le (taken c.arc value) t.left (λ a. omega (arith, t.counts a)) listed in
          let u = rec t.left q pending (omega (arith, le, less1)) t.owes in
          let kids : KidsAt g (used g c.arc) t.tree u.tree = subst (λ (os : List OrNode). KidsAt g os t.tree u.tree) (sym e) (t.at, u.at) in
          let same : (x : ArcKey) → taken c.arc value x ≡ u.left x + count (same_arc x) (kid_arcs (used g c.arc) t.tree u.tree) =
          λ x. subst (λ (os : List OrNode). taken c.arc value x ≡ u.left x + count (same_arc x) (kid_arcs os t.tree u.tree)) (sym e)
          (omega (arith, t.counts x, u.counts x, count-append (same_arc x) (arcs_at k t.tree) (arcs_at q u.tree))) in
          taken_of value o pending c t.tree u.tree kids u.left same u.owes

  pub walk : (n : ℕ) (value : ArcKey → ℕ) (o : OrNode) (pending : List OrNode) → total value < n → Owes g listed value (o ∷ pending) → Taken g listed value o pending
  walk zero value o pending less owes = absurd (omega (arith, less))
  walk (suc n) value (name x i l) pending less owes = step n (λ v o p k w. walk n v o p k w) value (name x i l) pending tt less owes
  walk (suc n) value (suffix r k i l) pending less owes = step n (λ v o p k w. walk n v o p k w) value (suffix r k i l) pending tt less owes
  walk (suc n) value (leaf l) pending less owes = record {
    tree = letter l.code done;
    at = ((refl, tt), omega arith);
    left = value;
    counts = λ a. omega arith;
    owes = record { each = λ q inner. skip q inner };
  }
    where
      skip : (q : OrNode) → IsInner q → made_sum g listed value q ≡ used_sum g listed value q + count (same_node q) pending
      skip q inner = let e = owes.each q inner in let z : ◌≡◌ {A = ℕ} (cond (same_node q (leaf l)) 1 0) 0 = rw (inner-leaf q l inner) refl in omega (arith, e, z)

  -- so many trees of the day, and what is left
  pub record Forest (k : ℕ) (value : ArcKey → ℕ) : Type 0 where
    pub trees : List Parts
    pub day : Each (IsDayTree g) trees
    pub number : length trees ≡ k
    pub left : ArcKey → ℕ
    pub counts : (a : ArcKey) → value a ≡ left a + arc_count a trees
    pub owes : Owes g listed left []

  pub forest : (k : ℕ) (value : ArcKey → ℕ) → Owes g listed value (copies k (root_of g)) → Forest k value
  forest zero value owes = record { trees = []; day = tt; number = refl; left = value; counts = λ a. omega arith; owes = owes }
  forest (suc k) value owes =
      let t = walk (suc (total value)) value (root_of g) (copies k (root_of g)) (omega arith) owes in
      let f = forest k t.left t.owes in
      record {
        trees = t.tree ∷ f.trees;
        day = (t.at, f.day);
        number = omega (arith, f.number);
        left = f.left;
        counts = λ a. omega (arith, t.counts a, f.counts a, count-append (same_arc a) (arcs 1 t.tree) (arcs_of f.trees));
        owes = f.owes;
      }
