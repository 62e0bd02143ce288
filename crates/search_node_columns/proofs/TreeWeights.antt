-- The weights of trees among those of basic columns.
use Rattle.std.proofs.Common.{◌≡◌, ℕ, ℤ, zero, suc, arith, pos, ◌<ℤ◌, ◌*ℤ◌, ◌+◌, ◌<◌, List, [], ◌∷◌, ◌++◌, length, drop, get_or, refl, sym, ap, ◌∙◌, subst, append-nil, append_assoc, Some}
use Rattle.std.specs.Prelude.{slice_get}
use Rattle.std.proofs.lemmas.Int.{ints}
use Rattle.std.proofs.lemmas.Option.{same_Some}
use lib.IntN.{*ℤ_comm}
use Rattle.model_rosters.specs.Trees.{Parts}
use Rattle.std.proofs.Math.Seq.{drop-cons}
use Rattle.model_rosters.specs.declared.grammar.Grammar.{Grammar}
use Rattle.law_bounds.specs.linear_programs.Solution.{Weighted}
use Rattle.law_bounds.proofs.linear_programs.Ring.{mul_pos, zero_factor}
use Rattle.law_bounds.specs.master_laws.Master.{MasterKey, missing, beyond, tree}
use Rattle.law_bounds.specs.master_laws.Ends.{tree_first, tree_weights}
use Rattle.lp_tableaus.specs.declared.simplex.Basic.{Basic}
use Rattle.lp_tableaus.specs.Ends.{IsBasicWeight, AreBasicWeights}
use Rattle.tree_pool.specs.Pools.{PoolTree}
use Rattle.search_node_columns.specs.declared.workspace.Kind.{Kind}
use Rattle.search_node_columns.specs.declared.workspace.Kind.TheVariants.{Missing, Beyond, OfTree}
use Rattle.search_node_columns.specs.declared.workspace.Held.{Held}
use Rattle.search_node_columns.specs.declared.weights.Weight.{Weight}
use Rattle.search_node_columns.specs.Columns.{HasKey, IsKey}
use Rattle.search_node_columns.specs.Weights.{AreWeights, IsLeftOut, IsTaken}

-- some of the trees' weights are found, and the others are those of the basic columns that are left
pub record IsSplit (g : Grammar) (pool : List PoolTree) (held : List Held) (d : ℕ) (left : List Basic) (found : List Weight) (ws : List (Weighted MasterKey)) : Type 0 where
  pub front : List (Weighted MasterKey)
  pub back : List (Weighted MasterKey)
  pub all : tree_weights ws ≡ front ++ tree_weights back
  pub are : AreWeights g pool d found front
  pub rest : AreBasicWeights (HasKey g pool held) d left back

-- ---- one weight
left_zero : (key : MasterKey) (n : ℕ) (ws : List (Weighted MasterKey)) → n ≡ 0 → tree_first key n ws ≡ ws
left_zero (missing r) n ws e = refl
left_zero (beyond r) n ws e = refl
left_zero (tree t) zero ws e = refl
left_zero (tree t) (suc n) ws e = absurd (omega arith)

taken_first : (key : MasterKey) (n : ℕ) (t : Parts) (ws : List (Weighted MasterKey)) → key ≡ tree t → 0 < n → tree_first key n ws ≡ record { weight = n; key = key } ∷ ws
taken_first key zero t ws e h = absurd (omega arith)
taken_first key (suc n) t ws e h =
    ap (λ (k : MasterKey). tree_first k (suc n) ws) e ∙ ap (λ (k : MasterKey). record { weight = suc n; key = k } ∷ ws) (sym e)

no_weight : (num den : ℤ) (d n : ℕ) → num ≡ pos 0 → pos 0 <ℤ den → num *ℤ pos d ≡ pos n *ℤ den → n ≡ 0
no_weight num den d zero z p e = refl
no_weight num den d (suc n) z p e =
    let m = mul_pos (pos (suc n)) den (omega (arith, ints)) p in
    let f = rw z at e in
    absurd (omega (arith, ints))

some_weight : (num den : ℤ) (d n : ℕ) → (num ≡ pos 0 → ⊥) → 0 < d → num *ℤ pos d ≡ pos n *ℤ den → 0 < n
some_weight num den d (suc n) z p e = omega arith
some_weight num den d zero z p e =
    let f : pos d *ℤ num ≡ pos 0 = *ℤ_comm (pos d) num ∙ e ∙ omega (arith, ints) in
    absurd (z (zero_factor (pos d) num (omega (arith, ints)) f))

pub left_out : (g : Grammar) (pool : List PoolTree) (held : List Held) (d : ℕ) (b : Basic) (w : Weighted MasterKey) → b.x.num ≡ pos 0 → pos 0 <ℤ b.x.den
    → IsBasicWeight (HasKey g pool held) d b w → IsLeftOut w
left_out g pool held d b w none positive is = λ ws. left_zero w.key w.weight ws (no_weight b.x.num b.x.den d w.weight none positive is.share)

pub no_tree : (g : Grammar) (pool : List PoolTree) (held : List Held) (d : ℕ) (b : Basic) (w : Weighted MasterKey) (one : Held) → slice_get held b.col ≡ Some one
    → ((j : ℕ) → one.kind ≡ OfTree j → ⊥) → IsBasicWeight (HasKey g pool held) d b w → IsLeftOut w
no_tree g pool held d b w one at none is =
    let k = is.column in
    let same : k.one ≡ one = same_Some k.one one (sym k.at ∙ at) in
    λ ws. by one.kind refl (subst (λ (h : Held). IsKey g pool h.kind w.key) same k.key) ws
  where
    by : (kind : Kind) → one.kind ≡ kind → IsKey g pool kind w.key → (ws : List (Weighted MasterKey)) → tree_first w.key w.weight ws ≡ ws
    by (Missing r) e key ws = ap (λ (x : MasterKey). tree_first x w.weight ws) key
    by (Beyond r) e key ws = ap (λ (x : MasterKey). tree_first x w.weight ws) key
    by (OfTree j) e key ws = absurd (none j e)

pub taken : (g : Grammar) (pool : List PoolTree) (held : List Held) (d : ℕ) (b : Basic) (w : Weighted MasterKey) (one : Held) (j : ℕ) → 0 < d → slice_get held b.col ≡ Some one
    → one.kind ≡ OfTree j → (b.x.num ≡ pos 0 → ⊥) → IsBasicWeight (HasKey g pool held) d b w → IsTaken g pool d record { column = j; x = b.x } w
taken g pool held d b w one j some at kind num is =
    let k = is.column in
    let same : k.one ≡ one = same_Some k.one one (sym k.at ∙ at) in
    let key : IsKey g pool (OfTree j) w.key = subst (λ (x : Kind). IsKey g pool x w.key) kind (subst (λ (h : Held). IsKey g pool h.kind w.key) same k.key) in
    let positive = some_weight b.x.num b.x.den d w.weight num some is.share in
    record {
      first = λ ws. taken_first w.key w.weight key.2 ws key.4 positive;
      is = record { held = key.0; column = key.1; some = key.2; is = key.3; key = key.4; share = sym is.share; positive = positive };
    }

module _ (g : Grammar) (pool : List PoolTree) (held : List Held) (d : ℕ) (ws : List (Weighted MasterKey)) where
  pub split_first : (basic : List Basic) → AreBasicWeights (HasKey g pool held) d basic ws → IsSplit g pool held d basic [] ws
  split_first basic h = record { front = []; back = ws; all = refl; are = tt; rest = h }

  are_push : (xs : List Weight) (fs : List (Weighted MasterKey)) (x : Weight) (w : Weighted MasterKey) → AreWeights g pool d xs fs → IsTaken g pool d x w
      → AreWeights g pool d (xs ++ x ∷ []) (fs ++ w ∷ [])
  are_push [] [] x w h t = (t.is, tt)
  are_push [] (f ∷ fs) x w h t = absurd h
  are_push (y ∷ xs) [] x w h t = absurd h
  are_push (y ∷ xs) (f ∷ fs) x w h t = (h.0, are_push xs fs x w h.1 t)

  cons_split : (basic : List Basic) (k : ℕ) (one : Basic) → k < length basic → get_or basic k one ≡ one → drop k basic ≡ one ∷ drop (k + 1) basic
  cons_split basic k one l e =
      let n : suc k ≡ k + 1 = omega arith in
      drop-cons basic k one l ∙ ap (λ (b : Basic). b ∷ drop (suc k) basic) e ∙ ap (λ (m : ℕ). one ∷ drop m basic) n

  -- one basic column more: its weight is a tree's and above 0
  pub split_taken : (basic : List Basic) (k : ℕ) (one : Basic) (found : List Weight) (x : Weight) → k < length basic → get_or basic k one ≡ one
      → ((w : Weighted MasterKey) → IsBasicWeight (HasKey g pool held) d one w → IsTaken g pool d x w)
      → IsSplit g pool held d (drop k basic) found ws → IsSplit g pool held d (drop (k + 1) basic) (found ++ x ∷ []) ws
  split_taken basic k one found x l e taken s =
      by s.back s.all (subst (λ (bs : List Basic). AreBasicWeights (HasKey g pool held) d bs s.back) (cons_split basic k one l e) s.rest)
    where
      by : (back : List (Weighted MasterKey)) → tree_weights ws ≡ s.front ++ tree_weights back → AreBasicWeights (HasKey g pool held) d (one ∷ drop (k + 1) basic) back
          → IsSplit g pool held d (drop (k + 1) basic) (found ++ x ∷ []) ws
      by [] all rest = absurd rest
      by (w ∷ back) all rest =
          let t = taken w rest.0 in
          record {
            front = s.front ++ w ∷ [];
            back = back;
            all = all ∙ ap (λ (vs : List (Weighted MasterKey)). s.front ++ vs) (t.first (tree_weights back)) ∙ sym (append_assoc s.front (w ∷ []) (tree_weights back));
            are = are_push found s.front x w s.are t;
            rest = rest.1;
          }

  -- one basic column more: its weight is left out
  pub split_left : (basic : List Basic) (k : ℕ) (one : Basic) (found : List Weight) → k < length basic → get_or basic k one ≡ one
      → ((w : Weighted MasterKey) → IsBasicWeight (HasKey g pool held) d one w → IsLeftOut w)
      → IsSplit g pool held d (drop k basic) found ws → IsSplit g pool held d (drop (k + 1) basic) found ws
  split_left basic k one found l e out s =
      by s.back s.all (subst (λ (bs : List Basic). AreBasicWeights (HasKey g pool held) d bs s.back) (cons_split basic k one l e) s.rest)
    where
      by : (back : List (Weighted MasterKey)) → tree_weights ws ≡ s.front ++ tree_weights back → AreBasicWeights (HasKey g pool held) d (one ∷ drop (k + 1) basic) back
          → IsSplit g pool held d (drop (k + 1) basic) found ws
      by [] all rest = absurd rest
      by (w ∷ back) all rest = record {
        front = s.front;
        back = back;
        all = all ∙ ap (λ (vs : List (Weighted MasterKey)). s.front ++ vs) (out w rest.0 (tree_weights back));
        are = s.are;
        rest = rest.1;
      }

  -- at the end all are found
  pub split_last : (left : List Basic) (found : List Weight) → left ≡ [] → IsSplit g pool held d left found ws → AreWeights g pool d found (tree_weights ws)
  split_last left found e s = by s.back s.all (subst (λ (bs : List Basic). AreBasicWeights (HasKey g pool held) d bs s.back) e s.rest)
    where
      by : (back : List (Weighted MasterKey)) → tree_weights ws ≡ s.front ++ tree_weights back → AreBasicWeights (HasKey g pool held) d [] back → AreWeights g pool d found (tree_weights ws)
      by [] all rest = subst (λ (vs : List (Weighted MasterKey)). AreWeights g pool d found vs) (sym (all ∙ append-nil s.front)) s.are
      by (w ∷ back) all rest = absurd rest
