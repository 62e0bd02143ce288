-- What the rows of a master say of the weights of arcs.
use Rattle.std.proofs.Common.{true≢false, ◌≡◌, ℕ, zero, suc, arith, ◌+◌, ◌*◌, ◌≤◌, ◌<◌, Bool, true, false, cond, List, [], ◌∷◌, length, refl, sym, ap, ◌∙◌, subst, ◌⊎◌, inl, inr, min, max}
use Rattle.std.specs.Prelude.{nat_eq}
use Rattle.std.proofs.lemmas.Bool.{eqb-true, eq-eqb}
use Rattle.model_rosters.specs.declared.grammar.ArcKey.{ArcKey}
use Rattle.model_rosters.specs.declared.instance.Cut.{Cut}
use Rattle.model_rosters.specs.declared.instance.Instance.{Instance}
use Rattle.model_rosters.specs.declared.instance.Side.{Side}
use Rattle.model_rosters.specs.declared.instance.Side.TheVariants.{Low, High}
use Rattle.model_rosters.specs.Trees.{Parts}
use Rattle.model_rosters.specs.Folds.{sum_n, Each}
use Rattle.model_rosters.specs.Arcs.{same_arc}
use Rattle.model_rosters.specs.Cuts.{at_least as least_on, at_most as most_on, lo, hi}
use Rattle.model_rosters.specs.SoundInstance.{IsSoundInstance}
use Rattle.model_rosters.proofs.EachLemmas.{Each-right}
use Rattle.model_rosters.proofs.arc_laws.SameArc.{Told, arc_tells}
use Rattle.model_rosters.proofs.arc_laws.Totals.{arc_count-le}
use Rattle.law_bounds.specs.BestPrices.{artificial_cost}
use Rattle.law_bounds.specs.linear_programs.Solution.{Weighted, IsSolution, Uses}
use Rattle.law_bounds.specs.master_laws.Rows.{at_least, at_most, Row, rows_of, most_row, side_row, cut_row, cell_rows, floor_rows, ceiling_rows, tree_arcs}
use Rattle.law_bounds.specs.master_laws.Master.{MasterKey, missing, beyond, tree, master}
use Rattle.law_bounds.specs.master_laws.Sharp.{UsesArtificial, arc_weight}
use Rattle.law_bounds.proofs.master_laws.Copies.{IsRow, copies, copies_day, copies_arcs, sum_arcs, sum_ones, each_row, most_kept, least_kept, artificial_at}
use Rattle.law_bounds.proofs.master_laws.WholeCountsLemmas.{each_cut_row}

row_of : MasterKey → ℕ
row_of (missing r) = r
row_of (beyond r) = r
row_of (tree t) = 0

is_missing : MasterKey → Bool
is_missing (missing r) = true
is_missing (beyond r) = false
is_missing (tree t) = false

-- the row's first column is used, or it is not
uses_is : (ws : List (Weighted MasterKey)) (r : ℕ) → Uses ws (missing r) ⊎ (Uses ws (missing r) → ⊥)
unfolding row_of is_missing
uses_is [] r = inr (λ h. h)
uses_is (w ∷ ws) r = by (uses_is ws r)
  where
    other : (Uses ws (missing r) → ⊥) → (w.key ≡ missing r → 0 < w.weight → ⊥) → Uses (w ∷ ws) (missing r) → ⊥
    other none first (inl e) = first e.0 e.1
    other none first (inr u) = none u

    here : (Uses ws (missing r) → ⊥) → (key : MasterKey) → w.key ≡ key → (n : ℕ) → w.weight ≡ n → Uses (w ∷ ws) (missing r) ⊎ (Uses (w ∷ ws) (missing r) → ⊥)
    here none key k zero n = inr (other none (λ e p. absurd (omega arith)))
    here none (beyond s) k (suc m) n = inr (other none (λ e p. true≢false (sym (ap is_missing (sym k ∙ e)))))
    here none (tree t) k (suc m) n = inr (other none (λ e p. true≢false (sym (ap is_missing (sym k ∙ e)))))
    here none (missing s) k (suc m) n = same (nat_eq s r) refl
      where
        same : (b : Bool) → nat_eq s r ≡ b → Uses (w ∷ ws) (missing r) ⊎ (Uses (w ∷ ws) (missing r) → ⊥)
        same true e = inl (inl (k ∙ ap missing (eqb-true s r e), omega arith))
        same false e = inr (other none (λ f p. true≢false (sym (eq-eqb s r (ap row_of (sym k ∙ f))) ∙ e)))

    by : Uses ws (missing r) ⊎ (Uses ws (missing r) → ⊥) → Uses (w ∷ ws) (missing r) ⊎ (Uses (w ∷ ws) (missing r) → ⊥)
    by (inl u) = inl (inr u)
    by (inr none) = here none w.key refl w.weight refl

heads_rows : (P : Row → Type 0) (i : Instance) (cuts : List Cut) → Each P (rows_of i cuts) → P (most_row i.heads_max) × Each (λ (c : Cut). P (cut_row c)) cuts
heads_rows P i cuts h =
    let a = Each-right P (cell_rows i.cells) _ h in
    let b = Each-right P (floor_rows i.cells) _ a in
    let c = Each-right P (ceiling_rows i.cells) _ b in
    (c.1.0, each_cut_row P cuts c.1.1)

module _ (i : Instance) (cuts : List Cut) (ws : List (Weighted MasterKey)) (q : ℕ) (solution : IsSolution (master i cuts) ws q) where
  abbrev us : List Parts
  us = copies ws

  KeepsMost : Row → Type 0
  KeepsMost x = x.sense ≡ at_most → sum_n x.brings us ≤ q * x.right

  KeepsLeast : Row → Type 0
  KeepsLeast x = x.sense ≡ at_least → UsesArtificial i cuts ws ⊎ (q * x.right ≤ sum_n x.brings us)

  keep_most : KeepsMost (most_row i.heads_max) × Each (λ (c : Cut). KeepsMost (cut_row c)) cuts
  unfolding KeepsMost
  keep_most = heads_rows KeepsMost i cuts (each_row KeepsMost (rows_of i cuts) (λ r x l is. λ e. most_kept i (artificial_cost i) (rows_of i cuts) r x is e ws q solution.columns (solution.meets r l)))

  keep_least : KeepsLeast (most_row i.heads_max) × Each (λ (c : Cut). KeepsLeast (cut_row c)) cuts
  unfolding KeepsLeast
  keep_least = heads_rows KeepsLeast i cuts (each_row KeepsLeast (rows_of i cuts) (λ r x l is. λ e. by r x is e l (uses_is ws r)))
    where
      by : (r : ℕ) (x : Row) → IsRow (rows_of i cuts) r x → x.sense ≡ at_least → r < length (rows_of i cuts) → Uses ws (missing r) ⊎ (Uses ws (missing r) → ⊥) → UsesArtificial i cuts ws ⊎ (q * x.right ≤ sum_n x.brings us)
      by r x is e l (inl u) = inl (r, artificial_at i (artificial_cost i) (rows_of i cuts) r x is e, u)
      by r x is e l (inr none) = inr (least_kept i (artificial_cost i) (rows_of i cuts) r x is e ws q none (solution.meets r l))

  -- the trees weigh at most as many as the heads
  pub heads_few : length us ≤ q * i.heads_max
  unfolding KeepsMost
  heads_few = let a = keep_most.0 refl in let b = sum_ones us in omega (arith, a, b)

  arc_is : (a : ArcKey) → sum_n (tree_arcs a) us ≡ arc_weight a ws
  arc_is a = sum_arcs a us ∙ copies_arcs a ws

  -- and with an arc as many as the cuts let
  pub weight_few : IsSoundInstance i → (a : ArcKey) → arc_weight a ws ≤ q * hi i.heads_max cuts a
  unfolding KeepsMost
  weight_few sound a = at cuts keep_most.1
    where
      first : arc_weight a ws ≤ q * i.heads_max
      first = omega (arith, copies_arcs a ws, arc_count-le i.grammar sound.grammar us a (copies_day i (rows_of i cuts) ws solution.columns), heads_few)

      lesser : (b h n : ℕ) → n ≤ q * b → n ≤ q * h → n ≤ q * min b h
      lesser b h n l m = pick (either b h)
        where
          either : (b h : ℕ) → (b ≤ h) ⊎ (h ≤ b)
          either b h = grind arith

          pick : (b ≤ h) ⊎ (h ≤ b) → n ≤ q * min b h
          pick (inl k) = let e : min b h ≡ b = omega arith in rw e l
          pick (inr k) = let e : min b h ≡ h = omega arith in rw e m

      at : (cs : List Cut) → Each (λ (c : Cut). KeepsMost (cut_row c)) cs → arc_weight a ws ≤ q * hi i.heads_max cs a
      at [] h = first
      at (c ∷ cs) h = by c.side c.b c.arc h.0 (arc_tells c.arc a) (at cs h.1)
        where
          by : (s : Side) (b : ℕ) (x : ArcKey) → KeepsMost (side_row s b x) → Told x a → arc_weight a ws ≤ q * hi i.heads_max cs a
              → arc_weight a ws ≤ q * cond (same_arc x a) (most_on s b (hi i.heads_max cs a)) (hi i.heads_max cs a)
          by s b x k (inr t) ih = rw t.0 ih
          by High b x k (inl t) ih = rw t.0 ih
          by Low b x k (inl t) ih =
              let l : arc_weight a ws ≤ q * b = subst (λ (y : ArcKey). arc_weight y ws ≤ q * b) t.2 (omega (arith, arc_is x, k refl)) in
              rw t.0 (lesser b (hi i.heads_max cs a) (arc_weight a ws) l ih)

  -- and as many as the cuts want, unless an artificial column is used
  pub weight_enough : (a : ArcKey) → UsesArtificial i cuts ws ⊎ (q * lo cuts a ≤ arc_weight a ws)
  unfolding KeepsLeast
  weight_enough a = at cuts keep_least.1
    where
      greater : (b h n : ℕ) → q * b ≤ n → q * h ≤ n → q * max b h ≤ n
      greater b h n l m = pick (either b h)
        where
          either : (b h : ℕ) → (b ≤ h) ⊎ (h ≤ b)
          either b h = grind arith

          pick : (b ≤ h) ⊎ (h ≤ b) → q * max b h ≤ n
          pick (inl k) = let e : max b h ≡ h = omega arith in rw e m
          pick (inr k) = let e : max b h ≡ b = omega arith in rw e l

      at : (cs : List Cut) → Each (λ (c : Cut). KeepsLeast (cut_row c)) cs → UsesArtificial i cuts ws ⊎ (q * lo cs a ≤ arc_weight a ws)
      at [] h = inr (omega arith)
      at (c ∷ cs) h = by c.side c.b c.arc h.0 (arc_tells c.arc a) (at cs h.1)
        where
          more : (s : Side) (b : ℕ) (x : ArcKey) → KeepsLeast (side_row s b x) → Told x a → q * lo cs a ≤ arc_weight a ws
              → UsesArtificial i cuts ws ⊎ (q * max (cond (same_arc x a) (least_on s b) 0) (lo cs a) ≤ arc_weight a ws)
          more s b x k (inr t) ih = inr (rw t.0 (greater 0 (lo cs a) (arc_weight a ws) (omega arith) ih))
          more Low b x k (inl t) ih = inr (rw t.0 (greater 0 (lo cs a) (arc_weight a ws) (omega arith) ih))
          more High b x k (inl t) ih = own (k refl)
            where
              own : UsesArtificial i cuts ws ⊎ (q * (b + 1) ≤ sum_n (tree_arcs x) us) → UsesArtificial i cuts ws ⊎ (q * max (cond (same_arc x a) (b + 1) 0) (lo cs a) ≤ arc_weight a ws)
              own (inl u) = inl u
              own (inr l) =
                  let l' : q * (b + 1) ≤ arc_weight a ws = subst (λ (y : ArcKey). q * (b + 1) ≤ arc_weight y ws) t.2 (omega (arith, arc_is x, l)) in
                  inr (rw t.0 (greater (b + 1) (lo cs a) (arc_weight a ws) l' ih))

          by : (s : Side) (b : ℕ) (x : ArcKey) → KeepsLeast (side_row s b x) → Told x a → UsesArtificial i cuts ws ⊎ (q * lo cs a ≤ arc_weight a ws)
              → UsesArtificial i cuts ws ⊎ (q * max (cond (same_arc x a) (least_on s b) 0) (lo cs a) ≤ arc_weight a ws)
          by s b x k t (inl u) = inl u
          by s b x k t (inr ih) = more s b x k t ih
