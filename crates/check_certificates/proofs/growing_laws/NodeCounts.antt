-- How many nodes of a growing tree are processed.
use Rattle.std.proofs.Common.{◌≡◌, ℕ, arith, ◌+◌, ◌*◌, Bool, true, false, cond, Option, None, Some, [], ◌∷◌, ◌++◌, refl, sym, subst, ◌∙◌, ◌⊎◌, inl, inr}
use Rattle.std.specs.Prelude.{◌≢◌, nat_eq}
use Rattle.std.proofs.lemmas.Bool.{eqb-true, eq-eqb}
use Rattle.model_rosters.specs.Folds.{count}
use Rattle.model_rosters.proofs.arc_laws.FoldsLemmas.{count-append}
use Rattle.check_certificates.specs.Nodes.{preorder, low_cut, high_cut}
use Rattle.check_certificates.specs.Kinds.{is_processed, is_unpriced}
use Rattle.check_certificates.specs.growing_laws.Grown.{tip, fork, fresh, valued, fixed, Own, raised, leaf_busy, proof_of, put, times, busy, missed, unpriced}
use Rattle.check_certificates.specs.growing_laws.Laws.{PutTimes, PutBusy, PutMissed, GrownCounts}
use Rattle.check_certificates.proofs.growing_laws.GrownLemmas.{told}

pub put-times : PutTimes
put-times j n new (tip k l) = by (told k n) (told j n)
  where
    by : (k ≡ n) × (nat_eq k n ≡ true) ⊎ (k ≢ n) × (nat_eq k n ≡ false) → (j ≡ n) × (nat_eq j n ≡ true) ⊎ (j ≢ n) × (nat_eq j n ≡ false)
        → times j (cond (nat_eq k n) new (tip k l)) + cond (nat_eq j n) (cond (nat_eq k n) 1 0) 0 ≡ cond (nat_eq k j) 1 0 + cond (nat_eq k n) 1 0 * times j new
    by (inl e) (inl f) = let s : nat_eq k j ≡ true = eq-eqb k j (e.0 ∙ sym f.0) in rw (e.1, f.1, s) (omega arith)
    by (inl e) (inr f) = let s : nat_eq k j ≡ false = apart k j (λ h. f.0 (sym h ∙ e.0)) in rw (e.1, f.1, s) (omega arith)
      where
        apart : (x y : ℕ) → (x ≡ y → ⊥) → nat_eq x y ≡ false
        apart x y h = pick (nat_eq x y) refl
          where
            pick : (b : Bool) → nat_eq x y ≡ b → nat_eq x y ≡ false
            pick true q = absurd (h (eqb-true x y q))
            pick false q = q
    by (inr e) (inl f) = let s : nat_eq k j ≡ false = subst (λ (x : ℕ). nat_eq k x ≡ false) (sym f.0) e.1 in rw (e.1, f.1, s) (omega arith)
    by (inr e) (inr f) = rw (e.1, f.1) (omega arith)
put-times j n new (fork k a b own low high) = by (nat_eq j n) (put-times j n new low) (put-times j n new high)
  where
    by : (s : Bool) → times j (put n new low) + cond s (times n low) 0 ≡ times j low + times n low * times j new
        → times j (put n new high) + cond s (times n high) 0 ≡ times j high + times n high * times j new
        → times j (put n new low) + times j (put n new high) + cond s (times n low + times n high) 0 ≡ times j low + times j high + (times n low + times n high) * times j new
    by true p q = omega (arith, p, q)
    by false p q = omega (arith, p, q)

pub put-busy : PutBusy
put-busy n m new above cuts (tip k l) h = by (told k n)
  where
    by : (k ≡ n) × (nat_eq k n ≡ true) ⊎ (k ≢ n) × (nat_eq k n ≡ false) → busy (cond (nat_eq k n) new (tip k l)) + cond (nat_eq k n) 1 0 * m ≡ leaf_busy l + cond (nat_eq k n) 1 0 * busy new
    by (inl e) = let f = h e.0 in rw e.1 (omega (arith, f))
    by (inr e) = rw e.1 (omega arith)
put-busy n m new above cuts (fork k a b own low high) h =
    let p = put-busy n m new (raised above own) (cuts ++ low_cut a b ∷ []) low h.0 in
    let q = put-busy n m new (raised above own) (cuts ++ high_cut a b ∷ []) high h.1 in
    omega (arith, p, q)

pub put-missed : PutMissed
put-missed n new (tip k l) = by (told k n)
  where
    by : (k ≡ n) × (nat_eq k n ≡ true) ⊎ (k ≢ n) × (nat_eq k n ≡ false) → missed (cond (nat_eq k n) new (tip k l)) ≡ 0 + cond (nat_eq k n) 1 0 * missed new
    by (inl e) = rw e.1 (omega arith)
    by (inr e) = rw e.1 (omega arith)
put-missed n new (fork k a b own low high) =
    let p = put-missed n new low in
    let q = put-missed n new high in
    omega (arith, p, q)

pub grown-counts : GrownCounts
grown-counts (tip k fresh) = (refl, refl)
grown-counts (tip k (valued o)) = (refl, refl)
grown-counts (tip k (fixed v)) = (refl, refl)
grown-counts (fork k a b own low high) = by own (grown-counts low) (grown-counts high)
  where
    by : (own : Option Own) → (count is_processed (preorder (proof_of low)) ≡ busy low) × (count is_unpriced (preorder (proof_of low)) ≡ missed low)
        → (count is_processed (preorder (proof_of high)) ≡ busy high) × (count is_unpriced (preorder (proof_of high)) ≡ missed high)
        → (count is_processed (preorder (proof_of (fork k a b own low high))) ≡ 1 + busy low + busy high) × (count is_unpriced (preorder (proof_of (fork k a b own low high))) ≡ unpriced own + missed low + missed high)
    by None p q =
        let x = count-append is_processed (preorder (proof_of low)) (preorder (proof_of high)) in
        let y = count-append is_unpriced (preorder (proof_of low)) (preorder (proof_of high)) in
        (omega (arith, x, p.0, q.0), omega (arith, y, p.1, q.1))
    by (Some o) p q =
        let x = count-append is_processed (preorder (proof_of low)) (preorder (proof_of high)) in
        let y = count-append is_unpriced (preorder (proof_of low)) (preorder (proof_of high)) in
        (omega (arith, x, p.0, q.0), omega (arith, y, p.1, q.1))
