-- The one leaf of a number, and what stands in its place.
use Rattle.std.proofs.Common.{◌≡◌, ℕ, zero, suc, arith, ◌+◌, ◌*◌, ◌≤◌, Bool, true, false, cond, None, Some, List, [], ◌∷◌, ◌++◌, length, refl, sym, subst, ◌⊎◌, inl, inr}
use Rattle.std.specs.Prelude.{◌≢◌, nat_eq}
use Rattle.std.proofs.lemmas.Bool.{eq-eqb}
use Rattle.std.proofs.lemmas.List.{length-append}
use Rattle.model_rosters.specs.declared.instance.Cut.{Cut}
use Rattle.model_rosters.specs.Folds.{count, Each}
use Rattle.model_rosters.proofs.EachLemmas.{Each-append, each_parts}
use Rattle.model_rosters.proofs.arc_laws.FoldsLemmas.{count-append}
use Rattle.check_certificates.specs.Nodes.{low_cut, high_cut, Visit, visits}
use Rattle.check_certificates.specs.growing_laws.Grown.{Grown, tip, fork, Leaf, fresh, valued, fixed, OnTips, raised, leaf_proof, proof_of, numbers, put, times, busy, missed}
use Rattle.check_certificates.specs.growing_laws.Opens.{Entry, opens}
use Rattle.check_certificates.specs.growing_laws.Seats.{AtLeaf, IsUnsplit}
use Rattle.check_certificates.proofs.growing_laws.GrownLemmas.{TipFact, told}
use Rattle.search_tree.specs.Views.{IsLeafAt}

pub is-one : (k n : ℕ) → k ≡ n → ◌≡◌ {A = ℕ} (cond (nat_eq k n) 1 0) 1
is-one k n e = rw (eq-eqb k n e) refl

pub is-none : (k n : ℕ) → k ≢ n → ◌≡◌ {A = ℕ} (cond (nat_eq k n) 1 0) 0
is-none k n ne = by (told k n)
  where
    by : (k ≡ n) × (nat_eq k n ≡ true) ⊎ (k ≢ n) × (nat_eq k n ≡ false) → ◌≡◌ {A = ℕ} (cond (nat_eq k n) 1 0) 0
    by (inl h) = absurd (ne h.0)
    by (inr h) = rw h.1 refl

pub leaf-times : (above : ℕ) (cuts : List Cut) (t : Grown) (n up : ℕ) (path : List Cut) (l : Leaf) → IsLeafAt above cuts t n up path l → 1 ≤ times n t
leaf-times above cuts (tip k x) n up path l h = let e = is-one k n h.0 in omega (arith, e)
leaf-times above cuts (fork k a b own low high) n up path l (inl h) = let g = leaf-times (raised above own) (cuts ++ low_cut a b ∷ []) low n up path l h in omega (arith, g)
leaf-times above cuts (fork k a b own low high) n up path l (inr h) = let g = leaf-times (raised above own) (cuts ++ high_cut a b ∷ []) high n up path l h in omega (arith, g)

-- a fact of a leaf, at the leaf that is found
there : (P : TipFact) (above k n up : ℕ) (cuts path : List Cut) (x l : Leaf) → (k ≡ n) × (above ≡ up) × (cuts ≡ path) × (x ≡ l) → P above cuts k x → P up path n l
there P above k n up cuts path x l e h =
    subst (λ (y : Leaf). P up path n y) e.3 (subst (λ (p : List Cut). P up p n x) e.2 (subst (λ (u : ℕ). P u cuts n x) e.1 (subst (λ (j : ℕ). P above cuts j x) e.0 h)))

back : (P : TipFact) (above k n up : ℕ) (cuts path : List Cut) (x l : Leaf) → (k ≡ n) × (above ≡ up) × (cuts ≡ path) × (x ≡ l) → P up path n l → P above cuts k x
back P above k n up cuts path x l e h = there P up n k above path cuts l x (sym e.0, sym e.1, sym e.2, sym e.3) h

pub at-leaf : (P : TipFact) (above : ℕ) (cuts : List Cut) (t : Grown) (n up : ℕ) (path : List Cut) (l : Leaf) → OnTips P above cuts t → IsLeafAt above cuts t n up path l → P up path n l
at-leaf P above cuts (tip k x) n up path l h e = there P above k n up cuts path x l e h
at-leaf P above cuts (fork k a b own low high) n up path l h (inl g) = at-leaf P (raised above own) (cuts ++ low_cut a b ∷ []) low n up path l h.0 g
at-leaf P above cuts (fork k a b own low high) n up path l h (inr g) = at-leaf P (raised above own) (cuts ++ high_cut a b ∷ []) high n up path l h.1 g

-- no leaf has the number
pub no-tips : (P : TipFact) (n above : ℕ) (cuts : List Cut) (t : Grown) → times n t ≡ 0 → OnTips (λ up path k l. k ≡ n → P up path k l) above cuts t
no-tips P n above cuts (tip k x) none = λ e. let s = is-one k n e in absurd (omega (arith, s, none))
no-tips P n above cuts (fork k a b own low high) none =
    (no-tips P n (raised above own) (cuts ++ low_cut a b ∷ []) low (omega (arith, none)), no-tips P n (raised above own) (cuts ++ high_cut a b ∷ []) high (omega (arith, none)))

pub only-tips : (P : TipFact) (above : ℕ) (cuts : List Cut) (t : Grown) (n up : ℕ) (path : List Cut) (l : Leaf) → IsLeafAt above cuts t n up path l → times n t ≡ 1 → P up path n l
    → OnTips (λ up path k l. k ≡ n → P up path k l) above cuts t
only-tips P above cuts (tip k x) n up path l e one h = λ same. back P above k n up cuts path x l e h
only-tips P above cuts (fork k a b own low high) n up path l (inl g) one h =
    let m = leaf-times (raised above own) (cuts ++ low_cut a b ∷ []) low n up path l g in
    (only-tips P (raised above own) (cuts ++ low_cut a b ∷ []) low n up path l g (omega (arith, m, one)) h, no-tips P n (raised above own) (cuts ++ high_cut a b ∷ []) high (omega (arith, m, one)))
only-tips P above cuts (fork k a b own low high) n up path l (inr g) one h =
    let m = leaf-times (raised above own) (cuts ++ high_cut a b ∷ []) high n up path l g in
    (no-tips P n (raised above own) (cuts ++ low_cut a b ∷ []) low (omega (arith, m, one)), only-tips P (raised above own) (cuts ++ high_cut a b ∷ []) high n up path l g (omega (arith, m, one)) h)

-- the same for what speaks of the prices above alone
tips-leaf : (P : ℕ → Type 0) (n above : ℕ) (cuts : List Cut) (t : Grown) → OnTips (λ up path k l. k ≡ n → P up) above cuts t → AtLeaf P n above t
tips-leaf P n above cuts (tip k x) h = h
tips-leaf P n above cuts (fork k a b own low high) h = (tips-leaf P n (raised above own) (cuts ++ low_cut a b ∷ []) low h.0, tips-leaf P n (raised above own) (cuts ++ high_cut a b ∷ []) high h.1)

pub only-leaf : (P : ℕ → Type 0) (above : ℕ) (cuts : List Cut) (t : Grown) (n up : ℕ) (path : List Cut) (l : Leaf) → IsLeafAt above cuts t n up path l → times n t ≡ 1 → P up → AtLeaf P n above t
only-leaf P above cuts t n up path l e one h = tips-leaf P n above cuts t (only-tips (λ up path k l. P up) above cuts t n up path l e one h)

pub put-length : (n : ℕ) (new t : Grown) → length (numbers (put n new t)) + times n t ≡ length (numbers t) + times n t * length (numbers new)
put-length n new (tip k l) = by (told k n)
  where
    by : (k ≡ n) × (nat_eq k n ≡ true) ⊎ (k ≢ n) × (nat_eq k n ≡ false) → length (numbers (cond (nat_eq k n) new (tip k l))) + cond (nat_eq k n) 1 0 ≡ length (k ∷ []) + cond (nat_eq k n) 1 0 * length (numbers new)
    by (inl h) = rw h.1 (omega arith)
    by (inr h) = rw h.1 (omega arith)
put-length n new (fork k a b own low high) =
    let p = put-length n new low in
    let q = put-length n new high in
    let x = length-append (numbers (put n new low)) (numbers (put n new high)) in
    let y = length-append (numbers low) (numbers high) in
    omega (arith, p, q, x, y)

pub put-each : (P : ℕ → Type 0) (n : ℕ) (new t : Grown) → Each P (numbers new) → Each P (numbers t) → Each P (numbers (put n new t))
put-each P n new (tip k l) h g = by (told k n)
  where
    by : (k ≡ n) × (nat_eq k n ≡ true) ⊎ (k ≢ n) × (nat_eq k n ≡ false) → Each P (numbers (cond (nat_eq k n) new (tip k l)))
    by (inl e) = rw e.1 h
    by (inr e) = rw e.1 g
put-each P n new (fork k a b own low high) h g =
    let r = each_parts P (numbers low) (numbers high) g.1 in
    (g.0, Each-append P (numbers (put n new low)) (numbers (put n new high)) (put-each P n new low h r.0) (put-each P n new high h r.1))

-- a number that stands nowhere, and one that stands once
unsplit-none : (n : ℕ) (t : Grown) → count (nat_eq n) (numbers t) ≡ 0 → IsUnsplit n t
unsplit-none n (tip k l) h = tt
unsplit-none n (fork k a b own low high) h =
    let e = count-append (nat_eq n) (numbers low) (numbers high) in
    (λ same. let s = is-one n k (sym same) in absurd (omega (arith, s, h, e)), unsplit-none n low (omega (arith, h, e)), unsplit-none n high (omega (arith, h, e)))

times-count : (n : ℕ) (t : Grown) → times n t ≤ count (nat_eq n) (numbers t)
times-count n (tip k l) = by (told k n)
  where
    by : (k ≡ n) × (nat_eq k n ≡ true) ⊎ (k ≢ n) × (nat_eq k n ≡ false) → cond (nat_eq k n) 1 0 ≤ cond (nat_eq n k) 1 0 + 0
    by (inl h) = let s = is-one n k (sym h.0) in let z = is-one k n h.0 in omega (arith, s, z)
    by (inr h) = let z = is-none k n h.0 in omega (arith, z)
times-count n (fork k a b own low high) =
    let p = times-count n low in
    let q = times-count n high in
    let e = count-append (nat_eq n) (numbers low) (numbers high) in
    omega (arith, p, q, e)

pub unsplit-once : (n : ℕ) (t : Grown) → count (nat_eq n) (numbers t) ≤ 1 → 1 ≤ times n t → IsUnsplit n t
unsplit-once n (tip k l) h one = tt
unsplit-once n (fork k a b own low high) h one = by (times n low) refl (λ f g. unsplit-once n low f g) (λ f g. unsplit-once n high f g)
  where
    e : count (nat_eq n) (numbers low ++ numbers high) ≡ count (nat_eq n) (numbers low) + count (nat_eq n) (numbers high)
    e = count-append (nat_eq n) (numbers low) (numbers high)

    apart : k ≢ n
    apart same = let s = is-one n k (sym same) in let p = times-count n low in let q = times-count n high in let c = e in omega (arith, s, h, c, p, q, one)

    by : (m : ℕ) → times n low ≡ m → (count (nat_eq n) (numbers low) ≤ 1 → 1 ≤ times n low → IsUnsplit n low) → (count (nat_eq n) (numbers high) ≤ 1 → 1 ≤ times n high → IsUnsplit n high)
        → (k ≢ n) × IsUnsplit n low × IsUnsplit n high
    by zero z f g =
        let q = times-count n high in
        let c = e in
        (apart, unsplit-none n low (omega (arith, h, c, q, z, one)), g (omega (arith, h, c)) (omega (arith, z, one)))
    by (suc m) z f g =
        let p = times-count n low in
        let c = e in
        (apart, f (omega (arith, h, c)) (omega (arith, z)), unsplit-none n high (omega (arith, h, c, p, z)))

-- how many visits pass a test once a tree stands in place of a leaf
pub put-visits : (q : Visit → Bool) (n m r above : ℕ) (cuts : List Cut) (new t : Grown)
    → OnTips (λ up path k l. k ≡ n → (count q (visits path (proof_of new)) ≡ m) × (count q (visits path (leaf_proof l)) ≡ r)) above cuts t
    → count q (visits cuts (proof_of (put n new t))) + times n t * r ≡ count q (visits cuts (proof_of t)) + times n t * m
put-visits q n m r above cuts new (tip k l) h = by (told k n)
  where
    by : (k ≡ n) × (nat_eq k n ≡ true) ⊎ (k ≢ n) × (nat_eq k n ≡ false)
        → count q (visits cuts (proof_of (cond (nat_eq k n) new (tip k l)))) + cond (nat_eq k n) 1 0 * r ≡ count q (visits cuts (leaf_proof l)) + cond (nat_eq k n) 1 0 * m
    by (inl e) = let f = h e.0 in rw e.1 (omega (arith, f.0, f.1))
    by (inr e) = rw e.1 (omega arith)
put-visits q n m r above cuts new (fork k a b own low high) h =
    let x = put-visits q n m r (raised above own) (cuts ++ low_cut a b ∷ []) new low h.0 in
    let y = put-visits q n m r (raised above own) (cuts ++ high_cut a b ∷ []) new high h.1 in
    let u = count-append q (visits (cuts ++ low_cut a b ∷ []) (proof_of (put n new low))) (visits (cuts ++ high_cut a b ∷ []) (proof_of (put n new high))) in
    let v = count-append q (visits (cuts ++ low_cut a b ∷ []) (proof_of low)) (visits (cuts ++ high_cut a b ∷ []) (proof_of high)) in
    omega (arith, x, y, u, v)

-- not more open leaves have a number than leaves
pub few-entries : (n above : ℕ) (t : Grown) → count (λ (e : Entry). nat_eq e.seat n) (opens above t) ≤ times n t
few-entries n above (tip k fresh) = omega arith
few-entries n above (tip k (valued o)) = omega arith
few-entries n above (tip k (fixed v)) = omega arith
few-entries n above (fork k a b own low high) =
    let p = few-entries n (raised above own) low in
    let q = few-entries n (raised above own) high in
    let e = count-append (λ (e : Entry). nat_eq e.seat n) (opens (raised above own) low) (opens (raised above own) high) in
    omega (arith, p, q, e)

pub missed-busy : (t : Grown) → missed t ≤ busy t
missed-busy (tip k l) = omega arith
missed-busy (fork k a b None low high) = let p = missed-busy low in let q = missed-busy high in omega (arith, p, q)
missed-busy (fork k a b (Some o) low high) = let p = missed-busy low in let q = missed-busy high in omega (arith, p, q)
