-- What a growing tree shows, and what holds of it once a tree stands in place of a leaf.
use Rattle.std.proofs.Common.{◌≡◌, ℕ, arith, ◌≤◌, Bool, true, false, cond, Option, None, Some, List, [], ◌∷◌, ◌++◌, refl, sym, ◌∙◌, ◌⊎◌, inl, inr}
use Rattle.std.specs.Prelude.{◌≢◌, max, min, nat_eq}
use Rattle.std.proofs.lemmas.Bool.{eqb-true, eq-eqb}
use Rattle.model_rosters.specs.declared.grammar.ArcKey.{ArcKey}
use Rattle.model_rosters.specs.declared.instance.Cut.{Cut}
use Rattle.model_rosters.specs.declared.instance.Instance.{Instance}
use Rattle.model_rosters.proofs.EachLemmas.{Each-append}
use Rattle.check_certificates.specs.Nodes.{low_cut, high_cut}
use Rattle.check_certificates.specs.certificate_laws.Shown.{Shows, IsSplitValue, joined}
use Rattle.check_certificates.specs.growing_laws.Grown.{Grown, tip, fork, Leaf, fresh, valued, fixed, Own, OnTips, OnForks, SomeTip, IsRightLeaf, IsRightOwn, IsLeastBound, raised, leaf_value, leaf_proof, tip_bound, prices_of, value_of, shown}
use Rattle.check_certificates.specs.growing_laws.Laws.{GrownShows, LeastBound, PutTips, PutForks, PutRises, GrownVisits}

abbrev pub TipFact : Type 1
TipFact = ℕ → List Cut → ℕ → Leaf → Type 0

abbrev pub ForkFact : Type 1
ForkFact = List Cut → ArcKey → ℕ → Option Own → Type 0

pub tips-map : (P Q : TipFact) → ((up : ℕ) (path : List Cut) (k : ℕ) (l : Leaf) → P up path k l → Q up path k l) → (above : ℕ) (cuts : List Cut) (t : Grown) → OnTips P above cuts t → OnTips Q above cuts t
tips-map P Q f above cuts (tip k l) h = f above cuts k l h
tips-map P Q f above cuts (fork k a b own low high) h = (tips-map P Q f (raised above own) (cuts ++ low_cut a b ∷ []) low h.0, tips-map P Q f (raised above own) (cuts ++ high_cut a b ∷ []) high h.1)

pub forks-map : (P Q : ForkFact) → ((path : List Cut) (a : ArcKey) (b : ℕ) (own : Option Own) → P path a b own → Q path a b own) → (cuts : List Cut) (t : Grown) → OnForks P cuts t → OnForks Q cuts t
forks-map P Q f cuts (tip k l) h = tt
forks-map P Q f cuts (fork k a b own low high) h = (f cuts a b own h.0, forks-map P Q f (cuts ++ low_cut a b ∷ []) low h.1, forks-map P Q f (cuts ++ high_cut a b ∷ []) high h.2)

pub some-map : (P Q : TipFact) → ((up : ℕ) (path : List Cut) (k : ℕ) (l : Leaf) → P up path k l → Q up path k l) → (above : ℕ) (cuts : List Cut) (t : Grown) → SomeTip P above cuts t → SomeTip Q above cuts t
some-map P Q f above cuts (tip k l) h = f above cuts k l h
some-map P Q f above cuts (fork k a b own low high) (inl h) = inl (some-map P Q f (raised above own) (cuts ++ low_cut a b ∷ []) low h)
some-map P Q f above cuts (fork k a b own low high) (inr h) = inr (some-map P Q f (raised above own) (cuts ++ high_cut a b ∷ []) high h)

-- a fact of all leaves and one of some leaf meet
pub some-both : (P Q R : TipFact) → ((up : ℕ) (path : List Cut) (k : ℕ) (l : Leaf) → P up path k l → Q up path k l → R up path k l) → (above : ℕ) (cuts : List Cut) (t : Grown) → OnTips P above cuts t
    → SomeTip Q above cuts t → SomeTip R above cuts t
some-both P Q R f above cuts (tip k l) h s = f above cuts k l h s
some-both P Q R f above cuts (fork k a b own low high) h (inl s) = inl (some-both P Q R f (raised above own) (cuts ++ low_cut a b ∷ []) low h.0 s)
some-both P Q R f above cuts (fork k a b own low high) h (inr s) = inr (some-both P Q R f (raised above own) (cuts ++ high_cut a b ∷ []) high h.1 s)

leaf-shows : (i : Instance) (cuts : List Cut) (l : Leaf) → IsRightLeaf i cuts l → Shows i cuts (leaf_proof l) (leaf_value l)
leaf-shows i cuts fresh h = refl
leaf-shows i cuts (valued o) h = h
leaf-shows i cuts (fixed v) h = h

split-shows : (i : Instance) (cuts : List Cut) (own : Option Own) (lesser : ℕ) → IsRightOwn i cuts own → IsSplitValue i cuts (prices_of own) lesser (joined (value_of own) lesser)
split-shows i cuts None lesser h = refl
split-shows i cuts (Some o) lesser h = (o.value, h, refl)

pub grown-shows : GrownShows
grown-shows i above cuts (tip k l) h f = leaf-shows i cuts l h
grown-shows i above cuts (fork k a b own low high) h f =
    (shown low, shown high, grown-shows i (raised above own) (cuts ++ low_cut a b ∷ []) low h.0 f.1, grown-shows i (raised above own) (cuts ++ high_cut a b ∷ []) high h.1 f.2, split-shows i cuts own (min (shown low) (shown high)) f.0)

join-bounds : (above : ℕ) (own : Option Own) (x y : ℕ) → max above (joined (value_of own) (min x y)) ≡ min (max (raised above own) x) (max (raised above own) y)
join-bounds above None x y = omega arith
join-bounds above (Some o) x y = omega arith

pub least-bound : LeastBound
least-bound above cuts (tip k l) = record { each = omega arith; attained = refl }
least-bound above cuts (fork k a b own low high) = both (least-bound (raised above own) (cuts ++ low_cut a b ∷ []) low) (least-bound (raised above own) (cuts ++ high_cut a b ∷ []) high)
  where
    x : ℕ
    x = max (raised above own) (shown low)

    y : ℕ
    y = max (raised above own) (shown high)

    both : IsLeastBound (raised above own) (cuts ++ low_cut a b ∷ []) low (max (raised above own) (shown low)) → IsLeastBound (raised above own) (cuts ++ high_cut a b ∷ []) high (max (raised above own) (shown high))
        → IsLeastBound above cuts (fork k a b own low high) (max above (joined (value_of own) (min (shown low) (shown high))))
    both l h =
        let e = join-bounds above own (shown low) (shown high) in
        let v : ℕ = max above (joined (value_of own) (min (shown low) (shown high))) in
        let le1 : v ≤ max (raised above own) (shown low) = omega (arith, e) in
        let le2 : v ≤ max (raised above own) (shown high) = omega (arith, e) in
        record {
          each = (
            tips-map (λ up path k l. max (raised above own) (shown low) ≤ tip_bound up l) (λ up path k l. v ≤ tip_bound up l) (λ up path k l g. omega (arith, g, le1)) (raised above own) (cuts ++ low_cut a b ∷ []) low l.each,
            tips-map (λ up path k l. max (raised above own) (shown high) ≤ tip_bound up l) (λ up path k l. v ≤ tip_bound up l) (λ up path k l g. omega (arith, g, le2)) (raised above own) (cuts ++ high_cut a b ∷ []) high h.each,
          );
          attained = pick e l.attained h.attained;
        }
      where
        pick : max above (joined (value_of own) (min (shown low) (shown high))) ≡ min (max (raised above own) (shown low)) (max (raised above own) (shown high))
            → SomeTip (λ up path k l. tip_bound up l ≡ max (raised above own) (shown low)) (raised above own) (cuts ++ low_cut a b ∷ []) low
            → SomeTip (λ up path k l. tip_bound up l ≡ max (raised above own) (shown high)) (raised above own) (cuts ++ high_cut a b ∷ []) high
            → SomeTip (λ up path k l. tip_bound up l ≡ max above (joined (value_of own) (min (shown low) (shown high)))) above cuts (fork k a b own low high)
        pick e s1 s2 = by (less (max (raised above own) (shown low)) (max (raised above own) (shown high)))
          where
            less : (m n : ℕ) → (min m n ≡ m) ⊎ (min m n ≡ n)
            less m n = grind arith

            by : (min (max (raised above own) (shown low)) (max (raised above own) (shown high)) ≡ max (raised above own) (shown low)) ⊎ (min (max (raised above own) (shown low)) (max (raised above own) (shown high)) ≡ max (raised above own) (shown high))
                → SomeTip (λ up path k l. tip_bound up l ≡ max above (joined (value_of own) (min (shown low) (shown high)))) above cuts (fork k a b own low high)
            by (inl m) = inl (some-map _ _ (λ up path k l g. g ∙ sym m ∙ sym e) (raised above own) (cuts ++ low_cut a b ∷ []) low s1)
            by (inr m) = inr (some-map _ _ (λ up path k l g. g ∙ sym m ∙ sym e) (raised above own) (cuts ++ high_cut a b ∷ []) high s2)

-- the number of a leaf is this one or not
pub told : (k n : ℕ) → (k ≡ n) × (nat_eq k n ≡ true) ⊎ (k ≢ n) × (nat_eq k n ≡ false)
told k n = by (nat_eq k n) refl
  where
    by : (b : Bool) → nat_eq k n ≡ b → (k ≡ n) × (nat_eq k n ≡ true) ⊎ (k ≢ n) × (nat_eq k n ≡ false)
    by true e = inl (eqb-true k n e, e)
    by false e = inr (λ f. let g = eq-eqb k n f in cc, e)

pub put-tips : PutTips
put-tips P n new above cuts (tip k l) h = by (told k n)
  where
    by : (k ≡ n) × (nat_eq k n ≡ true) ⊎ (k ≢ n) × (nat_eq k n ≡ false) → OnTips P above cuts (cond (nat_eq k n) new (tip k l))
    by (inl e) = rw e.1 (h.0 e.0)
    by (inr e) = rw e.1 (h.1 e.0)
put-tips P n new above cuts (fork k a b own low high) h = (put-tips P n new (raised above own) (cuts ++ low_cut a b ∷ []) low h.0, put-tips P n new (raised above own) (cuts ++ high_cut a b ∷ []) high h.1)

pub put-forks : PutForks
put-forks P n new above cuts (tip k l) h f = by (told k n)
  where
    by : (k ≡ n) × (nat_eq k n ≡ true) ⊎ (k ≢ n) × (nat_eq k n ≡ false) → OnForks P cuts (cond (nat_eq k n) new (tip k l))
    by (inl e) = rw e.1 (h e.0)
    by (inr e) = rw e.1 tt
put-forks P n new above cuts (fork k a b own low high) h f = (f.0, put-forks P n new (raised above own) (cuts ++ low_cut a b ∷ []) low h.0 f.1, put-forks P n new (raised above own) (cuts ++ high_cut a b ∷ []) high h.1 f.2)

join-rises : (own : Option Own) (x y z w : ℕ) → x ≤ z → y ≤ w → joined (value_of own) (min x y) ≤ joined (value_of own) (min z w)
join-rises None x y z w h k = omega (arith, h, k)
join-rises (Some o) x y z w h k = omega (arith, h, k)

pub put-rises : PutRises
put-rises n new above cuts (tip k l) h = by (told k n)
  where
    by : (k ≡ n) × (nat_eq k n ≡ true) ⊎ (k ≢ n) × (nat_eq k n ≡ false) → leaf_value l ≤ shown (cond (nat_eq k n) new (tip k l))
    by (inl e) = rw e.1 (h e.0)
    by (inr e) = rw e.1 (omega arith)
put-rises n new above cuts (fork k a b own low high) h = join-rises own _ _ _ _ (put-rises n new (raised above own) (cuts ++ low_cut a b ∷ []) low h.0) (put-rises n new (raised above own) (cuts ++ high_cut a b ∷ []) high h.1)

pub grown-visits : GrownVisits
grown-visits P above cuts (tip k l) h f = h
grown-visits P above cuts (fork k a b own low high) h f = (f.0, Each-append P _ _ (grown-visits P (raised above own) (cuts ++ low_cut a b ∷ []) low h.0 f.1) (grown-visits P (raised above own) (cuts ++ high_cut a b ∷ []) high h.1 f.2))
