-- Where a candidate is to stand among others, and the first child of least sum.
use Rattle.std.proofs.Common.{◌≡◌, Bool, true, false, ℕ, ℤ, zero, suc, ◌<ℤ◌, ◌≤ℤ◌, ◌⊎◌, ◌<◌, ◌≤◌, ◌+◌, List, [], ◌∷◌, ◌++◌, arith, refl, subst, sym, ap, inl, inr, min, length, get_or, take, drop}
use Rattle.std.specs.Bool.{OnTrue}
use Rattle.std.specs.List.{remove}
use Rattle.std.proofs.lemmas.Int.{ints}
use Rattle.std.proofs.lemmas.List.{take_more}
use Rattle.model_rosters.specs.declared.grammar.Step.{Step}
use Rattle.model_rosters.specs.Folds.{Each}
use Rattle.model_rosters.proofs.EachLemmas.{Each-append}
use Rattle.tree_ranking.specs.declared.candidate.Candidate.{Candidate}
use Rattle.tree_ranking.specs.declared.candidate.Child.{Child}
use Rattle.tree_ranking.specs.Candidates.{IsApart, Comes, AreOrdered, IsAside}
use Rattle.tree_ranking.specs.Children.{child_at, TakesLeast}
use Rattle.tree_ranking.specs.Ranking.{UsesBefore}
use Rattle.tree_ranking.proofs.UsesLemmas.{apart-swap, comes-through}

each_through : (e x : Candidate) (xs : List Candidate) → Comes e x → IsAside e.steps xs → Each (Comes x) xs → Each (Comes e) xs
each_through e x [] h a k = tt
each_through e x (y ∷ ys) h a k = (comes-through e x y a.0 h k.0, each_through e x ys h a.1 k.1)

each-get : {A : Type 0} (P : A → Type 0) (xs : List A) (n : ℕ) (d : A) → n < length xs → Each P xs → P (get_or xs n d)
each-get P [] n d l h = absurd (omega (arith, l))
each-get P (x ∷ xs) zero d l h = h.0
each-get P (x ∷ xs) (suc n) d l h = each-get P xs n d (omega (arith, l)) h.1

-- what follows one that comes after comes after too
pub later : (cs : List Candidate) (n : ℕ) (d e : Candidate) → n < length cs → AreOrdered cs → IsAside e.steps cs → Comes e (get_or cs n d) → Each (Comes e) (drop n cs)
later [] n d e l h a k = absurd (omega (arith, l))
later (x ∷ xs) zero d e l h a k = (k, each_through e x xs k a.1 h.0)
later (x ∷ xs) (suc n) d e l h a k = later xs n d e (omega (arith, l)) h.1 a.1 k

-- what stands up to one that comes before comes before too
pub earlier : (cs : List Candidate) (n : ℕ) (d e : Candidate) → n < length cs → AreOrdered cs → IsAside e.steps cs → Comes (get_or cs n d) e
    → Each (λ (q : Candidate). Comes q e) (take (suc n) cs)
earlier [] n d e l h a k = absurd (omega (arith, l))
earlier (x ∷ xs) zero d e l h a k = (k, tt)
earlier (x ∷ xs) (suc n) d e l h a k =
    let q : n < length xs = omega (arith, l) in
    (comes-through x (get_or xs n d) e (apart-swap e.steps x.steps a.0) (each-get (Comes x) xs n d q h.0) k, earlier xs n d e q h.1 a.1 k)

-- where the last has a smaller sum, each has
pub all_smaller : (cs : List Candidate) (n : ℕ) (d : Candidate) (z : ℤ) → length cs ≡ suc n → AreOrdered cs → (get_or cs n d).sum <ℤ z
    → Each (λ (q : Candidate). q.sum <ℤ z) cs
all_smaller [] n d z l h k = tt
all_smaller (x ∷ []) zero d z l h k = (k, tt)
all_smaller (x ∷ y ∷ xs) zero d z l h k = absurd (omega (arith, l))
all_smaller (x ∷ xs) (suc n) d z l h k =
    let q : n < length xs = omega (arith, l) in
    (smaller_first x (get_or xs n d) z (each-get (Comes x) xs n d q h.0) k, all_smaller xs n d z (omega (arith, l)) h.1 k)
  where
    smaller_first : (c d : Candidate) (z : ℤ) → Comes c d → d.sum <ℤ z → c.sum <ℤ z
    smaller_first c d z h k = by h.before
      where
        by : (c.sum <ℤ d.sum) ⊎ ((c.sum ≡ d.sum) × UsesBefore c.steps d.steps) → c.sum <ℤ z
        by (inl q) = omega (arith, ints, q, k)
        by (inr q) = omega (arith, ints, q.0, k)

pub on_true : {A B : Type 0} (b : Bool) → (A → B) → OnTrue b A → OnTrue b B
on_true true f h = f h
on_true false f h = tt

-- those of a smaller sum come before
pub smaller_come : (cs : List Candidate) (e : Candidate) → IsAside e.steps cs → Each (λ (q : Candidate). q.sum <ℤ e.sum) cs
    → Each (λ (q : Candidate). Comes q e) cs
smaller_come [] e a h = tt
smaller_come (x ∷ xs) e a h = (record { apart = apart-swap e.steps x.steps a.0; before = inl h.0 }, smaller_come xs e a.1 h.1)

pub none-later : (cs : List Candidate) (e : Candidate) → Each (Comes e) (drop (length cs) cs)
none-later [] e = tt
none-later (x ∷ xs) e = none-later xs e

-- one more item has the property
pub each-next : {A : Type 0} (P : A → Type 0) (xs : List A) (k : ℕ) (d : A) → k < length xs → P (get_or xs k d) → Each P (take k xs) → Each P (take (k + 1) xs)
each-next P xs k d l h e = subst (Each P) (sym (take_more xs k d l)) (Each-append P (take k xs) (get_or xs k d ∷ []) e (h, tt))

-- apart from each is apart from one
pub aside-at : (ss : List Step) (cs : List Candidate) (n : ℕ) (d : Candidate) → n < length cs → IsAside ss cs → IsApart ss (get_or cs n d).steps
aside-at ss [] n d l h = absurd (omega (arith, l))
aside-at ss (x ∷ xs) zero d l h = h.0
aside-at ss (x ∷ xs) (suc n) d l h = aside-at ss xs n d (omega (arith, l)) h.1

each-first : {A : Type 0} (P : A → Type 0) (xs : List A) (n : ℕ) (d : A) → n ≤ length xs → ((k : ℕ) → k < n → P (get_or xs k d)) → Each P (take n xs)
each-first P xs zero d l h = tt
each-first P [] (suc n) d l h = tt
each-first P (x ∷ xs) (suc n) d l h = (h 0 (omega arith), each-first P xs n d (omega (arith, l)) (λ k q. h (suc k) (omega (arith, q))))

each-last : {A : Type 0} (P : A → Type 0) (xs : List A) (n : ℕ) (d : A) → ((k : ℕ) → n ≤ k → k < length xs → P (get_or xs k d)) → Each P (drop n xs)
each-last P [] zero d h = tt
each-last P [] (suc n) d h = tt
each-last P (x ∷ xs) zero d h = (h 0 (omega arith) (omega arith), each-last P xs zero d (λ k q l. h (suc k) (omega arith) (omega (arith, l))))
each-last P (x ∷ xs) (suc n) d h = each-last P xs n d (λ k q l. h (suc k) (omega (arith, q)) (omega (arith, l)))

at_place : (chs : List Child) (n : ℕ) → n < length chs → chs ≡ take n chs ++ child_at chs n ∷ drop (suc n) chs
at_place [] n l = absurd (omega (arith, l))
at_place (x ∷ xs) zero l = refl
at_place (x ∷ xs) (suc n) l = ap (λ q. x ∷ q) (at_place xs n (omega (arith, l)))

pub is-least : (chs others : List Child) (b : Child) (n : ℕ) → n < length chs → b ≡ child_at chs n → others ≡ remove chs n
    → ((k : ℕ) → k < n → (child_at chs n).sum <ℤ (child_at chs k).sum)
    → ((k : ℕ) → n ≤ k → k < length chs → (child_at chs n).sum ≤ℤ (child_at chs k).sum) → TakesLeast chs b others
is-least chs others b n l e o before after = subst (λ (q : Child). TakesLeast chs q others) (sym e) (record {
  front = take n chs;
  back = drop (suc n) chs;
  from = at_place chs n l;
  to = o;
  least = record {
    before = each-first (λ (a : Child). (child_at chs n).sum <ℤ a.sum) chs n _ (omega (arith, l)) before;
    after = each-last (λ (a : Child). (child_at chs n).sum ≤ℤ a.sum) chs (suc n) _ (λ k q w. after k (omega (arith, q)) w);
  };
})

-- lists of which one has come to its end are not apart
pub none_apart : (ss ts : List Step) (n : ℕ) → min (length ss) (length ts) ≤ n → IsApart (drop n ss) (drop n ts) → ⊥
none_apart [] [] zero h k = elim k [ inl q ↦ q | inr q ↦ q ]
none_apart [] (t ∷ ts) zero h k = elim k [ inl q ↦ q | inr q ↦ q ]
none_apart (s ∷ ss) [] zero h k = elim k [ inl q ↦ q | inr q ↦ q ]
none_apart (s ∷ ss) (t ∷ ts) zero h k = omega (arith, h)
none_apart [] [] (suc n) h k = elim k [ inl q ↦ q | inr q ↦ q ]
none_apart [] (t ∷ ts) (suc n) h k = apart_nil (drop n ts) k
  where
    apart_nil : (us : List Step) → IsApart [] us → ⊥
    apart_nil [] (inl q) = q
    apart_nil [] (inr q) = q
    apart_nil (u ∷ us) (inl q) = q
    apart_nil (u ∷ us) (inr q) = q
none_apart (s ∷ ss) [] (suc n) h k = nil_apart (drop n ss) k
  where
    nil_apart : (us : List Step) → IsApart us [] → ⊥
    nil_apart [] (inl q) = q
    nil_apart [] (inr q) = q
    nil_apart (u ∷ us) (inl q) = q
    nil_apart (u ∷ us) (inr q) = q
none_apart (s ∷ ss) (t ∷ ts) (suc n) h k = none_apart ss ts n (omega (arith, h)) k
