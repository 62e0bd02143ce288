-- A candidate is put among others, and the ranking goes on.
use Rattle.std.proofs.Common.{◌≡◌, ℕ, ◌<◌, ◌+◌, List, [], ◌∷◌, ◌++◌, arith, subst, sym, ◌⊎◌, inl, inr, length, length-append, append_assoc}
use Rattle.model_rosters.specs.declared.grammar.Grammar.{Grammar}
use Rattle.model_rosters.specs.Folds.{Each, In}
use Rattle.model_rosters.specs.Sums.{PriceView}
use Rattle.model_rosters.proofs.EachLemmas.{Each-append, Each-left, Each-right, Each-weaker}
use Rattle.tree_ranking.specs.declared.candidate.Candidate.{Candidate}
use Rattle.tree_ranking.specs.declared.ranking.Ranked.{Ranked}
use Rattle.tree_ranking.specs.Candidates.{Has, OneHas, IsApart, Comes, AreOrdered, IsAside, AreAside, Precedes}
use Rattle.tree_ranking.specs.Progresses.{IsOffered, IsAfter, IsGood, IsBeyond, IsProgress}
use Rattle.tree_ranking.proofs.UsesLemmas.{apart-swap, precedes-through}
use Rattle.tree_ranking.proofs.CandidatesLemmas.{comes-has}

module _ {A : Type 0} (P : A → Type 0) where
  -- all but the last
  pub each-but_last : (xs ys : List A) (l : A) → Each P (xs ++ (ys ++ l ∷ [])) → Each P (xs ++ ys)
  each-but_last xs ys l h = Each-append P xs ys (Each-left P xs (ys ++ l ∷ []) h) (Each-left P ys (l ∷ []) (Each-right P xs (ys ++ l ∷ []) h))

  -- and one put among them
  pub each-put : (xs ys : List A) (e : A) → P e → Each P (xs ++ ys) → Each P (xs ++ e ∷ ys)
  each-put xs ys e h k = Each-append P xs (e ∷ ys) (Each-left P xs ys k) (h, Each-right P xs ys k)

pub ordered-put : (xs ys : List Candidate) (e : Candidate) → AreOrdered (xs ++ ys) → Each (λ (d : Candidate). Comes d e) xs → Each (Comes e) ys
    → AreOrdered (xs ++ e ∷ ys)
ordered-put [] ys e h a b = (b, h)
ordered-put (x ∷ xs) ys e h a b = (each-put (Comes x) xs ys e a.0 h.0, ordered-put xs ys e h.1 a.1 b)

pub ordered-left : (xs ys : List Candidate) → AreOrdered (xs ++ ys) → AreOrdered xs
ordered-left [] ys h = tt
ordered-left (x ∷ xs) ys h = (Each-left (Comes x) xs ys h.0, ordered-left xs ys h.1)

-- all come before the last
ordered-last : (xs : List Candidate) (l : Candidate) → AreOrdered (xs ++ l ∷ []) → Each (λ (d : Candidate). Comes d l) xs
ordered-last [] l h = tt
ordered-last (x ∷ xs) l h = ((Each-right (Comes x) xs (l ∷ []) h.0).0, ordered-last xs l h.1)

-- the others stay apart from all as one of them is put among those
pub aside-put : (es xs ys : List Candidate) (e : Candidate) → IsAside e.steps es → AreAside es (xs ++ ys) → AreAside es (xs ++ e ∷ ys)
aside-put [] xs ys e h k = tt
aside-put (f ∷ es) xs ys e h k =
    (each-put (λ (d : Candidate). IsApart f.steps d.steps) xs ys e (apart-swap e.steps f.steps h.0) k.0, k.1, aside-put es xs ys e h.1 k.2)

pub aside-but_last : (es xs ys : List Candidate) (l : Candidate) → AreAside es (xs ++ (ys ++ l ∷ [])) → AreAside es (xs ++ ys)
aside-but_last [] xs ys l k = tt
aside-but_last (f ∷ es) xs ys l k = (each-but_last (λ (d : Candidate). IsApart f.steps d.steps) xs ys l k.0, k.1, aside-but_last es xs ys l k.2)

module _ (g : Grammar) (p : PriceView) where
  has-put : (xs ys : List Candidate) (e : Candidate) (r : Ranked) → OneHas g p (xs ++ ys) r → OneHas g p (xs ++ e ∷ ys) r
  has-put [] ys e r h = inr h
  has-put (x ∷ xs) ys e r (inl h) = inl h
  has-put (x ∷ xs) ys e r (inr h) = inr (has-put xs ys e r h)

  has-here : (xs ys : List Candidate) (e : Candidate) (r : Ranked) → Has g p e r → OneHas g p (xs ++ e ∷ ys) r
  has-here [] ys e r h = inl h
  has-here (x ∷ xs) ys e r h = inr (has-here xs ys e r h)

  has-but_last : (xs : List Candidate) (l : Candidate) (r : Ranked) → OneHas g p (xs ++ l ∷ []) r → OneHas g p xs r ⊎ Has g p l r
  has-but_last [] l r (inl h) = inr h
  has-but_last [] l r (inr h) = absurd h
  has-but_last (x ∷ xs) l r (inl h) = inl (inl h)
  has-but_last (x ∷ xs) l r (inr h) = more (has-but_last xs l r h)
    where
      more : OneHas g p xs r ⊎ Has g p l r → OneHas g p (x ∷ xs) r ⊎ Has g p l r
      more (inl k) = inl (inr k)
      more (inr k) = inr k

  module _ (most : ℕ) (rs : List Ranked) (e : Candidate) (es : List Candidate) (room : ℕ) (size : length rs + room ≡ most) where
    Where : List Candidate → List Candidate → Ranked → Type 0
    Where cs os r = In r rs ⊎ (IsAfter rs r × (OneHas g p cs r ⊎ (OneHas g p os r ⊎ IsBeyond most rs cs r)))

    added : (xs ys : List Candidate) → Each (λ (d : Candidate). Comes d e) xs → Each (Comes e) ys → length (xs ++ ys) < room
        → IsProgress g p most rs (xs ++ ys) (e ∷ es) → IsProgress g p most rs (xs ++ e ∷ ys) es
    added xs ys a b space is = record {
      given = is.given;
      ascending = is.ascending;
      kept = each-put (IsGood g p rs) xs ys e is.offered.0 is.kept;
      offered = is.offered.1;
      ordered = ordered-put xs ys e is.ordered a b;
      aside = aside-put es xs ys e is.aside.1 is.aside.2;
      covered = λ r tree. by r (is.covered r tree);
      few = omega (arith, length-append xs ys, length-append xs (e ∷ ys));
    }
      where
        by : (r : Ranked) → In r rs ⊎ (IsAfter rs r × (OneHas g p (xs ++ ys) r ⊎ (OneHas g p (e ∷ es) r ⊎ IsBeyond most rs (xs ++ ys) r)))
            → In r rs ⊎ (IsAfter rs r × (OneHas g p (xs ++ e ∷ ys) r ⊎ (OneHas g p es r ⊎ IsBeyond most rs (xs ++ e ∷ ys) r)))
        by r (inl h) = inl h
        by r (inr (after, inl h)) = inr (after, inl (has-put xs ys e r h))
        by r (inr (after, inr (inl (inl h)))) = inr (after, inl (has-here xs ys e r h))
        by r (inr (after, inr (inl (inr h)))) = inr (after, inr (inl h))
        by r (inr (after, inr (inr h))) = absurd (omega (arith, h.full, space, size))

    moved : (xs ys : List Candidate) (l : Candidate) → Each (λ (d : Candidate). Comes d e) xs → Each (Comes e) (ys ++ l ∷ [])
        → length (xs ++ (ys ++ l ∷ [])) ≡ room
        → IsProgress g p most rs (xs ++ (ys ++ l ∷ [])) (e ∷ es) → IsProgress g p most rs (xs ++ e ∷ ys) es
    moved xs ys l a b full is = record {
      given = is.given;
      ascending = is.ascending;
      kept = each-put (IsGood g p rs) xs ys e is.offered.0 (each-but_last (IsGood g p rs) xs ys l is.kept);
      offered = is.offered.1;
      ordered = ordered-put xs ys e (ordered-left (xs ++ ys) (l ∷ []) in_order) a (Each-left (Comes e) ys (l ∷ []) b);
      aside = aside-put es xs ys e is.aside.1 (aside-but_last es xs ys l is.aside.2);
      covered = λ r tree. by r (is.covered r tree);
      few = omega (arith, sizes);
    }
      where
        in_order : AreOrdered ((xs ++ ys) ++ l ∷ [])
        in_order = subst AreOrdered (sym (append_assoc xs ys (l ∷ []))) is.ordered

        sizes : length rs + length (xs ++ e ∷ ys) ≡ most
        sizes = omega (arith, full, size, length-append xs (ys ++ l ∷ []), length-append ys (l ∷ []), length-append xs (e ∷ ys))

        before_last : Each (λ (d : Candidate). Comes d l) (xs ++ e ∷ ys)
        before_last = each-put (λ (d : Candidate). Comes d l) xs ys e (Each-right (Comes e) ys (l ∷ []) b).0 (ordered-last (xs ++ ys) l in_order)

        by : (r : Ranked) → In r rs ⊎ (IsAfter rs r × (OneHas g p (xs ++ (ys ++ l ∷ [])) r ⊎ (OneHas g p (e ∷ es) r ⊎ IsBeyond most rs (xs ++ (ys ++ l ∷ [])) r)))
            → In r rs ⊎ (IsAfter rs r × (OneHas g p (xs ++ e ∷ ys) r ⊎ (OneHas g p es r ⊎ IsBeyond most rs (xs ++ e ∷ ys) r)))
        by r (inl h) = inl h
        by r (inr (after, inl h)) = last (has-but_last (xs ++ ys) l r (subst (λ cs. OneHas g p cs r) (sym (append_assoc xs ys (l ∷ []))) h))
          where
            last : OneHas g p (xs ++ ys) r ⊎ Has g p l r → In r rs ⊎ (IsAfter rs r × (OneHas g p (xs ++ e ∷ ys) r ⊎ (OneHas g p es r ⊎ IsBeyond most rs (xs ++ e ∷ ys) r)))
            last (inl k) = inr (after, inl (has-put xs ys e r k))
            last (inr k) = inr (
              after,
              inr (inr (record {
                after = Each-weaker (λ (d : Candidate). Comes d l) (λ (d : Candidate). Precedes d r) (xs ++ e ∷ ys) (λ d q. comes-has g p d l r q k) before_last;
                full = sizes;
              })),
            )
        by r (inr (after, inr (inl (inl h)))) = inr (after, inl (has-here xs ys e r h))
        by r (inr (after, inr (inl (inr h)))) = inr (after, inr (inl h))
        by r (inr (after, inr (inr h))) = inr (
          after,
          inr (inr (record {
            after = each-put (λ (d : Candidate). Precedes d r) xs ys e (precedes-through e l r (Each-right (Comes e) ys (l ∷ []) b).0 (Each-right (λ (d : Candidate). Precedes d r) ys (l ∷ []) (Each-right (λ (d : Candidate). Precedes d r) xs (ys ++ l ∷ []) h.after)).0)
                (each-but_last (λ (d : Candidate). Precedes d r) xs ys l h.after);
            full = sizes;
          })),
        )

    dropped : (cs : List Candidate) → Each (λ (d : Candidate). Comes d e) cs → length cs ≡ room
        → IsProgress g p most rs cs (e ∷ es) → IsProgress g p most rs cs es
    dropped cs a full is = record {
      given = is.given;
      ascending = is.ascending;
      kept = is.kept;
      offered = is.offered.1;
      ordered = is.ordered;
      aside = is.aside.2;
      covered = λ r tree. by r (is.covered r tree);
      few = is.few;
    }
      where
        by : (r : Ranked) → In r rs ⊎ (IsAfter rs r × (OneHas g p cs r ⊎ (OneHas g p (e ∷ es) r ⊎ IsBeyond most rs cs r)))
            → In r rs ⊎ (IsAfter rs r × (OneHas g p cs r ⊎ (OneHas g p es r ⊎ IsBeyond most rs cs r)))
        by r (inl h) = inl h
        by r (inr (after, inl h)) = inr (after, inl h)
        by r (inr (after, inr (inl (inl h)))) = inr (
          after,
          inr (inr (record {
            after = Each-weaker (λ (d : Candidate). Comes d e) (λ (d : Candidate). Precedes d r) cs (λ d k. comes-has g p d e r k h) a;
            full = omega (arith, full, size);
          })),
        )
        by r (inr (after, inr (inl (inr h)))) = inr (after, inr (inl h))
        by r (inr (after, inr (inr h))) = inr (after, inr (inr h))

    -- whichever it was
    pub offered : (old new : List Candidate) → IsOffered room e old new → IsProgress g p most rs old (e ∷ es) → IsProgress g p most rs new es
    offered old new (inl h) is =
        let at = subst (λ cs. IsProgress g p most rs cs (e ∷ es)) h.from is in
        let space = subst (λ (cs : List Candidate). length cs < room) h.from h.space in
        subst (λ cs. IsProgress g p most rs cs es) (sym h.to) (added h.front h.back h.before h.after space at)
    offered old new (inr (inl h)) is =
        let at = subst (λ cs. IsProgress g p most rs cs (e ∷ es)) h.from is in
        let full = subst (λ (cs : List Candidate). length cs ≡ room) h.from h.full in
        subst (λ cs. IsProgress g p most rs cs es) (sym h.to) (moved h.front h.back h.last h.before h.after full at)
    offered old new (inr (inr h)) is =
        subst (λ cs. IsProgress g p most rs cs es) (sym h.same) (dropped old h.before h.full is)
