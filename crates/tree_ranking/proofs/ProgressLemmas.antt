-- How a ranking begins, goes on and ends.
use Rattle.std.proofs.Common.{◌≡◌, ℕ, ℤ, pos, ◌<ℤ◌, ◌≤◌, List, [], ◌∷◌, ◌++◌, arith, refl, subst, sym, ap, ◌∙◌, ◌⊎◌, inl, inr, length, length-append}
use Rattle.std.proofs.lemmas.Int.{ints}
use Rattle.std.proofs.lemmas.List.{append-nil}
use Rattle.model_rosters.specs.declared.grammar.Grammar.{Grammar}
use Rattle.model_rosters.specs.declared.grammar.Step.{Step}
use Rattle.model_rosters.specs.Folds.{Each, In}
use Rattle.model_rosters.specs.Sums.{PriceView}
use Rattle.model_rosters.proofs.EachLemmas.{Each-append, Each-weaker}
use Rattle.tree_ranking.specs.declared.candidate.Candidate.{Candidate}
use Rattle.tree_ranking.specs.declared.ranking.Ranked.{Ranked}
use Rattle.tree_ranking.specs.Ranking.{IsRankedTree, IsRanking, RankedBefore, AreAscending, UsesBefore}
use Rattle.tree_ranking.specs.Candidates.{Has, OneHas, IsCandidate, Completes, Leasts, IsApart, Comes, IsAside, AreAside, Precedes}
use Rattle.tree_ranking.specs.Progresses.{IsAfter, IsGood, IsBeyond, IsProgress, GoesOn, IsSplit}
use Rattle.tree_ranking.proofs.UsesLemmas.{uses-extend_left, apart-extend_left}
use Rattle.tree_ranking.proofs.CandidatesLemmas.{comes-has}

-- a list that goes on with some rule uses stays apart from the others
goes_aside : (ss us ts : List Step) (cs : List Candidate) → ts ≡ ss ++ us → IsAside ss cs → IsAside ts cs
goes_aside ss us ts cs e h = Each-weaker (λ (d : Candidate). IsApart ss d.steps) (λ (d : Candidate). IsApart ts d.steps) cs
    (λ d k. subst (λ (q : List Step). IsApart q d.steps) (sym e) (apart-extend_left ss d.steps us k)) h

comes-goes : (c b d : Candidate) (us : List Step) → b.steps ≡ c.steps ++ us → b.sum ≡ c.sum → Comes c d → Comes b d
comes-goes c b d us e s h = record {
  apart = subst (λ (q : List Step). IsApart q d.steps) (sym e) (apart-extend_left c.steps d.steps us h.apart);
  before = by h.before;
}
  where
    by : (c.sum <ℤ d.sum) ⊎ ((c.sum ≡ d.sum) × UsesBefore c.steps d.steps) → (b.sum <ℤ d.sum) ⊎ ((b.sum ≡ d.sum) × UsesBefore b.steps d.steps)
    by (inl k) = inl (omega (arith, ints, k, s))
    by (inr k) = inr (s ∙ k.0, subst (λ (q : List Step). UsesBefore q d.steps) (sym e) (uses-extend_left c.steps d.steps us k.1))

precedes-goes : (c b : Candidate) (r : Ranked) (us : List Step) → b.steps ≡ c.steps ++ us → b.sum ≡ c.sum → Precedes c r → Precedes b r
precedes-goes c b r us e s (inl k) = inl (omega (arith, ints, k, s))
precedes-goes c b r us e s (inr k) = inr (s ∙ k.0, subst (λ (q : List Step). UsesBefore q r.tree) (sym e) (uses-extend_left c.steps r.tree us k.1))

module _ (g : Grammar) (p : PriceView) (most : ℕ) where
  module _ (rs : List Ranked) (c b : Candidate) (ws es : List Candidate) (split : IsSplit g p c b es) (is : IsProgress g p most rs (c ∷ ws) []) where
    good : (d : Candidate) → GoesOn g p c d → IsGood g p rs d
    good d h = record { is = h.is; later = λ r k. is.kept.0.later r (h.has r k) }

    apart_from : IsAside c.steps ws
    apart_from = Each-weaker (Comes c) (λ (d : Candidate). IsApart c.steps d.steps) ws (λ d k. k.apart) is.ordered.0

    all_aside : (os : List Candidate) → Each (GoesOn g p c) os → AreAside os (b ∷ []) → AreAside os (b ∷ ws)
    all_aside [] h k = tt
    all_aside (o ∷ os) h k = ((k.0.0, goes_aside c.steps h.0.further o.steps ws h.0.steps apart_from), k.1, all_aside os h.1 k.2)

    -- a candidate is split
    pub is-split : IsProgress g p most rs (b ∷ ws) es
    is-split = record {
      given = is.given;
      ascending = is.ascending;
      kept = (good b split.first, is.kept.1);
      offered = Each-weaker (GoesOn g p c) (IsGood g p rs) es good split.others;
      ordered = (Each-weaker (Comes c) (Comes b) ws (λ d k. comes-goes c b d split.first.further split.first.steps split.sum k) is.ordered.0, is.ordered.1);
      aside = all_aside es split.others split.aside;
      covered = λ r tree. by r (is.covered r tree);
      few = is.few;
    }
      where
        by : (r : Ranked) → In r rs ⊎ (IsAfter rs r × (OneHas g p (c ∷ ws) r ⊎ (OneHas g p [] r ⊎ IsBeyond most rs (c ∷ ws) r)))
            → In r rs ⊎ (IsAfter rs r × (OneHas g p (b ∷ ws) r ⊎ (OneHas g p es r ⊎ IsBeyond most rs (b ∷ ws) r)))
        by r (inl h) = inl h
        by r (inr (after, inl (inl h))) = one (split.all r h)
          where
            one : OneHas g p (b ∷ es) r → In r rs ⊎ (IsAfter rs r × (OneHas g p (b ∷ ws) r ⊎ (OneHas g p es r ⊎ IsBeyond most rs (b ∷ ws) r)))
            one (inl k) = inr (after, inl (inl k))
            one (inr k) = inr (after, inr (inl k))
        by r (inr (after, inl (inr h))) = inr (after, inl (inr h))
        by r (inr (after, inr (inl h))) = absurd h
        by r (inr (after, inr (inr h))) = inr (
          after,
          inr (inr (record {
            after = (precedes-goes c b r split.first.further split.first.steps split.sum h.after.0, h.after.1);
            full = h.full;
          })),
        )

  In-left : (r : Ranked) (rs ss : List Ranked) → In r rs → In r (rs ++ ss)
  In-left r [] ss h = absurd h
  In-left r (q ∷ rs) ss (inl h) = inl h
  In-left r (q ∷ rs) ss (inr h) = inr (In-left r rs ss h)

  In-last : (r : Ranked) (rs : List Ranked) (q : Ranked) → r ≡ q → In r (rs ++ q ∷ [])
  In-last r [] q e = inl e
  In-last r (s ∷ rs) q e = inr (In-last r rs q e)

  ascending-push : (rs : List Ranked) (r : Ranked) → AreAscending rs → IsAfter rs r → AreAscending (rs ++ r ∷ [])
  ascending-push [] r h k = (tt, tt)
  ascending-push (q ∷ rs) r h k = (Each-append (RankedBefore q) rs (r ∷ []) h.0 (k.0, tt), ascending-push rs r h.1 k.1)

  module _ (rs : List Ranked) (c : Candidate) (ws : List Candidate) (whole : c.pending ≡ []) (is : IsProgress g p most rs (c ∷ ws) []) where
    has_it : Has g p c (record { sum = c.sum; tree = c.steps })
    has_it = record {
      more = [];
      sum = pos 0;
      least = pos 0;
      completes = subst (λ fs. Completes g p fs [] (pos 0)) (sym whole) (refl, refl);
      leasts = subst (λ fs. Leasts g p fs (pos 0)) (sym whole) refl;
      uses = sym (append-nil c.steps);
      above = refl;
    }

    is_it : (r : Ranked) → Has g p c r → r ≡ record { sum = c.sum; tree = c.steps }
    is_it r h =
        let done = subst (λ fs. Completes g p fs h.more h.sum) whole h.completes in
        let none = subst (λ fs. Leasts g p fs h.least) whole h.leasts in
        let uses : r.tree ≡ c.steps = h.uses ∙ ap (λ (q : List Step). c.steps ++ q) done.0 ∙ append-nil c.steps in
        let sum : r.sum ≡ c.sum = omega (arith, ints, h.above, done.1, none) in
        let made : ℤ → List Step → Ranked = λ a ss. record { sum = a; tree = ss } in
        ap (λ (a : ℤ). made a r.tree) sum ∙ ap (λ (ss : List Step). made c.sum ss) uses

    afterwards : (r : Ranked) → IsAfter rs r → RankedBefore (record { sum = c.sum; tree = c.steps }) r → IsAfter (rs ++ record { sum = c.sum; tree = c.steps } ∷ []) r
    afterwards r h k = Each-append (λ (q : Ranked). RankedBefore q r) rs (_ ∷ []) h (k, tt)

    goods : (ds : List Candidate) → Each (IsGood g p rs) ds → Each (Comes c) ds → Each (IsGood g p (rs ++ record { sum = c.sum; tree = c.steps } ∷ [])) ds
    goods [] h k = tt
    goods (d ∷ ds) h k = (record { is = h.0.is; later = λ r q. afterwards r (h.0.later r q) (comes-has g p c d r k.0 q) }, goods ds h.1 k.1)

    one_comes : (ds : List Candidate) (r : Ranked) → Each (Comes c) ds → OneHas g p ds r → RankedBefore (record { sum = c.sum; tree = c.steps }) r
    one_comes [] r h k = absurd k
    one_comes (d ∷ ds) r h (inl k) = comes-has g p c d r h.0 k
    one_comes (d ∷ ds) r h (inr k) = one_comes ds r h.1 k

    -- the first candidate's tree is given
    pub is-given : IsProgress g p most (rs ++ record { sum = c.sum; tree = c.steps } ∷ []) ws []
    is-given = record {
      given = Each-append (IsRankedTree g p) rs _ is.given (is.kept.0.is.of_day _ has_it, tt);
      ascending = ascending-push rs _ is.ascending (is.kept.0.later _ has_it);
      kept = goods ws is.kept.1 is.ordered.0;
      offered = tt;
      ordered = is.ordered.1;
      aside = tt;
      covered = λ r t. by r (is.covered r t);
      few = omega (arith, is.few, length-append rs (record { sum = c.sum; tree = c.steps } ∷ []));
    }
      where
        by : (r : Ranked) → In r rs ⊎ (IsAfter rs r × (OneHas g p (c ∷ ws) r ⊎ (OneHas g p [] r ⊎ IsBeyond most rs (c ∷ ws) r)))
            → In r (rs ++ record { sum = c.sum; tree = c.steps } ∷ []) ⊎ (IsAfter (rs ++ record { sum = c.sum; tree = c.steps } ∷ []) r × (OneHas g p ws r ⊎ (OneHas g p [] r ⊎ IsBeyond most (rs ++ record { sum = c.sum; tree = c.steps } ∷ []) ws r)))
        by r (inl h) = inl (In-left r rs _ h)
        by r (inr (after, inl (inl h))) = inl (In-last r rs _ (is_it r h))
        by r (inr (after, inl (inr h))) = inr (afterwards r after (one_comes ws r is.ordered.0 h), inl h)
        by r (inr (after, inr (inl h))) = absurd h
        by r (inr (after, inr (inr h))) = inr (
          afterwards r after h.after.0,
          inr (inr (record {
            after = h.after.1;
            full = omega (arith, h.full, length-append rs (record { sum = c.sum; tree = c.steps } ∷ []));
          })),
        )

  -- where no candidate is left, the ranking is done
  pub is-ranking : (rs : List Ranked) → IsProgress g p most rs [] [] → IsRanking g p most rs
  is-ranking rs is = record {
    of_day = is.given;
    ascending = is.ascending;
    complete = λ r t. by r (is.covered r t);
    few = omega (arith, is.few);
  }
    where
      by : (r : Ranked) → In r rs ⊎ (IsAfter rs r × (OneHas g p [] r ⊎ (OneHas g p [] r ⊎ IsBeyond most rs [] r)))
          → In r rs ⊎ (Each (λ (q : Ranked). RankedBefore q r) rs × (length rs ≡ most))
      by r (inl h) = inl h
      by r (inr (after, inl h)) = absurd h
      by r (inr (after, inr (inl h))) = absurd h
      by r (inr (after, inr (inr h))) = inr (after, omega (arith, h.full))

  -- a ranking begins with the candidate of all trees
  pub is-begun : (c : Candidate) → 1 ≤ most → IsCandidate g p c → ((r : Ranked) → IsRankedTree g p r → Has g p c r) → IsProgress g p most [] (c ∷ []) []
  is-begun c some is all = record {
    given = tt;
    ascending = tt;
    kept = (record { is = is; later = λ r h. tt }, tt);
    offered = tt;
    ordered = (tt, tt);
    aside = tt;
    covered = λ r t. inr (tt, inl (inl (all r t)));
    few = some;
  }

  -- or with none, where no tree has a sum
  pub is-begun_empty : ((r : Ranked) → IsRankedTree g p r → ⊥) → IsProgress g p most [] [] []
  is-begun_empty none = record {
    given = tt;
    ascending = tt;
    kept = tt;
    offered = tt;
    ordered = tt;
    aside = tt;
    covered = λ r t. absurd (none r t);
    few = omega arith;
  }
