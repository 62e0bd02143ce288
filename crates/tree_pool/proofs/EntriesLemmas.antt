-- The entries of a pool: those that are found, and one more.
use Rattle.std.proofs.Common.{◌≡◌, ◌<◌, ◌⊎◌, inl, inr, ℕ, zero, suc, List, [], ◌∷◌, ◌++◌, Result, Ok, Err, IfOk, OnOk, OnErr, Some, length, get_or, refl, sym, ap, subst, ◌∙◌, arith, append-nil}
use Rattle.std.specs.Prelude.{slice_get, option_map}
use Rattle.std.specs.List.{insert}
use Rattle.std.proofs.lemmas.List.{length-map, map-append}
use Rattle.std.proofs.lemmas.Option.{same_Some, slice_get_within, slice_get-map}
use Rattle.model_rosters.specs.declared.grammar.Grammar.{Grammar}
use Rattle.model_rosters.specs.declared.grammar.Step.{Step}
use Rattle.model_rosters.specs.Trees.{Parts}
use Rattle.model_rosters.proofs.tree_laws.ListPushes.{push-here, push-cases}
use Rattle.tree_pool.specs.declared.entry.Entry.{Entry}
use Rattle.tree_pool.specs.Entries.{seen, all_seen, TellFacts}
use Rattle.tree_pool.specs.Orders.{steps_of, IsOrder, IsFoundAt, IsPlaceFor}
use Rattle.tree_pool.specs.Pools.{PoolTree, IsPool, IsPoolTree, IsGrown, IsAdded}
use Rattle.tree_pool.proofs.OrdersLemmas.{entry-at, steps-at, found-within, none-there, order-more}
use Rattle.model_rosters.specs.tree_laws.DaySteps.{AreDaySteps}

at-seen : (es : List Entry) (n : ℕ) (x : PoolTree) → slice_get (all_seen es) n ≡ Some x → (e : Entry) × (slice_get es n ≡ Some e) × (seen e ≡ x)
at-seen [] n x h = cc
at-seen (e ∷ es) zero x h = (e, refl, same_Some (seen e) x h)
at-seen (e ∷ es) (suc n) x h = at-seen es n x h

-- there are as many
pub seen-count : (es : List Entry) → length es ≡ length (all_seen es)
seen-count es = sym (length-map es seen)

-- the tree of an entry
pub seen-at : (es : List Entry) (n : ℕ) (e : Entry) → slice_get es n ≡ Some e → slice_get (all_seen es) n ≡ Some (seen e)
seen-at es n e h = slice_get-map seen es n ∙ ap (option_map seen) h

module _ (es : List Entry) (ns : List ℕ) (order : IsOrder es ns) (xs : List Step) (p : ℕ) (found : IsFoundAt es ns xs p) where
  -- a tree that is found is one of the pool
  pub found-entry : (x : PoolTree) × (slice_get (all_seen es) (get_or ns p 0) ≡ Some x) × (x.steps ≡ xs)
  found-entry =
      let e = entry-at es (get_or ns p 0) (found-within es ns order xs p found) in
      (seen e.0, seen-at es (get_or ns p 0) e.0 e.1, sym e.2 ∙ found.1)

  -- its number is one of a tree of the pool
  pub within-seen : get_or ns p 0 < length (all_seen es)
  within-seen = omega (arith, found-within es ns order xs p found, seen-count es)

module _ (g : Grammar) (es : List Entry) (e : Entry) where
  -- one tree more
  pub seen-more : all_seen (es ++ e ∷ []) ≡ all_seen es ++ seen e ∷ []
  seen-more = map-append seen es (e ∷ [])

  -- it has the next number
  pub seen-last : slice_get (all_seen (es ++ e ∷ [])) (length es) ≡ Some (seen e)
  seen-last =
      ap (λ (xs : List PoolTree). slice_get xs (length es)) seen-more
      ∙ ap (slice_get (all_seen es ++ seen e ∷ [])) (seen-count es)
      ∙ push-here (all_seen es) (seen e)

  module _ (ns : List ℕ) (order : IsOrder es ns) (xs : List Step) (p : ℕ) (place : IsPlaceFor es ns xs p) (pool : IsPool g (all_seen es)) (own : e.tree.steps ≡ xs) (day : AreDaySteps g xs) (told : TellFacts g xs e.facts) where
    other : (j : ℕ) (x : PoolTree) → slice_get (all_seen es) j ≡ Some x → x.steps ≡ e.tree.steps → ⊥
    other j x at same =
        let f = at-seen es j x at in
        let is : steps_of es j ≡ xs = steps-at es j f.0 f.1 ∙ ap (λ (y : PoolTree). y.steps) f.2 ∙ same ∙ own in
        none-there es ns order xs p place j (slice_get_within es j f.0 f.1) is

    pub pool-more : IsPool g (all_seen es ++ seen e ∷ [])
    pool-more = record {
      trees = λ j x at. tree-of x (push-cases (all_seen es) (seen e) x j at);
      once = λ j k x y at at2 same. one j k x y same (push-cases (all_seen es) (seen e) x j at) (push-cases (all_seen es) (seen e) y k at2);
    }
      where
        new : IsPoolTree g day.0 (seen e)
        new = subst (λ (s : List Step). IsPoolTree g day.0 (record { steps = s; codes = e.facts.codes; arcs = e.facts.arcs; cost = e.facts.cost })) (sym own) (told day.0 day.1 day.2)

        tree-of : {j : ℕ} (x : PoolTree) → (slice_get (all_seen es) j ≡ Some x) ⊎ ((j ≡ length (all_seen es)) × (x ≡ seen e)) → (t : Parts) × IsPoolTree g t x
        tree-of {j} x (inl h) = pool.trees j x h
        tree-of {j} x (inr h) = (day.0, subst (IsPoolTree g day.0) (sym h.1) new)

        one : (j k : ℕ) (x y : PoolTree) → x.steps ≡ y.steps
            → (slice_get (all_seen es) j ≡ Some x) ⊎ ((j ≡ length (all_seen es)) × (x ≡ seen e))
            → (slice_get (all_seen es) k ≡ Some y) ⊎ ((k ≡ length (all_seen es)) × (y ≡ seen e))
            → j ≡ k
        one j k x y same (inl a) (inl b) = pool.once j k x y a b same
        one j k x y same (inl a) (inr b) = absurd (other j x a (same ∙ ap (λ (z : PoolTree). z.steps) b.1))
        one j k x y same (inr a) (inl b) = absurd (other k y b (sym same ∙ ap (λ (z : PoolTree). z.steps) a.1))
        one j k x y same (inr a) (inr b) = a.0 ∙ sym b.0

    module _ {E : Type 0} (r : Result ℕ E) (fs : List Entry) (ms : List ℕ) (entries : OnOk r (fs ≡ es ++ e ∷ [])) (numbers : OnOk r (ms ≡ insert ns p (length es))) (number : IfOk r (λ n. n ≡ length es)) (kept : OnErr r ((fs ≡ es) × (ms ≡ ns))) where
      -- after the entry was put behind the others, or could not be
      pub put-order : IsOrder fs ms
      put-order = by r entries numbers kept
        where
          new : IsOrder (es ++ e ∷ []) (insert ns p (length es))
          new = order-more es ns order e p (subst (λ (ys : List Step). IsPlaceFor es ns ys p) (sym own) place)

          by : (r : Result ℕ E) → OnOk r (fs ≡ es ++ e ∷ []) → OnOk r (ms ≡ insert ns p (length es)) → OnErr r ((fs ≡ es) × (ms ≡ ns)) → IsOrder fs ms
          by (Ok n) a b k = subst (λ (ks : List ℕ). IsOrder fs ks) (sym b) (subst (λ (gs : List Entry). IsOrder gs (insert ns p (length es))) (sym a) new)
          by (Err x) a b k = subst (λ (ks : List ℕ). IsOrder fs ks) (sym k.1) (subst (λ (gs : List Entry). IsOrder gs ns) (sym k.0) order)

      pub put-pool : IsPool g (all_seen fs)
      put-pool = by r entries kept
        where
          by : (r : Result ℕ E) → OnOk r (fs ≡ es ++ e ∷ []) → OnErr r ((fs ≡ es) × (ms ≡ ns)) → IsPool g (all_seen fs)
          by (Ok n) a k = subst (IsPool g) (sym (ap all_seen a ∙ seen-more)) pool-more
          by (Err x) a k = subst (IsPool g) (sym (ap all_seen k.0)) pool

      pub put-grown : IsGrown (all_seen es) (all_seen fs)
      put-grown = by r entries kept
        where
          by : (r : Result ℕ E) → OnOk r (fs ≡ es ++ e ∷ []) → OnErr r ((fs ≡ es) × (ms ≡ ns)) → IsGrown (all_seen es) (all_seen fs)
          by (Ok n) a k = (seen e ∷ [], ap all_seen a ∙ seen-more)
          by (Err x) a k = ([], ap all_seen k.0 ∙ sym (append-nil (all_seen es)))

      pub put-added : IfOk r (IsAdded (all_seen es) (all_seen fs))
      put-added = by r entries number
        where
          by : (r : Result ℕ E) → OnOk r (fs ≡ es ++ e ∷ []) → IfOk r (λ n. n ≡ length es) → IfOk r (IsAdded (all_seen es) (all_seen fs))
          by (Ok n) a l = inr (seen e, ap all_seen a ∙ seen-more, l ∙ seen-count es)
          by (Err x) a l = tt

      pub put-found : IfOk r (λ n. (x : PoolTree) × (slice_get (all_seen fs) n ≡ Some x) × (x.steps ≡ xs))
      put-found = by r entries number
        where
          by : (r : Result ℕ E) → OnOk r (fs ≡ es ++ e ∷ []) → IfOk r (λ n. n ≡ length es) → IfOk r (λ n. (x : PoolTree) × (slice_get (all_seen fs) n ≡ Some x) × (x.steps ≡ xs))
          by (Ok n) a l = (seen e, ap (slice_get (all_seen fs)) l ∙ ap (λ (gs : List Entry). slice_get (all_seen gs) (length es)) a ∙ seen-last, own)
          by (Err x) a l = tt
