-- The numbers of trees in a pool.
use Rattle.std.proofs.Common.{All, ◌≡◌, ℕ, zero, suc, ◌<◌, Some, List, [], ◌∷◌, ◌++◌, arith, refl, subst, sym, ap, ◌∙◌, length, length-append, map, get_or}
use Rattle.std.specs.Prelude.{slice_get}
use Rattle.std.proofs.lemmas.List.Elements.{All-nil, All-cons}
use Rattle.model_rosters.specs.declared.grammar.Grammar.{Grammar}
use Rattle.model_rosters.specs.declared.grammar.Step.{Step}
use Rattle.model_rosters.specs.declared.grammar.Sym.TheVariants.{Name}
use Rattle.model_rosters.specs.Folds.{Each}
use Rattle.model_rosters.specs.Trees.{Parts, IsDayTree, steps}
use Rattle.tree_pool.proofs.grammar_core.ListsLemmas.{same-steps}
use Rattle.model_rosters.specs.tree_laws.DaySteps.{AreDaySteps}
use Rattle.std.proofs.lemmas.Option.{slice_get_within, get_or_from_slice_get, slice_get-get_or}
use Rattle.std.proofs.lemmas.List.{append-nil, get_or_append_left}
use Rattle.tree_pool.specs.Pools.{PoolTree, IsPoolTree, IsPool, IsGrown}
use Rattle.search_candidates.specs.Rosters.{AreTreesAt}

-- the columns have these rule uses, in their order
abbrev pub HaveSteps : List PoolTree → List ℕ → List (List Step) → Type 0
HaveSteps pool [] [] = Unit {0}
HaveSteps pool (c ∷ cs) (s ∷ ss) = (x : PoolTree) × (slice_get pool c ≡ Some x) × (x.steps ≡ s) × HaveSteps pool cs ss
HaveSteps pool [] (s ∷ ss) = ⊥
HaveSteps pool (c ∷ cs) [] = ⊥

-- an entry keeps its number
pub entry-kept : (old new : List PoolTree) → IsGrown old new → (c : ℕ) (x : PoolTree) → slice_get old c ≡ Some x → slice_get new c ≡ Some x
entry-kept old new grown c x at = subst (λ (p : List PoolTree). slice_get p c ≡ Some x) (sym grown.1) (left old grown.0 c x at)
  where
    left : (xs ys : List PoolTree) (c : ℕ) (x : PoolTree) → slice_get xs c ≡ Some x → slice_get (xs ++ ys) c ≡ Some x
    left xs ys c x at =
        let lt = slice_get_within xs c x at in
        let long = length-append xs ys in
        slice_get-get_or (xs ++ ys) c x (omega (arith, lt, long)) ∙ ap Some (get_or_append_left xs ys x c lt ∙ get_or_from_slice_get xs c x x at)

pub have-kept : (old new : List PoolTree) → IsGrown old new → (cs : List ℕ) (ss : List (List Step)) → HaveSteps old cs ss → HaveSteps new cs ss
have-kept old new grown [] [] h = tt
have-kept old new grown [] (s ∷ ss) h = absurd h
have-kept old new grown (c ∷ cs) [] h = absurd h
have-kept old new grown (c ∷ cs) (s ∷ ss) h = (h.0, entry-kept old new grown c h.0 h.1, h.2, have-kept old new grown cs ss h.3)

pub have-next : (pool : List PoolTree) (c : ℕ) (s : List Step) (x : PoolTree) → slice_get pool c ≡ Some x → x.steps ≡ s → (cs : List ℕ) (ss : List (List Step)) → HaveSteps pool cs ss → HaveSteps pool (cs ++ c ∷ []) (ss ++ s ∷ [])
have-next pool c s x at is [] [] h = (x, at, is, tt)
have-next pool c s x at is [] (r ∷ ss) h = absurd h
have-next pool c s x at is (d ∷ cs) [] h = absurd h
have-next pool c s x at is (d ∷ cs) (r ∷ ss) h = (h.0, h.1, h.2, have-next pool c s x at is cs ss h.3)

-- columns that have rule uses are in the pool
pub have-within : (pool : List PoolTree) (cs : List ℕ) (ss : List (List Step)) → HaveSteps pool cs ss → All (λ c. c < length pool) cs
have-within pool [] ss h = All-nil (λ c. c < length pool)
have-within pool (c ∷ cs) [] h = absurd h
have-within pool (c ∷ cs) (s ∷ ss) h = All-cons (λ c. c < length pool) c cs (slice_get_within pool c h.0 h.1) (have-within pool cs ss h.3)

pub grown-more : (a b c : List PoolTree) → IsGrown a b → IsGrown b c → IsGrown a c
grown-more a b c h k = (h.0 ++ k.0, k.1 ∙ ap (λ (p : List PoolTree). p ++ k.0) h.1 ∙ assoc a h.0 k.0)
  where
    assoc : (x y z : List PoolTree) → (x ++ y) ++ z ≡ x ++ (y ++ z)
    assoc [] y z = refl
    assoc (e ∷ x) y z = ap (λ (p : List PoolTree). e ∷ p) (assoc x y z)

module _ (g : Grammar) (pool : List PoolTree) (is : IsPool g pool) where
  -- an entry with the rule uses of a tree of the day is that tree
  pub entry-is : (c : ℕ) (x : PoolTree) (t : Parts) → slice_get pool c ≡ Some x → IsDayTree g t → x.steps ≡ steps 1 t → IsPoolTree g t x
  entry-is c x t at day e =
      let u = is.trees c x at in
      let lists : steps 1 u.0 ++ [] ≡ steps 1 t ++ [] = append-nil (steps 1 u.0) ∙ sym u.1.steps ∙ e ∙ sym (append-nil (steps 1 t)) in
      let same = same-steps g (Name g.start ∷ []) 1 u.0 t [] [] u.1.day.0 day.0 lists in
      subst (λ (v : Parts). IsPoolTree g v x) same.0 u.1

  -- and so for all
  pub trees-at : (cs : List ℕ) (ts : List Parts) → HaveSteps pool cs (map (steps 1) ts) → Each (IsDayTree g) ts → AreTreesAt g pool cs ts
  trees-at [] [] h day = tt
  trees-at [] (t ∷ ts) h day = absurd h
  trees-at (c ∷ cs) [] h day = absurd h
  trees-at (c ∷ cs) (t ∷ ts) h day = (h.0, h.1, entry-is c h.0 t h.1 day.0 h.2, trees-at cs ts h.3 day.1)

-- each of the lists is that of a tree of the day
pub day-steps : (g : Grammar) (trees : List (List Step)) → ((ts : List Parts) × Each (IsDayTree g) ts × (trees ≡ map (steps 1) ts)) → (k : ℕ) (d xs : List Step) → k < length trees → xs ≡ get_or trees k d → AreDaySteps g xs
day-steps g trees h k d xs inside e =
    let r = mapped h.0 h.1 k d (subst (λ (q : List (List Step)). k < length q) h.2 inside) in
    (r.0, r.1, e ∙ ap (λ (q : List (List Step)). get_or q k d) h.2 ∙ r.2)
  where
    mapped : (ts : List Parts) → Each (IsDayTree g) ts → (k : ℕ) (d : List Step) → k < length (map (steps 1) ts) → (t : Parts) × IsDayTree g t × (get_or (map (steps 1) ts) k d ≡ steps 1 t)
    mapped [] day k d l = absurd (omega (arith, l))
    mapped (t ∷ ts) day zero d l = (t, day.0, refl)
    mapped (t ∷ ts) day (suc k) d l = mapped ts day.1 k d (omega (arith, l))
