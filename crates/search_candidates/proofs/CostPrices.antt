-- The prices under which the sum of a tree of the day is its cost.
use Rattle.std.proofs.Common.{◌≡◌, ℕ, zero, suc, ℤ, pos, ◌+ℤ◌, ◌-ℤ◌, ◌*ℤ◌, Bool, true, false, cond, replicate, Some, List, [], ◌∷◌, arith, refl, subst, sym, ap, ◌∙◌}
use Rattle.std.proofs.lemmas.Int.{ints}
use Rattle.model_rosters.specs.declared.instance.Cell.{Cell}
use Rattle.model_rosters.specs.declared.instance.Instance.{Instance}
use Rattle.model_rosters.specs.declared.instance.Prices.{Prices}
use Rattle.model_rosters.specs.Agreement.{Agree}
use Rattle.model_rosters.specs.Arcs.{Letter, letters, arcs, cost}
use Rattle.model_rosters.specs.Coverage.{is_at}
use Rattle.model_rosters.specs.Folds.{sum_z}
use Rattle.model_rosters.specs.Reduced.{cell_prices, cut_prices, letter_price, arc_price, view_of, reduced_view}
use Rattle.model_rosters.specs.SoundInstance.{IsSoundInstance}
use Rattle.model_rosters.specs.Sums.{PriceView, tree_sum}
use Rattle.model_rosters.proofs.AgreementLemmas.{tree_same}
use Rattle.law_bounds.proofs.ReducedCosts.{reduced-cost}
use Rattle.search_candidates.specs.Leaders.{AreCosts}

free_letter : (cs : List Cell) (n : ℕ) (l : Letter) → letter_price (cell_prices cs (replicate n (pos 0))) l ≡ pos 0
free_letter [] n l = refl
free_letter (c ∷ cs) zero l = by (is_at c l) (free_letter cs zero l)
  where
    by : (b : Bool) → letter_price (cell_prices cs []) l ≡ pos 0 → cond b (pos 0) (pos 0) +ℤ letter_price (cell_prices cs []) l ≡ pos 0
    by true e = omega (arith, ints, e)
    by false e = omega (arith, ints, e)
free_letter (c ∷ cs) (suc n) l = by (is_at c l) (free_letter cs n l)
  where
    by : (b : Bool) → letter_price (cell_prices cs (replicate n (pos 0))) l ≡ pos 0 → cond b (pos 0) (pos 0) +ℤ letter_price (cell_prices cs (replicate n (pos 0))) l ≡ pos 0
    by true e = omega (arith, ints, e)
    by false e = omega (arith, ints, e)

sum_free : {A : Type 0} (f : A → ℤ) (xs : List A) → ((x : A) → f x ≡ pos 0) → sum_z f xs ≡ pos 0
sum_free f [] h = refl
sum_free f (x ∷ xs) h = let a = h x in let b = sum_free f xs h in omega (arith, ints, a, b)

pub costs-are : (i : Instance) → IsSoundInstance i → (p : PriceView) (zs : List ℤ) (n : ℕ) → zs ≡ replicate n (pos 0)
    → Agree i.grammar p (view_of i.grammar 1 (cell_prices i.cells zs) (cut_prices 1 [] [])) → AreCosts i.grammar p
costs-are i sound p zs n zeros agree t day =
    let own : Prices = record { d = 1; cell = zs; mult = [] } in
    let same : tree_sum p 1 t ≡ tree_sum (reduced_view i own []) 1 t = tree_same i.grammar p (reduced_view i own []) sound.grammar.rules agree i.grammar.start t day in
    let a : sum_z (letter_price (cell_prices i.cells zs)) (letters 1 t) ≡ pos 0 =
    sum_free (letter_price (cell_prices i.cells zs)) (letters 1 t) (λ l. subst (λ (q : List ℤ). letter_price (cell_prices i.cells q) l ≡ pos 0) (sym zeros) (free_letter i.cells n l)) in
    let b : sum_z (arc_price (cut_prices 1 [] [])) (arcs 1 t) ≡ pos 0 = sum_free (arc_price (cut_prices 1 [] [])) (arcs 1 t) (λ x. refl) in
    same ∙ reduced-cost i own [] t day ∙ ap Some (whole _ _ (cost i.grammar t) a b)
  where
    whole : (x y : ℤ) (c : ℕ) → x ≡ pos 0 → y ≡ pos 0 → pos 1 *ℤ pos c -ℤ x +ℤ y ≡ pos c
    whole x y c e f = omega (arith, ints, e, f)
