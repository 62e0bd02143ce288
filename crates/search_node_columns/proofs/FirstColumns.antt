-- The rows' own columns.
use Rattle.std.proofs.Common.{◌≡◌, ℕ, arith, pos, neg_ℤ, ◌+◌, ◌<◌, Bool, true, false, cond, nat_eq, List, [], ◌∷◌, ◌++◌, length, Some, refl, sym, ap, ◌∙◌, subst, ◌⊎◌, inl, inr, length-append, append_assoc}
use Rattle.std.specs.Prelude.{slice_get}
use Rattle.model_rosters.specs.declared.instance.Cut.{Cut}
use Rattle.model_rosters.specs.declared.instance.Instance.{Instance}
use Rattle.law_bounds.specs.linear_programs.Program.{unit_vector}
use Rattle.law_bounds.specs.BestPrices.{artificial_cost}
use Rattle.law_bounds.specs.master_laws.Rows.{Row, rows_of, number_at, HoldsAt}
use Rattle.law_bounds.specs.master_laws.Master.{MasterKey, missing, beyond, HasBeyond, missing_cost, beyond_cost}
use Rattle.lp_fractions.specs.pivot_rows.Columns.{number_in}
use Rattle.tree_pool.specs.Pools.{PoolTree}
use Rattle.search_node_columns.specs.declared.workspace.Kind.{Kind}
use Rattle.search_node_columns.specs.declared.workspace.Kind.TheVariants.{Missing, Beyond}
use Rattle.search_node_columns.specs.declared.workspace.Held.{Held}
use Rattle.search_node_columns.specs.Columns.{IsKey, Tells, IsHeld, AreTold, HasMissing, HasBeyonds, HasMore, AreHeld}
use Rattle.search_node_columns.proofs.HeldColumns.{pushed, pushed_last, stays}

module _ (i : Instance) (cuts : List Cut) (pool : List PoolTree) where
  pub missing_held : (r : ℕ) (h : Held) → r < length (rows_of i cuts) → h.kind ≡ Missing r → h.places ≡ record { row = r; value = pos 1 } ∷ []
      → h.cost ≡ number_at (λ (x : Row). pos (missing_cost (artificial_cost i) x.sense)) (rows_of i cuts) r → IsHeld i cuts pool h
  missing_held r h below kind places cost = record {
    some = (missing r, subst (λ (k : Kind). IsKey i.grammar pool k (missing r)) (sym kind) refl);
    tells = λ k key. let e : k ≡ missing r = subst (λ (x : Kind). IsKey i.grammar pool x k) kind key in subst (λ (x : MasterKey). Tells i cuts h x) (sym e) of;
  }
    where
      of : Tells i cuts h (missing r)
      of = record {
        belongs = below;
        places = rw places record { within = (below, tt); rising = (tt, tt); numbers = λ j l. refl };
        cost = cost;
      }

  pub beyond_held : (r : ℕ) (h : Held) → r < length (rows_of i cuts) → HoldsAt HasBeyond (rows_of i cuts) r → h.kind ≡ Beyond r
      → h.places ≡ record { row = r; value = neg_ℤ (pos 1) } ∷ [] → h.cost ≡ number_at (λ (x : Row). pos (beyond_cost x.sense)) (rows_of i cuts) r → IsHeld i cuts pool h
  beyond_held r h below has kind places cost = record {
    some = (beyond r, subst (λ (k : Kind). IsKey i.grammar pool k (beyond r)) (sym kind) refl);
    tells = λ k key. let e : k ≡ beyond r = subst (λ (x : Kind). IsKey i.grammar pool x k) kind key in subst (λ (x : MasterKey). Tells i cuts h x) (sym e) of;
  }
    where
      less : (j : ℕ) → neg_ℤ (unit_vector r j) ≡ number_in (record { row = r; value = neg_ℤ (pos 1) } ∷ []) j
      less j = by (nat_eq r j)
        where
          by : (b : Bool) → neg_ℤ (cond b (pos 1) (pos 0)) ≡ cond b (neg_ℤ (pos 1)) (pos 0)
          by true = refl
          by false = refl

      of : Tells i cuts h (beyond r)
      of = record {
        belongs = has;
        places = rw places record { within = (below, tt); rising = (tt, tt); numbers = λ j l. less j };
        cost = cost;
      }

  pub told_push : (held : List Held) (h : Held) → AreTold i cuts pool held → IsHeld i cuts pool h → AreTold i cuts pool (held ++ h ∷ [])
  told_push held h told is = λ j x at. by (pushed held h j x at)
    where
      by : {j : ℕ} {x : Held} → (slice_get held j ≡ Some x) ⊎ ((j ≡ length held) × (x ≡ h)) → IsHeld i cuts pool x
      by {j} {x} (inl at) = told j x at
      by {j} {x} (inr e) = subst (λ (y : Held). IsHeld i cuts pool y) (sym e.1) is

  pub beyonds_push : (n : ℕ) (held : List Held) (h : Held) → HasBeyonds i cuts n held → h.kind ≡ Beyond n → HasBeyonds i cuts (n + 1) (held ++ h ∷ [])
  beyonds_push n held h has kind = λ r l b. by r b (split r n l)
    where
      split : (r n : ℕ) → r < n + 1 → (r < n) ⊎ (r ≡ n)
      split r n l = grind arith

      by : (r : ℕ) → HoldsAt HasBeyond (rows_of i cuts) r → (r < n) ⊎ (r ≡ n) → (j : ℕ) × (x : Held) × (slice_get (held ++ h ∷ []) j ≡ Some x) × (x.kind ≡ Beyond r)
      by r b (inl l) = let u = has r l b in (u.0, u.1, stays held (h ∷ []) u.0 u.1 u.2, u.3)
      by r b (inr e) = (length held, h, pushed_last held h, kind ∙ ap Beyond (sym e))

  pub beyonds_skip : (n : ℕ) (held : List Held) → HasBeyonds i cuts n held → (HoldsAt HasBeyond (rows_of i cuts) n → ⊥) → HasBeyonds i cuts (n + 1) held
  beyonds_skip n held has none = λ r l b. by r b (split r n l)
    where
      split : (r n : ℕ) → r < n + 1 → (r < n) ⊎ (r ≡ n)
      split r n l = grind arith

      by : (r : ℕ) → HoldsAt HasBeyond (rows_of i cuts) r → (r < n) ⊎ (r ≡ n) → (j : ℕ) × (x : Held) × (slice_get held j ≡ Some x) × (x.kind ≡ Beyond r)
      by r b (inl l) = has r l b
      by r b (inr e) = absurd (none (subst (λ (k : ℕ). HoldsAt HasBeyond (rows_of i cuts) k) e b))

pub missing_push : (n : ℕ) (held : List Held) (h : Held) → HasMissing n held → length held ≡ n → h.kind ≡ Missing n → HasMissing (n + 1) (held ++ h ∷ [])
missing_push n held h has count kind = λ r l. by r (split r n l)
  where
    split : (r n : ℕ) → r < n + 1 → (r < n) ⊎ (r ≡ n)
    split r n l = grind arith

    by : (r : ℕ) → (r < n) ⊎ (r ≡ n) → (x : Held) × (slice_get (held ++ h ∷ []) r ≡ Some x) × (x.kind ≡ Missing r)
    by r (inl l) = let u = has r l in (u.0, stays held (h ∷ []) r u.0 u.1, u.2)
    by r (inr e) =
        let at : slice_get (held ++ h ∷ []) r ≡ Some h = subst (λ (k : ℕ). slice_get (held ++ h ∷ []) k ≡ Some h) (count ∙ sym e) (pushed_last held h) in
        (h, at, kind ∙ ap Missing (sym e))

pub missing_stay : (n : ℕ) (held more : List Held) → HasMissing n held → HasMissing n (held ++ more)
missing_stay n held more has = λ r l. let u = has r l in (u.0, stays held more r u.0 u.1, u.2)

pub pushed_length : (n : ℕ) (held : List Held) (h : Held) → length held ≡ n → length (held ++ h ∷ []) ≡ n + 1
pushed_length n held h e = let l = length-append held (h ∷ []) in omega (arith, l)

pub more_push : (old held : List Held) (h : Held) → HasMore old held → HasMore old (held ++ h ∷ [])
more_push old held h m = (m.0 ++ h ∷ [], ap (λ (xs : List Held). xs ++ h ∷ []) m.1 ∙ append_assoc old m.0 (h ∷ []))

pub more_chain : (a b c : List Held) → HasMore a b → HasMore b c → HasMore a c
more_chain a b c m n = (m.0 ++ n.0, n.1 ∙ ap (λ (xs : List Held). xs ++ n.0) m.1 ∙ append_assoc a m.0 n.0)

-- what is listed first, with columns behind
pub all_held : (i : Instance) (cuts : List Cut) (pool : List PoolTree) (first second held : List Held) → HasMissing (length (rows_of i cuts)) first → HasMore first second
    → HasBeyonds i cuts (length (rows_of i cuts)) second → HasMore second held → AreTold i cuts pool held → AreHeld i cuts pool held
all_held i cuts pool first second held short a over b told = record {
  each = told;
  units = λ r l. let u = short r l in (u.0, subst (λ (hs : List Held). slice_get hs r ≡ Some u.0) (sym b.1) (stays second b.0 r u.0 (subst (λ (hs : List Held). slice_get hs r ≡ Some u.0) (sym a.1) (stays first a.0 r u.0 u.1))), u.2);
  beyonds = λ r l h. let u = over r l h in (u.0, u.1, subst (λ (hs : List Held). slice_get hs u.0 ≡ Some u.1) (sym b.1) (stays second b.0 u.0 u.1 u.2), u.3);
}
