-- The slots of a first part and of what follows it.
use Rattle.std.proofs.Common.{◌≡◌, ℕ, ◌<◌, ◌≤◌, ◌+◌, ◌-◌, List, Option, None, Some, arith, subst, ◌⊎◌, inl, inr, length, drop, get_or}
use Rattle.std.specs.Prelude.{IfSome, IsSome}
use Rattle.model_rosters.specs.declared.grammar.Grammar.{Grammar}
use Rattle.model_rosters.specs.declared.grammar.Sym.{Sym}
use Rattle.model_rosters.specs.declared.grammar.Sym.TheVariants.{Code}
use Rattle.model_rosters.proofs.tree_laws.Symbols.{rest-last}
use Rattle.tree_span_cells.specs.declared.slot.Layout.{Layout}
use Rattle.model_rosters.specs.Sums.{PriceView, SymbolLeast, PartsLeast}
use Rattle.tree_span_cells.specs.Cells.{Held, Right, cell, spot}
use Rattle.tree_span_cells.specs.Choices.{ChosenPart}
use Rattle.tree_span_cells.specs.Periods.{Has, set_at}
use Rattle.tree_span_cells.specs.declared.periods.Periods.{Periods}
use Rattle.tree_span_cells.proofs.PointsLemmas.{noted_or_none, no-split}
use Rattle.tree_span_cells.specs.Splits.{IsSymbolSlot, IsRestSlot}

-- the slot of a last symbol is that of the parts from it on
pub last-slot : (g : Grammar) (lay : Layout) (h : Held) (r k : ℕ) (right : List Sym) (s : Sym) (v : Option ℕ) → 1 ≤ k → k + 1 ≡ length right → get_or right k (Code 0) ≡ s
    → IfSome v (IsSymbolSlot g lay h s) → IfSome v (IsRestSlot g lay h r k (drop k right))
last-slot g lay h r k right s None one last at slot = tt
last-slot g lay h r k right s (Some n) one last at slot = record {
  within = slot.within;
  least = λ p i l here. rest-last g p i l r k right (Code 0) s _ one last at (slot.least p i l here);
}

-- where a split of two slots is not noted, it has no sum
pub split-told : (g : Grammar) (p : PriceView) (lay : Layout) (h : Held) (r k i l : ℕ) (xs : List Sym) (s : Sym) (head tail : ℕ) (points : Periods)
    → ((n : ℕ) → Has (set_at h.present.ends.items (spot lay head i)) n → Has (set_at h.present.starts.items (spot lay tail (i + l))) n → Has points n)
    → IsSymbolSlot g lay h s head → IsRestSlot g lay h r (k + 1) (drop (k + 1) xs) tail
    → (m : ℕ) → 1 ≤ m → m < l → Right g p lay h i m → Right g p lay h (i + m) (l - m)
    → Has points (i + m) ⊎ ChosenPart g p r k s xs i l m None
split-told g p lay h r k i l xs s head tail points both first rest m one less right1 right2 =
    elim (noted_or_none (cell lay h head i m) (Has (set_at h.present.ends.items (spot lay head i)) (i + m)) (λ some. (right1.noted head first.within some).ends)) [
      | inr none ↦ inr (no-split g p r k s xs i l m _ _ one less a b (inl none))
      | inl x ↦ elim (noted_or_none (cell lay h tail (i + m) (l - m)) (Has (set_at h.present.starts.items (spot lay tail (i + l))) (i + m)) starts) [
        | inl y ↦ inl (both (i + m) x y)
        | inr none ↦ inr (no-split g p r k s xs i l m _ _ one less a b (inr none))
      ]
    ]
  where
    a : SymbolLeast g p s i m (cell lay h head i m)
    a = first.least p i m right1

    b : PartsLeast g p r (k + 1) (drop (k + 1) xs) (i + m) (l - m) (cell lay h tail (i + m) (l - m))
    b = rest.least p (i + m) (l - m) right2

    starts : IsSome (cell lay h tail (i + m) (l - m)) → Has (set_at h.present.starts.items (spot lay tail (i + l))) (i + m)
    starts some =
        let e : i + m + (l - m) ≡ i + l = omega (arith, less) in
        subst (λ (q : ℕ). Has (set_at h.present.starts.items (spot lay tail q)) (i + m)) e (right2.noted tail rest.within some).starts
