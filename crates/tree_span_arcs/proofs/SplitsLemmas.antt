-- Split points under free prices: where a first part and the others derive.
use Rattle.std.proofs.Common.{◌≡◌, ℕ, ℤ, ◌<◌, ◌≤◌, ◌+◌, List, Option, None, Some, refl, ◌⊎◌, inl, inr, length, drop, get_or}
use Rattle.model_rosters.specs.declared.grammar.Grammar.{Grammar}
use Rattle.model_rosters.specs.declared.grammar.Sym.{Sym}
use Rattle.model_rosters.specs.Sums.{plus}
use Rattle.model_rosters.specs.tree_laws.Laws.{arc_at}
use Rattle.tree_span_cells.specs.declared.periods.Periods.{Periods}
use Rattle.tree_span_cells.specs.Choices.{ChosenPart}
use Rattle.tree_span_cells.specs.Periods.{Has}
use Rattle.tree_span_arcs.specs.Marks.{free_view, HasSplit}
use Rattle.tree_span_arcs.proofs.ArcsLemmas.{two-split}
use Rattle.tree_span_arcs.proofs.MarksLemmas.{some-least, free-tree, free-parts}

-- under free prices there is a sum where both parts derive
pub split-noted : (g : Grammar) (points : Periods) (r k : ℕ) (xs : List Sym) (i l : ℕ) (d : Sym) → k + 2 ≤ length xs
    → ((m : ℕ) → 1 ≤ m → m < l → Has points (i + m) ⊎ ChosenPart g free_view r k (get_or xs k d) xs i l m None)
    → (m : ℕ) → HasSplit g (drop k xs) i l m → Has points (i + m) × (1 ≤ m) × (m < l)
split-noted g points r k xs i l d two told m has =
    let q = (two-split g xs k i l m d (get_or xs k d) two refl).0 has in
    elim (told m q.0 q.1) [
      | inl h ↦ (h, q.0, q.1)
      | inr c ↦ let a = some-least _ _ c.head c.first (λ t. free-tree t i) q.2 in
          let b = some-least _ _ c.tail c.rest (λ t. free-parts t r (k + 1) (i + m)) q.3 in
          absurd (none_of c.head c.tail (free_view.arc_of (arc_at r k i l m)) a b c.sum)
    ]
  where
    none_of : (a b : Option ℤ) (e : ℤ) → (z : ℤ) × (a ≡ Some z) → (z : ℤ) × (b ≡ Some z) → None ≡ plus a (plus (Some e) b) → ⊥
    none_of None b e x y s = let n = x.1 in cc
    none_of (Some z) None e x y s = let n = y.1 in cc
    none_of (Some z) (Some w) e x y s = cc
