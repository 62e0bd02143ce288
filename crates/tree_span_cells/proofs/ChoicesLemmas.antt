-- The better of two choices is one of them.
use Rattle.std.proofs.Common.{◌≡◌, ℕ, ℤ, false, List, Option, None, Some, ◌⊎◌, inl, inr, refl, sym, subst}
use Rattle.std.specs.Option.{is_some}
use Rattle.std.specs.Prelude.{OnSome}
use Rattle.model_rosters.specs.declared.grammar.Grammar.{Grammar}
use Rattle.model_rosters.specs.declared.grammar.Sym.{Sym}
use Rattle.model_rosters.specs.Sums.{PriceView, plus}
use Rattle.tree_span_cells.specs.Choices.{ChosenPart, ChosenRule}
use Rattle.tree_span_cells.specs.declared.sums.Choice.{Choice}
use Rattle.tree_span_cells.specs.declared.sums.LeastPart.{LeastPart}
use Rattle.tree_span_cells.specs.Numbers.{sum_below}

-- what holds at all holds where there is a sum
pub on_some : (v : Option ℤ) (P : Type 0) → P → OnSome v P
on_some None P h = tt
on_some (Some z) P h = h

-- there is no sum where a first part or the others have none
pub no-sum : (a b : Option ℤ) (e : ℤ) → (is_some a ≡ false) ⊎ (is_some b ≡ false) → None ≡ plus a (plus (Some e) b)
no-sum None b e h = refl
no-sum (Some x) None e h = refl
no-sum (Some x) (Some y) e (inl h) = cc
no-sum (Some x) (Some y) e (inr h) = cc

module _ (g : Grammar) (p : PriceView) (r k : ℕ) (s : Sym) (xs : List Sym) (i l : ℕ) where
  -- the better of two parts was chosen well
  pub part-next : (best next : Choice) (sum : Option ℤ) (part : ℕ) → OnSome best.sum (ChosenPart g p r k s xs i l best.number best.sum) → ChosenPart g p r k s xs i l part sum
      → (next ≡ best) ⊎ ((next.sum ≡ sum) × (next.number ≡ part)) → OnSome next.sum (ChosenPart g p r k s xs i l next.number next.sum)
  part-next best next sum part h c (inl e) = subst (λ (n : Choice). OnSome n.sum (ChosenPart g p r k s xs i l n.number n.sum)) (sym e) h
  part-next best next sum part h c (inr e) = rw (e.0, e.1) (on_some sum _ c)

  -- so was the better of two that are numbers
  pub number-next : (best next : LeastPart) (number : ℤ) (part : ℕ) → OnSome (sum_below best.number) (ChosenPart g p r k s xs i l best.part (sum_below best.number)) → ChosenPart g p r k s xs i l part (sum_below number)
      → (next ≡ best) ⊎ (next ≡ record { number = number; part = part }) → OnSome (sum_below next.number) (ChosenPart g p r k s xs i l next.part (sum_below next.number))
  number-next best next number part h c (inl e) = subst (λ (n : LeastPart). OnSome (sum_below n.number) (ChosenPart g p r k s xs i l n.part (sum_below n.number))) (sym e) h
  number-next best next number part h c (inr e) = rw e (on_some (sum_below number) _ c)

module _ (g : Grammar) (p : PriceView) (x i l : ℕ) where
  -- the better of two rules was chosen well
  pub rule-next : (best next : Choice) (sum : Option ℤ) (number : ℕ) → OnSome best.sum (ChosenRule g p x i l best.number best.sum) → OnSome sum (ChosenRule g p x i l number sum)
      → (next ≡ best) ⊎ ((next.sum ≡ sum) × (next.number ≡ number)) → OnSome next.sum (ChosenRule g p x i l next.number next.sum)
  rule-next best next sum number h c (inl e) = subst (λ (n : Choice). OnSome n.sum (ChosenRule g p x i l n.number n.sum)) (sym e) h
  rule-next best next sum number h c (inr e) = rw (e.0, e.1) c
