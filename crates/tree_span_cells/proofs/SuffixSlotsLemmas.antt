-- The slots of suffixes, one after the other.
use Rattle.std.proofs.Common.{◌≡◌, ℕ, ◌≤◌, ◌+◌, ◌-◌, List, [], ◌∷◌, ◌++◌, Some, arith, refl, subst, sym, ap, ◌∙◌, ◌⊎◌, inl, inr, length, get_or, length-append}
use Rattle.std.specs.Prelude.{slice_get}
use Rattle.std.proofs.Math.ListN.{get_or-append}
use Rattle.std.proofs.Math.Seq.{get_or-append_seam}
use Rattle.std.proofs.lemmas.Option.{same_Some}
use Rattle.model_rosters.specs.declared.grammar.Grammar.{Grammar}
use Rattle.model_rosters.specs.declared.grammar.Rule.{Rule}
use Rattle.model_rosters.specs.Grammar.{rule_at}
use Rattle.model_rosters.proofs.tree_laws.Rules.{rule_at-within}
use Rattle.tree_span_cells.specs.declared.slot.Slot.{Slot}
use Rattle.tree_span_cells.specs.declared.slot.Slot.TheVariants.{OfSuffix}
use Rattle.tree_span_cells.specs.Cells.{HasSlot}
use Rattle.tree_span_cells.specs.Building.{AddsSuffixes, SuffixSlots, IsSuffixSlot}
use Rattle.model_rosters.proofs.tree_laws.ListPushes.{push-kept, push-here, push-cases}

-- the slot of suffix j of rule r
abbrev at_suffix : ℕ → ℕ → Slot
at_suffix r j = OfSuffix (record { rule = r; from = j })

-- no suffix yet
pub suffixes-init : (r : ℕ) (old : List Slot) → AddsSuffixes r 0 old old
suffixes-init r old = record { kept = λ s w e. e; count = omega arith; added = λ j one none. absurd (omega arith); only = λ s w e. inl e }

le_or_last : (j n : ℕ) → j ≤ n + 1 → (j ≤ n) ⊎ (j ≡ n + 1)
le_or_last j n h = grind arith

-- one suffix more
pub suffixes-next : (r n : ℕ) (old new : List Slot) → AddsSuffixes r n old new → AddsSuffixes r (n + 1) old (new ++ at_suffix r (n + 1) ∷ [])
suffixes-next r n old new h = record {
  kept = λ s w e. push-kept new (at_suffix r (n + 1)) w s (h.kept s w e);
  count = omega (arith, length-append new (at_suffix r (n + 1) ∷ []), h.count);
  added = λ j one most. added j one (le_or_last j n most);
  only = λ s w e. only s w (push-cases new (at_suffix r (n + 1)) w s e);
}
  where
    added : (j : ℕ) → 1 ≤ j → (j ≤ n) ⊎ (j ≡ n + 1) → slice_get (new ++ at_suffix r (n + 1) ∷ []) (length old + (j - 1)) ≡ Some (at_suffix r j)
    added j one (inl less) = push-kept new (at_suffix r (n + 1)) (at_suffix r j) (length old + (j - 1)) (h.added j one less)
    added j one (inr same) =
        let p : length old + (j - 1) ≡ length new = omega (arith, h.count) in
        rw (p, same) (push-here new (at_suffix r (n + 1)))

    only : (s : ℕ) (w : Slot) → (slice_get new s ≡ Some w) ⊎ ((s ≡ length new) × (w ≡ at_suffix r (n + 1)))
        → (slice_get old s ≡ Some w) ⊎ ((j : ℕ) × (1 ≤ j) × (j ≤ n + 1) × (w ≡ at_suffix r j))
    only s w (inr e) = inr (n + 1, omega arith, omega arith, e.1)
    only s w (inl e) = more (h.only s w e)
      where
        more : (slice_get old s ≡ Some w) ⊎ ((j : ℕ) × (1 ≤ j) × (j ≤ n) × (w ≡ at_suffix r j)) → (slice_get old s ≡ Some w) ⊎ ((j : ℕ) × (1 ≤ j) × (j ≤ n + 1) × (w ≡ at_suffix r j))
        more (inl k) = inl k
        more (inr k) = inr (k.0, k.1, omega (arith, k.2), k.3)

-- no rule yet
pub rules-init : (g : Grammar) → SuffixSlots g [] [] 0
rules-init g = record {
  count = refl;
  few = omega arith;
  there = λ r j rule at most one two. absurd (omega (arith, rule_at-within g r rule at));
  only = λ s w e. cc;
}

-- one rule more
pub rules-next : (g : Grammar) (slots new : List Slot) (starts : List ℕ) (n : ℕ) (rule : Rule) → rule_at g (n + 1) ≡ Some rule → length rule.right ≤ 8
    → SuffixSlots g slots starts n → AddsSuffixes (n + 1) (length rule.right - 2) slots new → SuffixSlots g new (starts ++ length slots ∷ []) (n + 1)
rules-next g slots new starts n rule here eight h a = record {
  count = omega (arith, length-append starts (length slots ∷ []), h.count);
  few = omega (arith, h.few, a.count);
  there = λ r j q at most one two. there r j q at one two (le_or_last r n most);
  only = λ s w e. only s w (a.only s w e);
}
  where
    there : (r j : ℕ) (q : Rule) → rule_at g r ≡ Some q → 1 ≤ j → j + 2 ≤ length q.right → (r ≤ n) ⊎ (r ≡ n + 1)
        → slice_get new (get_or (starts ++ length slots ∷ []) (r - 1) 0 + (j - 1)) ≡ Some (at_suffix r j)
    there r j q at one two (inl less) =
        let w = rule_at-within g r q at in
        let old : get_or (starts ++ length slots ∷ []) (r - 1) 0 ≡ get_or starts (r - 1) 0 = get_or-append starts (length slots ∷ []) 0 (r - 1) (omega (arith, h.count, w)) in
        rw old (a.kept (get_or starts (r - 1) 0 + (j - 1)) (at_suffix r j) (h.there r j q at less one two))
    there r j q at one two (inr same) =
        let e : q ≡ rule = same_Some q rule (sym at ∙ ap (λ (k : ℕ). rule_at g k) same ∙ here) in
        let m : length q.right ≡ length rule.right = ap (λ (k : Rule). length k.right) e in
        let p : r - 1 ≡ length starts = omega (arith, h.count) in
        let start : get_or (starts ++ length slots ∷ []) (r - 1) 0 ≡ length slots = rw p (get_or-append_seam starts (length slots) [] 0) in
        rw (start, same) (a.added j one (omega (arith, m)))

    only : (s : ℕ) (w : Slot) → (slice_get slots s ≡ Some w) ⊎ ((j : ℕ) × (1 ≤ j) × (j ≤ length rule.right - 2) × (w ≡ at_suffix (n + 1) j)) → IsSuffixSlot g w
    only s w (inl e) = h.only s w e
    only s w (inr k) =
        let slot : HasSlot g (record { rule = n + 1; from = k.0 }) = record { rule = rule; at = here; inner = k.1; two = omega (arith, k.1, k.2) } in
        subst (λ (v : Slot). IsSuffixSlot g v) (sym k.3) slot
