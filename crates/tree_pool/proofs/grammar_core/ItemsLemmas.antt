-- The items of the rules, one after the other.
use Rattle.std.proofs.Common.{◌≡◌, ℕ, ◌<◌, ◌≤◌, ◌+◌, List, [], ◌∷◌, ◌++◌, Some, arith, subst, sym, ap, ◌∙◌, ◌⊎◌, inl, inr, length, length-append}
use Rattle.std.specs.Prelude.{slice_get}
use Rattle.std.proofs.lemmas.Option.{same_Some, slice_get_within}
use Rattle.model_rosters.specs.declared.grammar.Grammar.{Grammar}
use Rattle.model_rosters.specs.declared.grammar.Rule.{Rule}
use Rattle.model_rosters.specs.declared.grammar.Sym.{Sym}
use Rattle.model_rosters.specs.Grammar.{rule_at}
use Rattle.model_rosters.proofs.tree_laws.Rules.{rule_at-within}
use Rattle.tree_pool.specs.declared.grammar_core.normal.Item.{Item}
use Rattle.tree_pool.specs.declared.grammar_core.normal.Second.{Second}
use Rattle.tree_pool.specs.declared.grammar_core.normal.Second.TheVariants.{Nothing, One, Rest}
use Rattle.tree_pool.specs.grammar_core.Items.{item_count, Follows, IsItem, ItemBefore, AreItems}
use Rattle.tree_pool.specs.grammar_core.Adding.{Continues, IsItemOf, AddsItems, ItemsOfFirst}
use Rattle.model_rosters.proofs.tree_laws.ListPushes.{push-kept, push-here, push-cases}

-- no item yet
pub adds-init : (r : ℕ) (right : List Sym) (old : List Item) → AddsItems r right 0 old old
adds-init r right old = record { kept = λ p item e. e; count = omega arith; added = λ k none. absurd (omega arith); only = λ p item e. inl e }

below_or_last : (k n : ℕ) → k < n + 1 → (k < n) ⊎ (k ≡ n)
below_or_last k n h = grind arith

-- one item more
pub adds-next : (r : ℕ) (right : List Sym) (n : ℕ) (old new : List Item) (next : Item) → IsItemOf r right n (length new + 1) next → AddsItems r right n old new
    → AddsItems r right (n + 1) old (new ++ next ∷ [])
adds-next r right n old new next is h = record {
  kept = λ p item e. push-kept new next item p (h.kept p item e);
  count = omega (arith, length-append new (next ∷ []), h.count);
  added = λ k lt. added k (below_or_last k n lt);
  only = λ p item e. only p item (push-cases new next item p e);
}
  where
    here : IsItemOf r right n (length old + n + 1) next
    here = rw (← h.count) is

    added : (k : ℕ) → (k < n) ⊎ (k ≡ n) → (item : Item) × (slice_get (new ++ next ∷ []) (length old + k) ≡ Some item) × IsItemOf r right k (length old + k + 1) item
    added k (inl lt) = let a = h.added k lt in (a.0, push-kept new next a.0 (length old + k) a.1, a.2)
    added k (inr same) = rw same (next, rw (← h.count) (push-here new next), here)

    only : (p : ℕ) (item : Item) → (slice_get new p ≡ Some item) ⊎ ((p ≡ length new) × (item ≡ next))
        → (slice_get old p ≡ Some item) ⊎ ((k : ℕ) × (k < n + 1) × (p ≡ length old + k) × IsItemOf r right k (length old + k + 1) item)
    only p item (inr e) = inr (n, omega arith, e.0 ∙ h.count, subst (λ (x : Item). IsItemOf r right n (length old + n + 1) x) (sym e.1) here)
    only p item (inl e) = more (h.only p item e)
      where
        more : (slice_get old p ≡ Some item) ⊎ ((k : ℕ) × (k < n) × (p ≡ length old + k) × IsItemOf r right k (length old + k + 1) item)
            → (slice_get old p ≡ Some item) ⊎ ((k : ℕ) × (k < n + 1) × (p ≡ length old + k) × IsItemOf r right k (length old + k + 1) item)
        more (inl k) = inl k
        more (inr k) = inr (k.0, omega (arith, k.1), k.2, k.3)

-- no rule yet
pub rules-init : (g : Grammar) → ItemsOfFirst g 0 []
rules-init g = record {
  few = omega arith;
  each = λ p item e. cc;
  all = λ r k rule at most lt. absurd (omega (arith, rule_at-within g r rule at));
  order = λ p q a b lt e f. cc;
}

-- the items of one rule more
module _ (g : Grammar) (n : ℕ) (old new : List Item) (rule : Rule) (at : rule_at g (n + 1) ≡ Some rule) (eight : length rule.right ≤ 8)
    (h : ItemsOfFirst g n old) (a : AddsItems (n + 1) rule.right (item_count (length rule.right)) old new) where
  grown : (item : Item) (s : Second) (r k : ℕ) (right : List Sym) → Follows old r right k s → Follows new r right k s
  grown item Nothing r k right f = f
  grown item (One s) r k right f = f
  grown item (Rest p) r k right f = (f.0, f.1, a.kept p f.1 f.2, f.3, f.4)

  old_item : (item : Item) → IsItem g old item → IsItem g new item
  old_item item i = record { rule = i.rule; at = i.at; suffix = i.suffix; first = i.first; second = grown item item.second item.rule item.suffix i.rule.right i.second }

  follows : (s : Second) (k : ℕ) → k < item_count (length rule.right) → Continues rule.right k (length old + k + 1) s → Follows new (n + 1) rule.right k s
  follows Nothing k lt c = c
  follows (One s) k lt c = c
  follows (Rest p) k lt c =
      let b = a.added (k + 1) (omega (arith, c.0)) in
      let e : length old + (k + 1) ≡ p = omega (arith, c.1) in
      (c.0, b.0, subst (λ (q : ℕ). slice_get new q ≡ Some b.0) e b.1, b.2.rule, b.2.suffix)

  new_item : (item : Item) (k : ℕ) → k < item_count (length rule.right) → IsItemOf (n + 1) rule.right k (length old + k + 1) item → IsItem g new item
  new_item item k lt i = record {
    rule = rule;
    at = rw i.rule at;
    suffix = rw i.suffix lt;
    first = rw i.suffix i.first;
    second = rw (i.rule, i.suffix) (follows item.second k lt i.second);
  }

  each : (p : ℕ) (item : Item) → (slice_get old p ≡ Some item) ⊎ ((k : ℕ) × (k < item_count (length rule.right)) × (p ≡ length old + k) × IsItemOf (n + 1) rule.right k (length old + k + 1) item) → IsItem g new item × (item.rule ≤ n + 1)
  each p item (inl e) = let o = h.each p item e in (old_item item o.0, omega (arith, o.1))
  each p item (inr e) = (new_item item e.0 e.1 e.3, omega (arith, e.3.rule))

  all : (r k : ℕ) (q : Rule) → rule_at g r ≡ Some q → k < item_count (length q.right) → (r ≤ n) ⊎ (r ≡ n + 1)
      → (p : ℕ) × (item : Item) × (slice_get new p ≡ Some item) × (item.rule ≡ r) × (item.suffix ≡ k)
  all r k q e lt (inl less) = let o = h.all r k q e less lt in (o.0, o.1, a.kept o.0 o.1 o.2, o.3, o.4)
  all r k q e lt (inr same) =
      let is : q ≡ rule = same_Some q rule (sym e ∙ ap (λ (x : ℕ). rule_at g x) same ∙ at) in
      let b = a.added k (subst (λ (x : Rule). k < item_count (length x.right)) is lt) in
      (length old + k, b.0, b.1, b.2.rule ∙ sym same, b.2.suffix)

  order : (p q : ℕ) (x y : Item) → p < q
      → (slice_get old p ≡ Some x) ⊎ ((k : ℕ) × (k < item_count (length rule.right)) × (p ≡ length old + k) × IsItemOf (n + 1) rule.right k (length old + k + 1) x)
      → (slice_get old q ≡ Some y) ⊎ ((k : ℕ) × (k < item_count (length rule.right)) × (q ≡ length old + k) × IsItemOf (n + 1) rule.right k (length old + k + 1) y)
      → ItemBefore x y
  order p q x y lt (inl e) (inl f) = h.order p q x y lt e f
  order p q x y lt (inl e) (inr f) = inl (omega (arith, (h.each p x e).1, f.3.rule))
  order p q x y lt (inr e) (inl f) = absurd (omega (arith, e.2, slice_get_within old q y f))
  order p q x y lt (inr e) (inr f) = inr (e.3.rule ∙ sym f.3.rule, omega (arith, e.2, f.2, e.3.suffix, f.3.suffix))

  le_or_last : (r m : ℕ) → r ≤ m + 1 → (r ≤ m) ⊎ (r ≡ m + 1)
  le_or_last r m k = grind arith

  pub rules-next : ItemsOfFirst g (n + 1) new
  rules-next = record {
    few = omega (arith, h.few, a.count);
    each = λ p item e. each p item (a.only p item e);
    all = λ r k q e most lt. all r k q e lt (le_or_last r n most);
    order = λ p q x y lt e f. order p q x y lt (a.only p x e) (a.only q y f);
  }

-- after the last rule all items are there
pub all-rules : (g : Grammar) (items : List Item) → ItemsOfFirst g (length g.rules) items → AreItems g items
all-rules g items h = record {
  few = h.few;
  each = λ p item e. (h.each p item e).0;
  all = λ r k rule at lt. h.all r k rule at (rule_at-within g r rule at).1 lt;
  order = h.order;
}
