-- For each node of a graph an arc that makes it, as one of them changes.
use Rattle.std.proofs.Common.{◌≡◌, ◌≢◌, ℕ, zero, suc, ◌<◌, ◌≤◌, ◌+◌, List, Some, arith, refl, subst, sym, ap, ◌∙◌, ◌⊎◌, inl, inr, length, set}
use Rattle.std.specs.Prelude.{slice_get, slice_index}
use Rattle.std.proofs.lemmas.List.{get_or-set_same, get_or-set_other, length-set}
use Rattle.std.proofs.lemmas.Option.{same_Some, slice_get-get_or, slice_get_within}
use Rattle.model_rosters.specs.declared.grammar.ArcKey.{ArcKey}
use Rattle.model_rosters.specs.declared.grammar.Grammar.{Grammar}
use Rattle.model_rosters.specs.arc_laws.OrNodes.{OrNode, made}
use Rattle.tree_graph.specs.Graphs.{GraphView, IsGraph}
use Rattle.tree_cheapest.proofs.OrdersLemmas.{some-maker, maker-makes}
use Rattle.tree_short_order.specs.Best.{IsMadeBy, AreBestBefore, AreBest}

-- two numbers are the same or not
apart : (k n : ℕ) → (k ≡ n) ⊎ (k ≢ n)
apart zero zero = inl refl
apart zero (suc n) = inr (λ e. absurd (omega (arith, e)))
apart (suc k) zero = inr (λ e. absurd (omega (arith, e)))
apart (suc k) (suc n) = elim (apart k n) [ inl e ↦ inl (ap suc e) | inr ne ↦ inr (λ e. ne (omega (arith, e))) ]

module _ (v : GraphView) (best : List ℕ) (n arc : ℕ) (room : n < length best) (its : IsMadeBy v n arc) where
  -- another arc that makes a node
  pub best-set : (place : ℕ) → AreBestBefore v place best → AreBestBefore v place (set best n arc)
  best-set place h = record { count = length-set best n arc ∙ h.count; each = λ k before lt. by k before lt (apart k n) }
    where
      by : (k : ℕ) → k < place → k < length v.nodes → (k ≡ n) ⊎ (k ≢ n) → IsMadeBy v k (slice_index (set best n arc) k)
      by k before lt (inl e) = subst (λ (j : ℕ). IsMadeBy v j (slice_index (set best n arc) j)) (sym e) (subst (λ (a : ℕ). IsMadeBy v n a) (sym (get_or-set_same best n arc 0 room)) its)
      by k before lt (inr ne) = subst (λ (a : ℕ). IsMadeBy v k a) (sym (get_or-set_other best n k arc 0 ne)) (h.each k before lt)

  -- an arc for one more node
  pub best-next : AreBestBefore v n best → AreBestBefore v (n + 1) (set best n arc)
  best-next h = record { count = length-set best n arc ∙ h.count; each = λ k before lt. by k before lt (apart k n) }
    where
      by : (k : ℕ) → k < n + 1 → k < length v.nodes → (k ≡ n) ⊎ (k ≢ n) → IsMadeBy v k (slice_index (set best n arc) k)
      by k before lt (inl e) = subst (λ (j : ℕ). IsMadeBy v j (slice_index (set best n arc) j)) (sym e) (subst (λ (a : ℕ). IsMadeBy v n a) (sym (get_or-set_same best n arc 0 room)) its)
      by k before lt (inr ne) = subst (λ (a : ℕ). IsMadeBy v k a) (sym (get_or-set_other best n k arc 0 ne)) (h.each k (grind (arith, before, ne)) lt)

-- the first of the arcs that make a node makes it
pub first-makes : (g : Grammar) (v : GraphView) → IsGraph g v → (n : ℕ) (arcs : List ℕ) → n < length v.nodes → slice_get v.makers n ≡ Some arcs → IsMadeBy v n (slice_index arcs 0)
first-makes g v graph n arcs inside listed =
    let some = some-maker g v graph n arcs inside listed in
    let h = maker-makes g v graph n arcs inside listed 0 (slice_index arcs 0) (slice_get-get_or arcs 0 0 some) in
    record { inside = h.0; makes = h.1 }

-- the arc of a node, and what it makes
pub best-key : (g : Grammar) (v : GraphView) → IsGraph g v → (best : List ℕ) → AreBest v best → (m : ℕ) (o : OrNode) → slice_get v.nodes m ≡ Some o
    → (key : ArcKey) × (slice_get v.arcs (slice_index best m) ≡ Some key) × (made g key ≡ o)
best-key g v graph best are m o at =
    let lt : m < length v.nodes = slice_get_within v.nodes m o at in
    let its : IsMadeBy v m (slice_index best m) = are.each m lt lt in
    let d : ArcKey = record { rule = 0; suffix = 0; start = 0; len = 0; part = 0 } in
    let there = slice_get-get_or v.arcs (slice_index best m) d its.inside in
    let k = graph.made_by (slice_index best m) _ there in
    let same : k.0 ≡ m = same_Some k.0 m (sym k.1 ∙ its.makes) in
    (_, there, same_Some _ o (sym k.2 ∙ ap (λ (q : ℕ). slice_get v.nodes q) same ∙ at))
