-- What the slots that a pricer keeps say of the graph's arcs.
use Rattle.std.proofs.Common.{◌≡◌, ◌≢◌, ℕ, ℤ, ◌<◌, ◌+◌, List, [], ◌∷◌, ◌++◌, Option, None, Some, arith, subst, sym, ap, ◌∙◌, ◌⊎◌, inl, inr, length, length-append, get_or, set, take}
use Rattle.std.specs.Prelude.{slice_get, slice_index}
use Rattle.std.proofs.lemmas.Option.{same_Some, slice_get-get_or, get_or_from_slice_get}
use Rattle.std.proofs.Math.Seq.{get_or-append_seam}
use Rattle.std.proofs.lemmas.List.{get_or_append_left, get_or-set_other, take_at}
use Rattle.model_rosters.specs.declared.grammar.ArcKey.{ArcKey}
use Rattle.model_rosters.specs.declared.grammar.Grammar.{Grammar}
use Rattle.model_rosters.specs.Sums.{PriceView}
use Rattle.model_rosters.specs.arc_laws.OrNodes.{made, used}
use Rattle.tree_graph.specs.Graphs.{GraphView, IsGraph, AreKids}
use Rattle.tree_graph.specs.declared.kid.Kid.{Kid}
use Rattle.tree_graph.specs.declared.kid.Kid.TheVariants.{Nothing, Letter, Node}
use Rattle.tree_cheapest.specs.declared.order.Order.{Order}
use Rattle.tree_cheapest.specs.declared.slots.Links.{Links}
use Rattle.tree_cheapest.specs.declared.slots.Spot.{Spot}
use Rattle.tree_cheapest.specs.Numbering.{Grows}
use Rattle.tree_cheapest.specs.Links.{IsSlot, IsLink, AreLinks}
use Rattle.tree_cheapest.specs.Pricers.{value_at, IsMadeFor, ArePriced}

-- a value that was read
pub value-read : (xs : List (Option ℤ)) (k : ℕ) (d r : Option ℤ) → k < length xs → r ≡ get_or xs k d → r ≡ value_at xs k
value-read xs k d r inside e = e ∙ sym (get_or_from_slice_get xs k (get_or xs k d) None (slice_get-get_or xs k d inside))

-- a slot stays as further letters get theirs
slot_kept : (nodes : ℕ) (a b : List Spot) (kid : Kid) (slot : ℕ) → Grows a b → IsSlot nodes a kid slot → IsSlot nodes b kid slot
slot_kept nodes a b Nothing slot grows h = h
slot_kept nodes a b (Node n) slot grows h = h
slot_kept nodes a b (Letter code period) slot grows h = (h.0, h.1, grows.kept h.0 _ h.2)

link_kept : (v : GraphView) (a b : List Spot) (arc made_slot first_slot rest_slot : ℕ) → Grows a b → IsLink v a arc made_slot first_slot rest_slot → IsLink v b arc made_slot first_slot rest_slot
link_kept v a b arc made_slot first_slot rest_slot grows h = record {
  made = h.made;
  kids = h.kids;
  below_first = h.below_first;
  below_rest = h.below_rest;
  first = slot_kept (length v.nodes) a b h.kids.0 first_slot grows h.first;
  rest = slot_kept (length v.nodes) a b h.kids.1 rest_slot grows h.rest;
}

-- an entry that was there stays as one is added, which is the last one
entry_kept : (xs : List ℕ) (x n k : ℕ) → length xs ≡ n → k < n → slice_index (xs ++ x ∷ []) k ≡ slice_index xs k
entry_kept xs x n k count inside = get_or_append_left xs (x ∷ []) 0 k (omega (arith, count, inside))

entry_added : (xs : List ℕ) (x n : ℕ) → length xs ≡ n → slice_index (xs ++ x ∷ []) n ≡ x
entry_added xs x n count = subst (λ (q : ℕ). slice_index (xs ++ x ∷ []) q ≡ x) count (get_or-append_seam xs x [] 0)

longer : (xs : List ℕ) (x n : ℕ) → length xs ≡ n → length (xs ++ x ∷ []) ≡ n + 1
longer xs x n count = let e = length-append xs (x ∷ []) in omega (arith, e, count)

-- the slots of one arc more
pub links-next : (v : GraphView) (a b d : List Spot) (links : Links) (n made_slot first_slot rest_slot : ℕ) (kids : Kid × Kid) → Grows a b → Grows b d → AreLinks v a links n
    → slice_get v.made_by n ≡ Some made_slot → slice_get v.first n ≡ Some kids.0 → slice_get v.rest n ≡ Some kids.1 → IsSlot (length v.nodes) b kids.0 first_slot → IsSlot (length v.nodes) d kids.1 rest_slot
    → AreLinks v d (record { made = links.made ++ made_slot ∷ []; first = links.first ++ first_slot ∷ []; rest = links.rest ++ rest_slot ∷ [] }) (n + 1)
links-next v a b d links n made_slot first_slot rest_slot kids one two old made below_first below_rest first rest = record {
  made = longer links.made made_slot n old.made;
  first = longer links.first first_slot n old.first;
  rest = longer links.rest rest_slot n old.rest;
  each = λ arc inside. by arc (before_or_last arc n inside);
}
  where
    before_or_last : (arc n : ℕ) → arc < n + 1 → (arc < n) ⊎ (arc ≡ n)
    before_or_last arc n inside = grind (arith, inside)

    by : (arc : ℕ) → (arc < n) ⊎ (arc ≡ n)
        → IsLink v d arc (slice_index (links.made ++ made_slot ∷ []) arc) (slice_index (links.first ++ first_slot ∷ []) arc) (slice_index (links.rest ++ rest_slot ∷ []) arc)
    by arc (inl lt) =
        let kept = link_kept v b d arc _ _ _ two (link_kept v a b arc _ _ _ one (old.each arc lt)) in
        rw (entry_kept links.made made_slot n arc old.made lt, entry_kept links.first first_slot n arc old.first lt, entry_kept links.rest rest_slot n arc old.rest lt) kept
    by arc (inr e) =
        let new : IsLink v d n made_slot first_slot rest_slot = record { made = made; kids = kids; below_first = below_first; below_rest = below_rest; first = slot_kept (length v.nodes) b d kids.0 first_slot two first; rest = rest } in
        rw (e, entry_added links.made made_slot n old.made, entry_added links.first first_slot n old.first, entry_added links.rest rest_slot n old.rest) new

-- other values and best arcs do as well
pub made-kept : (v : GraphView) (links : Links) (letters : List Spot) (order : Option Order) (old new rest : List (Option ℤ)) (len : ℕ) (old_best new_best rest_best : List ℕ) (nodes : ℕ)
    → length new ≡ length old → length new ≡ len → length new_best ≡ length old_best → length new_best ≡ nodes
    → IsMadeFor v (record { links = links; letters = letters; order = order; values = old; best = old_best })
    → IsMadeFor v (record { links = links; letters = letters; order = order; values = take len (new ++ rest); best = take nodes (new_best ++ rest_best) })
made-kept v links letters order old new rest len old_best new_best rest_best nodes same room same_best room_best h =
    subst (λ (b : List ℕ). IsMadeFor v (record { links = links; letters = letters; order = order; values = take len (new ++ rest); best = b })) (sym (take_at new_best rest_best nodes room_best))
    (subst (λ (q : List (Option ℤ)). IsMadeFor v (record { links = links; letters = letters; order = order; values = q; best = new_best })) (sym (take_at new rest len room))
    (record { links = h.links; order = h.order; slots = same ∙ h.slots; nodes = same_best ∙ h.nodes }))

-- the slots of nothing and of the letters stay as a node's value changes
pub priced-kept : (p : PriceView) (letters : List Spot) (nodes : ℕ) (values : List (Option ℤ)) (k : ℕ) (w : Option ℤ) → k < nodes → ArePriced p letters nodes values → ArePriced p letters nodes (set values k w)
priced-kept p letters nodes values k w inside h = record {
  nothing = let ne : nodes ≢ k = omega (arith, inside) in get_or-set_other values k nodes w None ne ∙ h.nothing;
  spots = λ j l at. let ne : nodes + 1 + j ≢ k = omega (arith, inside) in get_or-set_other values k (nodes + 1 + j) w None ne ∙ h.spots j l at;
}

module _ (g : Grammar) (v : GraphView) (graph : IsGraph g v) (letters : List Spot) (n : ℕ) (a : ArcKey) (at : slice_get v.arcs n ≡ Some a)
    (made_slot first_slot rest_slot : ℕ) (is : IsLink v letters n made_slot first_slot rest_slot) where
  -- the node in the first of its slots is the one that the arc makes
  pub link-made : slice_get v.nodes made_slot ≡ Some (made g a)
  link-made =
      let m = graph.made_by n a at in
      let e : made_slot ≡ m.0 = same_Some made_slot m.0 (sym is.made ∙ m.1) in
      ap (λ (q : ℕ). slice_get v.nodes q) e ∙ m.2

  -- and the other two are those of what the arc uses
  pub link-kids : AreKids v.nodes (used g a) is.kids
  link-kids =
      let k = graph.kids n a at in
      let e : is.kids.0 ≡ k.0.0 = same_Some is.kids.0 k.0.0 (sym is.below_first ∙ k.1) in
      let f : is.kids.1 ≡ k.0.1 = same_Some is.kids.1 k.0.1 (sym is.below_rest ∙ k.2) in
      subst (λ (q : Kid). AreKids v.nodes (used g a) (q, is.kids.1)) (sym e) (subst (λ (q : Kid). AreKids v.nodes (used g a) (k.0.0, q)) (sym f) k.3)
