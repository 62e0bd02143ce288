-- One pass over the nodes in their order: each gets the least sum over all arcs that make it.
use Rattle.std.proofs.Common.{◌≡◌, ◌≢◌, ℕ, zero, suc, ℤ, pos, ◌<◌, ◌≤◌, ◌+◌, ◌-◌, ◌^◌, Bool, true, false, cond, List, [], ◌∷◌, Option, None, Some, IfSome, arith, refl, subst, sym, ap, ◌∙◌, ◌⊎◌, inl, inr, length, get_or, set}
use Rattle.std.proofs.lemmas.Bool.{cases_eq}
use Rattle.std.proofs.lemmas.Int.{ints}
use Rattle.std.specs.Prelude.{slice_get, slice_index, OnSome}
use Rattle.std.proofs.lemmas.Option.{same_Some, slice_get_within, slice_get-get_or}
use Rattle.std.proofs.lemmas.List.{length-set, get_or-set_same, get_or-set_other}
use Rattle.model_rosters.specs.declared.grammar.ArcKey.{ArcKey}
use Rattle.model_rosters.specs.declared.grammar.Grammar.{Grammar}
use Rattle.model_rosters.specs.Sound.{IsSound}
use Rattle.model_rosters.specs.Sums.{PriceView, Within, AllWithin, IsLeast}
use Rattle.model_rosters.specs.Trees.{Parts}
use Rattle.model_rosters.proofs.tree_laws.LeastValues.{IsLeast-empty, IsLeast-same, IsLeast-union}
use Rattle.model_rosters.proofs.tree_laws.Ends.{code-least}
use Rattle.model_rosters.specs.arc_laws.OrNodes.{OrNode, name, suffix, leaf, same_node, made, used}
use Rattle.model_rosters.proofs.arc_laws.Totals.{same_node-refl}
use Rattle.model_rosters.specs.arc_laws.AtNodes.{IsAt}
use Rattle.tree_graph.specs.Graphs.{GraphView, IsGraph, HasGrammar, IsKid, AreKids, places, places_from}
use Rattle.tree_graph.specs.declared.kid.Kid.{Kid}
use Rattle.tree_span_cells.proofs.ChoicesLemmas.{on_some}
use Rattle.tree_cheapest.specs.declared.order.Maker.{Maker}
use Rattle.tree_cheapest.specs.declared.order.Order.{Order}
use Rattle.tree_cheapest.specs.declared.order.Row.{Row}
use Rattle.tree_cheapest.specs.declared.slots.Links.{Links}
use Rattle.tree_cheapest.specs.declared.slots.Spot.{Spot}
use Rattle.tree_cheapest.specs.AtNodes.{sum_at, NodeLeast, top_arc, arc_total}
use Rattle.tree_cheapest.specs.Links.{IsSlot}
use Rattle.tree_cheapest.specs.Numbers.{AreSmall, IsBetter}
use Rattle.tree_cheapest.specs.Orders.{IsMaker, IsEarlier, IsRow, IsOrder}
use Rattle.tree_cheapest.specs.Passes.{AreBegun, IsDone, AreRowsPassed, AsksRow, FindsRow, CanPass, IsAmong, IsLeastAmong}
use Rattle.tree_cheapest.specs.Pricers.{value_at, ArePriced, IsFilled, IsBest}
use Rattle.tree_cheapest.proofs.AtNodesLemmas.{node-of, top-arc, top-made}
use Rattle.tree_cheapest.proofs.LinksLemmas.{link-made, link-kids, priced-kept}
use Rattle.tree_cheapest.proofs.PassesLemmas.{node-small}
use Rattle.tree_cheapest.proofs.StandLemmas.{arc-standing}
use Rattle.tree_cheapest.proofs.TopArcLemmas.{KidsLeast, arc-least}

before_or_last : (i n : ℕ) → i < n + 1 → (i < n) ⊎ (i ≡ n)
before_or_last i n h = grind (arith, h)

pub no_item : {A : Type 0} (x : A) → None ≡ Some x → ⊥
no_item x e = cc

-- an item that passes is among those whose places are listed
module _ {A : Type 0} (p : A → Bool) where
  pub at_place : (n : ℕ) (xs : List A) (k : ℕ) (x : A) → slice_get xs k ≡ Some x → p x ≡ true → (i : ℕ) × (slice_get (places_from n p xs) i ≡ Some (n + k))
  at_place n [] k x e passes = absurd (no_item x e)
  at_place n (y ∷ xs) zero x e passes =
      let same : y ≡ x = same_Some y x e in
      let here : p y ≡ true = ap p same ∙ passes in
      let sum : n ≡ n + 0 = omega arith in
      (0, rw here (ap Some sum))
  at_place n (y ∷ xs) (suc k) x e passes = by (p y) (at_place (n + 1) xs k x e passes)
    where
      by : (b : Bool) → (i : ℕ) × (slice_get (places_from (n + 1) p xs) i ≡ Some (n + 1 + k))
          → (i : ℕ) × (slice_get (cond b (n ∷ places_from (n + 1) p xs) (places_from (n + 1) p xs)) i ≡ Some (n + suc k))
      by true h = (suc h.0, h.1 ∙ ap Some (omega arith))
      by false h = (h.0, h.1 ∙ ap Some (omega arith))

module _ (g : Grammar) (p : PriceView) (v : GraphView) (graph : IsGraph g v) (letters : List Spot) (order : Order) (values : List (Option ℤ)) (best : List ℕ) (j : ℕ) where
  module _ (priced : ArePriced p letters (length v.nodes) values) (done : (i : ℕ) (r : Row) → i < j → slice_get order.rows i ≡ Some r → IsDone g p v values best r.node) where
    -- the slot of a node of an earlier row has its least sum
    earlier_least : (slot : ℕ) → IsEarlier v order.rows j slot → (m : ℕ) (o : OrNode) → slot ≡ m → slice_get v.nodes m ≡ Some o → NodeLeast g p o (value_at values slot)
    earlier_least slot earlier m o same there =
        let lt = slice_get_within v.nodes m o there in
        let k = earlier (omega (arith, lt, same)) in
        let here : slice_get v.nodes k.1.node ≡ Some o = ap (λ (n : ℕ). slice_get v.nodes n) (k.4 ∙ same) ∙ there in
        subst (λ (n : ℕ). NodeLeast g p o (value_at values n)) k.4 (done k.0 k.1 k.2 k.3 o here).0

    -- so has that of what is below an arc
    kid_least : (o : OrNode) (kid : Kid) (slot : ℕ) → IsEarlier v order.rows j slot → IsKid v.nodes o kid → IsSlot (length v.nodes) letters kid slot → NodeLeast g p o (value_at values slot)
    kid_least (leaf l) kid slot earlier is h =
        let k = subst (λ (q : Kid). IsSlot (length v.nodes) letters q slot) is h in
        let price : value_at values slot ≡ p.letter_at l.code l.period = ap (λ (s : ℕ). value_at values s) k.1 ∙ priced.spots k.0 _ k.2 in
        subst (λ (w : Option ℤ). NodeLeast g p (leaf l) w) (sym price) (code-least g p l.period 1 l.code refl)
    kid_least (name x i l) kid slot earlier is h =
        let k = subst (λ (q : Kid). IsSlot (length v.nodes) letters q slot) is.1 h in
        earlier_least slot earlier is.0 (name x i l) k is.2
    kid_least (suffix r k i l) kid slot earlier is h =
        let e = subst (λ (q : Kid). IsSlot (length v.nodes) letters q slot) is.1 h in
        earlier_least slot earlier is.0 (suffix r k i l) e is.2

    module _ (first rest : ℕ) (one : IsEarlier v order.rows j first) (two : IsEarlier v order.rows j rest) where
      kids_least : (os : List OrNode) (kids : Kid × Kid) → AreKids v.nodes os kids → IsSlot (length v.nodes) letters kids.0 first → IsSlot (length v.nodes) letters kids.1 rest
          → KidsLeast g p os (value_at values first) (value_at values rest)
      kids_least [] kids h a b = absurd h
      kids_least (o ∷ []) kids h a b =
          let e : rest ≡ length v.nodes = subst (λ (q : Kid). IsSlot (length v.nodes) letters q rest) h.1 b in
          (kid_least o kids.0 first one h.0 a, ap (λ (s : ℕ). value_at values s) e ∙ priced.nothing)
      kids_least (o ∷ q ∷ []) kids h a b = (kid_least o kids.0 first one h.0 a, kid_least q kids.1 rest two h.1 b)
      kids_least (o ∷ q ∷ s ∷ os) kids h a b = absurd h

    -- the sum of an arc that makes the node
    maker_total : (node : ℕ) (o : OrNode) → slice_get v.nodes node ≡ Some o → (x : Maker) → (is : IsMaker v letters node x) → IsEarlier v order.rows j x.first → IsEarlier v order.rows j x.rest
        → (made g is.key ≡ o) × IsLeast (λ t. IsAt g o t × (top_arc o t ≡ is.key)) (sum_at p o) (arc_total p is.key (value_at values x.first) (value_at values x.rest))
    maker_total node o there x is one two =
        let here = link-made g v graph letters x.arc is.key is.at node x.first x.rest is.link in
        let same : made g is.key ≡ o = same_Some (made g is.key) o (sym here ∙ there) in
        let are = link-kids g v graph letters x.arc is.key is.at node x.first x.rest is.link in
        let kids = kids_least x.first x.rest one two (used g is.key) is.link.kids are is.link.first is.link.rest in
        let total = arc-least g p is.key (arc-standing g is.key (graph.arcs.sound x.arc is.key is.at)) (value_at values x.first) (value_at values x.rest) kids in
        (same, subst (λ (q : OrNode). IsLeast (λ t. IsAt g q t × (top_arc q t ≡ is.key)) (sum_at p q) (arc_total p is.key (value_at values x.first) (value_at values x.rest))) same total)

    module _ (row : Row) (is_row : IsRow v letters order.makers order.rows j row) (o : OrNode) (there : slice_get v.nodes row.node ≡ Some o) where
      -- at first no arc is passed
      pub among-begins : (value : Option ℤ) (arc : ℕ) → value ≡ None → IsLeastAmong g p v order.makers row.begin 0 o value arc
      among-begins value arc none = subst (λ (q : Option ℤ). IsLeastAmong g p v order.makers row.begin 0 o q arc) (sym none) (record {
        least = IsLeast-empty (λ t. IsAt g o t × IsAmong v.arcs order.makers row.begin 0 (top_arc o t)) (sum_at p o) (λ t h. never h.1.0 h.1.2);
        best = tt;
      })
        where
          never : (q : ℕ) → q < 0 → ⊥
          never q h = omega (arith, h)

      -- the next arc may lower the sum
      pub among-next : (n : ℕ) → n < length is_row.arcs → (value : Option ℤ) (arc : ℕ) → IsLeastAmong g p v order.makers row.begin n o value arc
          → (x : Maker) → slice_get order.makers (row.begin + n) ≡ Some x → (w : Option ℤ) (chosen : ℕ)
          → ((a : ArcKey) → slice_get v.arcs x.arc ≡ Some a → IsBetter value arc (arc_total p a (value_at values x.first) (value_at values x.rest)) x.arc w chosen)
          → IsLeastAmong g p v order.makers row.begin (n + 1) o w chosen
      among-next n inside value arc h x here w chosen better = at_row (is_row.each n _ (at_arcs))
        where
          q : ℕ
          q = get_or is_row.arcs n 0

          at_arcs : slice_get is_row.arcs n ≡ Some q
          at_arcs = slice_get-get_or is_row.arcs n 0 inside

          at_row : (y : Maker) × (slice_get order.makers (row.begin + n) ≡ Some y) × (y.arc ≡ q) × IsMaker v letters row.node y × IsEarlier v order.rows j y.first × IsEarlier v order.rows j y.rest
              → IsLeastAmong g p v order.makers row.begin (n + 1) o w chosen
          at_row k = go (subst (λ (y : Maker). IsMaker v letters row.node y × IsEarlier v order.rows j y.first × IsEarlier v order.rows j y.rest) (same_Some k.0 x (sym k.1 ∙ here)) (k.3, k.4, k.5))
            where
              go : IsMaker v letters row.node x × IsEarlier v order.rows j x.first × IsEarlier v order.rows j x.rest → IsLeastAmong g p v order.makers row.begin (n + 1) o w chosen
              go m = record {
                least = IsLeast-union (λ t. IsAt g o t × IsAmong v.arcs order.makers row.begin n (top_arc o t)) (λ t. IsAt g o t × (top_arc o t ≡ key))
                    (λ t. IsAt g o t × IsAmong v.arcs order.makers row.begin (n + 1) (top_arc o t)) (sum_at p o) value total w
                    (λ t k. (k.0, wider t k.1)) (λ t k. (k.0, hit t k.1)) (λ t k. elim (split t k.1) [ inl i ↦ inl (k.0, i) | inr i ↦ inr (k.0, i) ])
                    (better key m.0.at).lesser h.least its.1;
                best = by (better key m.0.at).one;
              }
                where
                  key : ArcKey
                  key = m.0.key

                  total : Option ℤ
                  total = arc_total p key (value_at values x.first) (value_at values x.rest)

                  its : (made g key ≡ o) × IsLeast (λ t. IsAt g o t × (top_arc o t ≡ key)) (sum_at p o) total
                  its = maker_total row.node o there x m.0 m.1 m.2

                  wider : (t : Parts) → IsAmong v.arcs order.makers row.begin n (top_arc o t) → IsAmong v.arcs order.makers row.begin (n + 1) (top_arc o t)
                  wider t k = (k.0, k.1, omega (arith, k.2), k.3, k.4)

                  hit : (t : Parts) → top_arc o t ≡ key → IsAmong v.arcs order.makers row.begin (n + 1) (top_arc o t)
                  hit t e = (n, x, omega arith, here, m.0.at ∙ ap Some (sym e))

                  split : (t : Parts) → IsAmong v.arcs order.makers row.begin (n + 1) (top_arc o t) → IsAmong v.arcs order.makers row.begin n (top_arc o t) ⊎ (top_arc o t ≡ key)
                  split t k = elim (before_or_last k.0 n k.2) [
                    | inl lt ↦ inl (k.0, k.1, lt, k.3, k.4)
                    | inr e ↦ inr (last k.0 k.1 e k.3 k.4)
                  ]
                    where
                      last : (i : ℕ) (y : Maker) → i ≡ n → slice_get order.makers (row.begin + i) ≡ Some y → slice_get v.arcs y.arc ≡ Some (top_arc o t) → top_arc o t ≡ key
                      last i y e at_y arc_y =
                          let same : y ≡ x = same_Some y x (sym at_y ∙ ap (λ (s : ℕ). slice_get order.makers (row.begin + s)) e ∙ here) in
                          same_Some (top_arc o t) key (sym arc_y ∙ ap (λ (z : Maker). slice_get v.arcs z.arc) same ∙ m.0.at)

                  by : ((w ≡ value) × (chosen ≡ arc)) ⊎ ((w ≡ total) × (chosen ≡ x.arc)) → OnSome w (IsBest g p v o w chosen)
                  by (inl e) = subst (λ (s : Option ℤ). OnSome s (IsBest g p v o s chosen)) (sym e.0) (subst (λ (s : ℕ). OnSome value (IsBest g p v o value s)) (sym e.1) h.best)
                  by (inr e) = on_some w _ (record {
                    key = key;
                    at = ap (λ (s : ℕ). slice_get v.arcs s) e.1 ∙ m.0.at;
                    makes = its.0;
                    least = subst (λ (s : Option ℤ). IsLeast (λ t. IsAt g o t × (top_arc o t ≡ key)) (sum_at p o) s) (sym e.0) its.1;
                  })

      -- in the end all arcs that make the node are passed
      pub among-ends : (value : Option ℤ) (arc : ℕ) → IsLeastAmong g p v order.makers row.begin (length is_row.arcs) o value arc → NodeLeast g p o value × OnSome value (IsBest g p v o value arc)
      among-ends value arc h =
          (IsLeast-same (λ t. IsAt g o t × IsAmong v.arcs order.makers row.begin (length is_row.arcs) (top_arc o t)) (IsAt g o) (sum_at p o) value (λ t k. k.0) (λ t k. (k, among t k)) h.least, h.best)
        where
          among : (t : Parts) → IsAt g o t → IsAmong v.arcs order.makers row.begin (length is_row.arcs) (top_arc o t)
          among t k =
              let of = node-of g v graph row.node o there in
              let w = graph.arcs.whole (top_arc o t) (top-arc g o t of k) in
              let makes : same_node o (made g (top_arc o t)) ≡ true = subst (λ (q : OrNode). same_node o q ≡ true) (sym (top-made g o t of k)) (same_node-refl o) in
              let listed : places (λ a. same_node o (made g a)) v.arcs ≡ is_row.arcs = same_Some _ is_row.arcs (sym (graph.makers row.node o there) ∙ is_row.listed) in
              let at = at_place (λ a. same_node o (made g a)) 0 v.arcs w.0 (top_arc o t) w.1 makes in
              let here : slice_get is_row.arcs at.0 ≡ Some (0 + w.0) = ap (λ (xs : List ℕ). slice_get xs at.0) (sym listed) ∙ at.1 in
              let x = is_row.each at.0 (0 + w.0) here in
              let arc_is : x.0.arc ≡ w.0 = omega (arith, x.2) in
              (at.0, x.0, slice_get_within is_row.arcs at.0 (0 + w.0) here, x.1, ap (λ (q : ℕ). slice_get v.arcs q) arc_is ∙ w.1)

module _ (most : ℕ) (p : PriceView) (v : GraphView) (letters : List Spot) (order : Order) where
  -- at first no row is passed
  pub rows-begin : (values : List (Option ℤ)) (best : List ℕ) → length values ≡ length v.nodes + 1 + length letters → length best ≡ length v.nodes
      → AreBegun p letters (length v.nodes) values → AreSmall most values → AreRowsPassed most p v letters order values best 0
  rows-begin values best slots nodes begun small = record {
    slots = slots;
    nodes = nodes;
    priced = begun.priced;
    small = small;
    done = λ g sound graph i r lt. absurd (never i lt);
  }
    where
      never : (q : ℕ) → q < 0 → ⊥
      never q h = omega (arith, h)

  -- one more is
  pub rows-next : (values : List (Option ℤ)) (best : List ℕ) (j : ℕ) → AsksRow most p v letters order values best j → (row : Row) → slice_get order.rows j ≡ Some row
      → (w : Option ℤ) (arc : ℕ) → FindsRow p v order j w arc → IfSome w (Within most) → AreRowsPassed most p v letters order (set values row.node w) (set best row.node arc) (j + 1)
  rows-next values best j asks row at w arc finds within = record {
    slots = length-set values row.node w ∙ old.slots;
    nodes = length-set best row.node arc ∙ old.nodes;
    priced = priced-kept p letters (length v.nodes) values row.node w in_nodes old.priced;
    small = λ s lt. small s lt (cases_eq s row.node);
    done = λ g sound graph i r lt here. done g sound graph i r here (before_or_last i j lt) (cases_eq r.node row.node);
  }
    where
      old : AreRowsPassed most p v letters order values best j
      old = asks.passed

      in_nodes : row.node < length v.nodes
      in_nodes = (asks.order_is.rows j row at).node

      in_values : row.node < length values
      in_values = omega (arith, in_nodes, old.slots)

      in_best : row.node < length best
      in_best = omega (arith, in_nodes, old.nodes)

      small : (s : ℕ) → s < length (set values row.node w) → (s ≡ row.node) ⊎ (s ≢ row.node) → IfSome (value_at (set values row.node w) s) (Within most)
      small s lt (inl e) = subst (λ (q : Option ℤ). IfSome q (Within most)) (sym (ap (λ (n : ℕ). value_at (set values row.node w) n) e ∙ get_or-set_same values row.node w None in_values)) within
      small s lt (inr ne) =
          let l = length-set values row.node w in
          subst (λ (q : Option ℤ). IfSome q (Within most)) (sym (get_or-set_other values row.node s w None ne)) (old.small s (omega (arith, lt, l)))

      done : (g : Grammar) → IsSound g → IsGraph g v → (i : ℕ) (r : Row) → slice_get order.rows i ≡ Some r → (i < j) ⊎ (i ≡ j) → (r.node ≡ row.node) ⊎ (r.node ≢ row.node)
          → IsDone g p v (set values row.node w) (set best row.node arc) r.node
      done g sound graph i r here k (inl e) o there =
          let found = finds g sound graph row at o (ap (λ (n : ℕ). slice_get v.nodes n) (sym e) ∙ there) in
          rw (e, get_or-set_same values row.node w None in_values, get_or-set_same best row.node arc 0 in_best) found
      done g sound graph i r here (inl lt) (inr ne) o there =
          rw (get_or-set_other values row.node r.node w None ne, get_or-set_other best row.node r.node arc 0 ne) (old.done g sound graph i r lt here o there)
      done g sound graph i r here (inr e) (inr ne) o there =
          let same : r ≡ row = same_Some r row (sym here ∙ ap (λ (n : ℕ). slice_get order.rows n) e ∙ at) in
          absurd (ne (ap (λ (q : Row). q.node) same))

  -- in the end all are
  pub rows-end : (values : List (Option ℤ)) (best : List ℕ) → IsOrder v letters order → AreRowsPassed most p v letters order values best (length order.rows)
      → (links : Links) (o : Option Order) (g : Grammar) → IsSound g → IsGraph g v → IsFilled g p v (record { links = links; letters = letters; order = o; values = values; best = best })
  rows-end values best is passed links o g sound graph = record {
    priced = passed.priced;
    nodes = λ n q there. (at n q there).0;
    arcs = λ n q there. (at n q there).1;
  }
    where
      at : (n : ℕ) (q : OrNode) → slice_get v.nodes n ≡ Some q → NodeLeast g p q (value_at values n) × OnSome (value_at values n) (IsBest g p v q (value_at values n) (slice_index best n))
      at n q there =
          let k = is.all n (slice_get_within v.nodes n q there) in
          let here : slice_get v.nodes k.1.node ≡ Some q = ap (λ (m : ℕ). slice_get v.nodes m) k.3 ∙ there in
          subst (λ (m : ℕ). NodeLeast g p q (value_at values m) × OnSome (value_at values m) (IsBest g p v q (value_at values m) (slice_index best m))) k.3
          (passed.done g sound graph k.0 k.1 (slice_get_within order.rows k.0 k.1 k.2) k.2 q here)

-- where a slot is: one of a node, that of nothing, or one of a letter
which : (nodes count s : ℕ) → s < nodes + 1 + count → (s < nodes) ⊎ ((s ≡ nodes) ⊎ ((nodes + 1 ≤ s) × (s < nodes + 1 + count)))
which nodes count s lt = grind (arith, lt)

-- at first all sums are small
pub small-begun : (most nodes count : ℕ) (values : List (Option ℤ)) → length values ≡ nodes + 1 + count → ((n : ℕ) → n < nodes → value_at values n ≡ None) → value_at values nodes ≡ Some (pos 0)
    → ((j : ℕ) → j < count → IfSome (value_at values (nodes + 1 + j)) (Within most)) → AreSmall most values
small-begun most nodes count values room none nothing letters s lt = by (which nodes count s (omega (arith, lt, room)))
  where
    by : (s < nodes) ⊎ ((s ≡ nodes) ⊎ ((nodes + 1 ≤ s) × (s < nodes + 1 + count))) → IfSome (value_at values s) (Within most)
    by (inl k) = subst (λ (q : Option ℤ). IfSome q (Within most)) (sym (none s k)) tt
    by (inr (inl e)) = subst (λ (q : Option ℤ). IfSome q (Within most)) (sym (ap (λ (n : ℕ). value_at values n) e ∙ nothing)) (record { low = omega (arith, ints); high = omega (arith, ints) })
    by (inr (inr k)) =
        let same : nodes + 1 + (s - (nodes + 1)) ≡ s = omega (arith, k.0) in
        subst (λ (n : ℕ). IfSome (value_at values n) (Within most)) same (letters (s - (nodes + 1)) (omega (arith, k.0, k.1)))

-- a row that was read
pub row-read : (order : Order) (rows : List Row) (place : ℕ) (d : Row) → place < length order.rows → rows ≡ order.rows → slice_get order.rows place ≡ Some (get_or rows place d)
row-read order rows place d inside same = ap (λ (q : List Row). slice_get q place) (sym same) ∙ slice_get-get_or rows place d (omega (arith, ap length same, inside))

module _ (most : ℕ) (p : PriceView) (v : GraphView) (letters : List Spot) (order : Order) (sums : List (Option ℤ)) (best : List ℕ) (place : ℕ) (asks : AsksRow most p v letters order sums best place)
    (r : Row) (at : slice_get order.rows place ≡ Some r) where
  is_row : IsRow v letters order.makers order.rows place r
  is_row = asks.order_is.rows place r at

  -- where its node is
  pub row-node : (r.node < length sums) × (r.node < length best)
  row-node = let k = is_row.node in (omega (arith, k, asks.passed.slots), omega (arith, k, asks.passed.nodes))

  -- where its arcs are
  pub row-ends : r.begin ≤ r.end
  row-ends = omega (arith, is_row.count)

  pub row-inside : (n : ℕ) → n < r.end - r.begin → r.begin + n < length order.makers
  row-inside n lt = omega (arith, lt, is_row.count, is_row.inside)

  row_arcs : (n : ℕ) → n < r.end - r.begin → n < length is_row.arcs
  row_arcs n lt = omega (arith, lt, is_row.count)

  -- an arc of the row can be passed
  pub row-maker : (n : ℕ) → n < r.end - r.begin → (x : Maker) → slice_get order.makers (r.begin + n) ≡ Some x → CanPass v.arcs sums x
  row-maker n lt x here =
      let inside = row_arcs n lt in
      let k = is_row.each n (get_or is_row.arcs n 0) (slice_get-get_or is_row.arcs n 0 inside) in
      let is : IsMaker v letters r.node x = subst (λ (y : Maker). IsMaker v letters r.node y) (same_Some k.0 x (sym k.1 ∙ here)) k.3 in
      record { key = is.key; at = is.at; code = is.code; fits = is.fits; first_in = omega (arith, is.first_in, asks.passed.slots); rest_in = omega (arith, is.rest_in, asks.passed.slots) }

  -- the value is least among the first n arcs, whatever sound grammar the graph is of
  abbrev pub AreLeastAmong : ℕ → Option ℤ → ℕ → Type 0
  AreLeastAmong n value arc = (g : Grammar) → IsSound g → IsGraph g v → (q : Row) → slice_get order.rows place ≡ Some q → (o : OrNode) → slice_get v.nodes q.node ≡ Some o
      → IsLeastAmong g p v order.makers q.begin n o value arc

  to_row : (P : Row → Type 0) → P r → (q : Row) → slice_get order.rows place ≡ Some q → P q
  to_row P h q e = subst P (same_Some r q (sym at ∙ e)) h

  pub row-begins : (value : Option ℤ) (arc : ℕ) → value ≡ None → AreLeastAmong 0 value arc
  row-begins value arc none g sound graph =
      to_row (λ q. (o : OrNode) → slice_get v.nodes q.node ≡ Some o → IsLeastAmong g p v order.makers q.begin 0 o value arc)
      (λ o there. among-begins g p v graph letters order sums best place asks.passed.priced (asks.passed.done g sound graph) r is_row o there value arc none)

  pub row-next : (n : ℕ) → n < r.end - r.begin → (value : Option ℤ) (arc : ℕ) → AreLeastAmong n value arc → (x : Maker) → slice_get order.makers (r.begin + n) ≡ Some x → (w : Option ℤ) (chosen : ℕ)
      → ((a : ArcKey) → slice_get v.arcs x.arc ≡ Some a → IsBetter value arc (arc_total p a (value_at sums x.first) (value_at sums x.rest)) x.arc w chosen) → AreLeastAmong (n + 1) w chosen
  row-next n lt value arc old x here w chosen better g sound graph =
      to_row (λ q. (o : OrNode) → slice_get v.nodes q.node ≡ Some o → IsLeastAmong g p v order.makers q.begin (n + 1) o w chosen)
      (λ o there. among-next g p v graph letters order sums best place asks.passed.priced (asks.passed.done g sound graph) r is_row o there n (row_arcs n lt) value arc (old g sound graph r at o there) x here w chosen better)

  pub row-finds : (n : ℕ) → r.end ≤ r.begin + n → n ≤ r.end - r.begin → (value : Option ℤ) (arc : ℕ) → AreLeastAmong n value arc → FindsRow p v order place value arc
  row-finds n all few value arc old g sound graph =
      to_row (λ q. (o : OrNode) → slice_get v.nodes q.node ≡ Some o → NodeLeast g p o value × OnSome value (IsBest g p v o value arc))
      (λ o there. among-ends g p v graph letters order sums best place asks.passed.priced (asks.passed.done g sound graph) r is_row o there value arc
      (subst (λ (k : ℕ). IsLeastAmong g p v order.makers r.begin k o value arc) count (old g sound graph r at o there)))
    where
      count : n ≡ length is_row.arcs
      count = omega (arith, all, few, is_row.count)

  -- a sum that was found at the node is small
  pub row-small : AllWithin (2 ^ 96) p → HasGrammar v → (value : Option ℤ) (arc : ℕ) → FindsRow p v order place value arc → IfSome value (Within (2 ^ 110))
  row-small all of value arc found =
      let o = get_or v.nodes r.node (leaf (record { code = 0; period = 0 })) in
      let there = slice_get-get_or v.nodes r.node (leaf (record { code = 0; period = 0 })) is_row.node in
      node-small of.0 p v of.2 of.1 all r.node o there value (found of.0 of.1 of.2 r at o there).0
