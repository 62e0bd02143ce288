-- How an order of the nodes grows, row by row.
use Rattle.std.proofs.Common.{◌≡◌, ◌≢◌, ℕ, zero, suc, ◌<◌, ◌≤◌, ◌+◌, ◌-◌, Bool, true, false, cond, List, [], ◌∷◌, ◌++◌, Some, arith, refl, subst, sym, ap, ◌∙◌, ◌⊎◌, inl, inr, length, length-append}
use Rattle.std.specs.Prelude.{slice_get, slice_index}
use Rattle.std.proofs.lemmas.Bool.{cases_eq}
use Rattle.std.proofs.lemmas.Option.{same_Some, slice_get_within, slice_get-get_or}
use Rattle.model_rosters.specs.declared.grammar.ArcKey.{ArcKey}
use Rattle.model_rosters.specs.declared.grammar.Grammar.{Grammar}
use Rattle.model_rosters.specs.Folds.{In}
use Rattle.model_rosters.specs.arc_laws.OrNodes.{OrNode, name, suffix, leaf, same_node, made, used}
use Rattle.model_rosters.proofs.arc_laws.Totals.{same_node-refl}
use Rattle.tree_graph.specs.Graphs.{GraphView, IsGraph, IsKid, AreKids, places, places_from}
use Rattle.tree_graph.specs.declared.kid.Kid.{Kid}
use Rattle.tree_graph.proofs.ArcUsesLemmas.{same-node}
use Rattle.tree_cheapest.specs.declared.order.Maker.{Maker}
use Rattle.tree_cheapest.specs.declared.order.Order.{Order}
use Rattle.tree_cheapest.specs.declared.order.Row.{Row}
use Rattle.tree_cheapest.specs.declared.slots.Links.{Links}
use Rattle.tree_cheapest.specs.declared.slots.Spot.{Spot}
use Rattle.tree_cheapest.specs.Links.{IsSlot, IsLink, AreLinks}
use Rattle.tree_cheapest.specs.Orders.{IsMaker, IsLinked, AreAdded, AreMadeBefore, IsEarlier, IsRow, IsOrderBefore, IsOrder}
use Rattle.tree_cheapest.proofs.LinksLemmas.{link-kids}
use Rattle.tree_cheapest.proofs.RowsLemmas.{no_item, at_place}

module _ {A : Type 0} where
  -- an item stays where it is as others are added
  pub get-more : (xs ys : List A) (k : ℕ) (x : A) → slice_get xs k ≡ Some x → slice_get (xs ++ ys) k ≡ Some x
  get-more [] ys k x e = absurd (no_item x e)
  get-more (y ∷ xs) ys zero x e = e
  get-more (y ∷ xs) ys (suc k) x e = get-more xs ys k x e

  -- the one that was added is the last
  pub get-last : (xs : List A) (x : A) → slice_get (xs ++ x ∷ []) (length xs) ≡ Some x
  get-last [] x = refl
  get-last (y ∷ xs) x = get-last xs x

  -- an item of the longer list is the last one or was there before
  pub get-tells : (xs : List A) (x y : A) (k : ℕ) → slice_get (xs ++ x ∷ []) k ≡ Some y → (slice_get xs k ≡ Some y) ⊎ ((k ≡ length xs) × (x ≡ y))
  get-tells [] x y zero e = inr (refl, same_Some x y e)
  get-tells [] x y (suc k) e = absurd (no_item y e)
  get-tells (z ∷ xs) x y zero e = inl e
  get-tells (z ∷ xs) x y (suc k) e = elim (get-tells xs x y k e) [ inl h ↦ inl h | inr h ↦ inr (ap suc h.0, h.1) ]

-- an arc more is added
module _ (v : GraphView) (links : Links) (arcs : List ℕ) (old : List Maker) where
  pub added-begins : AreAdded v links arcs old old 0
  added-begins = record { count = omega arith; kept = λ k x e. e; each = λ i q lt at. absurd (omega (arith, lt)) }

  pub added-next : (new : List Maker) (n q : ℕ) (x : Maker) → AreAdded v links arcs old new n → slice_get arcs n ≡ Some q → IsLinked v links q x → AreAdded v links arcs old (new ++ x ∷ []) (n + 1)
  added-next new n q x h at is = record {
    count = let l = length-append new (x ∷ []) in omega (arith, l, h.count);
    kept = λ k y e. get-more new (x ∷ []) k y (h.kept k y e);
    each = λ i r lt here. by i r (before_or_last i lt) here;
  }
    where
      before_or_last : (i : ℕ) → i < n + 1 → (i < n) ⊎ (i ≡ n)
      before_or_last i lt = grind (arith, lt)

      by : (i r : ℕ) → (i < n) ⊎ (i ≡ n) → slice_get arcs i ≡ Some r → (y : Maker) × (slice_get (new ++ x ∷ []) (length old + i) ≡ Some y) × IsLinked v links r y
      by i r (inl lt) here =
          let k = h.each i r lt here in
          (k.0, get-more new (x ∷ []) (length old + i) k.0 k.1, k.2)
      by i r (inr e) here =
          let place : length new ≡ length old + i = omega (arith, h.count, e) in
          let same : q ≡ r = same_Some q r (sym at ∙ ap (λ (k : ℕ). slice_get arcs k) (sym e) ∙ here) in
          (x, subst (λ (k : ℕ). slice_get (new ++ x ∷ []) k ≡ Some x) place (get-last new x), subst (λ (k : ℕ). IsLinked v links k x) same is)

-- a row stays one as others are added
row_kept : (v : GraphView) (letters : List Spot) (makers more : List Maker) (rows : List Row) (last : Row) (j : ℕ) (row : Row) → ((k : ℕ) (x : Maker) → slice_get makers k ≡ Some x → slice_get more k ≡ Some x)
    → length makers ≤ length more → IsRow v letters makers rows j row → IsRow v letters more (rows ++ last ∷ []) j row
row_kept v letters makers more rows last j row keep room h = record {
  node = h.node;
  arcs = h.arcs;
  listed = h.listed;
  count = h.count;
  inside = omega (arith, h.inside, room);
  each = λ i q at. let k = h.each i q at in (k.0, keep (row.begin + i) k.0 k.1, k.2, k.3, kept k.0.first k.4, kept k.0.rest k.5);
}
  where
    kept : (slot : ℕ) → IsEarlier v rows j slot → IsEarlier v (rows ++ last ∷ []) j slot
    kept slot e inside = let k = e inside in (k.0, k.1, k.2, get-more rows (last ∷ []) k.0 k.1 k.3, k.4)

-- what stands among the places of the items that pass a test, in their order
module _ {A : Type 0} (p : A → Bool) where
  of_place : (n : ℕ) (xs : List A) (i q : ℕ) → slice_get (places_from n p xs) i ≡ Some q → (k : ℕ) × (x : A) × (q ≡ n + k) × (slice_get xs k ≡ Some x) × (p x ≡ true)
  of_place n [] i q e = absurd (no_item q e)
  of_place n (y ∷ xs) i q e = by (λ j f. of_place (n + 1) xs j q f) (p y) refl i e
    where
      one_on : ((j : ℕ) → slice_get (places_from (n + 1) p xs) j ≡ Some q → (k : ℕ) × (x : A) × (q ≡ n + 1 + k) × (slice_get xs k ≡ Some x) × (p x ≡ true))
          → (j : ℕ) → slice_get (places_from (n + 1) p xs) j ≡ Some q → (k : ℕ) × (x : A) × (q ≡ n + k) × (slice_get (y ∷ xs) k ≡ Some x) × (p x ≡ true)
      one_on later j f = let h = later j f in (suc h.0, h.1, omega (arith, h.2), h.3, h.4)

      by : ((j : ℕ) → slice_get (places_from (n + 1) p xs) j ≡ Some q → (k : ℕ) × (x : A) × (q ≡ n + 1 + k) × (slice_get xs k ≡ Some x) × (p x ≡ true))
          → (b : Bool) → p y ≡ b → (j : ℕ) → slice_get (cond b (n ∷ places_from (n + 1) p xs) (places_from (n + 1) p xs)) j ≡ Some q
          → (k : ℕ) × (x : A) × (q ≡ n + k) × (slice_get (y ∷ xs) k ≡ Some x) × (p x ≡ true)
      by later false fails j f = one_on later j f
      by later true passes zero f = let same = same_Some n q f in (0, y, omega (arith, same), refl, passes)
      by later true passes (suc j) f = one_on later j f

  -- they rise
  rising : (n : ℕ) (xs : List A) (i j a b : ℕ) → i < j → slice_get (places_from n p xs) i ≡ Some a → slice_get (places_from n p xs) j ≡ Some b → a < b
  rising n [] i j a b lt e f = absurd (no_item a e)
  rising n (y ∷ xs) i j a b lt e f = by (λ i j lt e f. rising (n + 1) xs i j a b lt e f) (p y) i j lt e f
    where
      by : ((i j : ℕ) → i < j → slice_get (places_from (n + 1) p xs) i ≡ Some a → slice_get (places_from (n + 1) p xs) j ≡ Some b → a < b) → (t : Bool) (i j : ℕ) → i < j
          → slice_get (cond t (n ∷ places_from (n + 1) p xs) (places_from (n + 1) p xs)) i ≡ Some a → slice_get (cond t (n ∷ places_from (n + 1) p xs) (places_from (n + 1) p xs)) j ≡ Some b → a < b
      by later false i j lt e f = later i j lt e f
      by later true i zero lt e f = absurd (omega (arith, lt))
      by later true zero (suc j) lt e f = let same = same_Some n a e in let h = of_place (n + 1) xs j b f in omega (arith, same, h.2)
      by later true (suc i) (suc j) lt e f = later i j (omega (arith, lt)) e f

module _ (g : Grammar) (v : GraphView) (graph : IsGraph g v) where
  -- an arc that makes a node, by the node's number
  made_here : (q m : ℕ) (a : ArcKey) (o : OrNode) → slice_get v.arcs q ≡ Some a → slice_get v.nodes m ≡ Some o → made g a ≡ o → slice_get v.made_by q ≡ Some m
  made_here q m a o at there is =
      let k = graph.made_by q a at in
      k.1 ∙ ap Some (graph.nodes.once k.0 m o (k.2 ∙ ap Some is) there)

  makes : (q m : ℕ) (a : ArcKey) (o : OrNode) → slice_get v.arcs q ≡ Some a → slice_get v.nodes m ≡ Some o → slice_get v.made_by q ≡ Some m → made g a ≡ o
  makes q m a o at there made_by =
      let k = graph.made_by q a at in
      let same = same_Some k.0 m (sym k.1 ∙ made_by) in
      same_Some (made g a) o (sym k.2 ∙ ap (λ (n : ℕ). slice_get v.nodes n) same ∙ there)

  arc_of : (q : ℕ) → q < length v.arcs → (a : ArcKey) × (slice_get v.arcs q ≡ Some a)
  arc_of q lt = let d : ArcKey = record { rule = 0; suffix = 0; start = 0; len = 0; part = 0 } in (_, slice_get-get_or v.arcs q d lt)

  node_of : (m : ℕ) → m < length v.nodes → (o : OrNode) × (slice_get v.nodes m ≡ Some o)
  node_of m lt = (_, slice_get-get_or v.nodes m (leaf (record { code = 0; period = 0 })) lt)

  -- what an arc makes is a node
  pub made-inside : (q m : ℕ) → q < length v.arcs → slice_get v.made_by q ≡ Some m → m < length v.nodes
  made-inside q m lt made_by =
      let a = arc_of q lt in
      let k = graph.made_by q a.0 a.1 in
      let same = same_Some k.0 m (sym k.1 ∙ made_by) in
      let inside = slice_get_within v.nodes k.0 _ k.2 in
      omega (arith, same, inside)

  module _ (m : ℕ) (arcs : List ℕ) (inside : m < length v.nodes) (listed : slice_get v.makers m ≡ Some arcs) where
    own : (o : OrNode) → slice_get v.nodes m ≡ Some o → arcs ≡ places (λ a. same_node o (made g a)) v.arcs
    own o there = same_Some arcs _ (sym listed ∙ graph.makers m o there)

    -- the arcs that make a node
    pub maker-makes : (i q : ℕ) → slice_get arcs i ≡ Some q → (q < length v.arcs) × (slice_get v.made_by q ≡ Some m)
    maker-makes i q e =
        let o = node_of m inside in
        let h = of_place (λ a. same_node o.0 (made g a)) 0 v.arcs i q (ap (λ (xs : List ℕ). slice_get xs i) (sym (own o.0 o.1)) ∙ e) in
        let same : q ≡ h.0 = omega (arith, h.2) in
        let at : slice_get v.arcs q ≡ Some h.1 = ap (λ (n : ℕ). slice_get v.arcs n) same ∙ h.3 in
        (slice_get_within v.arcs q h.1 at, made_here q m h.1 o.0 at o.1 (sym (same-node o.0 (made g h.1) h.4)))

    listed_there : (q : ℕ) → q < length v.arcs → slice_get v.made_by q ≡ Some m → (i : ℕ) × (slice_get arcs i ≡ Some q)
    listed_there q lt made_by =
        let o = node_of m inside in
        let a = arc_of q lt in
        let yes : same_node o.0 (made g a.0) ≡ true = subst (λ (s : OrNode). same_node o.0 s ≡ true) (sym (makes q m a.0 o.0 a.1 o.1 made_by)) (same_node-refl o.0) in
        let h = at_place (λ a. same_node o.0 (made g a)) 0 v.arcs q a.0 a.1 yes in
        let same : 0 + q ≡ q = omega arith in
        (h.0, ap (λ (xs : List ℕ). slice_get xs h.0) (own o.0 o.1) ∙ h.1 ∙ ap Some same)

    -- a node has one
    pub some-maker : 0 < length arcs
    some-maker =
        let o = node_of m inside in
        let h = graph.nodes.made m o.0 o.1 in
        let k = listed_there h.0 (slice_get_within v.arcs h.0 h.1 h.2) (made_here h.0 m h.1 o.0 h.2 o.1 h.3) in
        let lt = slice_get_within arcs k.0 h.0 k.1 in
        omega (arith, lt)

    -- the last one is one
    pub last-makes : (slice_index arcs (length arcs - 1) < length v.arcs) × (slice_get v.made_by (slice_index arcs (length arcs - 1)) ≡ Some m)
    last-makes = maker-makes (length arcs - 1) (slice_index arcs (length arcs - 1)) (slice_get-get_or arcs (length arcs - 1) 0 (let s = some-maker in omega (arith, s)))

    -- the last one stands behind all others
    pub last-maker : (q : ℕ) → q < length v.arcs → slice_get v.made_by q ≡ Some m → q ≤ slice_index arcs (length arcs - 1)
    last-maker q lt made_by = by (order_of k.0 (length arcs - 1) (let w = slice_get_within arcs k.0 q k.1 in omega (arith, w)))
      where
        k : (i : ℕ) × (slice_get arcs i ≡ Some q)
        k = listed_there q lt made_by

        last : slice_get arcs (length arcs - 1) ≡ Some (slice_index arcs (length arcs - 1))
        last = slice_get-get_or arcs (length arcs - 1) 0 (let s = some-maker in omega (arith, s))

        order_of : (i j : ℕ) → i ≤ j → (i < j) ⊎ (i ≡ j)
        order_of i j le = grind (arith, le)

        by : (k.0 < length arcs - 1) ⊎ (k.0 ≡ length arcs - 1) → q ≤ slice_index arcs (length arcs - 1)
        by (inr e) = let same = same_Some q (slice_index arcs (length arcs - 1)) (sym k.1 ∙ ap (λ (n : ℕ). slice_get arcs n) e ∙ last) in omega (arith, same)
        by (inl less) =
            let o = node_of m inside in
            let to = λ (n : ℕ). ap (λ (xs : List ℕ). slice_get xs n) (sym (own o.0 o.1)) in
            let h = rising (λ a. same_node o.0 (made g a)) 0 v.arcs k.0 (length arcs - 1) q (slice_index arcs (length arcs - 1)) less (to k.0 ∙ k.1) (to (length arcs - 1) ∙ last) in
            omega (arith, h)

  module _ (letters : List Spot) where
    -- the slot of what an arc uses is there
    slot_inside : (o : OrNode) (kid : Kid) (slot : ℕ) → IsKid v.nodes o kid → IsSlot (length v.nodes) letters kid slot → slot < length v.nodes + 1 + length letters
    slot_inside (leaf l) kid slot is h =
        let k = subst (λ (q : Kid). IsSlot (length v.nodes) letters q slot) is h in
        let lt = slice_get_within letters k.0 _ k.2 in
        let e = k.1 in
        omega (arith, lt, e)
    slot_inside (name x i l) kid slot is h =
        let k = subst (λ (q : Kid). IsSlot (length v.nodes) letters q slot) is.1 h in
        let lt = slice_get_within v.nodes is.0 _ is.2 in
        omega (arith, lt, k)
    slot_inside (suffix r k i l) kid slot is h =
        let e = subst (λ (q : Kid). IsSlot (length v.nodes) letters q slot) is.1 h in
        let lt = slice_get_within v.nodes is.0 _ is.2 in
        omega (arith, lt, e)

    module _ (place : ℕ) (order : Order) (old : IsOrderBefore v letters place order) (q : ℕ) (a : ArcKey) (at : slice_get v.arcs q ≡ Some a) (le : q ≤ place) where
      -- a node that the arc uses has a row
      row_there : (n : ℕ) (o : OrNode) → slice_get v.nodes n ≡ Some o → In o (used g a) → (j : ℕ) × (row : Row) × (slice_get order.rows j ≡ Some row) × (row.node ≡ n)
      row_there n o there uses = old.found n (slice_get_within v.nodes n o there) (λ r lt made_by.
          let b = arc_of r lt in
          let is = makes r n b.0 o b.1 there made_by in
          let h = graph.arcs.upward q r a b.0 at b.1 (subst (λ (s : OrNode). In s (used g a)) (sym is) uses) in
          omega (arith, h, le))

      earlier : (o : OrNode) (kid : Kid) (slot : ℕ) → In o (used g a) → IsKid v.nodes o kid → IsSlot (length v.nodes) letters kid slot → IsEarlier v order.rows (length order.rows) slot
      earlier (leaf l) kid slot uses is h =
          let k = subst (λ (q : Kid). IsSlot (length v.nodes) letters q slot) is h in
          let e = k.1 in
          λ lt. absurd (omega (arith, lt, e))
      earlier (name x i l) kid slot uses is h =
          let e = subst (λ (q : Kid). IsSlot (length v.nodes) letters q slot) is.1 h in
          let r = row_there is.0 (name x i l) is.2 uses in
          λ lt. (r.0, r.1, slice_get_within order.rows r.0 r.1 r.2, r.2, r.3 ∙ sym e)
      earlier (suffix r k i l) kid slot uses is h =
          let e = subst (λ (q : Kid). IsSlot (length v.nodes) letters q slot) is.1 h in
          let w = row_there is.0 (suffix r k i l) is.2 uses in
          λ lt. (w.0, w.1, slice_get_within order.rows w.0 w.1 w.2, w.2, w.3 ∙ sym e)

      nothing_earlier : (slot : ℕ) → slot ≡ length v.nodes → IsEarlier v order.rows (length order.rows) slot
      nothing_earlier slot e lt = absurd (omega (arith, lt, e))

      -- so have the two that are below it, and their slots are there
      pub both-earlier : (os : List OrNode) → ((o : OrNode) → In o os → In o (used g a)) → (kids : Kid × Kid) (first rest : ℕ) → AreKids v.nodes os kids
          → IsSlot (length v.nodes) letters kids.0 first → IsSlot (length v.nodes) letters kids.1 rest
          → (first < length v.nodes + 1 + length letters) × (rest < length v.nodes + 1 + length letters)
          × IsEarlier v order.rows (length order.rows) first × IsEarlier v order.rows (length order.rows) rest
      both-earlier [] uses kids first rest h one two = absurd h
      both-earlier (o ∷ []) uses kids first rest h one two =
          let e : rest ≡ length v.nodes = subst (λ (q : Kid). IsSlot (length v.nodes) letters q rest) h.1 two in
          (slot_inside o kids.0 first h.0 one, omega (arith, e), earlier o kids.0 first (uses o (inl refl)) h.0 one, nothing_earlier rest e)
      both-earlier (o ∷ s ∷ []) uses kids first rest h one two =
          (slot_inside o kids.0 first h.0 one, slot_inside s kids.1 rest h.1 two, earlier o kids.0 first (uses o (inl refl)) h.0 one, earlier s kids.1 rest (uses s (inr (inl refl))) h.1 two)
      both-earlier (o ∷ s ∷ u ∷ os) uses kids first rest h one two = absurd h

    -- an arc that makes the node, with its slots
    pub linked-maker : (links : Links) → AreLinks v letters links (length v.arcs) → (place : ℕ) (order : Order) → IsOrderBefore v letters place order
        → (node q : ℕ) (x : Maker) → IsLinked v links q x → slice_get v.made_by q ≡ Some node → q ≤ place
        → IsMaker v letters node x × IsEarlier v order.rows (length order.rows) x.first × IsEarlier v order.rows (length order.rows) x.rest
    linked-maker links are place order old node q x is made_by le =
        let lt = slice_get_within v.arcs q is.key is.at in
        let link = are.each q lt in
        let same : slice_index links.made q ≡ node = same_Some (slice_index links.made q) node (sym link.made ∙ made_by) in
        let own : IsLink v letters x.arc node x.first x.rest =
        rw (is.arc_is, is.first, is.rest) (subst (λ (n : ℕ). IsLink v letters q n (slice_index links.first q) (slice_index links.rest q)) same link) in
        let kids = link-kids g v graph letters q is.key is.at (slice_index links.made q) (slice_index links.first q) (slice_index links.rest q) link in
        let both = both-earlier place order old q is.key is.at le (used g is.key) (λ o i. i) link.kids (slice_index links.first q) (slice_index links.rest q) kids link.first link.rest in (
          record {
            link = own;
            first_in = let b = both.0 in let e = is.first in omega (arith, b, e);
            rest_in = let b = both.1 in let e = is.rest in omega (arith, b, e);
            key = is.key;
            at = rw is.arc_is is.at;
            code = is.code;
            fits = is.fits;
          },
          rw is.first both.2,
          rw is.rest both.3,
        )

    -- at first there is no row
    pub order-begins : IsOrderBefore v letters 0 (record { rows = []; makers = [] })
    order-begins = record {
      rows = λ j row e. absurd (no_item row e);
      found = λ m inside before.
          let o = node_of m inside in
          let h = graph.nodes.made m o.0 o.1 in
          let k = before h.0 (slice_get_within v.arcs h.0 h.1 h.2) (made_here h.0 m h.1 o.0 h.2 o.1 h.3) in
          absurd (omega (arith, k));
    }

    -- in the end each node has one
    pub order-ends : (place : ℕ) (order : Order) → length v.arcs ≤ place → IsOrderBefore v letters place order → IsOrder v letters order
    order-ends place order all h = record { rows = h.rows; all = λ m inside. h.found m inside (λ q lt made_by. omega (arith, lt, all)) }

    module _ (place node : ℕ) (made_by : slice_get v.made_by place ≡ Some node) where
      other : (m : ℕ) → m ≢ node → AreMadeBefore v m (place + 1) → AreMadeBefore v m place
      other m ne before q lt by =
          let h = before q lt by in
          let no : q ≢ place = λ e. ne (same_Some m node (sym by ∙ ap (λ (n : ℕ). slice_get v.made_by n) e ∙ made_by)) in
          omega (arith, h, no)

      -- the arc is not the last that makes its node
      pub order-kept : (order : Order) (last : ℕ) → last < length v.arcs → slice_get v.made_by last ≡ Some node → place < last → IsOrderBefore v letters place order → IsOrderBefore v letters (place + 1) order
      order-kept order last lt makes_it less h = record {
        rows = h.rows;
        found = λ m inside before. found m inside before (cases_eq m node);
      }
        where
          found : (m : ℕ) → m < length v.nodes → AreMadeBefore v m (place + 1) → (m ≡ node) ⊎ (m ≢ node) → (j : ℕ) × (row : Row) × (slice_get order.rows j ≡ Some row) × (row.node ≡ m)
          found m inside before (inr ne) = h.found m inside (other m ne before)
          found m inside before (inl e) = let k = before last lt (makes_it ∙ ap Some (sym e)) in absurd (omega (arith, k, less))

      -- it is the last one: a row more
      pub order-next : (links : Links) → AreLinks v letters links (length v.arcs) → (order : Order) (arcs : List ℕ) (new : List Maker) (row : Row) → node < length v.nodes → slice_get v.makers node ≡ Some arcs
          → ((q : ℕ) → q < length v.arcs → slice_get v.made_by q ≡ Some node → q ≤ place) → AreAdded v links arcs order.makers new (length arcs)
          → row.node ≡ node → row.begin ≡ length order.makers → row.end ≡ length new
          → IsOrderBefore v letters place order → IsOrderBefore v letters (place + 1) (record { rows = order.rows ++ row ∷ []; makers = new })
      order-next links are order arcs new row inside listed past added same begin end h = record {
        rows = λ j r e. rows j r (get-tells order.rows row r j e);
        found = λ m in_nodes before. found m in_nodes before (cases_eq m node);
      }
        where
          late : (slot : ℕ) → IsEarlier v order.rows (length order.rows) slot → IsEarlier v (order.rows ++ row ∷ []) (length order.rows) slot
          late slot e in_nodes = let k = e in_nodes in (k.0, k.1, k.2, get-more order.rows (row ∷ []) k.0 k.1 k.3, k.4)

          last : IsRow v letters new (order.rows ++ row ∷ []) (length order.rows) row
          last = record {
            node = omega (arith, same, inside);
            arcs = arcs;
            listed = ap (λ (n : ℕ). slice_get v.makers n) same ∙ listed;
            count = let n = added.count in omega (arith, end, begin, n);
            inside = omega (arith, end);
            each = λ i q e.
                let k = added.each i q (slice_get_within arcs i q e) e in
                let w = maker-makes node arcs inside listed i q e in
                let is = linked-maker links are place order h node q k.0 k.2 w.1 (past q w.0 w.1) in
                (k.0, ap (λ (n : ℕ). slice_get new (n + i)) begin ∙ k.1, k.2.arc_is, subst (λ (n : ℕ). IsMaker v letters n k.0) (sym same) is.0, late k.0.first is.1, late k.0.rest is.2);
          }

          rows : (j : ℕ) (r : Row) → (slice_get order.rows j ≡ Some r) ⊎ ((j ≡ length order.rows) × (row ≡ r)) → IsRow v letters new (order.rows ++ row ∷ []) j r
          rows j r (inl e) = row_kept v letters order.makers new order.rows row j r added.kept (let n = added.count in omega (arith, n)) (h.rows j r e)
          rows j r (inr e) =
              subst (λ (q : Row). IsRow v letters new (order.rows ++ row ∷ []) j q) e.1
              (subst (λ (n : ℕ). IsRow v letters new (order.rows ++ row ∷ []) n row) (sym e.0) last)

          found : (m : ℕ) → m < length v.nodes → AreMadeBefore v m (place + 1) → (m ≡ node) ⊎ (m ≢ node)
              → (j : ℕ) × (r : Row) × (slice_get (order.rows ++ row ∷ []) j ≡ Some r) × (r.node ≡ m)
          found m in_nodes before (inl e) = (length order.rows, row, get-last order.rows row, same ∙ sym e)
          found m in_nodes before (inr ne) = let k = h.found m in_nodes (other m ne before) in (k.0, k.1, get-more order.rows (row ∷ []) k.0 k.1 k.2, k.3)
