-- The walk down a tree of least sum: what it may ask at each step, and what it has written after it.
use Rattle.std.proofs.Common.{◌≡◌, ℕ, zero, suc, ℤ, ◌<◌, ◌≤◌, ◌+◌, List, [], ◌∷◌, ◌++◌, Option, None, Some, arith, refl, subst, sym, ap, ◌∙◌, ◌⊎◌, inl, inr, length, length-append, append_assoc, get_or}
use Rattle.std.specs.Prelude.{slice_get, slice_index}
use Rattle.std.proofs.lemmas.List.{append-nil}
use Rattle.std.proofs.lemmas.Option.{slice_get_within, slice_get-get_or, get_or_from_slice_get}
use Rattle.model_rosters.specs.declared.grammar.ArcKey.{ArcKey}
use Rattle.model_rosters.specs.declared.grammar.Step.{Step}
use Rattle.model_rosters.specs.declared.grammar.Sym.TheVariants.{Code, Name}
use Rattle.model_rosters.specs.declared.grammar.Sym.{Sym}
use Rattle.model_rosters.specs.Trees.{Parts, done, letter, uses, On, steps}
use Rattle.model_rosters.specs.Folds.{In}
use Rattle.model_rosters.specs.Sums.{PriceView, plus, IsLeast}
use Rattle.model_rosters.specs.Room.{RoomView}
use Rattle.model_rosters.specs.tree_laws.Parts.{use_count}
use Rattle.model_rosters.proofs.tree_laws.LeastValues.{IsLeast-one, left_there, right_there, at_sum}
use Rattle.model_rosters.proofs.tree_laws.Size.{length-steps}
use Rattle.model_rosters.specs.arc_laws.OrNodes.{OrNode, name, suffix, leaf, made, used_by, used}
use Rattle.model_rosters.specs.arc_laws.AtNodes.{IsAt, start_of, steps_of}
use Rattle.model_rosters.proofs.arc_laws.AtNodesLemmas.{made_start}
use Rattle.tree_graph.specs.Graphs.{GraphView, IsKid, AreKids}
use Rattle.tree_graph.specs.declared.kid.Kid.{Kid}
use Rattle.tree_graph.specs.declared.kid.Kid.TheVariants.{Nothing}
use Rattle.tree_cheapest.specs.declared.slots.Links.{Links}
use Rattle.tree_cheapest.specs.AtNodes.{sum_at, NodeLeast, top_arc, arc_total, with_rule}
use Rattle.tree_cheapest.specs.Links.{IsSlot, IsLink}
use Rattle.tree_cheapest.specs.Pricers.{value_at, IsBest}
use Rattle.tree_cheapest.specs.Walks.{HasRoom, AsksNode, WritesAt, AsksArc, WritesUnder, WritesArc, AsksSlot, WritesSlot, node_left, arc_left, slot_left}
use Rattle.tree_cheapest.proofs.StandLemmas.{Standing, arc-standing}
use Rattle.tree_cheapest.proofs.TopArcLemmas.{KidsLeast, arc-least}
use Rattle.tree_cheapest.proofs.PassesLemmas.{kids-least}
use Rattle.tree_cheapest.proofs.LinksLemmas.{link-kids}
use Rattle.tree_cheapest.proofs.PartsAtLemmas.{KidsAt, first_sum, rest_sum, Built, built}

parts_there : (p : PriceView) (r k : ℕ) (v : Option ℤ) (z : ℤ) → with_rule p r k v ≡ Some z → (y : ℤ) × (v ≡ Some y)
parts_there p r zero v z e = right_there (Some (p.rule_of r)) v z e
parts_there p r (suc k) v z e = (z, e)

head_start : List OrNode → ℕ
head_start [] = 0
head_start (o ∷ os) = start_of o

second_start : List OrNode → ℕ
second_start [] = 0
second_start (o ∷ []) = 0
second_start (o ∷ q ∷ os) = start_of q

first_at : (ss : List Sym) (a : ArcKey) (o : OrNode) (os : List OrNode) → used_by ss a ≡ o ∷ os → a.start ≡ start_of o
unfolding head_start
first_at [] a o os e = cc
first_at (Code c ∷ ss) a o os e = ap head_start e
first_at (Name x ∷ ss) a o os e = ap head_start e

second_at : (ss : List Sym) (a : ArcKey) (o q : OrNode) (os : List OrNode) → used_by ss a ≡ o ∷ q ∷ os → a.start + a.part ≡ start_of q
unfolding second_start
second_at [] a o q os e = cc
second_at (s ∷ []) a o q os e = cc
second_at (s ∷ Code c ∷ []) a o q os e = ap second_start e
second_at (s ∷ Name x ∷ []) a o q os e = ap second_start e
second_at (s ∷ x ∷ y ∷ ss) a o q os e = ap second_start e

module _ (v : GraphView) (links : Links) (best : List ℕ) (m : ℕ) (room : RoomView) (asked : AsksNode v links best m room) where
  -- the arc that the walk takes at a node
  pub its-best : IsBest asked.g asked.p v asked.node (value_at asked.w.values m) (slice_index best m)
  its-best = subst (λ (q : List ℕ). IsBest asked.g asked.p v asked.node (value_at asked.w.values m) (slice_index q m)) asked.same_best
      (at_sum (value_at asked.w.values m) asked.sum _ asked.value (asked.filled.arcs m asked.node asked.at))

  pub node-inside : m < length best
  node-inside = let lt = slice_get_within v.nodes m asked.node asked.at in let e = ap length (sym asked.same_best) ∙ asked.made.nodes in omega (arith, lt, e)

  -- the node has a best arc
  pub has-best : slice_get best m ≡ Some (slice_index best m)
  has-best = slice_get-get_or best m 0 node-inside

  -- it is asked for
  abbrev pub asks-best : AsksArc v links best (slice_index best m) room
  asks-best = record {
    g = asked.g;
    p = asked.p;
    w = asked.w;
    sound = asked.sound;
    graph = asked.graph;
    made = asked.made;
    filled = asked.filled;
    same_links = asked.same_links;
    same_best = asked.same_best;
    node = asked.node;
    value = value_at asked.w.values m;
    chosen = its-best;
    sum = asked.sum;
    some = asked.value;
    space = asked.space;
  }

  -- it comes next
  pub falls-best : arc_left (slice_index best m) < node_left (slice_get best m)
  falls-best = subst (λ (q : Option ℕ). arc_left (slice_index best m) < node_left q) (sym has-best) (omega arith)

  -- what is written for it is what stands at the node with the least sum
  pub writes-best : (new : RoomView) → WritesArc v links best (slice_index best m) room new → WritesAt asked.g asked.p asked.node (start_of asked.node) room new
  writes-best new wrote =
      let t : WritesUnder asked.g asked.p asked.node its-best.key (start_of asked.node) room new = wrote asks-best in
      let same : sum_at asked.p asked.node t.0 ≡ value_at asked.w.values m =
      IsLeast-one (λ u. IsAt asked.g asked.node u × (top_arc asked.node u ≡ its-best.key)) (sum_at asked.p asked.node) _ _ t.2 its-best.least in
      (t.0, t.1.0, subst (λ (q : Option ℤ). NodeLeast asked.g asked.p asked.node q) (sym same) (asked.filled.nodes m asked.node asked.at), t.3)

module _ (v : GraphView) (links : Links) (best : List ℕ) (a : ℕ) (room : RoomView) (asked : AsksArc v links best a room) where
  stands : Standing asked.g asked.chosen.key
  stands = arc-standing asked.g asked.chosen.key (asked.graph.arcs.sound a asked.chosen.key asked.chosen.at)

  -- is there
  pub arc-inside : a < length v.arcs
  arc-inside = slice_get_within v.arcs a asked.chosen.key asked.chosen.at

  pub key-read : (d : ArcKey) → get_or v.arcs a d ≡ asked.chosen.key
  key-read d = get_or_from_slice_get v.arcs a asked.chosen.key d asked.chosen.at

  pub links-count : (length links.first ≡ length v.arcs) × (length links.rest ≡ length v.arcs)
  links-count = (ap (λ (q : Links). length q.first) (sym asked.same_links) ∙ asked.made.links.first, ap (λ (q : Links). length q.rest) (sym asked.same_links) ∙ asked.made.links.rest)

  best_count : length best ≡ length v.nodes
  best_count = ap length (sym asked.same_best) ∙ asked.made.nodes

  module _ (first_slot rest_slot : ℕ) (first_is : first_slot ≡ slice_index links.first a) (rest_is : rest_slot ≡ slice_index links.rest a) where
    linked : IsLink v asked.w.letters a (slice_index links.made a) first_slot rest_slot
    linked =
        let its = subst (λ (q : Links). IsLink v asked.w.letters a (slice_index q.made a) (slice_index q.first a) (slice_index q.rest a))
        asked.same_links (asked.made.links.each a arc-inside) in
        rw (first_is, rest_is) its

    kids : AreKids v.nodes (used asked.g asked.chosen.key) linked.kids
    kids = link-kids asked.g v asked.graph asked.w.letters a asked.chosen.key asked.chosen.at (slice_index links.made a) first_slot rest_slot linked

    least_kids : KidsLeast asked.g asked.p (used asked.g asked.chosen.key) (value_at asked.w.values first_slot) (value_at asked.w.values rest_slot)
    least_kids = kids-least asked.g asked.p v asked.graph asked.w.letters asked.w.values asked.filled.priced asked.chosen.key (λ n o at h. asked.filled.nodes n o at)
        linked.kids first_slot rest_slot linked.first linked.rest kids

    total : asked.value ≡ arc_total asked.p asked.chosen.key (value_at asked.w.values first_slot) (value_at asked.w.values rest_slot)
    total =
        let one = arc-least asked.g asked.p asked.chosen.key stands (value_at asked.w.values first_slot) (value_at asked.w.values rest_slot) least_kids in
        let two = subst (λ (o : OrNode). IsLeast (λ t. IsAt asked.g o t × (top_arc o t ≡ asked.chosen.key)) (sum_at asked.p o)
        (arc_total asked.p asked.chosen.key (value_at asked.w.values first_slot) (value_at asked.w.values rest_slot))) asked.chosen.makes one in
        IsLeast-one (λ t. IsAt asked.g asked.node t × (top_arc asked.node t ≡ asked.chosen.key)) (sum_at asked.p asked.node) _ _ asked.chosen.least two

    inner_there : (y : ℤ) × (plus (value_at asked.w.values first_slot) (plus (Some (asked.p.arc_of asked.chosen.key)) (value_at asked.w.values rest_slot)) ≡ Some y)
    inner_there = parts_there asked.p asked.chosen.key.rule asked.chosen.key.suffix _ asked.sum (sym total ∙ asked.some)

    first_there : (y : ℤ) × (value_at asked.w.values first_slot ≡ Some y)
    first_there = left_there (value_at asked.w.values first_slot) _ inner_there.0 inner_there.1

    rest_there : (y : ℤ) × (value_at asked.w.values rest_slot ≡ Some y)
    rest_there =
        let r = right_there (value_at asked.w.values first_slot) _ inner_there.0 inner_there.1 in
        right_there (Some (asked.p.arc_of asked.chosen.key)) (value_at asked.w.values rest_slot) r.0 r.1

    -- a value that is there is attained
    attained : (o : OrNode) (w : Option ℤ) (y : ℤ) → NodeLeast asked.g asked.p o w → w ≡ Some y → (t : Parts) × IsAt asked.g o t
    attained o None y least e = cc
    attained o (Some z) y least e = (least.attained.0, least.attained.1)

    built_of : (t u : Parts) → KidsAt asked.g asked.p (used asked.g asked.chosen.key) t u → Built asked.g asked.p asked.chosen.key t u
    built_of t u h = built asked.g asked.p asked.chosen.key stands t u h

    -- there is room for what is put together
    fits : (t u : Parts) → KidsAt asked.g asked.p (used asked.g asked.chosen.key) t u → length room.steps + (length (steps_of asked.chosen.key) + (use_count t + use_count u)) ≤ room.most
    fits t u h =
        let b = built_of t u h in
        let on : IsAt asked.g asked.node b.whole = subst (λ (o : OrNode). IsAt asked.g o b.whole) asked.chosen.makes b.on in
        let space = asked.space b.whole on in
        let count = b.count in
        omega (arith, space, count)

    -- one kid, or two
    abbrev One : Type 0
    One = (o : OrNode) × (used asked.g asked.chosen.key ≡ o ∷ []) × IsKid v.nodes o linked.kids.0 × (linked.kids.1 ≡ Nothing)

    abbrev Two : Type 0
    Two = (o : OrNode) × (q : OrNode) × (used asked.g asked.chosen.key ≡ o ∷ q ∷ []) × IsKid v.nodes o linked.kids.0 × IsKid v.nodes q linked.kids.1

    kinds : One ⊎ Two
    kinds = by (used asked.g asked.chosen.key) refl kids
      where
        by : (os : List OrNode) → used asked.g asked.chosen.key ≡ os → AreKids v.nodes os linked.kids → One ⊎ Two
        by [] e h = absurd h
        by (o ∷ []) e h = inl (o, e, h.0, h.1)
        by (o ∷ q ∷ []) e h = inr (o, q, e, h.0, h.1)
        by (o ∷ q ∷ s ∷ os) e h = absurd h

    some_kids : (t : Parts) × (u : Parts) × KidsAt asked.g asked.p (used asked.g asked.chosen.key) t u
    some_kids = elim kinds [
      | inl k ↦ let l = subst (λ (os : List OrNode). KidsLeast asked.g asked.p os (value_at asked.w.values first_slot) (value_at asked.w.values rest_slot)) k.1 least_kids in
          let t = attained k.0 _ first_there.0 l.0 first_there.1 in
          (t.0, done, subst (λ (os : List OrNode). KidsAt asked.g asked.p os t.0 done) (sym k.1) (t.1, refl))
      | inr k ↦ let l = subst (λ (os : List OrNode). KidsLeast asked.g asked.p os (value_at asked.w.values first_slot) (value_at asked.w.values rest_slot)) k.2 least_kids in
          let t = attained k.0 _ first_there.0 l.0 first_there.1 in
          let u = attained k.1 _ rest_there.0 l.1 rest_there.1 in
          (t.0, u.0, subst (λ (os : List OrNode). KidsAt asked.g asked.p os t.0 u.0) (sym k.2) (t.1, u.1))
    ]

    -- there is room for the step of the arc
    pub step-room : asked.chosen.key.suffix ≡ 0 → length room.steps < room.most
    step-room e = by asked.chosen.key.suffix e (fits some_kids.0 some_kids.1 some_kids.2)
      where
        by : (k : ℕ) → k ≡ 0 → length room.steps + (length (steps_of (record asked.chosen.key { suffix = k })) + (use_count some_kids.0 + use_count some_kids.1)) ≤ room.most → length room.steps < room.most
        by zero e h = omega (arith, h)
        by (suc k) e h = cc

    -- what is asked of a kid
    abbrev asks_kid : (o : OrNode) (kid : Kid) (slot : ℕ) (y : ℤ) (now : RoomView) → IsKid v.nodes o kid → IsSlot (length v.nodes) asked.w.letters kid slot
        → value_at asked.w.values slot ≡ Some y → HasRoom asked.g o now → AsksSlot v links best slot now
    asks_kid (leaf l) kid slot y now is at value space lt = absurd (beyond (subst (λ (q : Kid). IsSlot (length v.nodes) asked.w.letters q slot) is at))
      where
        beyond : (j : ℕ) × (slot ≡ length v.nodes + 1 + j) × (slice_get asked.w.letters j ≡ Some (record { code = l.code; period = l.period })) → ⊥
        beyond h = let e = h.1 in let c = best_count in omega (arith, e, c, lt)
    asks_kid (name x i l) kid slot y now is at value space lt = record {
      g = asked.g;
      p = asked.p;
      w = asked.w;
      sound = asked.sound;
      graph = asked.graph;
      made = asked.made;
      filled = asked.filled;
      same_links = asked.same_links;
      same_best = asked.same_best;
      node = name x i l;
      at = ap (λ (q : ℕ). slice_get v.nodes q) (subst (λ (q : Kid). IsSlot (length v.nodes) asked.w.letters q slot) is.1 at) ∙ is.2;
      sum = y;
      value = value;
      space = space;
    }
    asks_kid (suffix r k i l) kid slot y now is at value space lt = record {
      g = asked.g;
      p = asked.p;
      w = asked.w;
      sound = asked.sound;
      graph = asked.graph;
      made = asked.made;
      filled = asked.filled;
      same_links = asked.same_links;
      same_best = asked.same_best;
      node = suffix r k i l;
      at = ap (λ (q : ℕ). slice_get v.nodes q) (subst (λ (q : Kid). IsSlot (length v.nodes) asked.w.letters q slot) is.1 at) ∙ is.2;
      sum = y;
      value = value;
      space = space;
    }

    inside_best : (n slot : ℕ) (o : OrNode) → slot ≡ n → slice_get v.nodes n ≡ Some o → slot < length best
    inside_best n slot o e at = let lt = slice_get_within v.nodes n o at in let c = best_count in omega (arith, lt, c, e)

    -- a letter has no steps
    no_steps : (c i : ℕ) (t : Parts) → On asked.g (Code c ∷ []) i 1 t → steps i t ≡ []
    no_steps c i done h = absurd h.0
    no_steps c i (uses q z inner rest) h = absurd h.0
    no_steps c i (letter d done) h = refl
    no_steps c i (letter d (letter e rest)) h = absurd h.0.1
    no_steps c i (letter d (uses q z inner rest)) h = absurd h.0.1

    -- and what is written for it
    wrote_kid : (o : OrNode) (kid : Kid) (slot : ℕ) (y : ℤ) (i : ℕ) (old new : RoomView) → IsKid v.nodes o kid → IsSlot (length v.nodes) asked.w.letters kid slot
        → value_at asked.w.values slot ≡ Some y → HasRoom asked.g o old → i ≡ start_of o → NodeLeast asked.g asked.p o (value_at asked.w.values slot)
        → WritesSlot v links best slot old new → WritesAt asked.g asked.p o i old new
    wrote_kid (leaf l) kid slot y i old new is at value space start least wrote =
        let none : new ≡ old = wrote.other (beyond (subst (λ (q : Kid). IsSlot (length v.nodes) asked.w.letters q slot) is at)) in
        let some = subst (λ (q : Option ℤ). NodeLeast asked.g asked.p (leaf l) q) value least in
        let t = some.attained.0 in
        let empty : steps i t ≡ [] = ap (λ (n : ℕ). steps n some.attained.0) start ∙ no_steps l.code l.period some.attained.0 some.attained.1 in (
          some.attained.0,
          some.attained.1,
          subst (λ (q : Option ℤ). NodeLeast asked.g asked.p (leaf l) q) (sym some.attained.2) some,
          none ∙ ap (λ (q : List Step). record old { steps = q }) (sym (append-nil old.steps) ∙ ap (λ (q : List Step). old.steps ++ q) (sym empty)),
        )
      where
        beyond : (j : ℕ) × (slot ≡ length v.nodes + 1 + j) × (slice_get asked.w.letters j ≡ Some (record { code = l.code; period = l.period })) → length best ≤ slot
        beyond h = let e = h.1 in let c = best_count in omega (arith, e, c)
    wrote_kid (name x j l) kid slot y i old new is at value space start least wrote =
        let lt = inside_best is.0 slot (name x j l) (subst (λ (q : Kid). IsSlot (length v.nodes) asked.w.letters q slot) is.1 at) is.2 in
        let done_at : WritesAt asked.g asked.p (name x j l) j old new = wrote.node lt (asks_kid (name x j l) kid slot y old is at value space lt) in
        subst (λ (n : ℕ). WritesAt asked.g asked.p (name x j l) n old new) (sym start) done_at
    wrote_kid (suffix r k j l) kid slot y i old new is at value space start least wrote =
        let lt = inside_best is.0 slot (suffix r k j l) (subst (λ (q : Kid). IsSlot (length v.nodes) asked.w.letters q slot) is.1 at) is.2 in
        let done_at : WritesAt asked.g asked.p (suffix r k j l) j old new = wrote.node lt (asks_kid (suffix r k j l) kid slot y old is at value space lt) in
        subst (λ (n : ℕ). WritesAt asked.g asked.p (suffix r k j l) n old new) (sym start) done_at

    module _ (one : RoomView) (stepped : one ≡ record room { steps = room.steps ++ steps_of asked.chosen.key }) where
      one_steps : length one.steps ≡ length room.steps + length (steps_of asked.chosen.key)
      one_steps = ap (λ (q : RoomView). length q.steps) stepped ∙ length-append room.steps (steps_of asked.chosen.key)

      one_most : one.most ≡ room.most
      one_most = ap (λ (q : RoomView). q.most) stepped

      -- room for the first kid
      only_room : (k : One) → HasRoom asked.g k.0 one
      only_room k t h =
          let f = fits t done (subst (λ (os : List OrNode). KidsAt asked.g asked.p os t done) (sym k.1) (h, refl)) in
          let s = one_steps in
          let e = one_most in
          omega (arith, f, s, e)

      first_room : (k : Two) → HasRoom asked.g k.0 one
      first_room k t h =
          let l = subst (λ (os : List OrNode). KidsLeast asked.g asked.p os (value_at asked.w.values first_slot) (value_at asked.w.values rest_slot)) k.2 least_kids in
          let u = attained k.1 _ rest_there.0 l.1 rest_there.1 in
          let f = fits t u.0 (subst (λ (os : List OrNode). KidsAt asked.g asked.p os t u.0) (sym k.2) (h, u.1)) in
          let s = one_steps in
          let e = one_most in
          omega (arith, f, s, e)

      -- the first slot is asked for
      pub asks-first : AsksSlot v links best first_slot one
      asks-first = elim kinds [
        | inl k ↦ asks_kid k.0 linked.kids.0 first_slot first_there.0 one k.2 linked.first first_there.1 (only_room k)
        | inr k ↦ asks_kid k.0 linked.kids.0 first_slot first_there.0 one k.3 linked.first first_there.1 (first_room k)
      ]

      module _ (mid : RoomView) (wrote : WritesSlot v links best first_slot one mid) where
        only_wrote : (k : One) → WritesAt asked.g asked.p k.0 asked.chosen.key.start one mid
        only_wrote k =
            let l = subst (λ (os : List OrNode). KidsLeast asked.g asked.p os (value_at asked.w.values first_slot) (value_at asked.w.values rest_slot)) k.1 least_kids in
            wrote_kid k.0 linked.kids.0 first_slot first_there.0 asked.chosen.key.start one mid k.2 linked.first first_there.1 (only_room k) (first_at _ asked.chosen.key k.0 [] k.1) l.0 wrote

        first_wrote : (k : Two) → WritesAt asked.g asked.p k.0 asked.chosen.key.start one mid
        first_wrote k =
            let l = subst (λ (os : List OrNode). KidsLeast asked.g asked.p os (value_at asked.w.values first_slot) (value_at asked.w.values rest_slot)) k.2 least_kids in
            wrote_kid k.0 linked.kids.0 first_slot first_there.0 asked.chosen.key.start one mid k.3 linked.first first_there.1 (first_room k) (first_at _ asked.chosen.key k.0 (k.1 ∷ []) k.2) l.0 wrote

        rest_room : (k : Two) → HasRoom asked.g k.1 mid
        rest_room k u h =
            let t = first_wrote k in
            let f = fits t.0 u (subst (λ (os : List OrNode). KidsAt asked.g asked.p os t.0 u) (sym k.2) (t.1, h)) in
            let s = one_steps in
            let e = one_most in
            let n : length mid.steps ≡ length one.steps + use_count t.0 = ap (λ (q : RoomView). length q.steps) t.3 ∙ length-append one.steps (steps asked.chosen.key.start t.0) ∙ ap (λ (q : ℕ). length one.steps + q) (length-steps t.0 asked.chosen.key.start) in
            let e2 : mid.most ≡ one.most = ap (λ (q : RoomView). q.most) t.3 in
            omega (arith, f, s, e, n, e2)

        nothing_slot : (k : One) → rest_slot ≡ length v.nodes
        nothing_slot k = subst (λ (q : Kid). IsSlot (length v.nodes) asked.w.letters q rest_slot) k.3 linked.rest

        -- so is the other
        pub asks-rest : AsksSlot v links best rest_slot mid
        asks-rest = elim kinds [
          | inl k ↦ λ lt. absurd (let e = nothing_slot k in let c = best_count in omega (arith, e, c, lt))
          | inr k ↦ asks_kid k.1 linked.kids.1 rest_slot rest_there.0 mid k.4 linked.rest rest_there.1 (rest_room k)
        ]

        module _ (new : RoomView) (last : WritesSlot v links best rest_slot mid new) where
          -- all steps together
          all_steps : (t u : Parts) (i j : ℕ) → mid ≡ record one { steps = one.steps ++ steps i t } → new ≡ record mid { steps = mid.steps ++ steps j u }
              → new ≡ record room { steps = room.steps ++ (steps_of asked.chosen.key ++ (steps i t ++ steps j u)) }
          all_steps t u i j first rest =
              rest ∙ ap (λ (q : RoomView). record q { steps = q.steps ++ steps j u }) first
              ∙ ap (λ (q : RoomView). record q { steps = (q.steps ++ steps i t) ++ steps j u }) stepped
              ∙ ap (λ (q : List Step). record room { steps = q })
              (append_assoc (room.steps ++ steps_of asked.chosen.key) (steps i t) (steps j u) ∙ append_assoc room.steps (steps_of asked.chosen.key) (steps i t ++ steps j u))

          whole : (t u : Parts) → KidsAt asked.g asked.p (used asked.g asked.chosen.key) t u
              → first_sum asked.g asked.p (used asked.g asked.chosen.key) t ≡ value_at asked.w.values first_slot → rest_sum asked.g asked.p (used asked.g asked.chosen.key) u ≡ value_at asked.w.values rest_slot
              → mid ≡ record one { steps = one.steps ++ steps asked.chosen.key.start t } → new ≡ record mid { steps = mid.steps ++ steps (asked.chosen.key.start + asked.chosen.key.part) u }
              → WritesUnder asked.g asked.p asked.node asked.chosen.key (start_of asked.node) room new
          whole t u at ev ew first rest =
              let b = built_of t u at in
              let on : IsAt asked.g asked.node b.whole = subst (λ (o : OrNode). IsAt asked.g o b.whole) asked.chosen.makes b.on in
              let top : top_arc asked.node b.whole ≡ asked.chosen.key = subst (λ (o : OrNode). top_arc o b.whole ≡ asked.chosen.key) asked.chosen.makes b.top in
              let start : start_of asked.node ≡ asked.chosen.key.start = ap start_of (sym asked.chosen.makes) ∙ made_start asked.g asked.chosen.key.rule asked.chosen.key.suffix asked.chosen.key.start asked.chosen.key.len in
              let sum0 : sum_at asked.p (made asked.g asked.chosen.key) b.whole ≡ asked.value =
              b.sum ∙ ap (λ (q : Option ℤ). arc_total asked.p asked.chosen.key q (rest_sum asked.g asked.p (used asked.g asked.chosen.key) u)) ev
              ∙ ap (λ (q : Option ℤ). arc_total asked.p asked.chosen.key (value_at asked.w.values first_slot) q) ew ∙ sym total in
              let sum : sum_at asked.p asked.node b.whole ≡ asked.value = subst (λ (o : OrNode). sum_at asked.p o b.whole ≡ asked.value) asked.chosen.makes sum0 in
              let all = all_steps t u asked.chosen.key.start (asked.chosen.key.start + asked.chosen.key.part) first rest in
              let written : steps (start_of asked.node) b.whole ≡ steps_of asked.chosen.key ++ (steps asked.chosen.key.start t ++ steps (asked.chosen.key.start + asked.chosen.key.part) u) =
              ap (λ (n : ℕ). steps n b.whole) start ∙ b.written in (
                b.whole,
                (on, top),
                subst (λ (q : Option ℤ). IsLeast (λ w. IsAt asked.g asked.node w × (top_arc asked.node w ≡ asked.chosen.key)) (sum_at asked.p asked.node) q) (sym sum) asked.chosen.least,
                all ∙ ap (λ (q : List Step). record room { steps = room.steps ++ q }) (sym written),
              )

          one_least : (o : OrNode) (a b : Option ℤ) → NodeLeast asked.g asked.p o a → NodeLeast asked.g asked.p o b → a ≡ b
          one_least o a b h k = IsLeast-one (IsAt asked.g o) (sum_at asked.p o) a b h k

          -- are those of what stands at the node with the arc at the top
          pub writes-under : WritesUnder asked.g asked.p asked.node asked.chosen.key (start_of asked.node) room new
          writes-under = elim kinds [
            | inl k ↦ let l = subst (λ (os : List OrNode). KidsLeast asked.g asked.p os (value_at asked.w.values first_slot) (value_at asked.w.values rest_slot)) k.1 least_kids in
                let t = only_wrote k in
                let none : new ≡ mid = last.other (let e = nothing_slot k in let c = best_count in omega (arith, e, c)) in
                whole t.0 done (subst (λ (os : List OrNode). KidsAt asked.g asked.p os t.0 done) (sym k.1) (t.1, refl))
                (subst (λ (os : List OrNode). first_sum asked.g asked.p os t.0 ≡ value_at asked.w.values first_slot) (sym k.1) (one_least k.0 _ _ t.2 l.0))
                (subst (λ (os : List OrNode). rest_sum asked.g asked.p os done ≡ value_at asked.w.values rest_slot) (sym k.1) (sym l.1))
                t.3 (none ∙ ap (λ (q : List Step). record mid { steps = q }) (sym (append-nil mid.steps)))
            | inr k ↦ let l = subst (λ (os : List OrNode). KidsLeast asked.g asked.p os (value_at asked.w.values first_slot) (value_at asked.w.values rest_slot)) k.2 least_kids in
                let t = first_wrote k in
                let u = wrote_kid k.1 linked.kids.1 rest_slot rest_there.0 (asked.chosen.key.start + asked.chosen.key.part) mid new k.4 linked.rest rest_there.1 (rest_room k) (second_at _ asked.chosen.key k.0 k.1 [] k.2) l.1 last in
                whole t.0 u.0 (subst (λ (os : List OrNode). KidsAt asked.g asked.p os t.0 u.0) (sym k.2) (t.1, u.1))
                (subst (λ (os : List OrNode). first_sum asked.g asked.p os t.0 ≡ value_at asked.w.values first_slot) (sym k.2) (one_least k.0 _ _ t.2 l.0))
                (subst (λ (os : List OrNode). rest_sum asked.g asked.p os u.0 ≡ value_at asked.w.values rest_slot) (sym k.2) (one_least k.1 _ _ u.2 l.1))
                t.3 u.3
          ]

    -- the best arc of a kid comes before this one
    kid_falls : (o : OrNode) (kid : Kid) (slot : ℕ) (y : ℤ) → In o (used asked.g asked.chosen.key) → IsKid v.nodes o kid → IsSlot (length v.nodes) asked.w.letters kid slot
        → value_at asked.w.values slot ≡ Some y → slot_left (slice_get best slot) < arc_left a
    kid_falls o kid slot y below is at value = by (slice_get best slot) refl
      where
        earlier : (n b : ℕ) → slot ≡ n → slice_get v.nodes n ≡ Some o → slice_get best slot ≡ Some b → b < a
        earlier n b e there has =
            let there2 : slice_get v.nodes slot ≡ Some o = ap (λ (q : ℕ). slice_get v.nodes q) e ∙ there in
            let c = subst (λ (q : List ℕ). IsBest asked.g asked.p v o (value_at asked.w.values slot) (slice_index q slot)) asked.same_best
            (at_sum (value_at asked.w.values slot) y _ value (asked.filled.arcs slot o there2)) in
            let same : slice_index best slot ≡ b = get_or_from_slice_get best slot b 0 has in
            let up = asked.graph.arcs.upward a (slice_index best slot) asked.chosen.key c.key asked.chosen.at c.at (subst (λ (q : OrNode). In q (used asked.g asked.chosen.key)) (sym c.makes) below) in
            omega (arith, up, same)

        placed : (o : OrNode) → IsKid v.nodes o kid → (b : ℕ) → slice_get best slot ≡ Some b → (n : ℕ) × (slot ≡ n) × (slice_get v.nodes n ≡ Some o)
        placed (leaf l) is b has = absurd (beyond (subst (λ (q : Kid). IsSlot (length v.nodes) asked.w.letters q slot) is at))
          where
            beyond : (j : ℕ) × (slot ≡ length v.nodes + 1 + j) × (slice_get asked.w.letters j ≡ Some (record { code = l.code; period = l.period })) → ⊥
            beyond h = let e = h.1 in let c = best_count in let lt = slice_get_within best slot b has in omega (arith, e, c, lt)
        placed (name x i l) is b has = (is.0, subst (λ (q : Kid). IsSlot (length v.nodes) asked.w.letters q slot) is.1 at, is.2)
        placed (suffix r k i l) is b has = (is.0, subst (λ (q : Kid). IsSlot (length v.nodes) asked.w.letters q slot) is.1 at, is.2)

        by : (q : Option ℕ) → slice_get best slot ≡ q → slot_left q < arc_left a
        by None e = omega arith
        by (Some b) e =
            let n = placed o is b e in
            let lt = earlier n.0 b n.1 n.2 e in
            omega (arith, lt)

    pub falls-first : slot_left (slice_get best first_slot) < arc_left a
    falls-first = elim kinds [
      | inl k ↦ kid_falls k.0 linked.kids.0 first_slot first_there.0 (subst (λ (os : List OrNode). In k.0 os) (sym k.1) (inl refl)) k.2 linked.first first_there.1
      | inr k ↦ kid_falls k.0 linked.kids.0 first_slot first_there.0 (subst (λ (os : List OrNode). In k.0 os) (sym k.2) (inl refl)) k.3 linked.first first_there.1
    ]

    pub falls-rest : slot_left (slice_get best rest_slot) < arc_left a
    falls-rest = elim kinds [
      | inl k ↦ none k
      | inr k ↦ kid_falls k.1 linked.kids.1 rest_slot rest_there.0 (subst (λ (os : List OrNode). In k.1 os) (sym k.2) (inr (inl refl))) k.4 linked.rest rest_there.1
    ]
      where
        none : One → slot_left (slice_get best rest_slot) < arc_left a
        none k = by (slice_get best rest_slot) refl
          where
            slot_is : rest_slot ≡ length v.nodes
            slot_is = subst (λ (q : Kid). IsSlot (length v.nodes) asked.w.letters q rest_slot) k.3 linked.rest

            by : (q : Option ℕ) → slice_get best rest_slot ≡ q → slot_left q < arc_left a
            by None e = omega arith
            by (Some b) e = let lt = slice_get_within best rest_slot b e in let c = best_count in let s = slot_is in absurd (omega (arith, lt, c, s))
