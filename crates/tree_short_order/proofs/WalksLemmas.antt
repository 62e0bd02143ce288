-- The walk down a tree: what it may ask at each step, and what it has written after it.
use Rattle.std.proofs.Common.{◌≡◌, ℕ, zero, suc, ◌<◌, ◌≤◌, ◌+◌, List, [], ◌∷◌, ◌++◌, Option, None, Some, arith, refl, subst, sym, ap, ◌∙◌, ◌⊎◌, inl, inr, length, length-append, append_assoc, get_or}
use Rattle.std.specs.Prelude.{slice_get, slice_index}
use Rattle.std.proofs.lemmas.List.{append-nil}
use Rattle.std.proofs.lemmas.Option.{same_Some, slice_get_within, slice_get-get_or, get_or_from_slice_get}
use Rattle.model_rosters.specs.declared.grammar.ArcKey.{ArcKey}
use Rattle.model_rosters.specs.declared.grammar.Step.{Step}
use Rattle.model_rosters.specs.declared.grammar.Sym.TheVariants.{Code, Name}
use Rattle.model_rosters.specs.declared.grammar.Sym.{Sym}
use Rattle.model_rosters.specs.Trees.{Parts, done, letter, steps}
use Rattle.model_rosters.specs.Folds.{In}
use Rattle.model_rosters.specs.Room.{RoomView}
use Rattle.model_rosters.specs.tree_laws.Parts.{use_count}
use Rattle.model_rosters.proofs.tree_laws.Size.{length-steps}
use Rattle.model_rosters.specs.arc_laws.OrNodes.{OrNode, name, suffix, leaf, made, used_by, used}
use Rattle.model_rosters.specs.arc_laws.AtNodes.{IsAt, start_of, steps_of}
use Rattle.model_rosters.proofs.arc_laws.AtNodesLemmas.{made_start}
use Rattle.tree_graph.specs.Graphs.{GraphView, IsKid, AreKids}
use Rattle.tree_graph.specs.declared.kid.Kid.{Kid}
use Rattle.tree_graph.specs.declared.kid.Kid.TheVariants.{Nothing}
use Rattle.tree_cheapest.specs.AtNodes.{top_arc}
use Rattle.tree_cheapest.specs.Walks.{HasRoom}
use Rattle.tree_cheapest.proofs.StandLemmas.{Standing, arc-standing}
use Rattle.tree_cheapest.proofs.PartsAtLemmas.{KidsAt, Built, built}
use Rattle.tree_short_order.specs.Best.{IsNodeOf}
use Rattle.tree_short_order.specs.Walks.{AsksNode, WritesAt, AsksArc, WritesUnder, WritesArc, AsksSlot, WritesSlot, node_left, arc_left, slot_left}
use Rattle.tree_short_order.proofs.BestLemmas.{best-key}
use Rattle.tree_short_order.proofs.StandingTrees.{no_prices, Stands, kid-stands}

head_start : List OrNode → ℕ
head_start [] = 0
head_start (o ∷ os) = start_of o

second_start : List OrNode → ℕ
second_start [] = 0
second_start (o ∷ []) = 0
second_start (o ∷ q ∷ os) = start_of q

first_at : (ss : List Sym) (a : ArcKey) (o : OrNode) (os : List OrNode) → used_by ss a ≡ o ∷ os → a.start ≡ start_of o
unfolding head_start
first_at [] a o os e = cc
first_at (Code c ∷ ss) a o os e = ap head_start e
first_at (Name x ∷ ss) a o os e = ap head_start e

second_at : (ss : List Sym) (a : ArcKey) (o q : OrNode) (os : List OrNode) → used_by ss a ≡ o ∷ q ∷ os → a.start + a.part ≡ start_of q
unfolding second_start
second_at [] a o q os e = cc
second_at (s ∷ []) a o q os e = cc
second_at (s ∷ Code c ∷ []) a o q os e = ap second_start e
second_at (s ∷ Name x ∷ []) a o q os e = ap second_start e
second_at (s ∷ x ∷ y ∷ ss) a o q os e = ap second_start e

module _ (v : GraphView) (best : List ℕ) (m : ℕ) (room : RoomView) (asked : AsksNode v best m room) where
  pub node-inside : m < length best
  node-inside = let lt = slice_get_within v.nodes m asked.node asked.at in let e = asked.are_best.count in omega (arith, lt, e)

  -- the arc that the walk takes at a node
  pub its-best : (key : ArcKey) × (slice_get v.arcs (slice_index best m) ≡ Some key) × (made asked.g key ≡ asked.node)
  its-best = best-key asked.g v asked.graph best asked.are_best m asked.node asked.at

  -- the node has one
  has-best : slice_get best m ≡ Some (slice_index best m)
  has-best = slice_get-get_or best m 0 node-inside

  -- it is asked for
  abbrev pub asks-best : AsksArc v best (slice_index best m) room
  asks-best = record {
    g = asked.g;
    sound = asked.sound;
    graph = asked.graph;
    are_best = asked.are_best;
    key = its-best.0;
    at = its-best.1;
    space = subst (λ (o : OrNode). HasRoom asked.g o room) (sym its-best.2) asked.space;
  }

  -- it comes next
  pub falls-best : arc_left (slice_index best m) < node_left (slice_get best m)
  falls-best = subst (λ (q : Option ℕ). arc_left (slice_index best m) < node_left q) (sym has-best) (omega arith)

  -- what is written for it is what stands at the node
  pub writes-best : (new : RoomView) → WritesArc v best (slice_index best m) room new → WritesAt asked.g asked.node (start_of asked.node) room new
  writes-best new wrote =
      let t : WritesUnder asked.g its-best.0 room new = wrote asks-best in
      let start : its-best.0.start ≡ start_of asked.node = sym (made_start asked.g its-best.0.rule its-best.0.suffix its-best.0.start its-best.0.len) ∙ ap start_of its-best.2 in
      (t.0, subst (λ (o : OrNode). IsAt asked.g o t.0) its-best.2 t.1.0, t.2 ∙ ap (λ (n : ℕ). record room { steps = room.steps ++ steps n t.0 }) start)

module _ (v : GraphView) (best : List ℕ) (a : ℕ) (room : RoomView) (asked : AsksArc v best a room) where
  stands : Standing asked.g asked.key
  stands = arc-standing asked.g asked.key (asked.graph.arcs.sound a asked.key asked.at)

  -- is there
  pub arc-inside : a < length v.arcs
  arc-inside = slice_get_within v.arcs a asked.key asked.at

  pub key-read : (d : ArcKey) → get_or v.arcs a d ≡ asked.key
  key-read d = get_or_from_slice_get v.arcs a asked.key d asked.at

  best_count : length best ≡ length v.nodes
  best_count = asked.are_best.count

  module _ (first rest : Kid) (first_is : slice_get v.first a ≡ Some first) (rest_is : slice_get v.rest a ≡ Some rest)
      (first_slot rest_slot : ℕ) (first_node : IsNodeOf (length v.nodes) first first_slot) (rest_node : IsNodeOf (length v.nodes) rest rest_slot) where
    kids : AreKids v.nodes (used asked.g asked.key) (first, rest)
    kids =
        let k = asked.graph.kids a asked.key asked.at in
        let e : first ≡ k.0.0 = same_Some first k.0.0 (sym first_is ∙ k.1) in
        let f : rest ≡ k.0.1 = same_Some rest k.0.1 (sym rest_is ∙ k.2) in
        subst (λ (q : Kid). AreKids v.nodes (used asked.g asked.key) (q, rest)) (sym e) (subst (λ (q : Kid). AreKids v.nodes (used asked.g asked.key) (k.0.0, q)) (sym f) k.3)

    built_of : (t u : Parts) → KidsAt asked.g no_prices (used asked.g asked.key) t u → Built asked.g no_prices asked.key t u
    built_of t u h = built asked.g no_prices asked.key stands t u h

    -- there is room for what is put together
    fits : (t u : Parts) → KidsAt asked.g no_prices (used asked.g asked.key) t u → length room.steps + (length (steps_of asked.key) + (use_count t + use_count u)) ≤ room.most
    fits t u h =
        let b = built_of t u h in
        let space = asked.space b.whole b.on in
        let count = b.count in
        omega (arith, space, count)

    -- one kid, or two
    abbrev One : Type 0
    One = (o : OrNode) × (used asked.g asked.key ≡ o ∷ []) × IsKid v.nodes o first × (rest ≡ Nothing)

    abbrev Two : Type 0
    Two = (o : OrNode) × (q : OrNode) × (used asked.g asked.key ≡ o ∷ q ∷ []) × IsKid v.nodes o first × IsKid v.nodes q rest

    kinds : One ⊎ Two
    kinds = by (used asked.g asked.key) refl kids
      where
        by : (os : List OrNode) → used asked.g asked.key ≡ os → AreKids v.nodes os (first, rest) → One ⊎ Two
        by [] e h = absurd h
        by (o ∷ []) e h = inl (o, e, h.0, h.1)
        by (o ∷ q ∷ []) e h = inr (o, q, e, h.0, h.1)
        by (o ∷ q ∷ s ∷ os) e h = absurd h

    one_at : (k : One) (t : Parts) → IsAt asked.g k.0 t → KidsAt asked.g no_prices (used asked.g asked.key) t done
    one_at k t h = subst (λ (os : List OrNode). KidsAt asked.g no_prices os t done) (sym k.1) (h, refl)

    two_at : (k : Two) (t u : Parts) → IsAt asked.g k.0 t → IsAt asked.g k.1 u → KidsAt asked.g no_prices (used asked.g asked.key) t u
    two_at k t u h l = subst (λ (os : List OrNode). KidsAt asked.g no_prices os t u) (sym k.2) (h, l)

    some_kids : (t : Parts) × (u : Parts) × KidsAt asked.g no_prices (used asked.g asked.key) t u
    some_kids = elim kinds [
      | inl k ↦ let t = kid-stands asked.g v asked.graph k.0 first k.2 in (t.0, done, one_at k t.0 t.1)
      | inr k ↦ let t = kid-stands asked.g v asked.graph k.0 first k.3 in let u = kid-stands asked.g v asked.graph k.1 rest k.4 in (t.0, u.0, two_at k t.0 u.0 t.1 u.1)
    ]

    -- there is room for the step of the arc
    pub step-room : asked.key.suffix ≡ 0 → length room.steps < room.most
    step-room e = by asked.key.suffix e (fits some_kids.0 some_kids.1 some_kids.2)
      where
        by : (k : ℕ) → k ≡ 0 → length room.steps + (length (steps_of (record asked.key { suffix = k })) + (use_count some_kids.0 + use_count some_kids.1)) ≤ room.most → length room.steps < room.most
        by zero e h = omega (arith, h)
        by (suc k) e h = cc

    -- a letter is no node
    no_node : (c i : ℕ) (kid : Kid) (slot : ℕ) → IsKid v.nodes (leaf (record { code = c; period = i })) kid → IsNodeOf (length v.nodes) kid slot → length best ≤ slot
    no_node c i kid slot is at =
        let e : slot ≡ length v.nodes = subst (λ (q : Kid). IsNodeOf (length v.nodes) q slot) is at in
        let count = best_count in
        omega (arith, e, count)

    -- what is asked of a kid
    abbrev asks_kid : (o : OrNode) (kid : Kid) (slot : ℕ) (now : RoomView) → IsKid v.nodes o kid → IsNodeOf (length v.nodes) kid slot → HasRoom asked.g o now → AsksSlot v best slot now
    asks_kid (leaf l) kid slot now is at space lt = absurd (let e = no_node l.code l.period kid slot is at in omega (arith, e, lt))
    asks_kid (name x i l) kid slot now is at space lt = record {
      g = asked.g;
      sound = asked.sound;
      graph = asked.graph;
      are_best = asked.are_best;
      node = name x i l;
      at = ap (λ (q : ℕ). slice_get v.nodes q) (subst (λ (q : Kid). IsNodeOf (length v.nodes) q slot) is.1 at) ∙ is.2;
      space = space;
    }
    asks_kid (suffix r k i l) kid slot now is at space lt = record {
      g = asked.g;
      sound = asked.sound;
      graph = asked.graph;
      are_best = asked.are_best;
      node = suffix r k i l;
      at = ap (λ (q : ℕ). slice_get v.nodes q) (subst (λ (q : Kid). IsNodeOf (length v.nodes) q slot) is.1 at) ∙ is.2;
      space = space;
    }

    inside_best : (n slot : ℕ) (o : OrNode) → slot ≡ n → slice_get v.nodes n ≡ Some o → slot < length best
    inside_best n slot o e at = let lt = slice_get_within v.nodes n o at in let c = best_count in omega (arith, lt, c, e)

    -- and what is written for it
    wrote_kid : (o : OrNode) (kid : Kid) (slot : ℕ) (i : ℕ) (old new : RoomView) → IsKid v.nodes o kid → IsNodeOf (length v.nodes) kid slot → HasRoom asked.g o old → i ≡ start_of o
        → WritesSlot v best slot old new → WritesAt asked.g o i old new
    wrote_kid (leaf l) kid slot i old new is at space start wrote =
        let none : new ≡ old = wrote.other (no_node l.code l.period kid slot is at) in
        (letter l.code done, ((refl, tt), refl), none ∙ ap (λ (q : List Step). record old { steps = q }) (sym (append-nil old.steps)))
    wrote_kid (name x j l) kid slot i old new is at space start wrote =
        let lt = inside_best is.0 slot (name x j l) (subst (λ (q : Kid). IsNodeOf (length v.nodes) q slot) is.1 at) is.2 in
        let done_at : WritesAt asked.g (name x j l) j old new = wrote.node lt (asks_kid (name x j l) kid slot old is at space lt) in
        subst (λ (n : ℕ). WritesAt asked.g (name x j l) n old new) (sym start) done_at
    wrote_kid (suffix r k j l) kid slot i old new is at space start wrote =
        let lt = inside_best is.0 slot (suffix r k j l) (subst (λ (q : Kid). IsNodeOf (length v.nodes) q slot) is.1 at) is.2 in
        let done_at : WritesAt asked.g (suffix r k j l) j old new = wrote.node lt (asks_kid (suffix r k j l) kid slot old is at space lt) in
        subst (λ (n : ℕ). WritesAt asked.g (suffix r k j l) n old new) (sym start) done_at

    module _ (one : RoomView) (stepped : one ≡ record room { steps = room.steps ++ steps_of asked.key }) where
      one_steps : length one.steps ≡ length room.steps + length (steps_of asked.key)
      one_steps = ap (λ (q : RoomView). length q.steps) stepped ∙ length-append room.steps (steps_of asked.key)

      one_most : one.most ≡ room.most
      one_most = ap (λ (q : RoomView). q.most) stepped

      -- room for the first kid
      only_room : (k : One) → HasRoom asked.g k.0 one
      only_room k t h =
          let f = fits t done (one_at k t h) in
          let s = one_steps in
          let e = one_most in
          omega (arith, f, s, e)

      first_room : (k : Two) → HasRoom asked.g k.0 one
      first_room k t h =
          let u = kid-stands asked.g v asked.graph k.1 rest k.4 in
          let f = fits t u.0 (two_at k t u.0 h u.1) in
          let s = one_steps in
          let e = one_most in
          omega (arith, f, s, e)

      -- the first kid is asked for
      pub asks-first : AsksSlot v best first_slot one
      asks-first = elim kinds [
        | inl k ↦ asks_kid k.0 first first_slot one k.2 first_node (only_room k)
        | inr k ↦ asks_kid k.0 first first_slot one k.3 first_node (first_room k)
      ]

      module _ (mid : RoomView) (wrote : WritesSlot v best first_slot one mid) where
        only_wrote : (k : One) → WritesAt asked.g k.0 asked.key.start one mid
        only_wrote k = wrote_kid k.0 first first_slot asked.key.start one mid k.2 first_node (only_room k) (first_at _ asked.key k.0 [] k.1) wrote

        first_wrote : (k : Two) → WritesAt asked.g k.0 asked.key.start one mid
        first_wrote k = wrote_kid k.0 first first_slot asked.key.start one mid k.3 first_node (first_room k) (first_at _ asked.key k.0 (k.1 ∷ []) k.2) wrote

        rest_room : (k : Two) → HasRoom asked.g k.1 mid
        rest_room k u h =
            let t = first_wrote k in
            let f = fits t.0 u (two_at k t.0 u t.1 h) in
            let s = one_steps in
            let e = one_most in
            let n : length mid.steps ≡ length one.steps + use_count t.0 = ap (λ (q : RoomView). length q.steps) t.2 ∙ length-append one.steps (steps asked.key.start t.0) ∙ ap (λ (q : ℕ). length one.steps + q) (length-steps t.0 asked.key.start) in
            let e2 : mid.most ≡ one.most = ap (λ (q : RoomView). q.most) t.2 in
            omega (arith, f, s, e, n, e2)

        nothing_slot : (k : One) → length best ≤ rest_slot
        nothing_slot k =
            let e : rest_slot ≡ length v.nodes = subst (λ (q : Kid). IsNodeOf (length v.nodes) q rest_slot) k.3 rest_node in
            let count = best_count in
            omega (arith, e, count)

        -- so is the other
        pub asks-rest : AsksSlot v best rest_slot mid
        asks-rest = elim kinds [
          | inl k ↦ λ lt. absurd (let e = nothing_slot k in omega (arith, e, lt))
          | inr k ↦ asks_kid k.1 rest rest_slot mid k.4 rest_node (rest_room k)
        ]

        module _ (new : RoomView) (last : WritesSlot v best rest_slot mid new) where
          -- all steps together
          all_steps : (t u : Parts) (i j : ℕ) → mid ≡ record one { steps = one.steps ++ steps i t } → new ≡ record mid { steps = mid.steps ++ steps j u }
              → new ≡ record room { steps = room.steps ++ (steps_of asked.key ++ (steps i t ++ steps j u)) }
          all_steps t u i j first rest =
              rest ∙ ap (λ (q : RoomView). record q { steps = q.steps ++ steps j u }) first
              ∙ ap (λ (q : RoomView). record q { steps = (q.steps ++ steps i t) ++ steps j u }) stepped
              ∙ ap (λ (q : List Step). record room { steps = q })
              (append_assoc (room.steps ++ steps_of asked.key) (steps i t) (steps j u) ∙ append_assoc room.steps (steps_of asked.key) (steps i t ++ steps j u))

          whole : (t u : Parts) → KidsAt asked.g no_prices (used asked.g asked.key) t u
              → mid ≡ record one { steps = one.steps ++ steps asked.key.start t } → new ≡ record mid { steps = mid.steps ++ steps (asked.key.start + asked.key.part) u }
              → WritesUnder asked.g asked.key room new
          whole t u at first rest =
              let b = built_of t u at in
              let all = all_steps t u asked.key.start (asked.key.start + asked.key.part) first rest in
              (b.whole, (b.on, b.top), all ∙ ap (λ (q : List Step). record room { steps = room.steps ++ q }) (sym b.written))

          -- are those of what stands there with the arc at the top
          pub writes-under : WritesUnder asked.g asked.key room new
          writes-under = elim kinds [
            | inl k ↦ let t = only_wrote k in
                let none : new ≡ mid = last.other (nothing_slot k) in
                whole t.0 done (one_at k t.0 t.1) t.2 (none ∙ ap (λ (q : List Step). record mid { steps = q }) (sym (append-nil mid.steps)))
            | inr k ↦ let t = first_wrote k in
                let u = wrote_kid k.1 rest rest_slot (asked.key.start + asked.key.part) mid new k.4 rest_node (rest_room k) (second_at _ asked.key k.0 k.1 [] k.2) last in
                whole t.0 u.0 (two_at k t.0 u.0 t.1 u.1) t.2 u.2
          ]

    -- the best arc of a kid comes before this one
    kid_falls : (o : OrNode) (kid : Kid) (slot : ℕ) → In o (used asked.g asked.key) → IsKid v.nodes o kid → IsNodeOf (length v.nodes) kid slot → slot_left (slice_get best slot) < arc_left a
    kid_falls o kid slot below is at = by (slice_get best slot) refl
      where
        earlier : (b : ℕ) → slice_get v.nodes slot ≡ Some o → slice_get best slot ≡ Some b → b < a
        earlier b there has =
            let key = best-key asked.g v asked.graph best asked.are_best slot o there in
            let same : slice_index best slot ≡ b = get_or_from_slice_get best slot b 0 has in
            let up = asked.graph.arcs.upward a (slice_index best slot) asked.key key.0 asked.at key.1 (subst (λ (q : OrNode). In q (used asked.g asked.key)) (sym key.2) below) in
            omega (arith, up, same)

        placed : (o : OrNode) → IsKid v.nodes o kid → (b : ℕ) → slice_get best slot ≡ Some b → slice_get v.nodes slot ≡ Some o
        placed (leaf l) is b has = absurd (let e = no_node l.code l.period kid slot is at in let lt = slice_get_within best slot b has in omega (arith, e, lt))
        placed (name x i l) is b has = ap (λ (q : ℕ). slice_get v.nodes q) (subst (λ (q : Kid). IsNodeOf (length v.nodes) q slot) is.1 at) ∙ is.2
        placed (suffix r k i l) is b has = ap (λ (q : ℕ). slice_get v.nodes q) (subst (λ (q : Kid). IsNodeOf (length v.nodes) q slot) is.1 at) ∙ is.2

        by : (q : Option ℕ) → slice_get best slot ≡ q → slot_left q < arc_left a
        by None e = omega arith
        by (Some b) e = let lt = earlier b (placed o is b e) e in omega (arith, lt)

    pub falls-first : slot_left (slice_get best first_slot) < arc_left a
    falls-first = elim kinds [
      | inl k ↦ kid_falls k.0 first first_slot (subst (λ (os : List OrNode). In k.0 os) (sym k.1) (inl refl)) k.2 first_node
      | inr k ↦ kid_falls k.0 first first_slot (subst (λ (os : List OrNode). In k.0 os) (sym k.2) (inl refl)) k.3 first_node
    ]

    pub falls-rest : slot_left (slice_get best rest_slot) < arc_left a
    falls-rest = elim kinds [
      | inl k ↦ none k
      | inr k ↦ kid_falls k.1 rest rest_slot (subst (λ (os : List OrNode). In k.1 os) (sym k.2) (inr (inl refl))) k.4 rest_node
    ]
      where
        none : One → slot_left (slice_get best rest_slot) < arc_left a
        none k = by (slice_get best rest_slot) refl
          where
            by : (q : Option ℕ) → slice_get best rest_slot ≡ q → slot_left q < arc_left a
            by None e = omega arith
            by (Some b) e =
                let lt = slice_get_within best rest_slot b e in
                let s : rest_slot ≡ length v.nodes = subst (λ (q : Kid). IsNodeOf (length v.nodes) q rest_slot) k.3 rest_node in
                let c = best_count in
                absurd (omega (arith, lt, c, s))
