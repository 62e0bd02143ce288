-- One pass over the arcs: the value of each node is least over the arcs that have been passed.
use Rattle.std.proofs.Common.{◌≡◌, ℕ, zero, suc, ℤ, pos, ◌<◌, ◌≤◌, ◌+◌, ◌^◌, List, [], ◌∷◌, Option, None, Some, IfSome, arith, refl, subst, sym, ap, ◌∙◌, inl, inr, length}
use Rattle.std.specs.Prelude.{slice_get}
use Rattle.std.proofs.lemmas.Int.{ints}
use Rattle.std.proofs.lemmas.Option.{slice_get_within}
use Rattle.model_rosters.specs.declared.grammar.ArcKey.{ArcKey}
use Rattle.model_rosters.specs.declared.grammar.Grammar.{Grammar}
use Rattle.model_rosters.specs.declared.grammar.Sym.TheVariants.{Name}
use Rattle.model_rosters.specs.Grammar.{InDay}
use Rattle.model_rosters.specs.Trees.{Parts, IsDayTree}
use Rattle.model_rosters.specs.Folds.{In}
use Rattle.model_rosters.specs.Sound.{IsSound}
use Rattle.model_rosters.specs.Sums.{PriceView, Within, AllWithin, IsLeast, tree_sum}
use Rattle.model_rosters.proofs.tree_laws.LeastValues.{IsLeast-empty}
use Rattle.model_rosters.proofs.tree_laws.Ends.{code-least, last_sum}
use Rattle.model_rosters.proofs.tree_laws.Bounds.{sum-small}
use Rattle.model_rosters.specs.arc_laws.OrNodes.{OrNode, name, suffix, leaf, used, root_of}
use Rattle.model_rosters.specs.arc_laws.AtNodes.{IsAt}
use Rattle.tree_graph.specs.Graphs.{GraphView, IsGraph, IsKid, AreKids, IsRoot}
use Rattle.tree_graph.specs.declared.kid.Kid.{Kid}
use Rattle.tree_cheapest.specs.declared.slots.Spot.{Spot}
use Rattle.tree_cheapest.specs.AtNodes.{sum_at, NodeLeast}
use Rattle.tree_cheapest.specs.Links.{IsSlot}
use Rattle.tree_cheapest.specs.Pricers.{value_at, ArePriced}
use Rattle.tree_cheapest.proofs.AtNodesLemmas.{IsOfInstance, node-of}
use Rattle.tree_cheapest.proofs.TopArcLemmas.{KidsLeast}

module _ (g : Grammar) (p : PriceView) (v : GraphView) (graph : IsGraph g v) where
  module _ (letters : List Spot) (values : List (Option ℤ)) (priced : ArePriced p letters (length v.nodes) values) (a : ArcKey)
      (found : (m : ℕ) (o : OrNode) → slice_get v.nodes m ≡ Some o → In o (used g a) → NodeLeast g p o (value_at values m)) where
    -- the slot of what is below the arc has its least sum
    kid_least : (o : OrNode) → In o (used g a) → (kid : Kid) (slot : ℕ) → IsKid v.nodes o kid → IsSlot (length v.nodes) letters kid slot → NodeLeast g p o (value_at values slot)
    kid_least (leaf l) uses kid slot is h =
        let k = subst (λ (q : Kid). IsSlot (length v.nodes) letters q slot) is h in
        let price : value_at values slot ≡ p.letter_at l.code l.period = ap (λ (s : ℕ). value_at values s) k.1 ∙ priced.spots k.0 _ k.2 in
        subst (λ (w : Option ℤ). NodeLeast g p (leaf l) w) (sym price) (code-least g p l.period 1 l.code refl)
    kid_least (name x i l) uses kid slot is h =
        let k = subst (λ (q : Kid). IsSlot (length v.nodes) letters q slot) is.1 h in
        subst (λ (s : ℕ). NodeLeast g p (name x i l) (value_at values s)) (sym k) (found is.0 (name x i l) is.2 uses)
    kid_least (suffix r k i l) uses kid slot is h =
        let e = subst (λ (q : Kid). IsSlot (length v.nodes) letters q slot) is.1 h in
        subst (λ (s : ℕ). NodeLeast g p (suffix r k i l) (value_at values s)) (sym e) (found is.0 (suffix r k i l) is.2 uses)

    module _ (kids : Kid × Kid) (first rest : ℕ) (one : IsSlot (length v.nodes) letters kids.0 first) (two : IsSlot (length v.nodes) letters kids.1 rest) where
      both : (os : List OrNode) → ((o : OrNode) → In o os → In o (used g a)) → AreKids v.nodes os kids → KidsLeast g p os (value_at values first) (value_at values rest)
      both [] inside h = absurd h
      both (o ∷ []) inside h =
          let e : rest ≡ length v.nodes = subst (λ (q : Kid). IsSlot (length v.nodes) letters q rest) h.1 two in
          (kid_least o (inside o (inl refl)) kids.0 first h.0 one, ap (λ (s : ℕ). value_at values s) e ∙ priced.nothing)
      both (o ∷ q ∷ []) inside h = (kid_least o (inside o (inl refl)) kids.0 first h.0 one, kid_least q (inside q (inr (inl refl))) kids.1 rest h.1 two)
      both (o ∷ q ∷ s ∷ os) inside h = absurd h

      -- what is below the arc has its least sums
      pub kids-least : AreKids v.nodes (used g a) kids → KidsLeast g p (used g a) (value_at values first) (value_at values rest)
      kids-least h = both (used g a) (λ o i. i) h

  -- the root's value is the least sum of the day
  pub day-least : (values : List (Option ℤ)) → ((m : ℕ) (o : OrNode) → slice_get v.nodes m ≡ Some o → NodeLeast g p o (value_at values m))
      → (m : ℕ) → v.root ≡ Some m → IsLeast (IsDayTree g) (tree_sum p 1) (value_at values m)
  day-least values filled m e = filled m (root_of g) (subst (λ (q : Option ℕ). IsRoot g v.nodes q) e graph.root)

  -- where there is no root, the day has no tree
  pub day-none : v.root ≡ None → IsLeast (IsDayTree g) (tree_sum p 1) None
  day-none e = IsLeast-empty (IsDayTree g) (tree_sum p 1) (subst (λ (q : Option ℕ). IsRoot g v.nodes q) e graph.root)

  module _ (sound : IsSound g) (all : AllWithin (2 ^ 96) p) where
    short : (i l : ℕ) → InDay g.periods i l → l ≤ 96
    short i l day = omega (arith, day.begins, day.within, sound.few_periods)

    -- sums at nodes of the instance are small
    sum_small : (o : OrNode) (t : Parts) (z : ℤ) → IsOfInstance g o → IsAt g o t → sum_at p o t ≡ Some z → Within (2 ^ 110) z
    sum_small (leaf l) t z of h e = absurd of
    sum_small (suffix r zero i l) t z of h e = absurd of
    sum_small (suffix r (suc k) i l) t z of h e = sum-small g sound p all r (suc k) i l _ t z (short i l of.day) h e
    sum_small (name x i l) t z of h e = sum-small g sound p all 0 1 i l (Name x ∷ []) t z (short i l of.1) h (sym (last_sum g p i l 0 0 (Name x) t h) ∙ e)

    -- so are least ones
    least_small : (o : OrNode) (P : Parts → Type 0) (w : Option ℤ) → IsOfInstance g o → ((t : Parts) → P t → IsAt g o t) → IsLeast P (sum_at p o) w → IfSome w (Within (2 ^ 110))
    least_small o P None of is h = tt
    least_small o P (Some z) of is h = sum_small o h.attained.0 z of (is h.attained.0 h.attained.1) h.attained.2

    -- the least sum of what stands at a node
    pub node-small : (m : ℕ) (o : OrNode) → slice_get v.nodes m ≡ Some o → (w : Option ℤ) → NodeLeast g p o w → IfSome w (Within (2 ^ 110))
    node-small m o there w least = least_small o (IsAt g o) w (node-of g v graph m o there) (λ t h. h) least

    price_small : (w : Option ℤ) → IfSome w (Within (2 ^ 96)) → IfSome w (Within (2 ^ 110))
    price_small None h = tt
    price_small (Some z) h = record { low = omega (arith, ints, h.low); high = omega (arith, ints, h.high) }

    module _ (letters : List Spot) (values : List (Option ℤ)) (priced : ArePriced p letters (length v.nodes) values)
        (found : (m : ℕ) (o : OrNode) → slice_get v.nodes m ≡ Some o → NodeLeast g p o (value_at values m)) where
      -- the values of nodes are small
      pub value-small : (m : ℕ) (o : OrNode) → slice_get v.nodes m ≡ Some o → IfSome (value_at values m) (Within (2 ^ 110))
      value-small m o there = node-small m o there (value_at values m) (found m o there)

      kid_small : (o : OrNode) (kid : Kid) (slot : ℕ) → IsKid v.nodes o kid → IsSlot (length v.nodes) letters kid slot → IfSome (value_at values slot) (Within (2 ^ 110))
      kid_small (leaf l) kid slot is h =
          let k = subst (λ (q : Kid). IsSlot (length v.nodes) letters q slot) is h in
          let price : value_at values slot ≡ p.letter_at l.code l.period = ap (λ (s : ℕ). value_at values s) k.1 ∙ priced.spots k.0 _ k.2 in
          price_small (value_at values slot) (subst (λ (w : Option ℤ). IfSome w (Within (2 ^ 96))) (sym price) (all.letters l.code l.period))
      kid_small (name x i l) kid slot is h =
          let k = subst (λ (q : Kid). IsSlot (length v.nodes) letters q slot) is.1 h in
          subst (λ (s : ℕ). IfSome (value_at values s) (Within (2 ^ 110))) (sym k) (value-small is.0 (name x i l) is.2)
      kid_small (suffix r k i l) kid slot is h =
          let e = subst (λ (q : Kid). IsSlot (length v.nodes) letters q slot) is.1 h in
          subst (λ (s : ℕ). IfSome (value_at values s) (Within (2 ^ 110))) (sym e) (value-small is.0 (suffix r k i l) is.2)

      nothing_small : (slot : ℕ) → slot ≡ length v.nodes → IfSome (value_at values slot) (Within (2 ^ 110))
      nothing_small slot e =
          let zero_there : value_at values slot ≡ Some (pos 0) = ap (λ (s : ℕ). value_at values s) e ∙ priced.nothing in
          subst (λ (w : Option ℤ). IfSome w (Within (2 ^ 110))) (sym zero_there) (record { low = omega (arith, ints); high = omega (arith, ints) })

      -- and those of what is below an arc
      pub kids-small : (os : List OrNode) (kids : Kid × Kid) (first rest : ℕ) → AreKids v.nodes os kids → IsSlot (length v.nodes) letters kids.0 first → IsSlot (length v.nodes) letters kids.1 rest
          → IfSome (value_at values first) (Within (2 ^ 110)) × IfSome (value_at values rest) (Within (2 ^ 110))
      kids-small [] kids first rest h one two = absurd h
      kids-small (o ∷ []) kids first rest h one two =
          (kid_small o kids.0 first h.0 one, nothing_small rest (subst (λ (q : Kid). IsSlot (length v.nodes) letters q rest) h.1 two))
      kids-small (o ∷ q ∷ []) kids first rest h one two = (kid_small o kids.0 first h.0 one, kid_small q kids.1 rest h.1 two)
      kids-small (o ∷ q ∷ s ∷ os) kids first rest h one two = absurd h

      -- the slots of what is below an arc are there
      kid_inside : (size : ℕ) → size ≡ length v.nodes + 1 + length letters → (o : OrNode) (kid : Kid) (slot : ℕ) → IsKid v.nodes o kid → IsSlot (length v.nodes) letters kid slot → slot < size
      kid_inside size room (leaf l) kid slot is h =
          let k = subst (λ (q : Kid). IsSlot (length v.nodes) letters q slot) is h in
          let lt = slice_get_within letters k.0 _ k.2 in
          let e = k.1 in
          omega (arith, lt, e, room)
      kid_inside size room (name x i l) kid slot is h =
          let k = subst (λ (q : Kid). IsSlot (length v.nodes) letters q slot) is.1 h in
          let lt = slice_get_within v.nodes is.0 _ is.2 in
          omega (arith, lt, k, room)
      kid_inside size room (suffix r k i l) kid slot is h =
          let e = subst (λ (q : Kid). IsSlot (length v.nodes) letters q slot) is.1 h in
          let lt = slice_get_within v.nodes is.0 _ is.2 in
          omega (arith, lt, e, room)

      pub kids-inside : (size : ℕ) → size ≡ length v.nodes + 1 + length letters → (os : List OrNode) (kids : Kid × Kid) (first rest : ℕ) → AreKids v.nodes os kids
          → IsSlot (length v.nodes) letters kids.0 first → IsSlot (length v.nodes) letters kids.1 rest → (first < size) × (rest < size)
      kids-inside size room [] kids first rest h one two = absurd h
      kids-inside size room (o ∷ []) kids first rest h one two =
          let e : rest ≡ length v.nodes = subst (λ (q : Kid). IsSlot (length v.nodes) letters q rest) h.1 two in
          (kid_inside size room o kids.0 first h.0 one, omega (arith, e, room))
      kids-inside size room (o ∷ q ∷ []) kids first rest h one two = (kid_inside size room o kids.0 first h.0 one, kid_inside size room q kids.1 rest h.1 two)
      kids-inside size room (o ∷ q ∷ s ∷ os) kids first rest h one two = absurd h
