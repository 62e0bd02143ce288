-- Cheapest trees of teams.
use Rattle.std.proofs.Common.{◌≡◌, ◌≢◌, ℕ, ℤ, pos, ◌≤◌, ◌+◌, Option, None, Some, List, [], ◌∷◌, arith, refl, subst, sym, ap, ◌∙◌}
use Rattle.std.specs.Prelude.{IsSome, is_some, true, false, slice_get}
use Rattle.std.proofs.lemmas.Int.{ints}
use Rattle.std.proofs.lemmas.Option.{same_Some}
use Rattle.model_rosters.specs.declared.grammar.ArcKey.{ArcKey}
use Rattle.model_rosters.specs.declared.grammar.Rule.{Rule}
use Rattle.model_rosters.specs.declared.grammar.Sym.TheVariants.{Name}
use Rattle.model_rosters.specs.declared.instance.Group.{Group}
use Rattle.model_rosters.specs.declared.instance.Instance.{Instance}
use Rattle.model_rosters.specs.Grammar.{rule_at}
use Rattle.model_rosters.specs.Arcs.{IsArc, cost}
use Rattle.model_rosters.specs.Cuts.{group_arc}
use Rattle.model_rosters.specs.Folds.{In}
use Rattle.model_rosters.specs.Room.{RoomView, most_uses}
use Rattle.model_rosters.specs.SoundInstance.{IsSoundInstance, HasGroups}
use Rattle.model_rosters.specs.Sums.{PriceView, IsLeast, AtMost, tree_sum}
use Rattle.model_rosters.specs.Teams.{Team, teams, teams_of, teams_from}
use Rattle.model_rosters.specs.Trees.{Parts, done, letter, uses, On, Derive, IsDayTree}
use Rattle.model_rosters.proofs.EachLemmas.{get-in}
use Rattle.model_rosters.specs.tree_laws.LeastTrees.{HasDaySum, HoldsLeastTree}
use Rattle.model_rosters.specs.tree_laws.Laws.{arc_at}
use Rattle.model_rosters.specs.tree_laws.Parts.{first}
use Rattle.model_rosters.specs.arc_laws.OrNodes.{name, left_of, made, root_of}
use Rattle.model_rosters.proofs.arc_laws.BalanceLemmas.{left_of-is}
use Rattle.law_bounds.specs.DutyTrees.{own_rules}
use Rattle.law_bounds.proofs.Groups.{IsExtended, added_rule}
use Rattle.law_bounds.proofs.SoundGroups.{is-extended}
use Rattle.tree_graph.specs.Graphs.{GraphView, IsGraph, IsRoot}
use Rattle.tree_cheapest.specs.AtNodes.{top_arc}
use Rattle.tree_cheapest.specs.Pricers.{PricerView, IsFilled, AsksTree}
use Rattle.tree_cheapest.specs.Under.{IsTop, IsReady, IsDayTreeUnder, AsksTreeUnder, HoldsLeastUnder}
use Rattle.tree_cheapest.proofs.AtNodesLemmas.{whole-in}
use Rattle.tree_cheapest.proofs.TopArcLemmas.{only-first}
use Rattle.search_candidates.specs.Leaders.{AreCosts, IsTeamTree, HoldsLeader}

-- sums that are costs compare as those
cost_least : (v w : Option ℤ) (a b : ℕ) → v ≡ Some (pos a) → w ≡ Some (pos b) → AtMost v w → a ≤ b
cost_least v w a b e f h = numbers a b (subst (λ (q : Option ℤ). AtMost (Some (pos a)) q) f (subst (λ (q : Option ℤ). AtMost q w) e h))
  where
    numbers : (a b : ℕ) → AtMost (Some (pos a)) (Some (pos b)) → a ≤ b
    numbers a b h = omega (arith, ints, h)

pub none-of : (o : Option ℤ) → is_some o ≡ false → o ≡ None
none-of None e = refl
none-of (Some z) e = cc

pub there-of : (o : Option ℤ) → is_some o ≡ true → o ≡ None → ⊥
there-of None e f = cc
there-of (Some z) e f = cc

extended_by : (i : Instance) (gs : List Group) → gs ≢ [] → HasGroups i gs → IsExtended i
extended_by i [] some h = absurd (some refl)
extended_by i (g ∷ gs) some h = is-extended i h.0 h.1

among : (i : Instance) (gs : List Group) (o : Team) → gs ≢ [] → In o (teams_of i gs) → In o (teams_from 1 gs)
among i [] o some h = absurd (some refl)
among i (g ∷ gs) o some h = h

-- without groups
module _ (i : Instance) (none : i.groups ≡ []) (o : Team) (p : PriceView) (costs : AreCosts i.grammar p) where
  pub asks-plain : IsSoundInstance i → (v : GraphView) (w : PricerView) → IsGraph i.grammar v → IsFilled i.grammar p v w → (root : Option ℕ) → root ≡ v.root → is_some root ≡ true → (room : RoomView) → room.most ≡ most_uses i.grammar
      → AsksTree i.grammar p v w room
  asks-plain sound v w graph filled None e some room space = cc
  asks-plain sound v w graph filled (Some n) e some room space = record { sound = sound.grammar; graph = graph; filled = filled; sum = sum; space = space }
    where
      sum : HasDaySum i.grammar p
      sum =
          let m = graph.nodes.made n (root_of i.grammar) (subst (λ (q : Option ℕ). IsRoot i.grammar v.nodes q) (sym e) graph.root) in
          let t = graph.arcs.sound m.0 m.1 m.2 in
          (t.0, t.1, subst IsSome (sym (costs t.0 t.1)) refl)

  pub plain-leader : (room : RoomView) → HoldsLeastTree i.grammar p room → HoldsLeader i o room
  plain-leader room h = record {
    tree = h.tree;
    leads = record {
      of = record { day = h.of_day; led = λ some. absurd (some none) };
      least = λ u k. cost_least (tree_sum p 1 h.tree) (tree_sum p 1 u) (cost i.grammar h.tree) (cost i.grammar u) (costs h.tree h.of_day) (costs u k.day) (h.least.least u k.day);
    };
    held = h.held;
  }

module _ (i : Instance) (sound : IsSoundInstance i) (some : i.groups ≢ []) (o : Team) (listed : In o (teams i)) where
  abbrev pub key_of : ArcKey
  key_of = group_arc i.grammar.periods (own_rules i + o.number)

  ext : IsExtended i
  ext = extended_by i i.groups some sound.groups

  pub added : rule_at i.grammar (own_rules i + o.number) ≡ Some (added_rule i.grammar o.name)
  added = ext.added o (among i i.groups o some listed)

  pub makes-root : made i.grammar key_of ≡ root_of i.grammar
  makes-root = made_whole (own_rules i + o.number) (left_of-is i.grammar (own_rules i + o.number) (added_rule i.grammar o.name) added)
    where
      made_whole : (r : ℕ) → left_of i.grammar r ≡ i.grammar.start → made i.grammar (group_arc i.grammar.periods r) ≡ root_of i.grammar
      made_whole r e = ap (λ (x : ℕ). name x 1 i.grammar.periods) e

  -- trees of the team are those with its arc at the top
  pub top-of : (u : Parts) → IsTeamTree i o u → top_arc (root_of i.grammar) u ≡ key_of
  top-of done h = absurd h.day.0
  top-of (letter c rest) h = absurd h.day.0
  top-of (uses q n inner (letter c rest)) h = absurd h.day.0.7
  top-of (uses q n inner (uses q' n' inner' rest)) h = absurd h.day.0.7
  top-of (uses q n inner done) h =
      let d = h.day.0 in
      let led : q ≡ own_rules i + o.number = h.led some in
      let rule : d.0 ≡ added_rule i.grammar o.name = same_Some d.0 (added_rule i.grammar o.name) (sym (subst (λ (k : ℕ). rule_at i.grammar k ≡ Some d.0) led d.1) ∙ added) in
      let long : n ≡ i.grammar.periods = omega (arith, h.day.1) in
      let on : On i.grammar (Name o.name ∷ []) 1 i.grammar.periods inner = (subst (λ (r : Rule). Derive i.grammar r.right 1 inner) rule d.6, d.5 ∙ long) in
      let part : first inner ≡ i.grammar.periods = only-first i.grammar no_prices (Name o.name) 1 i.grammar.periods inner on in
      ap (λ (k : ℕ). arc_at k 0 1 i.grammar.periods (first inner)) led ∙ ap (λ (m : ℕ). arc_at (own_rules i + o.number) 0 1 i.grammar.periods m) part
    where
      no_prices : PriceView
      no_prices = record { letter_at = λ c k. None; arc_of = λ a. pos 0; rule_of = λ r. pos 0 }

  of_top : (u : Parts) → IsDayTree i.grammar u → top_arc (root_of i.grammar) u ≡ key_of → IsTeamTree i o u
  of_top u day e = record { day = day; led = λ k. ap (λ (a : ArcKey). a.rule) e }

  module _ (p : PriceView) (costs : AreCosts i.grammar p) where
    pub group-leader : (room : RoomView) → HoldsLeastUnder i.grammar p key_of room → HoldsLeader i o room
    group-leader room h = record {
      tree = h.tree;
      leads = record {
        of = of_top h.tree h.of_day.0 h.of_day.1;
        least = λ u k. cost_least (tree_sum p 1 h.tree) (tree_sum p 1 u) (cost i.grammar h.tree) (cost i.grammar u) (costs h.tree h.of_day.0) (costs u k.day) (h.least.least u (k.day, top-of u k));
      };
      held = h.held;
    }

    pub none-under : (z : Option ℤ) → z ≡ None → IsLeast (IsDayTreeUnder i.grammar key_of) (tree_sum p 1) z → (u : Parts) → IsTeamTree i o u → ⊥
    none-under (Some z) e least u k = cc
    none-under None e least u k = never (tree_sum p 1 u) (cost i.grammar u) (costs u k.day) (least.least u (k.day, top-of u k))
      where
        never : (v : Option ℤ) (c : ℕ) → v ≡ Some (pos c) → AtMost None v → ⊥
        never None c e h = cc
        never (Some y) c e h = h

    module _ (v : GraphView) (w : PricerView) (graph : IsGraph i.grammar v) (filled : IsFilled i.grammar p v w) (arc : ℕ) (at : slice_get v.arcs arc ≡ Some key_of) where
      pub is-ready : IsReady i.grammar p v w
      is-ready = record { sound = sound.grammar; graph = graph; filled = filled }

      pub is-top : IsTop i.grammar v arc key_of
      is-top = record { at = at; makes = makes-root }

      pub asks-group : (z : Option ℤ) → (z ≡ None → ⊥) → IsLeast (IsDayTreeUnder i.grammar key_of) (tree_sum p 1) z → (room : RoomView) → room.most ≡ most_uses i.grammar
          → AsksTreeUnder i.grammar p v w arc key_of room
      asks-group None there least room space = absurd (there refl)
      asks-group (Some z) there least room space = record {
        ready = is-ready;
        top = is-top;
        sum = (least.attained.0, least.attained.1, subst IsSome (sym least.attained.2) refl);
        space = space;
      }

  -- an arc that is none of the graph is that of no tree
  pub none-found : (v : GraphView) → IsGraph i.grammar v → (In key_of v.arcs → ⊥) → (u : Parts) → IsTeamTree i o u → ⊥
  none-found v graph missing u h = missing (listed_arc key_of (top_in u h))
    where
      listed_arc : (a : ArcKey) → IsArc i.grammar a → In a v.arcs
      listed_arc a is = let q = graph.arcs.whole a is in get-in v.arcs q.0 a q.1

      top_in : (u : Parts) → IsTeamTree i o u → IsArc i.grammar key_of
      top_in done h = absurd h.day.0
      top_in (letter c rest) h = absurd h.day.0
      top_in (uses q n inner (letter c rest)) h = absurd h.day.0.7
      top_in (uses q n inner (uses q' n' inner' rest)) h = absurd h.day.0.7
      top_in (uses q n inner done) h =
          let d = h.day.0 in
          let long : n ≡ i.grammar.periods = omega (arith, h.day.1) in
          subst (IsArc i.grammar) (top-of (uses q n inner done) h)
          (uses q n inner done, h.day, whole-in i.grammar q 1 i.grammar.periods d.0.right inner (d.6, d.5 ∙ long) sound.grammar.some_period)
