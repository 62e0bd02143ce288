-- At the end of a search each node of its tree is in its ranges, and so are the costs.
use Rattle.std.proofs.Common.{◌≡◌, ℕ, arith, ◌+◌, ◌*◌, ◌≤◌, ◌<◌, ◌⊎◌, inl, inr, max, Bool, Option, None, Some, IfSome, List, [], ◌∷◌, ◌++◌, All, length}
use Rattle.std.proofs.lemmas.Nat.{mul-le}
use Rattle.std.proofs.Math.Nat.{max-le}
use Rattle.std.proofs.lemmas.List.Elements.{All-head, All-tail}
use Rattle.model_rosters.specs.declared.grammar.ArcKey.{ArcKey}
use Rattle.model_rosters.specs.declared.instance.Cell.{Cell}
use Rattle.model_rosters.specs.declared.instance.Cut.{Cut}
use Rattle.model_rosters.specs.declared.instance.Group.{Group}
use Rattle.model_rosters.specs.declared.instance.Instance.{Instance}
use Rattle.model_rosters.specs.Arcs.{IsArc}
use Rattle.model_rosters.specs.Cuts.{base_cuts}
use Rattle.model_rosters.specs.Folds.{sum_n, Each}
use Rattle.model_rosters.specs.GreatestCost.{greatest_penalty, greatest_cost}
use Rattle.model_rosters.specs.Limits.{IsLimitedCell}
use Rattle.model_rosters.specs.SoundInstance.{IsSoundInstance, HasGroups}
use Rattle.model_rosters.proofs.CostBounds.{shifts-le, cells-le}
use Rattle.model_rosters.proofs.SoundCells.{cells_limited}
use Rattle.model_rosters.proofs.EachLemmas.{Each-append}
use Rattle.model_rosters.proofs.tree_laws.Rules.{rule_at-within, sound-rule}
use Rattle.check_certificates.specs.declared.cert.Node.{Node}
use Rattle.check_certificates.specs.declared.cert.Node.TheVariants.{Split}
use Rattle.check_certificates.specs.Nodes.{visits, preorder, low_cut, high_cut}
use Rattle.check_certificates.specs.Sound.{most_cost, most_rule, IsKey, AreFit, IsSoundNode, IsSoundVisit, ListNoZero, NoneIsZero}
use Rattle.tree_span_arcs.proofs.ShapesLemmas.{arc-shaped}
use Rattle.check_certificates.specs.growing_laws.Grown.{Grown, tip, fork, Leaf, fresh, valued, fixed, Own, OnTips, OnForks, prices_of, leaf_proof, proof_of, raised}
use Rattle.check_certificates.specs.growing_laws.States.{IsLeaf, IsOwn, IsSplit, IsTip, IsGrowing}
use Rattle.check_certificates.proofs.growing_laws.GrownLemmas.{tips-map, forks-map, grown-visits}
use Rattle.search_branch_price.proofs.NodeCuts.{hi-most}

-- what holds of each node of the certificate, whatever its path
nodes-in : (P : Node → Type 0) (above : ℕ) (cuts : List Cut) (t : Grown)
    → OnTips (λ up path k l. Each P (preorder (leaf_proof l))) above cuts t
    → OnForks (λ path a b own. P (Split a b (prices_of own))) cuts t → Each P (preorder (proof_of t))
nodes-in P above cuts (tip k l) h f = h
nodes-in P above cuts (fork k a b own low high) h f =
    (f.0, Each-append P (preorder (proof_of low)) (preorder (proof_of high)) (nodes-in P (raised above own) (cuts ++ low_cut a b ∷ []) low h.0 f.1) (nodes-in P (raised above own) (cuts ++ high_cut a b ∷ []) high h.1 f.2))

leaf_listed : (i : Instance) (limit : ℕ) (path : List Cut) (l : Leaf) → IsLeaf i limit path l → Each NoneIsZero (preorder (leaf_proof l))
leaf_listed i limit path fresh h = (tt, tt)
leaf_listed i limit path (valued o) h = (h.0.listed, tt)
leaf_listed i limit path (fixed v) h = (tt, tt)

own_listed : (i : Instance) (strict : Bool) (low : ℕ) (path : List Cut) (a : ArcKey) (b : ℕ) (own : Option Own) → IsOwn i strict low path a b own → IfSome (prices_of own) ListNoZero
own_listed i strict low path a b None h = tt
own_listed i strict low path a b (Some o) h = h.0.listed

leaf_sound : (i : Instance) (limit : ℕ) (path : List Cut) (l : Leaf) → IsLeaf i limit path l → Each (IsSoundVisit i) (visits path (leaf_proof l))
leaf_sound i limit path fresh h = (tt, tt)
leaf_sound i limit path (valued o) h = (h.0.fit, tt)
leaf_sound i limit path (fixed v) h = (tt, tt)

own_fit : (i : Instance) (strict : Bool) (low : ℕ) (path : List Cut) (a : ArcKey) (b : ℕ) (own : Option Own) → IsOwn i strict low path a b own → IfSome (prices_of own) (AreFit i path)
own_fit i strict low path a b None h = tt
own_fit i strict low path a b (Some o) h = h.0.fit

module _ (i : Instance) (sound : IsSoundInstance i) where
  last_rule : (gs : List Group) → HasGroups i gs → length i.grammar.rules ≤ most_rule gs
  last_rule [] h = h.few_rules
  last_rule (g ∷ gs) h = sound.grammar.few_rules

  -- the numbers of an arc are in their ranges
  arc-key : (a : ArcKey) → IsArc i.grammar a → IsKey i a
  arc-key a is =
      let s = arc-shaped i.grammar a is in
      let w = rule_at-within i.grammar a.rule s.rule s.at in
      let r = sound-rule i.grammar sound.grammar a.rule s.rule s.at in
      let day = sound.grammar.few_periods in
      record {
        first_rule = w.0;
        last_rule = omega (arith, w.1, last_rule i.groups sound.groups);
        suffix = small a.suffix (length s.rule.right) a.part a.len s.symbol r.eight s.last;
        first_start = s.day.begins;
        last_start = omega (arith, s.day.within, s.day.some, day);
        least_len = s.day.some;
        most_len = omega (arith, s.day.within, s.day.begins, day);
        least_part = s.some;
        most_part = omega (arith, s.inside, s.day.within, s.day.begins, day);
      }
    where
      small : (k n part len : ℕ) → k < n → n ≤ 8 → (k + 1 ≡ n → (k ≡ 0) × (part ≡ len)) → k ≤ 6
      small k n part len lt le last = by (order k n lt)
        where
          order : (k n : ℕ) → k < n → (k + 1 ≡ n) ⊎ (k + 2 ≤ n)
          order k n h = grind arith

          by : (k + 1 ≡ n) ⊎ (k + 2 ≤ n) → k ≤ 6
          by (inl e) = let z = (last e).0 in omega (arith, z)
          by (inr m) = omega (arith, m, le)

  each_limited : (cs : List Cell) → All IsLimitedCell cs → sum_n (greatest_penalty i.heads_max) cs ≤ 640000 * length cs
  each_limited [] h = omega arith
  each_limited (c ∷ cs) h =
      let one = All-head IsLimitedCell c cs h in
      let a = mul-le c.under c.need 10000 64 one.under one.need in
      let b = mul-le c.over i.heads_max 10000 64 one.over sound.few in
      let m : max (c.under * c.need) (c.over * i.heads_max) ≤ 640000 = max-le (omega arith) (omega arith) in
      omega (arith, m, each_limited cs (All-tail IsLimitedCell c cs h))

  -- the greatest cost of a day is a cost of a certificate
  pub greatest-cost-most : greatest_cost i ≤ most_cost
  greatest-cost-most =
      let p = each_limited i.cells (cells_limited i.grammar i.cells sound.cells) in
      omega (arith, shifts-le i sound, p, cells-le i sound)

  module _ (strict : Bool) (limit low n : ℕ) (t : Grown) (is : IsGrowing i strict limit low n t) where
    pub nodes-sound : Each (IsSoundVisit i) (visits (base_cuts i) (proof_of t))
    nodes-sound = grown-visits (IsSoundVisit i) 0 (base_cuts i) t
        (tips-map (IsTip i limit low n t) (λ up path k l. Each (IsSoundVisit i) (visits path (leaf_proof l))) (λ up path k l h. leaf_sound i limit path l h.leaf) 0 (base_cuts i) t is.tips)
        (forks-map (IsSplit i strict low) (λ path a b own. IsSoundNode i path (Split a b (prices_of own)))
        (λ path a b own h. let m = hi-most i.heads_max path a in (arc-key a h.0.arc, omega (arith, h.0.high, m, sound.few), own_fit i strict low path a b own h.1)) (base_cuts i) t is.forks)

    pub nodes-listed : Each NoneIsZero (preorder (proof_of t))
    nodes-listed = nodes-in NoneIsZero 0 (base_cuts i) t
        (tips-map (IsTip i limit low n t) (λ up path k l. Each NoneIsZero (preorder (leaf_proof l))) (λ up path k l h. leaf_listed i limit path l h.leaf) 0 (base_cuts i) t is.tips)
        (forks-map (IsSplit i strict low) (λ path a b own. NoneIsZero (Split a b (prices_of own))) (λ path a b own h. own_listed i strict low path a b own h.1) (base_cuts i) t is.forks)
