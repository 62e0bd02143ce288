-- What the nodes show is at most the cost of each list of trees that meets the cuts.
use Rattle.std.proofs.Common.{ℕ, arith, pos, ◌≤ℤ◌, ◌+◌, ◌≤◌, min, All, length, Option, None, Some, IfSome, List, [], ◌∷◌, ◌++◌, ◌⊎◌, inl, inr}
use Rattle.std.proofs.lemmas.List.Elements.{All-head, All-tail}
use Rattle.model_rosters.specs.declared.instance.Cut.{Cut}
use Rattle.model_rosters.specs.declared.instance.Instance.{Instance}
use Rattle.model_rosters.specs.declared.instance.Mult.{Mult}
use Rattle.model_rosters.specs.declared.instance.Prices.{Prices}
use Rattle.model_rosters.specs.Trees.{Parts}
use Rattle.model_rosters.specs.Cuts.{Meets}
use Rattle.model_rosters.specs.Folds.{Each}
use Rattle.model_rosters.specs.PriceLimits.{IsMult}
use Rattle.model_rosters.specs.SoundInstance.{IsSoundInstance}
use Rattle.model_rosters.proofs.EachLemmas.{Each-append, Each-left, Each-right}
use Rattle.law_bounds.specs.Infeasible.{IsPlainlyInfeasible}
use Rattle.law_bounds.specs.Laws.{AreNotNegative}
use Rattle.law_bounds.specs.Priced.{IsPricedValue}
use Rattle.law_bounds.specs.TreeRosters.{IsTreeRoster, trees_cost}
use Rattle.law_bounds.proofs.PricedBounds.{priced-le}
use Rattle.law_bounds.proofs.Pinned.{pinned-is}
use Rattle.check_certificates.specs.Nodes.{Proof, split, priced, pinned, bare, Visit, visits, low_cut, high_cut}
use Rattle.check_certificates.specs.Sound.{AreFit, IsSoundVisit}
use Rattle.check_certificates.specs.certificate_laws.Accepted.{IsTight}
use Rattle.check_certificates.specs.certificate_laws.Shown.{Shows, IsSplitValue}

-- prices that fit have no negative multiplier
not-negative : (i : Instance) (p : Prices) (cuts : List Cut) → AreFit i cuts p → AreNotNegative p
not-negative i p cuts fit = all_each p.mult fit.mults
  where
    all_each : (ms : List Mult) → All (IsMult (length cuts)) ms → Each (λ (m : Mult). pos 0 ≤ℤ m.value) ms
    all_each [] h = tt
    all_each (m ∷ ms) h = ((All-head (IsMult (length cuts)) m ms h).least, all_each ms (All-tail (IsMult (length cuts)) m ms h))

module _ (i : Instance) (sound : IsSoundInstance i) (ts : List Parts) (roster : IsTreeRoster i ts) (busy : IsPlainlyInfeasible i → ⊥) where
  prices-le : (p : Prices) (cuts : List Cut) (v : ℕ) → AreFit i cuts p → Each (Meets ts) cuts → IsPricedValue i p cuts v → v ≤ trees_cost i ts
  prices-le p cuts v fit meets h = priced-le i p cuts ts (not-negative i p cuts fit) busy roster meets v fit.positive h

  own-le : (own : Option Prices) (cuts : List Cut) (w v : ℕ) → IfSome own (AreFit i cuts) → Each (Meets ts) cuts → IsSplitValue i cuts own w v → w ≤ trees_cost i ts → v ≤ trees_cost i ts
  own-le None cuts w v fit m h k = omega (arith, h)
  own-le (Some p) cuts w v fit m h k = let q = prices-le p cuts h.0 fit m h.1 in let e = h.2 in omega arith

  -- the trees are in one of the halves
  lesser : (x y c b n : ℕ) → (n ≤ b → x ≤ c) → (b + 1 ≤ n → y ≤ c) → min x y ≤ c
  lesser x y c b n f g = pick (halves b n)
    where
      halves : (b n : ℕ) → (n ≤ b) ⊎ (b + 1 ≤ n)
      halves b n = grind arith

      pick : (n ≤ b) ⊎ (b + 1 ≤ n) → min x y ≤ c
      pick (inl h) = omega (arith, f h)
      pick (inr h) = omega (arith, g h)

  pub shows-le : (proof : Proof) (cuts : List Cut) (v : ℕ) → Each (IsSoundVisit i) (visits cuts proof) → Each (λ (n : Visit). IsTight i n.path n.node) (visits cuts proof)
      → Each (Meets ts) cuts → Shows i cuts proof v → v ≤ trees_cost i ts
  shows-le bare cuts v fit tight meets h = omega (arith, h)
  shows-le pinned cuts v fit tight meets h = omega (arith, pinned-is i sound.grammar ts roster cuts tight.0 meets v h)
  shows-le (priced p) cuts v fit tight meets h = prices-le p cuts v fit.0 meets h
  shows-le (split a b own low high) cuts v fit tight meets h =
      let seen = visits (cuts ++ low_cut a b ∷ []) low in
      own-le own cuts (min h.0 h.1) v fit.0.2 meets h.4 (lesser h.0 h.1 (trees_cost i ts) b _
      (λ m. shows-le low (cuts ++ low_cut a b ∷ []) h.0 (Each-left _ seen _ fit.1) (Each-left _ seen _ tight.1) (Each-append _ cuts _ meets (m, tt)) h.2)
      (λ m. shows-le high (cuts ++ high_cut a b ∷ []) h.1 (Each-right _ seen _ fit.1) (Each-right _ seen _ tight.1) (Each-append _ cuts _ meets (m, tt)) h.3))
