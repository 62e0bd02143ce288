-- The prices of two lists of shifts, one after the other.
use Rattle.std.proofs.Common.{◌≡◌, ℕ, List, [], ◌∷◌, ◌++◌, refl, ap}
use Rattle.model_rosters.specs.declared.instance.Instance.{Instance}
use Rattle.model_rosters.specs.Duties.{Duty}
use Rattle.model_rosters.specs.Rosters.{ArePrices}

pub join_prices : (i : Instance) (ds es : List Duty) (ps qs : List ℕ) → ArePrices i ds ps → ArePrices i es qs → ArePrices i (ds ++ es) (ps ++ qs)
join_prices i [] es [] qs h k = k
join_prices i [] es (p ∷ ps) qs h k = absurd h
join_prices i (d ∷ ds) es [] qs h k = absurd h
join_prices i (d ∷ ds) es (p ∷ ps) qs h k = (h.0, join_prices i ds es ps qs h.1 k)

-- the prices of both
pub record AreParted (i : Instance) (ds es : List Duty) (prices : List ℕ) : Type 0 where
  pub first : List ℕ
  pub second : List ℕ
  pub whole : prices ≡ first ++ second
  pub of_first : ArePrices i ds first
  pub of_second : ArePrices i es second

pub part_prices : (i : Instance) (ds es : List Duty) (prices : List ℕ) → ArePrices i (ds ++ es) prices → AreParted i ds es prices
part_prices i [] es prices h = record { first = []; second = prices; whole = refl; of_first = tt; of_second = h }
part_prices i (d ∷ ds) es [] h = absurd h
part_prices i (d ∷ ds) es (p ∷ prices) h =
    let more = part_prices i ds es prices h.1 in
    record {
      first = p ∷ more.first;
      second = more.second;
      whole = ap (λ (ps : List ℕ). p ∷ ps) more.whole;
      of_first = (h.0, more.of_first);
      of_second = more.of_second;
    }
