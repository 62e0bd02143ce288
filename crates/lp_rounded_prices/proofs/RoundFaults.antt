-- What a fault of one number tells of all.
use Rattle.std.proofs.Common.{ℕ, ℤ, zero, suc, arith, pos, neg_ℤ, ◌<◌, ◌^◌, ◌⊎◌, ◌≡◌, inl, inr, List, [], ◌∷◌, ◌++◌, length, get_or, refl, unsigned_abs}
use Rattle.std.proofs.lemmas.Int.{ints}
use Rattle.lp_fractions.specs.Range.{Counts}
use Rattle.lp_fractions.specs.declared.wide.TooWide.{TooWide}
use Rattle.model_rosters.specs.declared.instance.Cut.{Cut}
use Rattle.model_rosters.specs.declared.instance.Side.{Side}
use Rattle.model_rosters.specs.declared.instance.Side.TheVariants.{Low, High}
use Rattle.model_rosters.specs.Folds.{In}
use Rattle.model_rosters.specs.Reduced.{signed}
use Rattle.law_bounds.specs.master_laws.Rounding.{IsDenominator, IsFloor}
use Rattle.lp_rounded_prices.specs.declared.round.RoundFault.{RoundFault}
use Rattle.lp_rounded_prices.specs.declared.round.RoundFault.TheVariants.{Wide, Memory}
use Rattle.lp_rounded_prices.specs.Faults.{IsRoundFault, HasWideNumber}
use Rattle.lp_rounded_prices.specs.Floors.{IsWide, HasWideCell, HasWideMult, IsNumberFault, IsCellFault, IsMultFault}

module _ (kappa : ℤ) (d : ℕ) where
  wide_cell : (f : TooWide) (xs : List ℤ) (k : ℕ) → k < length xs → IsWide kappa d (get_or xs k (pos 0)) (get_or xs k (pos 0)) f → HasWideCell kappa d f xs
  wide_cell f [] k l h = absurd (omega arith)
  wide_cell f (x ∷ xs) zero l h = inl h
  wide_cell f (x ∷ xs) (suc k) l h = inr (wide_cell f xs k (omega arith) h)

  wide_mult : (f : TooWide) (cs : List Cut) (xs : List ℤ) (k : ℕ) (c : Cut) → k < length cs → k < length xs
      → IsWide kappa d (get_or xs k (pos 0)) (neg_ℤ (signed (get_or cs k c).side (get_or xs k (pos 0)))) f → HasWideMult kappa d f cs xs
  wide_mult f [] xs k c l m h = absurd (omega arith)
  wide_mult f (b ∷ cs) [] k c l m h = absurd (omega arith)
  wide_mult f (b ∷ cs) (x ∷ xs) zero c l m h = inl h
  wide_mult f (b ∷ cs) (x ∷ xs) (suc k) c l m h = inr (wide_mult f cs xs k c (omega arith) (omega arith) h)

  module _ (old new : Counts) where
    -- a fault of cell number k, and of cut number k
    pub cell_at : (xs : List ℤ) (k : ℕ) → k < length xs → (fault : RoundFault)
        → IsNumberFault kappa d (get_or xs k (pos 0)) (get_or xs k (pos 0)) old new fault → IsCellFault kappa d xs old new fault
    cell_at xs k l (Wide f) h = (h.0, wide_cell f xs k l h.1)
    cell_at xs k l Memory h = h

    pub mult_at : (cs : List Cut) (xs : List ℤ) (k : ℕ) (c : Cut) → k < length cs → k < length xs → (fault : RoundFault)
        → IsNumberFault kappa d (get_or xs k (pos 0)) (neg_ℤ (signed (get_or cs k c).side (get_or xs k (pos 0)))) old new fault → IsMultFault kappa d cs xs old new fault
    mult_at cs xs k c l m (Wide f) h = (h.0, wide_mult f cs xs k c l m h.1)
    mult_at cs xs k c l m Memory h = h

    -- a fault of a cell, and of a cut
    pub cell_fault : (cells : List ℤ) (cuts : List Cut) (numbers : List ℤ) → IsDenominator kappa (cells ++ numbers) d
        → (fault : RoundFault) → IsCellFault kappa d cells old new fault → IsRoundFault kappa cells cuts numbers old new fault
    cell_fault cells cuts numbers is (Wide f) h = (h.0, record { d = d; denominator = is; wide = inl h.1 })
    cell_fault cells cuts numbers is Memory h = h

    pub cut_fault : (cells : List ℤ) (cuts : List Cut) (numbers : List ℤ) → IsDenominator kappa (cells ++ numbers) d
        → (fault : RoundFault) → IsMultFault kappa d cuts numbers old new fault → IsRoundFault kappa cells cuts numbers old new fault
    cut_fault cells cuts numbers is (Wide f) h = (h.0, record { d = d; denominator = is; wide = inr h.1 })
    cut_fault cells cuts numbers is Memory h = h

-- a number of a list, of which the floor of either sign is above 2^80 in size
pub record HasWideFloor (kappa : ℤ) (d : ℕ) (xs : List ℤ) : Type 0 where
  pub number : ℤ
  pub listed : In number xs
  pub rounded : ℤ
  pub floor : IsFloor kappa d number rounded ⊎ IsFloor kappa d (neg_ℤ number) rounded
  pub wide : 2 ^ 80 < unsigned_abs rounded

module _ (kappa : ℤ) (d : ℕ) where
  front : (xs ys : List ℤ) → HasWideFloor kappa d xs → HasWideFloor kappa d (xs ++ ys)
  front xs ys h = record { number = h.number; listed = in_front xs h.listed; rounded = h.rounded; floor = h.floor; wide = h.wide }
    where
      in_front : (xs : List ℤ) → In h.number xs → In h.number (xs ++ ys)
      in_front [] l = absurd l
      in_front (y ∷ xs) (inl e) = inl e
      in_front (y ∷ xs) (inr l) = inr (in_front xs l)

  back : (xs ys : List ℤ) → HasWideFloor kappa d ys → HasWideFloor kappa d (xs ++ ys)
  back [] ys h = h
  back (x ∷ xs) ys h =
      let more = back xs ys h in
      record { number = more.number; listed = inr more.listed; rounded = more.rounded; floor = more.floor; wide = more.wide }

  of_cell : (f : TooWide) (xs : List ℤ) → HasWideCell kappa d f xs → HasWideFloor kappa d xs
  of_cell f [] h = absurd h
  of_cell f (x ∷ xs) (inl w) = record { number = x; listed = inl refl; rounded = w.rounded; floor = inl w.floor; wide = w.wide }
  of_cell f (x ∷ xs) (inr h) = back (x ∷ []) xs (of_cell f xs h)

  either : (s : Side) (x p : ℤ) → IsFloor kappa d (neg_ℤ (signed s x)) p → IsFloor kappa d x p ⊎ IsFloor kappa d (neg_ℤ x) p
  either Low x p f = inr f
  either High x p f = inl (rw (twice x) at f)
    where
      twice : (z : ℤ) → neg_ℤ (neg_ℤ z) ≡ z
      twice z = omega (arith, ints)

  of_mult : (f : TooWide) (cs : List Cut) (xs : List ℤ) → HasWideMult kappa d f cs xs → HasWideFloor kappa d xs
  of_mult f [] xs h = absurd h
  of_mult f (c ∷ cs) [] h = absurd h
  of_mult f (c ∷ cs) (x ∷ xs) (inl w) = record { number = x; listed = inl refl; rounded = w.rounded; floor = either c.side x w.rounded w.floor; wide = w.wide }
  of_mult f (c ∷ cs) (x ∷ xs) (inr h) = back (x ∷ []) xs (of_mult f cs xs h)

  of_either : (cells : List ℤ) (cuts : List Cut) (numbers : List ℤ) (f : TooWide) → HasWideCell kappa d f cells ⊎ HasWideMult kappa d f cuts numbers
      → HasWideFloor kappa d (cells ++ numbers)
  of_either cells cuts numbers f (inl h) = front cells numbers (of_cell f cells h)
  of_either cells cuts numbers f (inr h) = back cells numbers (of_mult f cuts numbers h)

-- which number a fault names
pub wide_floor : (kappa : ℤ) (cells : List ℤ) (cuts : List Cut) (numbers : List ℤ) (f : TooWide) (h : HasWideNumber kappa cells cuts numbers f)
    → HasWideFloor kappa h.d (cells ++ numbers)
wide_floor kappa cells cuts numbers f h = of_either kappa h.d cells cuts numbers f h.wide
