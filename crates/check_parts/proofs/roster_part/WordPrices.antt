-- Words and their prices in their teams.
use Rattle.std.proofs.Common.{◌≡◌, ℕ, ◌+◌, ◌≤◌, arith, Option, None, Some, MatchOption, List, [], ◌∷◌, length, map, refl, sym, subst, ◌∙◌}
use Rattle.std.specs.Prelude.{◌≢◌, slice_get}
use Rattle.std.proofs.lemmas.Option.{same_Some}
use Rattle.std.specs.Option.{option_or}
use Rattle.model_rosters.specs.declared.instance.Instance.{Instance}
use Rattle.model_rosters.specs.declared.instance.Shift.{Shift}
use Rattle.model_rosters.specs.Duties.{duty}
use Rattle.model_rosters.specs.Folds.{Each}
use Rattle.model_rosters.specs.Rosters.{ArePrices, IsTeamPrice}
use Rattle.model_rosters.specs.Shifts.{IsShift, IsPrice}
use Rattle.model_rosters.specs.Teams.{Team}
use Rattle.model_rosters.specs.word_prices.Prices.{IsPriceOrNone}
use Rattle.check_certificates.specs.declared.why.Why.{Why}
use Rattle.check_certificates.specs.declared.why.Why.TheVariants.{NotAShift, ShiftCost, WrongHeads, WrongCost, NotAnArc, EmptyHalf, NotPinned, BoundTooHigh, Outside}
use Rattle.check_certificates.specs.RosterCauses.{duties, IsNoShift, IsMispriced, IsFirstNoShift, IsFirstMispriced}
use Rattle.check_certificates.specs.RosterCauses.{stated_prices}
use Rattle.check_parts.specs.roster_part.Faults.{IsPriceBefore, IsPriceCause, HasNoOtherWord, HasNoOtherPrice}
use Rattle.check_parts.specs.roster_part.TeamViews.{IsTeamName}
use Rattle.check_parts.proofs.roster_part.Items.{Before, before-next, before-all, first-here, no-first}
use Rattle.model_rosters.proofs.TeamNumbers.{team_apart}

module _ (i : Instance) where
  -- the word is a shift of its team
  abbrev pub HasPrice : Shift → Type 0
  HasPrice s = (p : ℕ) × IsTeamPrice i (duty s) p

  -- at its stated price
  abbrev pub IsAtPrice : Shift → Type 0
  IsAtPrice s = IsTeamPrice i (duty s) s.price

  pub never_both : (s : Shift) → HasPrice s → IsNoShift i s → ⊥
  never_both s h none = let p = h.1 in let t = p.priced.attained in none p.team p.listed p.numbered (t.0, t.1)

  one_price : (s : Shift) (p q : ℕ) → IsTeamPrice i (duty s) p → IsTeamPrice i (duty s) q → p ≡ q
  one_price s p q h k =
      let same = team_apart i i.groups h.team k.team h.listed k.listed (h.numbered ∙ sym k.numbered) in
      let other : IsPrice i.grammar h.team.name s.word q = subst (λ (t : Team). IsPrice i.grammar t.name s.word q) (sym same) k.priced in
      let a = h.priced.least other.attained.0 other.attained.1 in
      let b = other.least h.priced.attained.0 h.priced.attained.1 in
      omega (arith, a, b, other.attained.2, h.priced.attained.2)

  pub never_other : (s : Shift) → IsAtPrice s → IsMispriced i s → ⊥
  never_other s h m = m.2 (one_price s s.price m.0 h m.1)

  pub told : (s : Shift) (name : ℕ) (r : Option ℕ) → IsTeamName i s.group name → IsPriceOrNone i.grammar name s.word r → MatchOption r (IsNoShift i s) (λ price. IsTeamPrice i (duty s) price)
  told s name None t none = λ u there e shift. none (subst (λ (x : ℕ). IsShift i.grammar x s.word) (t.only u there e) shift)
  told s name (Some p) t priced = record {
    team = t.team;
    listed = t.listed;
    numbered = t.numbered;
    priced = subst (λ (x : ℕ). IsPrice i.grammar x s.word p) (sym t.named) priced;
  }

  module _ (shifts : List Shift) where
    -- this is the first of all shifts with another price
    abbrev pub IsFirstOther : Why → Type 0
    IsFirstOther (NotAShift k) = ⊥
    IsFirstOther (ShiftCost k said least) = IsFirstMispriced i shifts k said least
    IsFirstOther (WrongHeads g n) = ⊥
    IsFirstOther (WrongCost said found) = ⊥
    IsFirstOther (NotAnArc n) = ⊥
    IsFirstOther (EmptyHalf n) = ⊥
    IsFirstOther (NotPinned n a) = ⊥
    IsFirstOther (BoundTooHigh said shown) = ⊥
    IsFirstOther (Outside byte period n) = ⊥

    -- the first shift with another price among the first k, or none where there is none
    abbrev pub IsFirstSoFar : ℕ → Option Why → Type 0
    IsFirstSoFar k None = Before IsAtPrice shifts k
    IsFirstSoFar k (Some why) = IsFirstOther why

    -- what is said of a shift at this least price
    abbrev IsOther : ℕ → Shift → ℕ → Option Why → Type 0
    IsOther number s least o = MatchOption o (s.price ≡ least) (λ why. (s.price ≢ least) × (why ≡ ShiftCost number s.price least))

    pub so_far : (k : ℕ) (s : Shift) (least : ℕ) (m o : Option Why) → slice_get shifts k ≡ Some s → IsTeamPrice i (duty s) least → IsFirstSoFar k m → IsOther (k + 1) s least o → IsFirstSoFar (k + 1) (option_or m o)
    so_far k s least (Some w) o at p h q = h
    so_far k s least None None at p h q = before-next IsAtPrice shifts k s at (subst (λ (n : ℕ). IsTeamPrice i (duty s) n) (sym q) p) h
    so_far k s least None (Some w) at p h q =
        subst IsFirstOther (sym q.1)
        (record { shift = s; first = first-here (IsMispriced i) IsAtPrice shifts k s at (least, p, q.0) never_other h; stated = refl; price = p })

    -- the price of a shift stands before the next
    pub price_next : (k : ℕ) (s : Shift) (price : ℕ) → slice_get shifts k ≡ Some s → IsTeamPrice i (duty s) price → IsPriceBefore i shifts (k + 1) price
    price_next k s price here p j t e at =
        let same : j ≡ k = omega (arith, e) in
        subst (λ (q : Shift). IsTeamPrice i (duty q) price) (same_Some s t (sym here ∙ subst (λ (n : ℕ). slice_get shifts n ≡ Some t) same at)) p

    pub no_shift-first : (k : ℕ) (s : Shift) → slice_get shifts k ≡ Some s → IsNoShift i s → Before HasPrice shifts k → IsFirstNoShift i shifts (k + 1)
    no_shift-first k s at none h = (s, first-here (IsNoShift i) HasPrice shifts k s at none never_both h)

    no_other_word : Each HasPrice shifts → HasNoOtherWord i shifts
    no_other_word h k f = no-first (IsNoShift i) HasPrice shifts k f.0 never_both h f.1

  are_prices : (ss : List Shift) → Each IsAtPrice ss → ArePrices i (map duty ss) (map (λ (s : Shift). s.price) ss)
  are_prices [] h = tt
  are_prices (s ∷ ss) h = (h.0, are_prices ss h.1)

  of_prices : (ss : List Shift) → ArePrices i (map duty ss) (map (λ (s : Shift). s.price) ss) → Each IsAtPrice ss
  of_prices [] h = tt
  of_prices (s ∷ ss) h = (h.0, of_prices ss h.1)

  -- what the pass over all shifts found
  pub all_priced : (shifts : List Shift) (k : ℕ) (m : Option Why) → length shifts ≤ k → Before HasPrice shifts k → IsFirstSoFar shifts k m → MatchOption m (ArePrices i (duties shifts) (stated_prices shifts)) (IsPriceCause i shifts)
  all_priced shifts k None l h f = are_prices shifts (before-all IsAtPrice shifts k l f)
  all_priced shifts k (Some w) l h f = cause w f
    where
      cause : (w : Why) → IsFirstOther shifts w → IsPriceCause i shifts w
      cause (NotAShift n) f = absurd f
      cause (ShiftCost n said least) f = (no_other_word shifts (before-all HasPrice shifts k l h), f)
      cause (WrongHeads g n) f = absurd f
      cause (WrongCost said found) f = absurd f
      cause (NotAnArc n) f = absurd f
      cause (EmptyHalf n) f = absurd f
      cause (NotPinned n a) f = absurd f
      cause (BoundTooHigh said shown) f = absurd f
      cause (Outside byte period n) f = absurd f

  -- where all prices are right, no cause on words and prices holds
  pub no_words : (shifts : List Shift) → ArePrices i (duties shifts) (stated_prices shifts) → HasNoOtherWord i shifts
  no_words shifts h k f = no-first (IsNoShift i) IsAtPrice shifts k f.0 (λ s p. never_both s (s.price, p)) (of_prices shifts h) f.1

  pub no_prices : (shifts : List Shift) → ArePrices i (duties shifts) (stated_prices shifts) → HasNoOtherPrice i shifts
  no_prices shifts h k said least f = no-first (IsMispriced i) IsAtPrice shifts k f.shift never_other (of_prices shifts h) f.first
