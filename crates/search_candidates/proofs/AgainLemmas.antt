-- Stated shifts at their prices on a day, and the roster that they are there.
use Rattle.std.proofs.Common.{◌≡◌, ℕ, zero, suc, ◌+◌, ◌≤◌, ◌<◌, Bool, cond, Option, None, Some, MatchOption, List, [], ◌∷◌, ◌++◌, length, get_or, take, arith, refl, sym, subst, ap, ◌∙◌}
use Rattle.std.specs.List.{insert}
use Rattle.std.proofs.lemmas.List.{take_more}
use Rattle.model_rosters.specs.declared.instance.Cell.{Cell}
use Rattle.model_rosters.specs.declared.instance.Instance.{Instance}
use Rattle.model_rosters.specs.declared.instance.Shift.{Shift}
use Rattle.model_rosters.specs.Coverage.{covers_cell, covered, penalty, IsWithinCell}
use Rattle.model_rosters.specs.Duties.{Duty, duty}
use Rattle.model_rosters.specs.Folds.{sum_n, count, Each}
use Rattle.model_rosters.specs.Rosters.{ArePrices, IsTeamPrice, HasHeads, IsRoster, is_in_team, roster_cost}
use Rattle.model_rosters.specs.SoundInstance.{IsSoundInstance}
use Rattle.model_rosters.specs.Teams.{Team}
use Rattle.model_rosters.proofs.EachLemmas.{Each-push}
use Rattle.model_rosters.proofs.arc_laws.FoldsLemmas.{sum_n-append, sum_n-same}
use Rattle.check_certificates.specs.RosterCauses.{duties, stated_prices, IsNoShift}
use Rattle.check_certificates.specs.Sound.{IsSoundShift}
use Rattle.check_certificates.proofs.certificate_laws.NoCause.{one-prices}
use Rattle.search_candidates.specs.Again.{IsPriceOf, IsShiftAgain, AreShiftsAgain, HaveNoPrices}
use Rattle.search_candidates.specs.Order.{AreAscending, IsPutIn}
use Rattle.search_candidates.specs.Rosters.{AreKnown, ArePricedShifts}
use Rattle.search_candidates.proofs.OrderLemmas.{each-put}
use Rattle.search_candidates.proofs.SpelledLemmas.{small_price}

-- what was told of a shift's price is that of its word
pub price-told : (i : Instance) (group : ℕ) (w : List ℕ) (s : Shift) → s ≡ record { group = group; word = w; price = 0 } → (o : Option ℕ)
    → MatchOption o (IsNoShift i s) (λ price. IsTeamPrice i (duty s) price) → IsPriceOf i group w o
price-told i group w s e None h = subst (IsNoShift i) e h
price-told i group w s e (Some p) h = subst (λ (q : Shift). IsTeamPrice i (duty q) p) e h

-- a shift at another price
pub again-is : (i : Instance) → IsSoundInstance i → (s : Shift) → IsSoundShift i s → (w : List ℕ) (p : ℕ) → w ≡ s.word → IsTeamPrice i (duty s) p
    → IsShiftAgain i s (record { group = s.group; word = w; price = p })
again-is i sound s h w p e priced = subst (λ (v : List ℕ). IsShiftAgain i s (record { group = s.group; word = v; price = p })) (sym e) (record {
  same = refl;
  priced = priced;
  sound = record {
    some = h.some;
    short = h.short;
    bytes = h.bytes;
    group = h.group;
    price = small_price i sound priced.priced.attained.0 priced.team.name p priced.priced.attained.1.derives priced.priced.attained.2;
  };
})

sum_put : (f : Shift → ℕ) (ss : List Shift) (p : ℕ) (s : Shift) → sum_n f (insert ss p s) ≡ f s + sum_n f ss
sum_put f [] zero s = refl
sum_put f [] (suc p) s = refl
sum_put f (r ∷ ss) zero s = refl
sum_put f (r ∷ ss) (suc p) s = let e = sum_put f ss p s in omega (arith, e)

duties_push : (ss : List Shift) (s : Shift) → duties (ss ++ s ∷ []) ≡ duties ss ++ duty s ∷ []
duties_push [] s = refl
duties_push (r ∷ ss) s = ap (λ (ds : List Duty). duty r ∷ ds) (duties_push ss s)

module _ (i : Instance) where
  pub again-begin : AreShiftsAgain i [] []
  again-begin = record { in_order = []; same = refl; priced = tt; sums = λ f. refl; known = tt; sound = tt }

  -- one shift more
  pub again-next : (olds : List Shift) (k : ℕ) (d : Shift) (ss new : List Shift) (s : Shift) → k < length olds → AreShiftsAgain i (take k olds) ss
      → IsShiftAgain i (get_or olds k d) s → IsPutIn s ss new → AreShiftsAgain i (take (k + 1) olds) new
  again-next olds k d ss new s inside have again put = subst (AreShiftsAgain i (take (k + 1) olds)) (sym put.is) (record {
    in_order = have.in_order ++ s ∷ [];
    same = duties_push have.in_order s ∙ ap (λ (ds : List Duty). ds ++ duty s ∷ []) have.same ∙ ap (λ (q : Duty). duties (take k olds) ++ q ∷ []) again.same
        ∙ sym (duties_push (take k olds) (get_or olds k d)) ∙ ap duties (sym (take_more olds k d inside));
    priced = Each-push (λ (q : Shift). IsTeamPrice i (duty q) q.price) have.in_order s have.priced again.priced;
    sums = λ f.
        let a = sum_put f ss put.place s in
        let b = have.sums f in
        let e = sum_n-append f have.in_order (s ∷ []) in
        omega (arith, a, b, e);
    known = each-put (λ (q : Shift). IsTeamPrice i (duty q) q.price) ss put.place s again.priced have.known;
    sound = each-put (IsSoundShift i) ss put.place s again.sound have.sound;
  })

  -- where some word is no shift, there are no prices
  pub no-prices : (ss : List Shift) (k : ℕ) (d : Shift) → k < length ss → IsNoShift i (get_or ss k d) → HaveNoPrices i ss
  no-prices [] k d lt none ps h = absurd (omega (arith, lt))
  no-prices (s ∷ ss) k d lt none [] h = absurd h
  no-prices (s ∷ ss) zero d lt none (p ∷ ps) h = none h.0.team h.0.listed h.0.numbered (h.0.priced.attained.0, h.0.priced.attained.1)
  no-prices (s ∷ ss) (suc k) d lt none (p ∷ ps) h = no-prices ss k d (omega (arith, lt)) none ps h.1

  prices_are : (ss : List Shift) → AreKnown i ss → ArePrices i (duties ss) (stated_prices ss)
  prices_are [] h = tt
  prices_are (s ∷ ss) h = (h.0, prices_are ss h.1)

  module _ (old new : List Shift) (again : AreShiftsAgain i old new) where
    ones : (ss : List Shift) → sum_n (λ s. 1) ss ≡ length ss
    ones [] = refl
    ones (s ∷ ss) = let e = ones ss in omega (arith, e)

    long : (ss : List Shift) → length (duties ss) ≡ length ss
    long [] = refl
    long (s ∷ ss) = ap suc (long ss)

    same_length : length new ≡ length old
    same_length =
        let a = ones new in
        let b = ones again.in_order in
        let e = again.sums (λ s. 1) in
        let f : length (duties again.in_order) ≡ length (duties old) = ap length again.same in
        let g = long again.in_order in
        let h = long old in
        omega (arith, a, b, e, f, g, h)

    pub priced-again : length old ≤ 64 → AreAscending new → ArePricedShifts i new
    priced-again few ascending = record { prices = prices_are new again.known; ascending = ascending; sound = again.sound; few = let e = same_length in omega (arith, e, few) }

    count_sum : (p : Duty → Bool) (ss : List Shift) → count p (duties ss) ≡ sum_n (λ s. cond (p (duty s)) 1 0) ss
    count_sum p [] = refl
    count_sum p (s ∷ ss) = ap (λ (n : ℕ). cond (p (duty s)) 1 0 + n) (count_sum p ss)

    counts : (p : Duty → Bool) → count p (duties new) ≡ count p (duties old)
    counts p = count_sum p new ∙ again.sums (λ s. cond (p (duty s)) 1 0) ∙ sym (count_sum p again.in_order) ∙ ap (count p) again.same

    covers : (c : Cell) → covered i.grammar c (duties new) ≡ covered i.grammar c (duties old)
    covers c = counts (λ (d : Duty). covers_cell i.grammar c d.word)

    heads_again : (ts : List Team) → Each (HasHeads (duties old)) ts → Each (HasHeads (duties new)) ts
    heads_again [] h = tt
    heads_again (t ∷ ts) h =
        let e = counts (is_in_team t) in
        (record { least = let k = h.0.least in omega (arith, k, e); most = let k = h.0.most in omega (arith, k, e) }, heads_again ts h.1)

    cells_again : (cs : List Cell) → Each (λ (c : Cell). IsWithinCell c (covered i.grammar c (duties old))) cs
        → Each (λ (c : Cell). IsWithinCell c (covered i.grammar c (duties new))) cs
    cells_again [] h = tt
    cells_again (c ∷ cs) h = (subst (IsWithinCell c) (sym (covers c)) h.0, cells_again cs h.1)

    price_sum : (ss : List Shift) → sum_n (λ p. p) (stated_prices ss) ≡ sum_n (λ (s : Shift). s.price) ss
    price_sum [] = refl
    price_sum (s ∷ ss) = ap (λ (n : ℕ). s.price + n) (price_sum ss)

    -- where the old words are an allowed roster, so are these, and they cost as much
    pub roster-again : (ps : List ℕ) → IsRoster i (duties old) ps
        → IsRoster i (duties new) (stated_prices new) × (roster_cost i (duties new) (stated_prices new) ≡ roster_cost i (duties old) ps)
    roster-again ps h =
        let own : ArePrices i (duties old) (stated_prices again.in_order) = subst (λ (ds : List Duty). ArePrices i ds (stated_prices again.in_order)) again.same (prices_are again.in_order again.priced) in
        let same : ps ≡ stated_prices again.in_order = one-prices i (duties old) ps (stated_prices again.in_order) h.shifts own in
        let paid : sum_n (λ (p : ℕ). p) (stated_prices new) ≡ sum_n (λ (p : ℕ). p) ps =
        price_sum new ∙ again.sums (λ (s : Shift). s.price) ∙ sym (price_sum again.in_order) ∙ ap (sum_n (λ (p : ℕ). p)) (sym same) in
        let penalties = sum_n-same (λ (c : Cell). penalty c (covered i.grammar c (duties new))) (λ (c : Cell). penalty c (covered i.grammar c (duties old))) i.cells (λ c k. ap (penalty c) (covers c)) in (
          record { shifts = prices_are new again.known; heads = heads_again _ h.heads; coverage = cells_again i.cells h.coverage },
          omega (arith, paid, penalties),
        )
