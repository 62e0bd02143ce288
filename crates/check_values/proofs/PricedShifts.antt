-- Shifts at the prices that were found are sound.
use Rattle.std.proofs.Common.{◌≡◌, ℕ, zero, suc, ◌+◌, ◌*◌, ◌^◌, ◌<◌, ◌≤◌, arith, All, Option, None, Some, List, [], ◌∷◌, ◌++◌, length, take, refl, ap, ◌∙◌, append_assoc, add-one}
use Rattle.std.specs.Prelude.{slice_get}
use Rattle.std.proofs.lemmas.List.Elements.{All-nil, All-cons}
use Rattle.std.proofs.lemmas.Nat.{mul-le}
use Rattle.model_rosters.specs.declared.instance.Instance.{Instance}
use Rattle.model_rosters.specs.declared.instance.Shift.{Shift}
use Rattle.model_rosters.specs.Arcs.{cost}
use Rattle.model_rosters.specs.Duties.{Duty, duty}
use Rattle.model_rosters.specs.Folds.{Each}
use Rattle.model_rosters.specs.GreatestCost.{greatest_rule_cost}
use Rattle.model_rosters.specs.Room.{most_uses}
use Rattle.model_rosters.specs.Rosters.{IsTeamPrice}
use Rattle.model_rosters.specs.SoundInstance.{IsSoundInstance}
use Rattle.model_rosters.proofs.CostBounds.{rule_cost-le, uses-le}
use Rattle.law_bounds.proofs.TreeCosts.{cost-le}
use Rattle.check_certificates.specs.RosterCauses.{duties}
use Rattle.check_certificates.specs.Sound.{IsSoundShift}
use Rattle.text_reports.specs.Reports.{HasSoundShifts}
use Rattle.check_values.specs.Causes.{IsFound, AreFound}
use Rattle.check_values.specs.Prices.{price_or_zero, priced, at_prices}

-- one more shift at its price
pub priced-next : (ss : List Shift) (os : List (Option ℕ)) (k : ℕ) (s : Shift) (o : Option ℕ) (o0 o1 o2 : List Shift) → slice_get ss k ≡ Some s → slice_get os k ≡ Some o
    → o1 ≡ o0 ++ at_prices (take k ss) (take k os) → o2 ≡ o1 ++ priced s (price_or_zero o) ∷ [] → o2 ≡ o0 ++ at_prices (take (k + 1) ss) (take (k + 1) os)
priced-next ss os k s o o0 o1 o2 here there before last =
    rw (last, before, add-one k, more ss os k here there) (append_assoc o0 (at_prices (take k ss) (take k os)) (priced s (price_or_zero o) ∷ []))
  where
    more : (xs : List Shift) (ps : List (Option ℕ)) (n : ℕ) → slice_get xs n ≡ Some s → slice_get ps n ≡ Some o
        → at_prices (take (suc n) xs) (take (suc n) ps) ≡ at_prices (take n xs) (take n ps) ++ priced s (price_or_zero o) ∷ []
    more [] ps n l m = absurd cc
    more (x ∷ xs) [] n l m = absurd cc
    more (x ∷ xs) (p ∷ ps) zero l m =
        let first : x ≡ s = cc in
        let price : p ≡ o = cc in
        rw (first, price) refl
    more (x ∷ xs) (p ∷ ps) (suc n) l m = ap (λ (t : List Shift). priced x (price_or_zero p) ∷ t) (more xs ps n l m)

module _ (i : Instance) (sound : IsSoundInstance i) where
  -- no price is great
  small_price : (d : Duty) (price : ℕ) → IsTeamPrice i d price → price ≤ 2 ^ 40
  small_price d price h =
      let t = h.priced.attained in
      let less = cost-le i sound.grammar.ranks.0 sound.grammar.ranks.1 t.0 h.team.name t.1.derives.0 t.1.derives.1 in
      let most : most_uses i.grammar * greatest_rule_cost i.grammar.rules ≤ 63030000 =
      mul-le (most_uses i.grammar) (greatest_rule_cost i.grammar.rules) 6303 10000 (uses-le i.grammar sound.grammar) (rule_cost-le _ _ i.grammar.rules sound.grammar.rules) in
      at_most price (cost i.grammar t.0) (most_uses i.grammar * greatest_rule_cost i.grammar.rules) t.2 less most
    where
      at_most : (q c m : ℕ) → c ≡ q → c ≤ m → m ≤ 63030000 → q ≤ 2 ^ 40
      at_most q c m same l k = omega (arith, same, l, k)

  price_small : (s : Shift) (o : Option ℕ) → IsFound i s o → price_or_zero o ≤ 2 ^ 40
  price_small s None h = omega arith
  price_small s (Some price) h = small_price (duty s) price h

  priced_sound : (s : Shift) (price : ℕ) → price ≤ 2 ^ 40 → IsSoundShift i s → IsSoundShift i (priced s price)
  priced_sound s price small h = record { some = h.some; short = h.short; bytes = h.bytes; group = h.group; price = small }

  each_sound : (ss : List Shift) (os : List (Option ℕ)) → AreFound i ss os → Each (IsSoundShift i) ss → Each (IsSoundShift i) (at_prices ss os)
  each_sound [] os h s = tt
  each_sound (x ∷ xs) [] h s = tt
  each_sound (x ∷ xs) (o ∷ os) h s = (priced_sound x (price_or_zero o) (price_small x o h.0) s.0, each_sound xs os h.1 s.1)

  priced_few : (ss : List Shift) (os : List (Option ℕ)) → length (at_prices ss os) ≤ length ss
  priced_few [] os = omega arith
  priced_few (s ∷ ss) [] = omega arith
  priced_few (s ∷ ss) (o ∷ os) = omega (arith, priced_few ss os)

  pub priced-sound : (ss : List Shift) (os : List (Option ℕ)) → AreFound i ss os → HasSoundShifts i ss → HasSoundShifts i (at_prices ss os)
  priced-sound ss os h s = record { few = omega (arith, s.few, priced_few ss os); each = each_sound ss os h s.each }

-- they are the same words of the same teams
pub same-duties : (i : Instance) (ss : List Shift) (os : List (Option ℕ)) → AreFound i ss os → duties (at_prices ss os) ≡ duties ss
same-duties i [] os h = refl
same-duties i (s ∷ ss) [] h = absurd h
same-duties i (s ∷ ss) (o ∷ os) h = ap (λ (ds : List Duty). duty s ∷ ds) (same-duties i ss os h.1)

-- their words are short
pub short-words : (i : Instance) (ss : List Shift) → Each (IsSoundShift i) ss → All (λ (s : Shift). length s.word ≤ 96) ss
short-words i [] h = All-nil _
short-words i (s ∷ ss) h = All-cons (λ (x : Shift). length x.word ≤ 96) s ss h.0.short (short-words i ss h.1)
