-- Sums of the prices of stated shifts.
use Rattle.std.proofs.Common.{◌≡◌, ℕ, ◌+◌, ◌^◌, ◌<◌, ◌≤◌, List, [], ◌∷◌, length, get_or, drop, All, ap}
use Rattle.std.proofs.lemmas.List.{at_drop_more, drop_all}
use Rattle.std.proofs.lemmas.List.Elements.{All-nil, All-cons}
use Rattle.model_rosters.specs.declared.instance.Instance.{Instance}
use Rattle.model_rosters.specs.declared.instance.Shift.{Shift}
use Rattle.model_rosters.specs.Folds.{Each, sum_n}
use Rattle.check_certificates.specs.Sound.{IsSoundShift}
use Rattle.check_certificates.specs.RosterCauses.{stated_prices}

pub small_prices : (i : Instance) (ss : List Shift) → Each (IsSoundShift i) ss → All (λ (s : Shift). s.price ≤ 2 ^ 40) ss
small_prices i [] h = All-nil _
small_prices i (s ∷ ss) h = All-cons (λ (x : Shift). x.price ≤ 2 ^ 40) s ss h.0.price (small_prices i ss h.1)

-- the prices from place k on
abbrev pub rest_paid : List Shift → ℕ → ℕ
rest_paid ss k = sum_n (λ (p : ℕ). p) (stated_prices (drop k ss))

pub paid-next : (ss : List Shift) (k : ℕ) (d : Shift) → k < length ss → rest_paid ss k ≡ (get_or ss k d).price + rest_paid ss (k + 1)
paid-next ss k d l = at_drop_more (λ (xs : List Shift). sum_n (λ (p : ℕ). p) (stated_prices xs)) ss k d l

pub paid-end : (ss : List Shift) (k : ℕ) → length ss ≤ k → rest_paid ss k ≡ 0
paid-end ss k l = ap (λ (xs : List Shift). sum_n (λ (p : ℕ). p) (stated_prices xs)) (drop_all k ss l)
