-- A day and kept shifts have one answer.
use Rattle.std.proofs.Common.{◌≡◌, ℕ, List, refl, sym, ap, subst, ◌∙◌, arith}
use Rattle.model_rosters.specs.declared.instance.Instance.{Instance}
use Rattle.model_rosters.specs.declared.instance.Shift.{Shift}
use Rattle.model_rosters.specs.Demands.{Demand}
use Rattle.model_rosters.specs.Folds.{sum_n}
use Rattle.model_rosters.specs.SoundInstance.{IsSoundInstance}
use Rattle.check_certificates.specs.RosterCauses.{duties}
use Rattle.check_certificates.proofs.certificate_laws.NoCause.{one-prices}
use Rattle.text_demand.specs.Written.{AreDemandsOf}
use Rattle.check_values.specs.declared.remaining_day.answer.Remaining.{Remaining}
use Rattle.check_values.specs.declared.remaining_day.answer.Remaining.TheVariants.{Day, Nobody, Impossible}
use Rattle.check_values.specs.declared.remaining_day.answer.Rest.{Rest}
use Rattle.check_values.specs.declared.cause.Cause.{Cause}
use Rattle.check_values.specs.remaining_day.Answers.{IsRest, IsNobody, IsImpossible, IsRemaining, rest_status, IsSaid, RestAnswer}
use Rattle.check_values.specs.remaining_day.Causes.{causes_of}
use Rattle.check_values.proofs.remaining_day.CausesLemmas.{within_none}
use Rattle.check_values.proofs.FoundPrices.{found-once}

-- what a sound day asks
pub demands-of : (r : Instance) → IsSoundInstance r → (ds : List Demand) × AreDemandsOf r ds
demands-of r h = (h.cells.demands, record { each = h.cells.each; once = h.cells.once; made = h.cells.made })

module _ (i : Instance) (kept : List Shift) where
  one_rest : (x y : Rest) → IsRest i kept x → IsRest i kept y → x ≡ y
  one_rest x y h k =
      let day : x.day ≡ y.day = h.day h.rules h.ruled ∙ sym (k.day h.rules h.ruled) in
      let prices : h.prices ≡ k.prices = one-prices i (duties kept) h.prices k.prices h.may.priced k.may.priced in
      let paid : x.paid ≡ y.paid = h.paid ∙ ap (λ (ps : List ℕ). sum_n (λ (p : ℕ). p) ps) prices ∙ sym k.paid in
      let penalty : x.penalty ≡ y.penalty = h.penalty ∙ sym k.penalty in
      ap (λ (d : Instance). record x { day = d }) day
      ∙ ap (λ (n : ℕ). record y { paid = n; penalty = x.penalty }) paid ∙ ap (λ (n : ℕ). record y { penalty = n }) penalty

  one_impossible : (xs ys : List Cause) → IsImpossible i kept xs → IsImpossible i kept ys → xs ≡ ys
  one_impossible xs ys h k = h.all ∙ ap (causes_of i (duties kept)) (found-once i kept h.found k.found h.prices k.prices) ∙ sym k.all

  one-remaining : (x y : Remaining) → IsRemaining i kept x → IsRemaining i kept y → x ≡ y
  one-remaining (Day x) (Day y) h k = ap (λ (r : Rest). Day r) (one_rest x y h k)
  one-remaining (Day x) Nobody h k = absurd (omega (arith, h.some, k.none))
  one-remaining (Day x) (Impossible ys) h k = absurd (k.some (k.all ∙ within_none i kept k.found h.prices k.prices h.may.priced h.may.within))
  one-remaining Nobody (Day y) h k = absurd (omega (arith, k.some, h.none))
  one-remaining Nobody Nobody h k = refl
  one-remaining Nobody (Impossible ys) h k = absurd (k.some (k.all ∙ within_none i kept k.found h.prices k.prices h.may.priced h.may.within))
  one-remaining (Impossible xs) (Day y) h k = absurd (h.some (h.all ∙ within_none i kept h.found k.prices h.prices k.may.priced k.may.within))
  one-remaining (Impossible xs) Nobody h k = absurd (h.some (h.all ∙ within_none i kept h.found k.prices h.prices k.may.priced k.may.within))
  one-remaining (Impossible xs) (Impossible ys) h k = ap (λ (cs : List Cause). Impossible cs) (one_impossible xs ys h k)

  one_said : (x : Remaining) (a b : List ℕ) → IsRemaining i kept x → IsSaid i kept x a → IsSaid i kept x b → a ≡ b
  one_said (Day x) a b h k l = let ds = demands-of x.day h.sound in k.text ds.0 ds.1 ∙ sym (l.text ds.0 ds.1)
  one_said Nobody a b h k l = k ∙ sym l
  one_said (Impossible xs) a b h k l = k ∙ sym l

pub rest-once : (i : Instance) (kept : List Shift) (s t : ℕ) (a b : List ℕ) → RestAnswer i kept s a → RestAnswer i kept t b → (s ≡ t) × (a ≡ b)
rest-once i kept s t a b h k =
    let same : k.remaining ≡ h.remaining = one-remaining i kept k.remaining h.remaining k.is h.is in
    let said : IsSaid i kept h.remaining b = subst (λ (r : Remaining). IsSaid i kept r b) same k.said in
    (h.status_is ∙ sym (ap rest_status same) ∙ sym k.status_is, one_said i kept h.remaining a b h.is h.said said)
