-- A stated roster has one answer.
use Rattle.std.proofs.Common.{◌≡◌, ℕ, ◌+◌, List, [], ◌∷◌, ◌++◌, refl, sym, ap, ◌∙◌, arith}
use Rattle.text_lines.specs.Written.{written}
use Rattle.model_rosters.specs.declared.instance.Instance.{Instance}
use Rattle.model_rosters.specs.declared.instance.Shift.{Shift}
use Rattle.model_rosters.specs.Duties.{Duty, duty}
use Rattle.model_rosters.specs.Folds.{sum_n}
use Rattle.check_certificates.specs.RosterCauses.{duties, stated_prices}
use Rattle.check_certificates.proofs.certificate_laws.NoCause.{one-prices}
use Rattle.check_values.specs.declared.cause.Cause.{Cause}
use Rattle.check_values.specs.declared.valued.Valued.{Valued}
use Rattle.check_values.specs.Answers.{StatedAnswer, SaysValue, SaysCauses}
use Rattle.check_values.specs.Answers as answers
use Rattle.check_values.specs.Causes.{causes_of}
use Rattle.check_values.specs.CauseText.{causes_text}
use Rattle.check_values.specs.Values.{IsValued, AreCauses}
use Rattle.check_values.specs.ValueText.{covered_lines, value_text}
use Rattle.check_values.proofs.FoundPrices.{found-once}

abbrev shift_of : ℕ → List ℕ → ℕ → Shift
shift_of group word price = record { group = group; word = word; price = price }

shift_eq : (g h : ℕ) (v w : List ℕ) (p q : ℕ) → g ≡ h → v ≡ w → p ≡ q → shift_of g v p ≡ shift_of h w q
shift_eq g h v w p q a b c = rw (a, b, c) refl

abbrev value_of : List Shift → ℕ → ℕ → ℕ → Valued
value_of shifts cost paid penalty = record { shifts = shifts; cost = cost; paid = paid; penalty = penalty }

value_eq : (ss ts : List Shift) (a b c d e f : ℕ) → ss ≡ ts → a ≡ b → c ≡ d → e ≡ f → value_of ss a c e ≡ value_of ts b d f
value_eq ss ts a b c d e f w x y z = rw (w, x, y, z) refl

-- shifts of the same words and teams at the same prices
same_shifts : (xs ys : List Shift) → duties xs ≡ duties ys → stated_prices xs ≡ stated_prices ys → xs ≡ ys
same_shifts [] [] d p = refl
same_shifts [] (y ∷ ys) d p = absurd cc
same_shifts (x ∷ xs) [] d p = absurd cc
same_shifts (x ∷ xs) (y ∷ ys) d p =
    let duties_same : duties xs ≡ duties ys = cc in
    let prices_same : stated_prices xs ≡ stated_prices ys = cc in
    let rest : xs ≡ ys = same_shifts xs ys duties_same prices_same in
    let e : duty x ≡ duty y = cc in
    let group : x.group ≡ y.group = ap (λ (u : Duty). u.team) e in
    let word : x.word ≡ y.word = ap (λ (u : Duty). u.word) e in
    let price : x.price ≡ y.price = cc in
    let first : x ≡ y = shift_eq x.group y.group x.word y.word x.price y.price group word price in
    cc

pub one_value : (i : Instance) (shifts : List Shift) (v w : Valued) → IsValued i shifts v → IsValued i shifts w → v ≡ w
one_value i shifts v w h k =
    let prices : stated_prices v.shifts ≡ stated_prices w.shifts = one-prices i (duties shifts) (stated_prices v.shifts) (stated_prices w.shifts) h.allowed.shifts k.allowed.shifts in
    let same : v.shifts ≡ w.shifts = same_shifts v.shifts w.shifts (h.same ∙ sym k.same) prices in
    let paid : v.paid ≡ w.paid = h.paid ∙ ap (λ (ps : List ℕ). sum_n (λ (p : ℕ). p) ps) prices ∙ sym k.paid in
    let penalty : v.penalty ≡ w.penalty = h.penalty ∙ sym k.penalty in
    let cost : v.cost ≡ w.cost = omega (arith, h.cost, k.cost, paid, penalty) in
    value_eq v.shifts w.shifts v.cost w.cost v.paid w.paid v.penalty w.penalty same cost paid penalty

same_causes : (i : Instance) (shifts : List Shift) (cs ds : List Cause) → AreCauses i shifts cs → AreCauses i shifts ds → cs ≡ ds
same_causes i shifts cs ds h k =
    h.all ∙ ap (causes_of i (duties shifts)) (found-once i shifts h.found k.found h.prices k.prices) ∙ sym k.all

pub stated-once : (i : Instance) (shifts : List Shift) (s t : ℕ) (a b : List ℕ) → StatedAnswer i shifts s a → StatedAnswer i shifts t b → (s ≡ t) × (a ≡ b)
stated-once i shifts s t a b (answers.allowed x h) (answers.allowed y k) =
    (refl, h.text ∙ ap (value_text i) (one_value i shifts h.value k.value h.is k.is) ∙ sym k.text)
stated-once i shifts s t a b (answers.allowed x h) (answers.refused y k) = absurd (k.are.never h.value.cost h.costs)
stated-once i shifts s t a b (answers.refused x h) (answers.allowed y k) = absurd (h.are.never k.value.cost k.costs)
stated-once i shifts s t a b (answers.refused x h) (answers.refused y k) =
    (refl, h.text ∙ ap (λ (cs : List Cause). causes_text i shifts cs ++ written (covered_lines i shifts)) (same_causes i shifts h.causes k.causes h.are k.are) ∙ sym k.text)
