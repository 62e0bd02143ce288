-- Two ties: names with different texts have different numbers, and a duty's price is the line's cost, its letters' cost
-- and that of its changes.
use Rattle.std.proofs.Common.{◌≡◌, ◌↔◌, ◌⊎◌, ◌≤◌, ◌<◌, ◌-◌, suc, inl, inr, le_antisymm, le_of_eq, mul-le-mul_right, mul-le-mul_left, ℕ, ◌+◌, ◌*◌, List, [], ◌∷◌, Option, Some, slice_get, length, arith, sym, ap, ◌∙◌}
use Rattle.std.proofs.Math.Nat.{le_of_mul-le-mul_left}
use Rattle.model_rosters.specs.declared.grammar.Grammar.{Grammar}
use Rattle.model_rosters.specs.declared.grammar.Window.{Window}
use Rattle.model_rosters.specs.Folds.{In}
use Rattle.plan_laws.specs.declared.period_plan.PeriodDuty.{PeriodDuty}
use Rattle.plan_laws.specs.declared.period_plan.PeriodPart.{PeriodPart}
use Rattle.plan_laws.specs.declared.period_plan.PeriodPlan.{PeriodPlan}
use Rattle.plan_laws.specs.declared.period_plan.PeriodPart.TheVariants.{Pausing, Working}
use Rattle.plan_laws.specs.PeriodShifts.{AreParts, IsDuty, word_cost, change_cost}
use Rattle.plan_laws.proofs.Words.{word_cost-append, word_cost-none}

-- where each name's text stands at its number among the grammar's names, names of different texts have different
-- numbers: what the law asks of numbers by first appearance
pub apart_by_texts : {K : Type 0} (g : Grammar) (number : K → ℕ) (text : K → List ℕ) (names : List K)
    → ((k : K) → In k names → slice_get g.names (number k) ≡ Some (text k)) → ((j k : K) → In j names → In k names → text j ≡ text k → j ≡ k)
    → (j k : K) → In j names → In k names → number j ≡ number k → j ≡ k
apart_by_texts g number text names stands differ j k at_j at_k e =
    differ j k at_j at_k (same (sym (stands j at_j) ∙ (ap (λ (n : ℕ). slice_get g.names n) e ∙ stands k at_k)))
  where
    same : ◌≡◌ {A = Option (List ℕ)} (Some (text j)) (Some (text k)) → text j ≡ text k
    same e = cc

-- the changes of a duty's stretches
unfoldable pub changes_of : (p : PeriodPlan) (r : ℕ) (long : Window) (xs : List PeriodPart) (i : ℕ) (w : List ℕ) (c : ℕ) → AreParts p r long xs i w c → ℕ
changes_of p r long [] i w c m = 0
changes_of p r long (Working s ∷ xs) i w c m = length m.6.others + changes_of p r long xs (i + length m.0) m.1 m.3 m.7
changes_of p r long (Pausing a begin ∷ xs) i w c m = changes_of p r long xs (i + length m.0) m.1 m.3 m.7

-- together the parts cost what the letters do and the changes
pub parts_paid : (p : PeriodPlan) (r : ℕ) (long : Window) (xs : List PeriodPart) (i : ℕ) (w : List ℕ) (c : ℕ) (m : AreParts p r long xs i w c)
    → c ≡ word_cost p r i w + changes_of p r long xs i w c m * change_cost p
unfolding changes_of
parts_paid p r long [] i w c m =
    let none : word_cost p r i w ≡ 0 = ap (λ (v : List ℕ). word_cost p r i v) m.0 ∙ word_cost-none p r i in
    omega (arith, m.1, none)
parts_paid p r long (Working s ∷ xs) i w c m =
    let rest = parts_paid p r long xs (i + length m.0) m.1 m.3 m.7 in
    let n = changes_of p r long xs (i + length m.0) m.1 m.3 m.7 in
    let all : word_cost p r i w ≡ word_cost p r i m.0 + word_cost p r (i + length m.0) m.1 = ap (λ (v : List ℕ). word_cost p r i v) m.4 ∙ word_cost-append p r i m.0 m.1 in
    omega (arith, m.5, m.6.blocks.cost, rest, all)
parts_paid p r long (Pausing a begin ∷ xs) i w c m =
    let rest = parts_paid p r long xs (i + length m.0) m.1 m.3 m.7 in
    let all : word_cost p r i w ≡ word_cost p r i m.0 + word_cost p r (i + length m.0) m.1 = ap (λ (v : List ℕ). word_cost p r i v) m.4 ∙ word_cost-append p r i m.0 m.1 in
    omega (arith, m.5, m.6.cost, rest, all)

-- a duty's price: the line's cost, what its letters cost, and its changes times the cost of one
pub duty_price : (p : PeriodPlan) (d : PeriodDuty) (i : ℕ) (w : List ℕ) (c : ℕ) (m : IsDuty p d i w c)
    → c ≡ d.cost + (word_cost p d.plus i w + changes_of p d.plus d.stretch d.parts i w m.paid m.parts * change_cost p)
duty_price p d i w c m = m.cost ∙ ap (λ (n : ℕ). d.cost + n) (parts_paid p d.plus d.stretch d.parts i w m.paid m.parts)

-- a time is a whole multiple of so many minutes by the clock
abbrev IsMultiple : ℕ → ℕ → Type 0
IsMultiple time minutes = (x : ℕ) × (time ≡ x * minutes)

-- Where the f-th period of the day begins at a multiple of `starts` periods by the clock, and f is below that, the starts
-- are behind f periods and then every so many.
pub clock_starts : (begin minutes starts f n : ℕ) → 1 ≤ minutes → f < starts → IsMultiple (begin + minutes * f) (minutes * starts)
    → IsMultiple (begin + minutes * n) (minutes * starts) ↔ ((q : ℕ) × (n ≡ f + q * starts))
clock_starts begin minutes starts f n some less (y, first) =
    ((λ h. forth h.0 h.1), (λ h. (y + h.0, back h.0 h.1)))
  where
    back : (q : ℕ) → n ≡ f + q * starts → begin + minutes * n ≡ (y + q) * (minutes * starts)
    back q e =
        let long : minutes * n ≡ minutes * (f + q * starts) = ap (λ (k : ℕ). minutes * k) e in
        omega (arith, first, long)

    forth : (x : ℕ) → begin + minutes * n ≡ x * (minutes * starts) → (q : ℕ) × (n ≡ f + q * starts)
    forth x e = go (grind arith)
      where
        go : (x < y) ⊎ (y ≤ x) → (q : ℕ) × (n ≡ f + q * starts)
        go (inl lt) =
            let a : suc x * (minutes * starts) ≤ y * (minutes * starts) = mul-le-mul_right (minutes * starts) lt in
            let b : minutes * suc f ≤ minutes * starts = mul-le-mul_left minutes less in
            absurd (omega (arith, a, b, e, first, some))
        go (inr le) =
            let q : ℕ = x - y in
            let x_is : x ≡ y + q = omega (arith, le) in
            let e' : begin + minutes * n ≡ (y + q) * (minutes * starts) = e ∙ ap (λ (k : ℕ). k * (minutes * starts)) x_is in
            let same : minutes * n ≡ minutes * (f + q * starts) = omega (arith, e', first) in
            (q, le_antisymm (le_of_mul-le-mul_left (le_of_eq same) some) (le_of_mul-le-mul_left (le_of_eq (sym same)) some))
