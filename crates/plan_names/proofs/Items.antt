-- Functions of lists that go item by item, and lists that grow at their end.
use Rattle.std.proofs.Common.{◌≡◌, ℕ, zero, suc, ◌+◌, Bool, true, false, cond, nat_eq, List, [], ◌∷◌, ◌++◌, arith, refl, sym, ap, ◌∙◌}
use Rattle.model_rosters.specs.declared.grammar.Window.{Window}
use Rattle.plan_laws.specs.declared.period_plan.Activity.{Activity}
use Rattle.plan_laws.specs.declared.period_plan.PeriodPart.{PeriodPart}
use Rattle.plan_laws.specs.declared.period_plan.PeriodPlan.{PeriodPlan}
use Rattle.plan_laws.specs.Named.{Symbol, coded, named}
use Rattle.plan_laws.specs.Names.{Kind, chosen, copies, dots, kind_of, numbers_from, others, symbols_of}
use Rattle.plan_laws.proofs.ItemByItem.{IsItemByItem}

pub chosen_one : (t : Activity → Bool) → IsItemByItem (chosen t)
chosen_one t = record { none = refl; more = λ x xs. go (t x) x xs }
  where
    go : (v : Bool) (x : Activity) (xs : List Activity) → cond v (x ∷ chosen t xs) (chosen t xs) ≡ cond v (x ∷ []) [] ++ chosen t xs
    go true x xs = refl
    go false x xs = refl

pub others_one : (a : Activity) → IsItemByItem (others a)
others_one a = record { none = refl; more = λ x xs. go (nat_eq x.code a.code) x xs }
  where
    go : (v : Bool) (x : Activity) (xs : List Activity) → cond v (others a xs) (x ∷ others a xs) ≡ cond v [] (x ∷ []) ++ others a xs
    go true x xs = refl
    go false x xs = refl

pub symbols_one : (r : ℕ) (long : Window) → IsItemByItem (symbols_of r long)
symbols_one r long = record { none = refl; more = λ x xs. refl }

next : (n : ℕ) → suc n + 1 ≡ suc (n + 1)
next n = omega arith

pub copies_more : (n : ℕ) (k : Kind) → copies (n + 1) k ≡ copies n k ++ named k ∷ []
copies_more zero k = refl
copies_more (suc n) k = ap (λ m. copies m k) (next n) ∙ ap (λ ss. named k ∷ ss) (copies_more n k)

pub dots_more : (p : PeriodPlan) (n : ℕ) → dots p (n + 1) ≡ dots p n ++ coded p.off ∷ []
dots_more p zero = refl
dots_more p (suc n) = ap (λ m. dots p m) (next n) ∙ ap (λ ss. coded p.off ∷ ss) (dots_more p n)

pub numbers_more : (n k : ℕ) → numbers_from n (k + 1) ≡ numbers_from n k ++ (n + k) ∷ []
numbers_more n zero = ap (λ m. m ∷ []) (omega arith)
numbers_more n (suc k) =
    let same : suc k + 1 ≡ suc (k + 1) = omega arith in
    let last : n + 1 + k ≡ n + suc k = omega arith in
    ap (λ m. numbers_from n m) same ∙ ap (λ ns. n ∷ ns) (numbers_more (n + 1) k ∙ ap (λ m. numbers_from (n + 1) k ++ m ∷ []) last)
