-- Sets of activities, item by item.
use Rattle.std.proofs.Common.{◌≡◌, ℕ, ◌+◌, ◌<◌, Bool, true, false, cond, nat_eq, List, [], ◌∷◌, ◌++◌, length, drop, get_or, refl, sym, ap, ◌∙◌}
use Rattle.std.proofs.lemmas.List.{drop_more}
use Rattle.plan_laws.specs.declared.period_plan.Activity.{Activity}
use Rattle.plan_laws.specs.Names.{chosen}
use Rattle.plan_laws.specs.Turned.{coded}
use Rattle.plan_laws.proofs.ItemByItem.{IsItemByItem}

pub chosen_one : (t : Activity → Bool) → IsItemByItem (chosen t)
chosen_one t = record { none = refl; more = λ x xs. go (t x) x xs }
  where
    go : (v : Bool) (x : Activity) (xs : List Activity) → cond v (x ∷ chosen t xs) (chosen t xs) ≡ cond v (x ∷ []) [] ++ chosen t xs
    go true x xs = refl
    go false x xs = refl

-- the first activity of a code is not the one at this place
pub coded_next : (xs : List Activity) (code i : ℕ) (x : Activity) → i < length xs → x ≡ get_or xs i x → nat_eq x.code code ≡ false
    → coded (drop i xs) code ≡ coded (drop (i + 1) xs) code
coded_next xs code i x within at other =
    ap (λ ys. coded ys code) (drop_more xs i x within ∙ ap (λ y. y ∷ drop (i + 1) xs) (sym at))
    ∙ ap (λ v. cond v x (coded (drop (i + 1) xs) code)) other

-- ... or it is
pub coded_here : (xs : List Activity) (code i : ℕ) (x : Activity) → i < length xs → x ≡ get_or xs i x → nat_eq x.code code ≡ true
    → coded (drop i xs) code ≡ x
coded_here xs code i x within at same =
    ap (λ ys. coded ys code) (drop_more xs i x within ∙ ap (λ y. y ∷ drop (i + 1) xs) (sym at))
    ∙ ap (λ v. cond v x (coded (drop (i + 1) xs) code)) same
