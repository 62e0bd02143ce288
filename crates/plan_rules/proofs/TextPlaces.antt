-- Texts of names by their places.
use Rattle.std.proofs.Common.{◌≡◌, ℕ, zero, suc, ◌+◌, ◌<◌, ◌≤◌, Option, None, Some, List, [], ◌∷◌, ◌++◌, length, map, take, get_or, slice_get, arith, sym, ap, ◌∙◌}
use Rattle.std.proofs.lemmas.List.{length-map, length-take-le, map-append, map_more, take-map, take_more}
use Rattle.plan_laws.specs.Names.{Kind}
use Rattle.plan_names.specs.declared.names.RuleName.{RuleName}
use Rattle.plan_names.specs.Views.{kind_of}
use Rattle.plan_rules.specs.NameTexts.{name_text, name_texts}

pub texts_more : (n : ℕ) (ks : List Kind) (k : Kind) → name_texts n (ks ++ k ∷ []) ≡ name_texts n ks ++ name_text (n + length ks) k ∷ []
texts_more n [] k = ap (λ m. name_text m k ∷ []) (omega arith)
texts_more n (j ∷ ks) k =
    let same : n + 1 + length ks ≡ n + length (j ∷ ks) = omega arith in
    ap (λ ts. name_text n j ∷ ts) (texts_more (n + 1) ks k ∙ ap (λ m. name_texts (n + 1) ks ++ name_text m k ∷ []) same)

less : {a b : ℕ} → a < b → a ≤ b
less h = omega arith

-- the first names and the one behind them
pub named_take : (names : List RuleName) (i : ℕ) (x : RuleName) → i < length names → x ≡ get_or names i x
    → take (i + 1) (map kind_of names) ≡ take i (map kind_of names) ++ kind_of x ∷ []
named_take names i x within at =
    take-map kind_of (i + 1) names ∙ map_more kind_of names i x within
    ∙ ap (λ (y : RuleName). map kind_of (take i names) ++ kind_of y ∷ []) (sym at)
    ∙ ap (λ (ks : List Kind). ks ++ kind_of x ∷ []) (sym (take-map kind_of i names))

-- the step of a loop over names
pub texts_step : (names : List RuleName) (i : ℕ) (x : RuleName) (n : ℕ) (old new : List (List ℕ)) → i < length names → x ≡ get_or names i x → n ≡ i
    → old ≡ name_texts 0 (map kind_of (take i names)) → new ≡ old ++ name_text n (kind_of x) ∷ [] → new ≡ name_texts 0 (map kind_of (take (i + 1) names))
texts_step names i x n old new within at number kept is =
    let ks = map kind_of (take i names) in
    let long : n ≡ 0 + length ks = omega (arith, number, length-map (take i names) kind_of, length-take-le i names (less within)) in
    let more : map kind_of (take (i + 1) names) ≡ ks ++ kind_of x ∷ [] =
    ap (map kind_of) (take_more names i x within ∙ ap (λ y. take i names ++ y ∷ []) (sym at)) ∙ map-append kind_of (take i names) (x ∷ []) in
    is ∙ ap (λ ts. ts ++ name_text n (kind_of x) ∷ []) kept ∙ ap (λ m. name_texts 0 ks ++ name_text m (kind_of x) ∷ []) long
    ∙ sym (texts_more 0 ks (kind_of x)) ∙ ap (name_texts 0) (sym more)

pub text_at : (n : ℕ) (ks : List Kind) (i : ℕ) (k : Kind) → slice_get ks i ≡ Some k → slice_get (name_texts n ks) i ≡ Some (name_text (n + i) k)
text_at n [] i k e = absurd (never e)
  where
    never : ◌≡◌ {A = Option Kind} None (Some k) → ⊥
    never e = cc
text_at n (j ∷ ks) zero k e = ap (λ m. Some (name_text m j)) (omega arith) ∙ ap (λ x. Some (name_text (n + 0) x)) (some e)
  where
    some : ◌≡◌ {A = Option Kind} (Some j) (Some k) → j ≡ k
    some e = cc
text_at n (j ∷ ks) (suc i) k e =
    let same : n + 1 + i ≡ n + suc i = omega arith in
    text_at (n + 1) ks i k e ∙ ap (λ m. Some (name_text m k)) same
