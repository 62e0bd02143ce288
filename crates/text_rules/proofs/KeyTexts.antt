use Rattle.std.proofs.Common.{◌≡◌, ℕ, zero, suc, List, [], ◌∷◌, ◌++◌, Bool, true, false, cond, ltb, length, take, Vec, Option, Some, None, refl, ap, ◌∙◌, sym}
use Rattle.std.specs.Prelude.{MatchOption, is_some, slice_get}
use Rattle.std.specs.Global.{Global}
use Rattle.std.specs.List.{list_any, position_or_len}
use lib.Pointwise.{pointwise}
use lib.Dec.{eqb}
use Rattle.text_rules.specs.Names.{texts, has_name, place_of}

abbrev Key : Type 0
Key = Vec ℕ Global

abbrev is_key : List ℕ → Key → Bool
is_key x k = pointwise eqb x k.items

pub any-texts : (x : List ℕ) (ks : List Key) → has_name (texts ks) x ≡ list_any (is_key x) ks
any-texts x [] = refl
any-texts x (k ∷ ks) = rw (any-texts x ks) refl

pub place-texts : (x : List ℕ) (ks : List Key) → place_of (texts ks) x ≡ position_or_len (is_key x) ks
place-texts x [] = refl
place-texts x (k ∷ ks) = rw (place-texts x ks) refl

pub texts-append : (xs ys : List Key) → texts (xs ++ ys) ≡ texts xs ++ texts ys
texts-append [] ys = refl
texts-append (x ∷ xs) ys = ap (λ (q : List (List ℕ)). x.items ∷ q) (texts-append xs ys)

-- a key that is new goes to the end
pub add-keys : (ks : List Key) (k : Key) → has_name (texts ks) k.items ≡ false → cond (list_any (is_key k.items) ks) ks (ks ++ k ∷ []) ≡ ks ++ k ∷ []
add-keys ks k new = rw (sym (any-texts k.items ks) ∙ new) refl

-- where a key stands, as the set answers
pub found_key : (r : Option ℕ) (x : List ℕ) (ks : List Key) → r ≡ cond (ltb (position_or_len (is_key x) ks) (length ks)) (Some (position_or_len (is_key x) ks)) None → is_some r ≡ list_any (is_key x) ks
    → MatchOption r (has_name (texts ks) x ≡ false) (λ k. (has_name (texts ks) x ≡ true) × (k ≡ place_of (texts ks) x))
found_key None x ks e f = any-texts x ks ∙ sym f
found_key (Some k) x ks e f = (any-texts x ks ∙ sym f, by (ltb (position_or_len (is_key x) ks) (length ks)) e ∙ sym (place-texts x ks))
  where
    by : (t : Bool) → Some k ≡ cond t (Some (position_or_len (is_key x) ks)) None → k ≡ position_or_len (is_key x) ks
    by true q = cc
    by false q = absurd cc

-- one more key
pub texts_more : (ks : List Key) (i : ℕ) (k : Key) → slice_get ks i ≡ Some k → texts (take (suc i) ks) ≡ texts (take i ks) ++ k.items ∷ []
texts_more [] i k e = absurd cc
texts_more (x ∷ ks) zero k e = let same : x ≡ k = cc in ap (λ (y : Key). y.items ∷ []) same
texts_more (x ∷ ks) (suc i) k e = ap (λ (ts : List (List ℕ)). x.items ∷ ts) (texts_more ks i k e)
