-- Lists by their places.
use Rattle.std.proofs.Common.{◌≡◌, ℕ, zero, suc, arith, ◌+◌, ◌<◌, List, [], ◌∷◌, Some, length, map, get_or, drop, refl, ap, sym, ◌∙◌}
use Rattle.std.specs.Prelude.{slice_get, slice_index}
use Rattle.std.proofs.Math.Seq.{drop-cons}

-- what is left from place k on begins with the item at k
pub cons_at : {A : Type 0} (xs : List A) (k : ℕ) (x : A) → k < length xs → x ≡ get_or xs k x → drop k xs ≡ x ∷ drop (k + 1) xs
cons_at {A} xs k x l e =
    let n : suc k ≡ k + 1 = omega arith in
    drop-cons xs k x l ∙ ap (λ (y : A). y ∷ drop (suc k) xs) (sym e) ∙ ap (λ (m : ℕ). x ∷ drop m xs) n

pub cons_of : {A : Type 0} (xs : List A) (k : ℕ) (d : A) → k < length xs → drop k xs ≡ get_or xs k d ∷ drop (k + 1) xs
cons_of {A} xs k d l =
    let n : suc k ≡ k + 1 = omega arith in
    drop-cons xs k d l ∙ ap (λ (m : ℕ). get_or xs k d ∷ drop m xs) n

pub get_some : {A : Type 0} (xs : List A) (p : ℕ) → p < length xs → (x : A) × (slice_get xs p ≡ Some x)
get_some [] p h = absurd (omega arith)
get_some (x ∷ xs) zero h = (x, refl)
get_some (x ∷ xs) (suc p) h = get_some xs p (omega arith)

pub index_map : (f : ℕ → ℕ) (xs : List ℕ) (p : ℕ) → p < length xs → slice_index (map f xs) p ≡ f (slice_index xs p)
index_map f [] p h = absurd (omega arith)
index_map f (x ∷ xs) zero h = refl
index_map f (x ∷ xs) (suc p) h = index_map f xs p (omega arith)
