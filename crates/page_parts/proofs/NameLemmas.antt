-- A name is cut between two characters.
use Rattle.std.proofs.Common.{◌≡◌, ℕ, zero, suc, ◌+◌, List, [], ◌∷◌, ◌++◌, Bool, true, false, Some, length, refl, sym, ap, subst, ◌∙◌, arith, add-one, append_assoc, append-nil, inl, inr}
use Rattle.std.proofs.lemmas.List.{length-append}
use Rattle.std.specs.Prelude.{if◌then◌else◌, nat_lt, slice_get}
use Rattle.page_parts.specs.Names.{IsBetween, begin_of, columns_of, cut_from, cut_of, is_inner}

seam : (seen bs : List ℕ) (b : ℕ) → slice_get (seen ++ b ∷ bs) (length seen) ≡ Some b
seam [] bs b = refl
seam (x ∷ seen) bs b = seam seen bs b

first : (seen bs : List ℕ) (b : ℕ) → is_inner b ≡ false → IsBetween (length seen) (seen ++ b ∷ bs)
first seen bs b e = inr (inr (b, seam seen bs b, e))

by_kind : (t : Bool) (x y : ℕ) (bytes : List ℕ) → IsBetween x bytes → (t ≡ false → IsBetween y bytes) → IsBetween (if t then x else y) bytes
by_kind true x y bytes h k = h
by_kind false x y bytes h k = k refl

begins : (seen bs : List ℕ) (begin b : ℕ) → IsBetween begin (seen ++ b ∷ bs) → IsBetween (begin_of begin (length seen) b) (seen ++ b ∷ bs)
unfolding begin_of
begins seen bs begin b h = by_kind (is_inner b) begin (length seen) (seen ++ b ∷ bs) h (first seen bs b)

one_more : (seen bs : List ℕ) (b : ℕ) → (seen ++ b ∷ []) ++ bs ≡ seen ++ b ∷ bs
one_more seen bs b = append_assoc seen (b ∷ []) bs

longer : (seen : List ℕ) (b : ℕ) → length (seen ++ b ∷ []) ≡ length seen + 1
longer seen b = length-append seen (b ∷ [])

either : (t : Bool) (x y : ℕ) (bytes : List ℕ) → IsBetween x bytes → IsBetween y bytes → IsBetween (if t then x else y) bytes
either true x y bytes h k = h
either false x y bytes h k = k

ends : (seen bs : List ℕ) (last begin width : ℕ) → IsBetween begin (seen ++ bs) → IsBetween (cut_from last begin (length seen) width bs) (seen ++ bs)
ends seen [] last begin width h = inr (inl (ap length (sym (append-nil seen))))
ends seen (b ∷ bs) last begin width h =
    let here = begins seen bs begin b h in
    let next = begin_of begin (length seen) b in
    let rest : IsBetween (cut_from b next (length (seen ++ b ∷ [])) (width + columns_of last b) bs) ((seen ++ b ∷ []) ++ bs)
    = ends (seen ++ b ∷ []) bs b next (width + columns_of last b) (subst (λ (t : List ℕ). IsBetween next t) (sym (one_more seen bs b)) here) in
    let moved : IsBetween (cut_from b next (length seen + 1) (width + columns_of last b) bs) (seen ++ b ∷ bs)
    = subst (λ (n : ℕ). IsBetween (cut_from b next n (width + columns_of last b) bs) (seen ++ b ∷ bs)) (longer seen b)
    (subst (λ (t : List ℕ). IsBetween (cut_from b next (length (seen ++ b ∷ [])) (width + columns_of last b) bs) t) (one_more seen bs b) rest) in
    either (nat_lt 24 (width + columns_of last b)) next (cut_from b next (length seen + 1) (width + columns_of last b) bs) (seen ++ b ∷ bs) here moved

pub ends_between : (bytes : List ℕ) → IsBetween (cut_of bytes) bytes
ends_between bytes = ends [] bytes 0 0 0 (inl refl)
