-- What holds of each item of a list.
use Rattle.std.proofs.Common.{◌≡◌, ℕ, zero, suc, All, Some, List, [], ◌∷◌, ◌++◌, map, refl, ap, subst, sym, inl, inr}
use Rattle.std.specs.Prelude.{slice_get}
use Rattle.std.proofs.lemmas.Option.{same_Some}
use Rattle.std.proofs.lemmas.List.Elements.{All-head, All-tail, All-nil, All-cons}
use Rattle.model_rosters.specs.Folds.{Each, In}

-- ---- the two words for it

pub all_each : {A : Type 0} (P : A → Type 0) (xs : List A) → All P xs → Each P xs
all_each P [] h = tt
all_each P (x ∷ xs) h = (All-head P x xs h, all_each P xs (All-tail P x xs h))

pub each_all : {A : Type 0} (P : A → Type 0) (xs : List A) → Each P xs → All P xs
each_all P [] h = All-nil P
each_all P (x ∷ xs) h = All-cons P x xs h.0 (each_all P xs h.1)

-- ---- two lists joined, and one more item

pub Each-append : {A : Type 0} (P : A → Type 0) (xs ys : List A) → Each P xs → Each P ys → Each P (xs ++ ys)
Each-append P [] ys h k = k
Each-append P (x ∷ xs) ys h k = (h.0, Each-append P xs ys h.1 k)

pub Each-left : {A : Type 0} (P : A → Type 0) (xs ys : List A) → Each P (xs ++ ys) → Each P xs
Each-left P [] ys h = tt
Each-left P (x ∷ xs) ys h = (h.0, Each-left P xs ys h.1)

pub Each-right : {A : Type 0} (P : A → Type 0) (xs ys : List A) → Each P (xs ++ ys) → Each P ys
Each-right P [] ys h = h
Each-right P (x ∷ xs) ys h = Each-right P xs ys h.1

pub each_parts : {A : Type 0} (P : A → Type 0) (xs ys : List A) → Each P (xs ++ ys) → Each P xs × Each P ys
each_parts P xs ys h = (Each-left P xs ys h, Each-right P xs ys h)

pub Each-push : {A : Type 0} (P : A → Type 0) (xs : List A) (x : A) → Each P xs → P x → Each P (xs ++ x ∷ [])
Each-push P [] x h p = (p, tt)
Each-push P (y ∷ xs) x h p = (h.0, Each-push P xs x h.1 p)

-- ---- from one demand to another

pub Each-weaker : {A : Type 0} (P Q : A → Type 0) (xs : List A) → ((x : A) → P x → Q x) → Each P xs → Each Q xs
Each-weaker P Q [] f h = tt
Each-weaker P Q (x ∷ xs) f h = (f x h.0, Each-weaker P Q xs f h.1)

pub Each-map : {A B : Type 0} (P : A → Type 0) (Q : B → Type 0) (f : A → B) → ((x : A) → P x → Q (f x)) → (xs : List A) → All P xs → Each Q (map f xs)
Each-map P Q f more [] h = tt
Each-map P Q f more (x ∷ xs) h = (more x (All-head P x xs h), Each-map P Q f more xs (All-tail P x xs h))

-- what holds of each item by a reason of its own
pub Each-in : {A : Type 0} (P : A → Type 0) (xs : List A) → ((x : A) → In x xs → P x) → Each P xs
Each-in P [] f = tt
Each-in P (x ∷ xs) f = (f x (inl refl), Each-in P xs (λ y h. f y (inr h)))

-- ---- one item

pub Each-at : {A : Type 0} (P : A → Type 0) (x : A) (xs : List A) → Each P xs → In x xs → P x
Each-at P x [] h i = absurd i
Each-at P x (y ∷ ys) h (inl e) = subst P (sym e) h.0
Each-at P x (y ∷ ys) h (inr i) = Each-at P x ys h.1 i

pub Each-get : {A : Type 0} (P : A → Type 0) (xs : List A) (k : ℕ) (x : A) → Each P xs → slice_get xs k ≡ Some x → P x
Each-get P [] k x h e = cc
Each-get P (y ∷ ys) zero x h e = let same : y ≡ x = cc in subst P same h.0
Each-get P (y ∷ ys) (suc k) x h e = Each-get P ys k x h.1 e

-- what stands at a place is in the list
pub get-in : {A : Type 0} (xs : List A) (k : ℕ) (x : A) → slice_get xs k ≡ Some x → In x xs
get-in [] k x e = cc
get-in (y ∷ ys) zero x e = inl (same_Some x y (sym e))
get-in (y ∷ ys) (suc k) x e = inr (get-in ys k x e)

-- what is in a list stands at a place
pub in-get : {A : Type 0} (xs : List A) (x : A) → In x xs → (k : ℕ) × (slice_get xs k ≡ Some x)
in-get [] x h = absurd h
in-get (y ∷ ys) x (inl e) = (0, ap Some (sym e))
in-get (y ∷ ys) x (inr h) = let k = in-get ys x h in (suc k.0, k.1)
