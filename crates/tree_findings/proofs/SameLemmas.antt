-- Right sides, symbol by symbol.
use Rattle.std.proofs.Common.{◌≡◌, ℕ, arith, ◌+◌, ◌<◌, List, length, get_or, sym, subst, ◌∙◌, ◌⊎◌, inl, inr}
use Rattle.std.proofs.lemmas.Option.{same_Some, slice_get-get_or}
use Rattle.model_rosters.specs.declared.grammar.Sym.{Sym}
use Rattle.model_rosters.specs.declared.grammar.Sym.TheVariants.{Code}

-- whatever stands for a symbol that is not there
default_free : (xs : List Sym) (n : ℕ) (c d : Sym) → n < length xs → get_or xs n c ≡ get_or xs n d
default_free xs n c d l = same_Some (get_or xs n c) (get_or xs n d) (sym (slice_get-get_or xs n c l) ∙ slice_get-get_or xs n d l)

-- one symbol more is the same
pub same-next : (xs ys : List Sym) (n : ℕ) → ((k : ℕ) (d : Sym) → k < n → get_or xs k d ≡ get_or ys k d) → n < length xs → n < length ys → get_or xs n (Code 0) ≡ get_or ys n (Code 0)
    → (k : ℕ) (d : Sym) → k < n + 1 → get_or xs k d ≡ get_or ys k d
same-next xs ys n f lx ly e k d l = by (last l)
  where
    last : k < n + 1 → (k < n) ⊎ (k ≡ n)
    last l = grind arith

    by : (k < n) ⊎ (k ≡ n) → get_or xs k d ≡ get_or ys k d
    by (inl m) = f k d m
    by (inr same) = subst (λ (j : ℕ). get_or xs j d ≡ get_or ys j d) (sym same) (default_free xs n d (Code 0) lx ∙ e ∙ default_free ys n (Code 0) d ly)
