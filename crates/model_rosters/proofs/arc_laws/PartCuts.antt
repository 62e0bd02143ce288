-- How an arc cuts its span.
use Rattle.std.proofs.Common.{◌≡◌, ℕ, ◌<◌, ◌≤◌, ◌-◌, List, [], ◌∷◌}
use Rattle.model_rosters.specs.declared.grammar.Sym.{Sym}
use Rattle.model_rosters.specs.declared.grammar.Sym.TheVariants.{Code, Name}

-- a letter spans one period
abbrev pub Fits : Sym → ℕ → Type 0
Fits (Code c) l = l ≡ 1
Fits (Name x) l = Unit {0}

-- so does a last one
abbrev pub LastFits : List Sym → ℕ → Type 0
LastFits [] l = Unit {0}
LastFits (s ∷ []) l = Fits s l
LastFits (s ∷ x ∷ ss) l = Unit {0}

-- the only symbol is the whole right side and the part all of the span, or others follow the first part
abbrev pub IsCut : ℕ → List Sym → ℕ → ℕ → Type 0
IsCut k [] l m = ⊥
IsCut k (s ∷ []) l m = (k ≡ 0) × (m ≡ l) × Fits s l
IsCut k (s ∷ x ∷ ss) l m = (1 ≤ m) × (m < l) × Fits s m × LastFits (x ∷ ss) (l - m)
