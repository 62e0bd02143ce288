-- Numbers in order of first appearance.
use Rattle.std.proofs.Common.{◌≡◌, ℕ, ◌+◌, max, List, [], ◌∷◌, ◌++◌, refl, ap}
use Rattle.model_rosters.specs.declared.grammar.Sym.{Sym}
use Rattle.model_rosters.specs.declared.grammar.Sym.TheVariants.{Code, Name}
use Rattle.model_rosters.specs.Sound.{AreInOrder, names_of}
use Rattle.text_rules.specs.Drafts.{known_after}

pub order-append : (m : ℕ) (xs ys : List ℕ) → AreInOrder m xs → AreInOrder (known_after m xs) ys → AreInOrder m (xs ++ ys)
order-append m [] ys h k = k
order-append m (x ∷ xs) ys h k = (h.0, order-append (max m (x + 1)) xs ys h.1 k)

pub order-parts : (m : ℕ) (xs ys : List ℕ) → AreInOrder m (xs ++ ys) → AreInOrder m xs × AreInOrder (known_after m xs) ys
order-parts m [] ys h = (tt, h)
order-parts m (x ∷ xs) ys h = let more = order-parts (max m (x + 1)) xs ys h.1 in ((h.0, more.0), more.1)

pub known-append : (m : ℕ) (xs ys : List ℕ) → known_after m (xs ++ ys) ≡ known_after (known_after m xs) ys
known-append m [] ys = refl
known-append m (x ∷ xs) ys = known-append (max m (x + 1)) xs ys

pub names-append : (ss ts : List Sym) → names_of (ss ++ ts) ≡ names_of ss ++ names_of ts
names-append [] ts = refl
names-append (Code c ∷ ss) ts = names-append ss ts
names-append (Name x ∷ ss) ts = ap (λ (l : List ℕ). x ∷ l) (names-append ss ts)
