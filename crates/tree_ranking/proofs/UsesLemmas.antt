-- The order of lists of rule uses, and of candidates.
use Rattle.std.proofs.Common.{◌≡◌, ℕ, ℤ, ◌<ℤ◌, List, [], ◌∷◌, ◌++◌, arith, refl, ap, ◌∙◌, ◌⊎◌, inl, inr}
use Rattle.std.proofs.lemmas.Int.{ints}
use Rattle.model_rosters.specs.declared.grammar.Step.{Step}
use Rattle.model_rosters.specs.Arcs.{ComesFirst}
use Rattle.model_rosters.proofs.ComesFirstLemmas.{first_through, first_one_way}
use Rattle.tree_ranking.specs.declared.candidate.Candidate.{Candidate}
use Rattle.tree_ranking.specs.declared.ranking.Ranked.{Ranked}
use Rattle.tree_ranking.specs.Ranking.{use_numbers, UsesBefore, RankedBefore}
use Rattle.tree_ranking.specs.Candidates.{IsApart, Comes, Precedes}

numbers-append : (ss ts : List Step) → use_numbers (ss ++ ts) ≡ use_numbers ss ++ use_numbers ts
numbers-append [] ts = refl
numbers-append (s ∷ ss) ts = ap (λ ns. s.rule ∷ s.start ∷ s.len ∷ ns) (numbers-append ss ts)

first_extends : (xs ys us vs : List ℕ) → ComesFirst xs ys → ComesFirst (xs ++ us) (ys ++ vs)
first_extends [] ys us vs h = absurd h
first_extends (x ∷ xs) [] us vs h = absurd h
first_extends (x ∷ xs) (y ∷ ys) us vs (inl h) = inl h
first_extends (x ∷ xs) (y ∷ ys) us vs (inr h) = inr (h.0, first_extends xs ys us vs h.1)

first_under : (us xs ys : List ℕ) → ComesFirst xs ys → ComesFirst (us ++ xs) (us ++ ys)
first_under [] xs ys h = h
first_under (u ∷ us) xs ys h = inr (refl, first_under us xs ys h)

-- what comes before stays before, however both go on
pub uses-extend : (ss ts us vs : List Step) → UsesBefore ss ts → UsesBefore (ss ++ us) (ts ++ vs)
uses-extend ss ts us vs h =
    rw (numbers-append ss us, numbers-append ts vs) (first_extends (use_numbers ss) (use_numbers ts) (use_numbers us) (use_numbers vs) h)

-- and after the same beginning
pub uses-under : (us ss ts : List Step) → UsesBefore ss ts → UsesBefore (us ++ ss) (us ++ ts)
uses-under us ss ts h =
    rw (numbers-append us ss, numbers-append us ts) (first_under (use_numbers us) (use_numbers ss) (use_numbers ts) h)

pub uses-through : (ss ts us : List Step) → UsesBefore ss ts → UsesBefore ts us → UsesBefore ss us
uses-through ss ts us h k = first_through (use_numbers ss) (use_numbers ts) (use_numbers us) h k

pub uses_one_way : (ss ts : List Step) → UsesBefore ss ts → UsesBefore ts ss → ⊥
uses_one_way ss ts h k = first_one_way (use_numbers ss) (use_numbers ts) h k

pub apart-swap : (ss ts : List Step) → IsApart ss ts → IsApart ts ss
apart-swap ss ts (inl h) = inr h
apart-swap ss ts (inr h) = inl h

pub apart-extend : (ss ts us vs : List Step) → IsApart ss ts → IsApart (ss ++ us) (ts ++ vs)
apart-extend ss ts us vs (inl h) = inl (uses-extend ss ts us vs h)
apart-extend ss ts us vs (inr h) = inr (uses-extend ts ss vs us h)

first_left : (xs ys us : List ℕ) → ComesFirst xs ys → ComesFirst (xs ++ us) ys
first_left [] ys us h = absurd h
first_left (x ∷ xs) [] us h = absurd h
first_left (x ∷ xs) (y ∷ ys) us (inl h) = inl h
first_left (x ∷ xs) (y ∷ ys) us (inr h) = inr (h.0, first_left xs ys us h.1)

first_right : (xs ys vs : List ℕ) → ComesFirst xs ys → ComesFirst xs (ys ++ vs)
first_right [] ys vs h = absurd h
first_right (x ∷ xs) [] vs h = absurd h
first_right (x ∷ xs) (y ∷ ys) vs (inl h) = inl h
first_right (x ∷ xs) (y ∷ ys) vs (inr h) = inr (h.0, first_right xs ys vs h.1)

-- however one of them goes on
pub uses-extend_left : (ss ts us : List Step) → UsesBefore ss ts → UsesBefore (ss ++ us) ts
uses-extend_left ss ts us h = rw (numbers-append ss us) (first_left (use_numbers ss) (use_numbers ts) (use_numbers us) h)

pub uses-extend_right : (ss ts us : List Step) → UsesBefore ss ts → UsesBefore ss (ts ++ us)
uses-extend_right ss ts us h = rw (numbers-append ts us) (first_right (use_numbers ss) (use_numbers ts) (use_numbers us) h)

pub apart-extend_left : (ss ts us : List Step) → IsApart ss ts → IsApart (ss ++ us) ts
apart-extend_left ss ts us (inl h) = inl (uses-extend_left ss ts us h)
apart-extend_left ss ts us (inr h) = inr (uses-extend_right ts ss us h)

-- between two that are apart, the order of the keys goes through a third
before-through : (x y z : ℤ) (ss ts us : List Step) → (x <ℤ y) ⊎ ((x ≡ y) × UsesBefore ss ts) → (y <ℤ z) ⊎ ((y ≡ z) × UsesBefore ts us)
    → (x <ℤ z) ⊎ ((x ≡ z) × UsesBefore ss us)
before-through x y z ss ts us (inl a) (inl b) = inl (omega (arith, ints, a, b))
before-through x y z ss ts us (inl a) (inr b) = inl (omega (arith, ints, a, b.0))
before-through x y z ss ts us (inr a) (inl b) = inl (omega (arith, ints, a.0, b))
before-through x y z ss ts us (inr a) (inr b) = inr (a.0 ∙ b.0, uses-through ss ts us a.1 b.1)

pub comes-through : (c d e : Candidate) → IsApart c.steps e.steps → Comes c d → Comes d e → Comes c e
comes-through c d e apart h k = record { apart = apart; before = before-through c.sum d.sum e.sum c.steps d.steps e.steps h.before k.before }

pub precedes-through : (c d : Candidate) (r : Ranked) → Comes c d → Precedes d r → Precedes c r
precedes-through c d r h k = before-through c.sum d.sum r.sum c.steps d.steps r.tree h.before k

pub ranked-through : (a b c : Ranked) → RankedBefore a b → RankedBefore b c → RankedBefore a c
ranked-through a b c h k = before-through a.sum b.sum c.sum a.tree b.tree c.tree h k
