-- Bytes of the texts are escaped.
use Rattle.std.proofs.Common.{◌≡◌, ◌≢◌, ℕ, ◌<◌, List, [], ◌∷◌, ◌++◌, refl, sym, arith, inl, inr}
use Rattle.std.proofs.lemmas.Bool.Decides.{eqb_tells}
use Rattle.std.specs.List.{flat_map}
use Rattle.std.specs.Prelude.{codes}
use Rattle.model_rosters.specs.Folds.{Each, In}
use Rattle.page_parts.specs.Elements.{escaped}
use Rattle.page_parts.specs.Escapes.{references, BeginWithReference, IsNoMark, AreEscaped}

-- what one byte becomes: a reference, or itself
data IsEscape (b : ℕ) : List ℕ → Type 0 where
  reference : (tail : List ℕ) → In (38 ∷ tail) references → Each IsNoMark (38 ∷ tail) → Each (λ c. c ≢ 38) tail → IsEscape b (38 ∷ tail)
  itself : IsNoMark b → b ≢ 38 → IsEscape b (b ∷ [])

letter : (n : ℕ) → 62 < n → IsNoMark n
letter n h = record { less = λ e. absurd (omega arith); greater = λ e. absurd (omega arith); double = λ e. absurd (omega arith); single = λ e. absurd (omega arith) }

-- a number sign, a percent sign or an ampersand
low : (n : ℕ) → 34 < n → n < 39 → IsNoMark n
low n h l = record { less = λ e. absurd (omega arith); greater = λ e. absurd (omega arith); double = λ e. absurd (omega arith); single = λ e. absurd (omega arith) }

-- a digit or a semicolon
digit : (n : ℕ) → 39 < n → n < 60 → IsNoMark n
digit n h l = record { less = λ e. absurd (omega arith); greater = λ e. absurd (omega arith); double = λ e. absurd (omega arith); single = λ e. absurd (omega arith) }

ampersand : IsNoMark 38
ampersand = low 38 (omega arith) (omega arith)

semicolon : IsNoMark 59
semicolon = digit 59 (omega arith) (omega arith)

above : (n : ℕ) → 38 < n → n ≢ 38
above n h e = absurd (omega arith)

below : (n : ℕ) → n < 38 → n ≢ 38
below n h e = absurd (omega arith)

l : IsNoMark 108
l = letter 108 (omega arith)

t : IsNoMark 116
t = letter 116 (omega arith)

less : (b : ℕ) → IsEscape b (codes "&lt;")
less b = reference (codes "lt;") (inl refl) (ampersand, (l, (t, (semicolon, tt)))) (above 108 (omega arith), (above 116 (omega arith), (above 59 (omega arith), tt)))

greater : (b : ℕ) → IsEscape b (codes "&gt;")
greater b = reference (codes "gt;") (inr (inl refl)) (ampersand, (letter 103 (omega arith), (t, (semicolon, tt)))) (above 103 (omega arith), (above 116 (omega arith), (above 59 (omega arith), tt)))

amp : (b : ℕ) → IsEscape b (codes "&amp;")
amp b = reference (codes "amp;") (inr (inr (inl refl)))
    (ampersand, (letter 97 (omega arith), (letter 109 (omega arith), (letter 112 (omega arith), (semicolon, tt)))))
    (above 97 (omega arith), (above 109 (omega arith), (above 112 (omega arith), (above 59 (omega arith), tt))))

double : (b : ℕ) → IsEscape b (codes "&quot;")
double b = reference (codes "quot;") (inr (inr (inr (inl refl))))
    (ampersand, (letter 113 (omega arith), (letter 117 (omega arith), (letter 111 (omega arith), (t, (semicolon, tt))))))
    (above 113 (omega arith), (above 117 (omega arith), (above 111 (omega arith), (above 116 (omega arith), (above 59 (omega arith), tt)))))

single : (b : ℕ) → IsEscape b (codes "&#39;")
single b = reference (codes "#39;") (inr (inr (inr (inr (inl refl)))))
    (ampersand, (low 35 (omega arith) (omega arith), (digit 51 (omega arith) (omega arith), (digit 57 (omega arith) (omega arith), (semicolon, tt)))))
    (below 35 (omega arith), (above 51 (omega arith), (above 57 (omega arith), (above 59 (omega arith), tt))))

escape : (b : ℕ) → IsEscape b (escaped b)
escape b = elim (eqb_tells b 60) [
  | inl h ↦ rw h.0 (less b)
  | inr h ↦ rw h.0 (elim (eqb_tells b 62) [
    | inl i ↦ rw i.0 (greater b)
    | inr i ↦ rw i.0 (elim (eqb_tells b 38) [
      | inl j ↦ rw j.0 (amp b)
      | inr j ↦ rw j.0 (elim (eqb_tells b 34) [
        | inl k ↦ rw k.0 (double b)
        | inr k ↦ rw k.0 (elim (eqb_tells b 39) [
          | inl m ↦ rw m.0 (single b)
          | inr m ↦ rw m.0 (itself (record { less = h.1; greater = i.1; double = k.1; single = m.1 }) j.1)
        ])
      ])
    ])
  ])
]

each_append : (xs ys : List ℕ) → Each IsNoMark xs → Each IsNoMark ys → Each IsNoMark (xs ++ ys)
each_append [] ys h k = k
each_append (x ∷ xs) ys h k = (h.0, each_append xs ys h.1 k)

no_mark_of : (b : ℕ) (es : List ℕ) → IsEscape b es → Each IsNoMark es
no_mark_of b es (reference tail listed quiet others) = quiet
no_mark_of b es (itself quiet other) = (quiet, tt)

no_marks : (bs : List ℕ) → Each IsNoMark (flat_map escaped bs)
no_marks [] = tt
no_marks (b ∷ bs) = each_append (escaped b) (flat_map escaped bs) (no_mark_of b (escaped b) (escape b)) (no_marks bs)

-- an ampersand behind bytes that are none
behind : (tail more front rest : List ℕ) → Each (λ c. c ≢ 38) tail → tail ++ more ≡ front ++ 38 ∷ rest → (f : List ℕ) × (more ≡ f ++ 38 ∷ rest)
behind [] more front rest h e = (front, e)
behind (x ∷ xs) more [] rest h e = let same : x ≡ 38 = cc in absurd (h.0 same)
behind (x ∷ xs) more (f ∷ fs) rest h e = let same : xs ++ more ≡ fs ++ 38 ∷ rest = cc in behind xs more fs rest h.1 same

-- an ampersand in what one byte becomes, or behind it
at : (b : ℕ) (es more : List ℕ) → IsEscape b es → ((front rest : List ℕ) → more ≡ front ++ 38 ∷ rest → BeginWithReference (38 ∷ rest))
    → (front rest : List ℕ) → es ++ more ≡ front ++ 38 ∷ rest → BeginWithReference (38 ∷ rest)
at b es more (reference tail listed quiet others) later [] rest e =
    record { reference = 38 ∷ tail; rest = more; listed = listed; whole = sym e }
at b es more (reference tail listed quiet others) later (f ∷ fs) rest e =
    let same : tail ++ more ≡ fs ++ 38 ∷ rest = cc in
    let next = behind tail more fs rest others same in
    later next.0 rest next.1
at b es more (itself quiet other) later [] rest e = let same : b ≡ 38 = cc in absurd (other same)
at b es more (itself quiet other) later (f ∷ fs) rest e = let same : more ≡ fs ++ 38 ∷ rest = cc in later fs rest same

ampersands : (bs front rest : List ℕ) → flat_map escaped bs ≡ front ++ 38 ∷ rest → BeginWithReference (38 ∷ rest)
ampersands [] [] rest e = absurd (cc)
ampersands [] (f ∷ fs) rest e = absurd (cc)
ampersands (b ∷ bs) front rest e = at b (escaped b) (flat_map escaped bs) (escape b) (ampersands bs) front rest e

pub are_escaped : (bs : List ℕ) → AreEscaped (flat_map escaped bs)
are_escaped bs = record { no_mark = no_marks bs; ampersands = ampersands bs }
