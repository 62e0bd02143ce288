-- Lines of one item more.
use Rattle.std.proofs.Common.{◌≡◌, ℕ, ◌+◌, ◌<◌, ◌≤◌, List, [], ◌∷◌, ◌++◌, length, take, get_or, append_assoc, append-nil, arith, refl, sym, ap, subst, ◌∙◌}
use Rattle.std.proofs.lemmas.List.{take_more, take_all, length-take-le}
use Rattle.text_lines.specs.Written.{written}
use Rattle.text_lines.proofs.WrittenLemmas.{written_append}
use Rattle.tree_questions.specs.Lines.{Line, AddsLines, AreLines}

module _ {A : Type 0} (Says : ℕ → A → List Line → Type 0) where
  pub lines-more : (k : ℕ) (xs : List A) (x : A) (ls own : List Line) → AreLines Says k xs ls → Says (k + length xs) x own → AreLines Says k (xs ++ x ∷ []) (ls ++ own)
  lines-more k [] x ls own h s =
      let e : k + 0 ≡ k = omega arith in
      (own, [], subst (λ (n : ℕ). Says n x own) e s, refl, ap (λ (l : List Line). l ++ own) h ∙ sym (append-nil own))
  lines-more k (y ∷ ys) x ls own h s =
      let e : k + length (y ∷ ys) ≡ k + 1 + length ys = omega arith in (
        h.0,
        h.1 ++ own,
        h.2,
        lines-more (k + 1) ys x h.1 own h.3 (subst (λ (n : ℕ). Says n x own) e s),
        ap (λ (l : List Line). l ++ own) h.4 ∙ append_assoc h.0 h.1 own,
      )

  pub lines-none : ((j : ℕ) (x : A) → Says j x []) → (k : ℕ) (xs : List A) → AreLines Says k xs []
  lines-none h k [] = refl
  lines-none h k (x ∷ xs) = ([], [], h k x, lines-none h (k + 1) xs, refl)

  -- the lines of no item yet
  pub added-none : (k : ℕ) (xs : List A) (old new : List ℕ) → new ≡ old → AddsLines Says k (take 0 xs) old new
  added-none k xs old new e = record { lines = []; each = refl; text = e ∙ sym (append-nil old) }

  -- the lines of one item more
  pub added-more : (k i : ℕ) (xs : List A) (d x : A) (old mid new : List ℕ) → i < length xs → get_or xs i d ≡ x → AddsLines Says k (take i xs) old mid
      → (own : List Line) × Says (k + i) x own × (new ≡ mid ++ written own) → AddsLines Says k (take (i + 1) xs) old new
  added-more k i xs d x old mid new lt is h s =
      let size : i ≡ length (take i xs) = sym (length-take-le i xs (omega (arith, lt))) in
      let says = subst (λ (n : ℕ). Says (k + n) x s.0) size s.1 in
      let more = lines-more k (take i xs) x h.lines s.0 h.each says in
      let front : take i xs ++ x ∷ [] ≡ take (i + 1) xs = sym (take_more xs i d lt ∙ ap (λ (y : A). take i xs ++ y ∷ []) is) in
      record {
        lines = h.lines ++ s.0;
        each = subst (λ (ys : List A). AreLines Says k ys (h.lines ++ s.0)) front more;
        text = s.2 ∙ ap (λ (t : List ℕ). t ++ written s.0) h.text ∙ append_assoc old (written h.lines) (written s.0) ∙ ap (λ (t : List ℕ). old ++ t) (sym (written_append h.lines s.0));
      }

  -- the lines of all items
  pub added-all : (k : ℕ) (xs : List A) (n : ℕ) (old new : List ℕ) → length xs ≤ n → AddsLines Says k (take n xs) old new → AddsLines Says k xs old new
  added-all k xs n old new le h = subst (λ (ys : List A). AddsLines Says k ys old new) (take_all n xs le) h

  module _ (Other : ℕ → A → List Line → Type 0) (f : (j : ℕ) (x : A) (own : List Line) → Says j x own → Other j x own) where
    pub lines-other : (k : ℕ) (xs : List A) (ls : List Line) → AreLines Says k xs ls → AreLines Other k xs ls
    lines-other k [] ls h = h
    lines-other k (x ∷ xs) ls h = (h.0, h.1, f k x h.0 h.2, lines-other (k + 1) xs h.1 h.3, h.4)

    pub added-other : (k : ℕ) (xs : List A) (old new : List ℕ) → AddsLines Says k xs old new → AddsLines Other k xs old new
    added-other k xs old new h = record { lines = h.lines; each = lines-other k xs h.lines h.each; text = h.text }

-- written lines are no empty text
pub some-text : (ls : List Line) → written ls ≡ [] → ls ≡ []
some-text [] e = refl
some-text (l ∷ ls) e = absurd (by l e)
  where
    ends : (xs ys : List ℕ) → xs ++ 10 ∷ ys ≡ [] → ⊥
    ends [] ys e = cc
    ends (x ∷ xs) ys e = cc

    by : (l : Line) → written (l ∷ ls) ≡ [] → ⊥
    by l e = ends _ (written ls) e
