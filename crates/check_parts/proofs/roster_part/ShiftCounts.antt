-- Counts and sums over stated shifts and cells.
use Rattle.std.proofs.Common.{◌≡◌, ℕ, ◌+◌, ◌<◌, ◌≤◌, arith, cond, Bool, true, false, count_by, List, [], ◌∷◌, length, map, get_or, drop, ap, refl, ◌∙◌}
use Rattle.std.specs.Prelude.{nat_eq}
use Rattle.std.proofs.lemmas.List.{at_drop_more, drop_all}
use Rattle.std.proofs.lemmas.List.Sums.{sum_by-cons}
use Rattle.model_rosters.specs.declared.grammar.Grammar.{Grammar}
use Rattle.model_rosters.specs.declared.instance.Cell.{Cell}
use Rattle.model_rosters.specs.declared.instance.Shift.{Shift}
use Rattle.model_rosters.specs.Coverage.{covered, covers_cell}
use Rattle.model_rosters.specs.Duties.{Duty, duty}
use Rattle.model_rosters.specs.Folds.{count, sum_n}
use Rattle.check_certificates.specs.RosterCauses.{duties}

pub members-are : (n : ℕ) (ss : List Shift) → count_by (λ (s : Shift). nat_eq s.group n) ss ≡ count (λ (d : Duty). nat_eq d.team n) (map duty ss)
members-are n [] = refl
members-are n (s ∷ ss) =
    sum_by-cons (λ (x : Shift). cond (nat_eq x.group n) 1 0) s ss ∙ ap (λ (m : ℕ). cond (nat_eq s.group n) 1 0 + m) (members-are n ss)

pub count-few : {A : Type 0} (p : A → Bool) (xs : List A) → count p xs ≤ length xs
count-few p [] = omega arith
count-few p (x ∷ xs) = one (p x) (count-few p xs)
  where
    one : (b : Bool) → count p xs ≤ length xs → cond b 1 0 + count p xs ≤ length (x ∷ xs)
    one true h = omega arith
    one false h = omega arith

pub length-duties : (ss : List Shift) → length (map duty ss) ≡ length ss
length-duties [] = refl
length-duties (s ∷ ss) = omega (arith, length-duties ss)

-- no more employees work at a cell than there are
pub covered-few : (g : Grammar) (c : Cell) (ss : List Shift) → covered g c (duties ss) ≤ length ss
covered-few g c ss = omega (arith, count-few (λ (d : Duty). covers_cell g c d.word) (map duty ss), length-duties ss)

-- the sum over the cells from place k on
abbrev pub rest_cells : (Cell → ℕ) → List Cell → ℕ → ℕ
rest_cells f cs k = sum_n f (drop k cs)

pub cells-next : (f : Cell → ℕ) (cs : List Cell) (k : ℕ) (d : Cell) → k < length cs → rest_cells f cs k ≡ f (get_or cs k d) + rest_cells f cs (k + 1)
cells-next f cs k d l = at_drop_more (λ (xs : List Cell). sum_n f xs) cs k d l

pub cells-end : (f : Cell → ℕ) (cs : List Cell) (k : ℕ) → length cs ≤ k → rest_cells f cs k ≡ 0
cells-end f cs k l = ap (λ (xs : List Cell). sum_n f xs) (drop_all k cs l)
