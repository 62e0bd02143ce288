-- A text that grows by a line.
use Rattle.std.proofs.Common.{◌≡◌, ℕ, List, [], ◌∷◌, ◌++◌, map, refl, ap, sym, ◌∙◌, append_assoc}
use Rattle.model_rosters.specs.declared.grammar.Grammar.{Grammar}
use Rattle.model_rosters.specs.declared.grammar.Step.{Step}
use Rattle.text_lines.specs.Written.{written, spaced}
use Rattle.text_answers.specs.TreeText.{tree_text, tree_lines, use_line}

-- lines one after another
pub written-append : (xs ys : List (List (List ℕ))) → written (xs ++ ys) ≡ written xs ++ written ys
written-append [] ys = refl
written-append (x ∷ xs) ys =
    ap (λ t. spaced x ++ 10 ∷ t) (written-append xs ys) ∙ sym (append_assoc (spaced x) (10 ∷ written xs) (written ys))

map-push : {A B : Type 0} (f : A → B) (xs : List A) (y : A) → map f (xs ++ y ∷ []) ≡ map f xs ++ f y ∷ []
map-push f [] y = refl
map-push f (x ∷ xs) y = ap (λ t. f x ∷ t) (map-push f xs y)

-- one more step is one more line
pub tree_text-push : (g : Grammar) (word : List ℕ) (cost : ℕ) (steps : List Step) (step : Step)
    → tree_text g word cost (steps ++ step ∷ []) ≡ tree_text g word cost steps ++ written (use_line g step ∷ [])
tree_text-push g word cost steps step =
    ap (λ ls. written (tree_lines g word cost [] ++ ls)) (map-push (use_line g) steps step)
    ∙ written-append (tree_lines g word cost steps) (use_line g step ∷ [])
