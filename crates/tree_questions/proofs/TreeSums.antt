-- Under prices of bytes the sum of a tree is that of its word's letters and of its rule uses.
use Rattle.std.proofs.Common.{◌≡◌, ℕ, zero, suc, ℤ, pos, ◌+◌, ◌<◌, Option, None, Some, List, [], ◌∷◌, ◌++◌, length, arith, refl, sym, ap, ◌∙◌}
use Rattle.std.specs.Prelude.{slice_get}
use Rattle.std.proofs.lemmas.Int.{ints}
use Rattle.std.proofs.lemmas.List.{append-nil}
use Rattle.model_rosters.specs.declared.grammar.CodeDef.{CodeDef}
use Rattle.model_rosters.specs.declared.grammar.Grammar.{Grammar}
use Rattle.model_rosters.specs.declared.grammar.Rule.{Rule}
use Rattle.model_rosters.specs.declared.grammar.Sym.{Sym}
use Rattle.model_rosters.specs.declared.grammar.Sym.TheVariants.{Code, Name}
use Rattle.model_rosters.specs.Grammar.{rule_at}
use Rattle.model_rosters.specs.Folds.{sum_n}
use Rattle.model_rosters.specs.Arcs.{used_rules}
use Rattle.model_rosters.specs.Sound.{Exists, IsSound}
use Rattle.model_rosters.specs.Sums.{arc_sum, parts_sum, tree_sum, plus}
use Rattle.model_rosters.specs.Trees.{Parts, done, letter, uses, Derive, byte_of, word, IsTreeOf}
use Rattle.model_rosters.proofs.EachLemmas.{all_each}
use Rattle.model_rosters.proofs.tree_laws.Rules.{sound-rule}
use Rattle.model_rosters.proofs.word_prices.Costs.{sum_n-append, Are, length-word, some_at}
use Rattle.tree_questions.specs.Prices.{byte_view, code_price}

-- the sum of the letters of a word that begins at period i
abbrev pub letters_sum : (ℕ → ℕ → Option ℤ) → ℕ → List ℕ → Option ℤ
letters_sum price i [] = Some (pos 0)
letters_sum price i (b ∷ bs) = plus (price i b) (letters_sum price (i + 1) bs)

-- ---- sums that may be none

zero-plus : (x : Option ℤ) → plus (Some (pos 0)) x ≡ x
zero-plus None = refl
zero-plus (Some a) = ap (λ (z : ℤ). Some z) (omega (arith, ints))

plus-assoc : (x y z : Option ℤ) → plus (plus x y) z ≡ plus x (plus y z)
plus-assoc None y z = refl
plus-assoc (Some a) None z = refl
plus-assoc (Some a) (Some b) None = refl
plus-assoc (Some a) (Some b) (Some c) = ap (λ (z : ℤ). Some z) (omega (arith, ints))

one_letter : (a l n : Option ℤ) → plus a (plus (Some (pos 0)) (plus l n)) ≡ plus (plus a l) n
one_letter a l n = ap (λ (x : Option ℤ). plus a x) (zero-plus (plus l n)) ∙ sym (plus-assoc a l n)

one_use : (k l : Option ℤ) (q a b m : ℕ) → m ≡ q + (a + b)
    → plus (plus (Some (pos q)) (plus k (Some (pos a)))) (plus (Some (pos 0)) (plus l (Some (pos b)))) ≡ plus (plus k l) (Some (pos m))
one_use None l q a b m e = refl
one_use (Some x) None q a b m e = refl
one_use (Some x) (Some y) q a b m e = ap (λ (z : ℤ). Some z) (omega (arith, ints, e))

one_root : (k : Option ℤ) (q a m : ℕ) → m ≡ q + a → plus (Some (pos q)) (plus k (Some (pos a))) ≡ plus k (Some (pos m))
one_root None q a m e = refl
one_root (Some x) q a m e = ap (λ (z : ℤ). Some z) (omega (arith, ints, e))

letters_sum-append : (price : ℕ → ℕ → Option ℤ) (xs ys : List ℕ) (i : ℕ)
    → letters_sum price i (xs ++ ys) ≡ plus (letters_sum price i xs) (letters_sum price (i + length xs) ys)
letters_sum-append price [] ys i =
    let e : i ≡ i + 0 = omega arith in
    ap (λ (n : ℕ). letters_sum price n ys) e ∙ sym (zero-plus (letters_sum price (i + 0) ys))
letters_sum-append price (x ∷ xs) ys i =
    let e : i + 1 + length xs ≡ i + length (x ∷ xs) = omega arith in
    ap (λ (s : Option ℤ). plus (price i x) s) (letters_sum-append price xs ys (i + 1))
    ∙ sym (plus-assoc (price i x) (letters_sum price (i + 1) xs) (letters_sum price (i + 1 + length xs) ys))
    ∙ ap (λ (n : ℕ). plus (plus (price i x) (letters_sum price (i + 1) xs)) (letters_sum price n ys)) e

-- ---- symbols that exist

pub code-at : (g : Grammar) (c : ℕ) → c < length g.codes → (d : CodeDef) × (slice_get g.codes c ≡ Some d)
code-at g c h = some_at g.codes c h

pub spelled-by : (g : Grammar) (c : ℕ) (d : CodeDef) → slice_get g.codes c ≡ Some d → byte_of g c ≡ d.byte ∷ []
spelled-by g c d at = ap (λ (o : Option CodeDef). elim o as (λ v. List ℕ) [ None ↦ [] | Some d ↦ d.byte ∷ [] ]) at

module _ (g : Grammar) (sound : IsSound g) where
  pub right-are : (r : ℕ) (rule : Rule) → rule_at g r ≡ Some rule → Are g sound rule.right
  right-are r rule at = all_each (Exists (length g.codes) (length g.names)) rule.right (sound-rule g sound r rule at).symbols

  -- ---- sums of trees

  module _ (price : ℕ → ℕ → Option ℤ) (rules : ℕ → ℕ) where
    free_arc : (r k i s : ℕ) (t : Parts) → arc_sum (byte_view g price rules) r k i s t ≡ pos 0
    free_arc r zero i s t = refl
    free_arc r (suc k) i s done = refl
    free_arc r (suc k) i s (letter c rest) = refl
    free_arc r (suc k) i s (uses q n inner rest) = refl

    pub parts-summed : (t : Parts) (r k i : ℕ) (ss : List Sym) → Are g sound ss → Derive g ss i t
        → parts_sum (byte_view g price rules) r k i t ≡ plus (letters_sum price i (word g t)) (Some (pos (sum_n rules (used_rules t))))
    parts-summed done r k i ss v d = refl
    parts-summed (letter c rest) r k i [] v d = absurd d
    parts-summed (letter c rest) r k i (Name x ∷ ss) v d = absurd d
    parts-summed (letter c rest) r k i (Code x ∷ ss) v d =
        let here : c < length g.codes = rw (← d.0) v.0 in
        let def = code-at g c here in
        let ih = parts-summed rest r (suc k) (i + 1) ss v.1 d.1 in
        let own : code_price price (slice_get g.codes c) i ≡ price i def.0.byte = ap (λ (o : Option CodeDef). code_price price o i) def.1 in
        rw (own, free_arc r k i 1 rest, ih, spelled-by g c def.0 def.1)
        (one_letter (price i def.0.byte) (letters_sum price (i + 1) (word g rest)) (Some (pos (sum_n rules (used_rules rest)))))
    parts-summed (uses q n inner rest) r k i [] v d = absurd d
    parts-summed (uses q n inner rest) r k i (Code x ∷ ss) v d = absurd d
    parts-summed (uses q n inner rest) r k i (Name x ∷ ss) v d =
        let own = parts-summed inner q 0 i d.0.right (right-are q d.0 d.1) d.6 in
        let ih = parts-summed rest r (suc k) (i + n) ss v.1 d.7 in
        let long : length (word g inner) ≡ n = length-word g sound inner i d.0.right (right-are q d.0 d.1) d.6 ∙ d.5 in
        let joined = letters_sum-append price (word g inner) (word g rest) i in
        let count = sum_n-append rules (used_rules inner) (used_rules rest) in
        rw (own, free_arc r k i n rest, ih, joined, long)
        (one_use (letters_sum price i (word g inner)) (letters_sum price (i + n) (word g rest)) (rules q) (sum_n rules (used_rules inner)) (sum_n rules (used_rules rest))
        (sum_n rules (used_rules (uses q n inner rest))) (omega (arith, count)))

    -- the sum of a tree
    pub tree-summed : (x : ℕ) (t : Parts) → IsTreeOf g x t
        → tree_sum (byte_view g price rules) 1 t ≡ plus (letters_sum price 1 (word g t)) (Some (pos (sum_n rules (used_rules t))))
    tree-summed x done d = absurd d.0
    tree-summed x (letter c rest) d = absurd d.0
    tree-summed x (uses q n inner (letter c rest)) d = absurd d.0.7
    tree-summed x (uses q n inner (uses q' n' inner' rest)) d = absurd d.0.7
    tree-summed x (uses q n inner done) d =
        let own = parts-summed inner q 0 1 d.0.0.right (right-are q d.0.0 d.0.1) d.0.6 in
        let count = sum_n-append rules (used_rules inner) [] in
        let whole = append-nil (word g inner) in
        rw (own, whole)
        (one_root (letters_sum price 1 (word g inner)) (rules q) (sum_n rules (used_rules inner)) (sum_n rules (used_rules (uses q n inner done))) (omega (arith, count)))
