-- Names appear in rules in the order of their numbers.
use Rattle.std.proofs.Common.{◌≡◌, ℕ, zero, suc, ◌+◌, ◌<◌, ◌≤◌, Bool, true, false, ◌||◌, cond, max, Some, List, [], ◌∷◌, ◌++◌, length, map, take, slice_get, arith, refl, sym, ap, ◌∙◌, subst, length-append}
use Rattle.std.proofs.lemmas.List.{append_assoc}
use Rattle.std.proofs.Math.Nat.{max-eq_left, max-eq_right}
use Rattle.model_rosters.specs.declared.grammar.Rule.{Rule}
use Rattle.model_rosters.specs.Sound.{AreInOrder, appearances, names_of}
use Rattle.plan_laws.specs.Named.{NamedRule, Numbers, Symbol, coded, named, to_rule, to_sym}
use Rattle.plan_laws.specs.Names.{Kind}
use Rattle.plan_names.specs.Gathered.{has, place, with_all, with_new}
use Rattle.plan_names.specs.Same.{same}
use Rattle.plan_names.proofs.Gathering.{all_append, all_behind}
use Rattle.plan_names.proofs.SameNames.{own_same}
use Rattle.plan_rules.specs.Closed.{names_in, names_of_rules}

no_false : false ≡ true → ⊥
no_false e = cc

pub get_at : (js : List Kind) (k : Kind) (ks : List Kind) → slice_get (js ++ k ∷ ks) (length js) ≡ Some k
get_at [] k ks = refl
get_at (j ∷ js) k ks = get_at js k ks

pub get_left : (js ks : List Kind) (i : ℕ) → i < length js → slice_get (js ++ ks) i ≡ slice_get js i
get_left [] ks i within = absurd (omega (arith, within))
get_left (j ∷ js) ks zero within = refl
get_left (j ∷ js) ks (suc i) within = get_left js ks i (omega (arith, within))

pub take_left : (js ks : List Kind) → take (length js) (js ++ ks) ≡ js
take_left [] [] = refl
take_left [] (k ∷ ks) = refl
take_left (j ∷ js) ks = ap (λ (is : List Kind). j ∷ is) (take_left js ks)

pub one_behind : (js : List Kind) (k : Kind) (ks : List Kind) → js ++ k ∷ ks ≡ (js ++ k ∷ []) ++ ks
one_behind js k ks = sym (append_assoc js (k ∷ []) ks)

-- the place of what stands at the front, and of what does not
place_left : (y : Kind) (js ks : List Kind) → has same y js ≡ true → place same y (js ++ ks) < length js
place_left y [] ks e = absurd (no_false e)
place_left y (j ∷ js) ks e = go (same y j) e (place_left y js ks)
  where
    go : (v : Bool) → (v || has same y js) ≡ true → (has same y js ≡ true → place same y (js ++ ks) < length js)
        → cond v 0 (suc (place same y (js ++ ks))) < suc (length js)
    go true e more = omega arith
    go false e more = let m = more e in omega (arith, m)

place_behind : (y : Kind) (js ks : List Kind) → has same y js ≡ false → place same y (js ++ y ∷ ks) ≡ length js
place_behind y [] ks e = ap (λ (v : Bool). cond v 0 (suc (place same y ks))) (own_same y)
place_behind y (j ∷ js) ks e = go (same y j) e (place_behind y js ks)
  where
    go : (v : Bool) → (v || has same y js) ≡ false → (has same y js ≡ false → place same y (js ++ y ∷ ks) ≡ length js)
        → cond v 0 (suc (place same y (js ++ y ∷ ks))) ≡ suc (length js)
    go true e more = absurd (no_false (sym e))
    go false e more = ap suc (more e)

known_more : (n x : ℕ) → x < n → max n (x + 1) ≡ n
known_more n x h = max-eq_left (omega (arith, h))

known_new : (n : ℕ) → max n (n + 1) ≡ n + 1
known_new n = max-eq_right (omega arith)

-- the names of a right side as numbers
side_names : (num : Numbers Kind) (ss : List (Symbol Kind)) → names_of (map (to_sym num) ss) ≡ map num.name (names_in ss)
side_names num [] = refl
side_names num (coded c ∷ ss) = side_names num ss
side_names num (named k ∷ ss) = ap (λ (ns : List ℕ). num.name k ∷ ns) (side_names num ss)

module _ (ks : List Kind) where
  abbrev Known : List Kind → List ℕ → Type 0
  Known js ns = AreInOrder (length js) ns

  -- one name more, which is a new one or not
  new_known : (y : Kind) (js more : List Kind) → ks ≡ with_new same js y ++ more
      → (place same y ks ≤ length js) × (max (length js) (place same y ks + 1) ≡ length (with_new same js y))
  new_known y js more is = go (has same y js) refl is
    where
      go : (v : Bool) → has same y js ≡ v → ks ≡ cond v js (js ++ y ∷ []) ++ more
          → (place same y ks ≤ length js) × (max (length js) (place same y ks + 1) ≡ length (cond v js (js ++ y ∷ [])))
      go true e is =
          let at = ap (place same y) is in
          let before = place_left y js more e in
          let less : place same y ks < length js = omega (arith, at, before) in
          (omega (arith, less), known_more (length js) (place same y ks) less)
      go false e is =
          let at : place same y ks ≡ length js = ap (place same y) (is ∙ append_assoc js (y ∷ []) more) ∙ place_behind y js more e in
          let long = length-append js (y ∷ []) in
          (omega (arith, at), ap (λ (n : ℕ). max (length js) (n + 1)) at ∙ known_new (length js) ∙ sym long)

  names_known : (ys js rest : List Kind) (more : List ℕ) → ks ≡ with_all same js ys ++ rest → Known (with_all same js ys) more
      → Known js (map (λ (k : Kind). place same k ks) ys ++ more)
  names_known [] js rest more is later = later
  names_known (y ∷ ys) js rest more is later =
      let b = all_behind same (with_new same js y) ys in
      let one = new_known y js (b.0 ++ rest) (is ∙ ap (λ (zs : List Kind). zs ++ rest) b.1 ∙ append_assoc (with_new same js y) b.0 rest) in
      (one.0, subst (λ (n : ℕ). AreInOrder n (map (λ (k : Kind). place same k ks) ys ++ more)) (sym one.1) (names_known ys (with_new same js y) rest more is later))

  module _ (letter : ℕ → ℕ) where
    abbrev pub num : Numbers Kind
    num = record { letter = letter; name = λ k. place same k ks }

    -- the rules of a name that is known
    pub rules_known : (k : Kind) (rs : List (NamedRule Kind)) (js rest : List Kind) (later : List Rule) → has same k js ≡ true
        → ks ≡ with_all same js (names_of_rules rs) ++ rest → Known (with_all same js (names_of_rules rs)) (appearances later)
        → Known js (appearances (map (to_rule num k) rs ++ later))
    rules_known k [] js rest later old is more = more
    rules_known k (r ∷ rs) js rest later old is more =
        let all = all_append same js (names_in r.right) (names_of_rules rs) in
        let mid = with_all same js (names_in r.right) in
        let b = all_behind same js (names_in r.right) in
        let c = all_behind same mid (names_of_rules rs) in
        let is_mid : ks ≡ with_all same mid (names_of_rules rs) ++ rest = is ∙ ap (λ (zs : List Kind). zs ++ rest) all in
        let behind : ks ≡ mid ++ (c.0 ++ rest) = is_mid ∙ ap (λ (zs : List Kind). zs ++ rest) c.1 ∙ append_assoc mid c.0 rest in
        let front : ks ≡ js ++ (b.0 ++ (c.0 ++ rest)) = behind ∙ ap (λ (zs : List Kind). zs ++ (c.0 ++ rest)) b.1 ∙ append_assoc js b.0 (c.0 ++ rest) in
        let at = ap (place same k) front in
        let before = place_left k js (b.0 ++ (c.0 ++ rest)) old in
        let less : place same k ks < length js = omega (arith, at, before) in
        let still : has same k mid ≡ true = kept k js (names_in r.right) old in
        let tail = rules_known k rs mid rest later still is_mid (subst (λ (zs : List Kind). Known zs (appearances later)) all more) in
        let names = names_known (names_in r.right) js (c.0 ++ rest) (appearances (map (to_rule num k) rs ++ later)) behind tail in
        let side = subst (λ (ns : List ℕ). Known js (ns ++ appearances (map (to_rule num k) rs ++ later))) (sym (side_names num r.right)) names in
        (omega (arith, less), subst (λ (n : ℕ). AreInOrder n (names_of (map (to_sym num) r.right) ++ appearances (map (to_rule num k) rs ++ later))) (sym (known_more (length js) (place same k ks) less)) side)
      where
        kept : (k : Kind) (js ys : List Kind) → has same k js ≡ true → has same k (with_all same js ys) ≡ true
        kept k js ys e = let b = all_behind same js ys in ap (has same k) b.1 ∙ longer js b.0 e
          where
            longer : (js zs : List Kind) → has same k js ≡ true → has same k (js ++ zs) ≡ true
            longer [] zs e = absurd (no_false e)
            longer (j ∷ js) zs e = go (same k j) e (longer js zs)
              where
                go : (v : Bool) → (v || has same k js) ≡ true → (has same k js ≡ true → has same k (js ++ zs) ≡ true) → (v || has same k (js ++ zs)) ≡ true
                go true e more = refl
                go false e more = more e
