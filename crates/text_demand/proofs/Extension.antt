-- The extension of a sound plain grammar by groups of its names is sound.
use Rattle.std.proofs.Common.{◌≡◌, ℕ, zero, suc, ◌+◌, ◌<◌, ◌≤◌, inl, inr, ◌⊎◌, Bool, true, false, ◌||◌, cond, eqb, nat_eq, max, List, [], ◌∷◌, ◌++◌, Some, length, get_or, map, refl, sym, ap, subst, ◌∙◌, arith, All, length-append}
use Rattle.std.specs.Prelude.{slice_get, ◌≢◌}
use Rattle.std.proofs.lemmas.Bool.{cases_lt}
use Rattle.std.proofs.lemmas.Bool.Decides.{eqb_tells}
use Rattle.std.proofs.lemmas.List.{length-map}
use Rattle.std.proofs.lemmas.List.Elements.{All-nil, All-cons, All-head, All-tail, All-append, All-weaker}
use Rattle.std.proofs.lemmas.List.Folds.{list_any-append}
use Rattle.std.proofs.lemmas.Option.{same_Some, none-some, slice_get_within, slice_get-get_or}
use Rattle.model_rosters.specs.declared.grammar.Grammar.{Grammar}
use Rattle.model_rosters.specs.declared.grammar.Rule.{Rule}
use Rattle.model_rosters.specs.declared.grammar.Sym.{Sym}
use Rattle.model_rosters.specs.declared.grammar.Sym.TheVariants.{Code, Name}
use Rattle.model_rosters.specs.declared.instance.Group.{Group}
use Rattle.model_rosters.specs.Extension.{any_window, group_rule, extended}
use Rattle.model_rosters.specs.Grammar.{rule_at}
use Rattle.model_rosters.specs.Names.{added_name}
use Rattle.model_rosters.specs.Sound.{Exists, IsWindow, IsRule, IsNameOf, names_of, appearances, AreInOrder, has_rule, AreNames, IsSound, IsPlain}
use Rattle.model_rosters.specs.SoundInstance.{IsGroup, AreGroups}
use Rattle.model_rosters.specs.UnitRules.{IsRanked}
use Rattle.model_rosters.proofs.ExtensionLemmas.{appearances-append}
use Rattle.text_lines.proofs.ListLemmas.{apart_more, last_or_before}

-- an item of two lists, one after the other
split_at : {X : Type 0} (xs ys : List X) (k : ℕ) (x : X) → slice_get (xs ++ ys) k ≡ Some x
    → (slice_get xs k ≡ Some x) ⊎ ((j : ℕ) × (slice_get ys j ≡ Some x))
split_at [] ys k x e = inr (k, e)
split_at (y ∷ xs) ys zero x e = inl e
split_at (y ∷ xs) ys (suc k) x e = split_at xs ys k x e

-- ---- the order of first appearance

-- how many numbers are known after these have appeared
abbrev known : ℕ → List ℕ → ℕ
known k [] = k
known k (x ∷ xs) = known (max k (x + 1)) xs

known-grows : (k : ℕ) (xs : List ℕ) → k ≤ known k xs
known-grows k [] = omega arith
known-grows k (x ∷ xs) = omega (arith, known-grows (max k (x + 1)) xs)

known-append : (k : ℕ) (xs ys : List ℕ) → known k (xs ++ ys) ≡ known (known k xs) ys
known-append k [] ys = refl
known-append k (x ∷ xs) ys = known-append (max k (x + 1)) xs ys

in_order-append : (k : ℕ) (xs ys : List ℕ) → AreInOrder k xs → AreInOrder (known k xs) ys → AreInOrder k (xs ++ ys)
in_order-append k [] ys h i = i
in_order-append k (x ∷ xs) ys h i = (h.0, in_order-append (max k (x + 1)) xs ys h.1 i)

-- a name with a rule has appeared
appeared : (k x : ℕ) (rs : List Rule) → has_rule rs x ≡ true → x < known k (appearances rs)
appeared k x [] e = absurd cc
appeared k x (r ∷ rs) e = elim (eqb_tells r.left x) [
  | inl p ↦ omega (arith, p.1, known-grows (max k (r.left + 1)) (names_of r.right ++ appearances rs))
  | inr p ↦
      let rest : has_rule rs x ≡ true = rw p.0 at e in
      let more = appeared (known (max k (r.left + 1)) (names_of r.right)) x rs rest in
      omega (arith, more, known-append (max k (r.left + 1)) (names_of r.right) (appearances rs))
]

-- the groups' rules name what is known
groups_in_order : (a k : ℕ) (gs : List Group) → a ≤ k → All (IsGroup a) gs → AreInOrder k (appearances (map (group_rule a) gs))
groups_in_order a k [] le h = tt
groups_in_order a k (g ∷ gs) le h =
    let first = All-head (IsGroup a) g gs h in
    let m : ℕ = max (max k (a + 1)) (g.name + 1) in
    let within : g.name ≤ max k (a + 1) = omega (arith, first.name) in
    (le, (within, groups_in_order a m gs (omega arith) (All-tail (IsGroup a) g gs h)))

-- ---- the rules

wider : (codes names : ℕ) (s : Sym) → Exists codes names s → Exists codes (names + 1) s
wider codes names (Code c) h = h
wider codes names (Name x) h = omega (arith, h)

wider_rule : (codes names : ℕ) (r : Rule) → IsRule codes names r → IsRule codes (names + 1) r
wider_rule codes names r s = record {
  left = omega (arith, s.left);
  cost = s.cost;
  some = s.some;
  eight = s.eight;
  symbols = All-weaker (Exists codes names) (Exists codes (names + 1)) (wider codes names) r.right s.symbols;
  span = s.span;
  begins = s.begins;
  ends = s.ends;
}

any_is : IsWindow any_window
any_is = record { first = omega arith; order = omega arith; last = omega arith }

group_rule_is : (codes names : ℕ) (g : Group) → IsGroup names g → IsRule codes (names + 1) (group_rule names g)
group_rule_is codes names g s = record {
  left = omega arith;
  cost = omega arith;
  some = omega arith;
  eight = omega arith;
  symbols = All-cons (Exists codes (names + 1)) (Name g.name) [] (omega (arith, s.name)) (All-nil (Exists codes (names + 1)));
  span = any_is;
  begins = any_is;
  ends = any_is;
}

group_rules_are : (codes names : ℕ) (gs : List Group) → All (IsGroup names) gs → All (IsRule codes (names + 1)) (map (group_rule names) gs)
group_rules_are codes names [] h = All-nil (IsRule codes (names + 1))
group_rules_are codes names (g ∷ gs) h =
    All-cons (IsRule codes (names + 1)) (group_rule names g) (map (group_rule names) gs)
    (group_rule_is codes names g (All-head (IsGroup names) g gs h)) (group_rules_are codes names gs (All-tail (IsGroup names) g gs h))

-- a group's rule, at its place
group_at_place : (a : ℕ) (gs : List Group) (k : ℕ) (rule : Rule) → All (IsGroup a) gs → slice_get (map (group_rule a) gs) k ≡ Some rule → (g : Group) × IsGroup a g × (rule ≡ group_rule a g)
group_at_place a [] k rule h e = absurd (none-some rule e)
group_at_place a (g ∷ gs) zero rule h e = (g, All-head (IsGroup a) g gs h, sym (same_Some _ rule e))
group_at_place a (g ∷ gs) (suc k) rule h e = group_at_place a gs k rule (All-tail (IsGroup a) g gs h) e

same_name : (x y : ℕ) → (Name x ∷ []) ≡ (Name y ∷ []) → x ≡ y
same_name x y e = cc

-- ---- the extended grammar

module _ (g : Grammar) (groups : List Group) (s : IsSound g) (p : IsPlain g) (are : AreGroups (length g.names) groups) (some : 1 ≤ length groups) where
  all : Grammar
  all = extended g groups

  added : List Rule
  added = map (group_rule (length g.names)) groups

  long : length (g.names ++ added_name ∷ []) ≡ length g.names + 1
  long = length-append g.names (added_name ∷ [])

  -- a name of the rules is not the added one
  not_added : (x : ℕ) (name : List ℕ) → slice_get g.names x ≡ Some name → name ≢ added_name
  not_added x name e same =
      let within = slice_get_within g.names x name e in
      let is : get_or g.names x name ≡ name = same_Some _ name (sym (slice_get-get_or g.names x name within) ∙ e) in
      p.spelled x name within (is ∙ same)

  spelled : (x : ℕ) (name : List ℕ) → slice_get g.names x ≡ Some name → IsNameOf g x name → IsNameOf all x name
  unfolding all
  spelled x name e (inl h) = inl h
  spelled x name e (inr h) = absurd (not_added x name e h.0)

  each_name : (x : ℕ) (name : List ℕ) → slice_get (g.names ++ added_name ∷ []) x ≡ Some name → IsNameOf all x name
  unfolding all
  each_name x name e = elim (last_or_before g.names added_name name x e) [
    | inl old ↦ spelled x name old (s.names.each x name old)
    | inr last ↦ inr (sym last.1, omega (arith, last.0, long), last.0)
  ]

  first_group : (gs : List Group) → 1 ≤ length gs → has_rule (map (group_rule (length g.names)) gs) (length g.names) ≡ true
  first_group [] l = absurd (omega arith)
  first_group (x ∷ xs) l = elim (eqb_tells (length g.names) (length g.names)) [
    | inl q ↦ rw q.0 refl
    | inr q ↦ absurd (q.1 refl)
  ]

  both : (x : ℕ) → has_rule (g.rules ++ added) x ≡ (has_rule g.rules x || has_rule added x)
  both x = list_any-append (λ (r : Rule). nat_eq r.left x) g.rules added

  or_second : (a b : Bool) → b ≡ true → (a || b) ≡ true
  or_second true b e = refl
  or_second false b e = e

  ruled : (x : ℕ) → x < length (g.names ++ added_name ∷ []) → has_rule (g.rules ++ added) x ≡ true
  unfolding added
  ruled x lt = elim (cases_lt x (length g.names)) [
    | inl old ↦ both x ∙ (rw (s.names.ruled x old) refl)
    | inr ge ↦
        let is : length g.names ≡ x = omega (arith, long) in
        both x ∙ or_second (has_rule g.rules x) (has_rule added x) (ap (has_rule added) (sym is) ∙ first_group groups some)
  ]

  -- all names of the rules have appeared
  all_known : length g.names ≤ known 0 (appearances g.rules)
  all_known = elim (cases_lt (known 0 (appearances g.rules)) (length g.names)) [
    | inl lt ↦ absurd (omega (arith, appeared 0 (known 0 (appearances g.rules)) g.rules (s.names.ruled (known 0 (appearances g.rules)) lt)))
    | inr ge ↦ ge
  ]

  ordered : AreInOrder 0 (appearances (g.rules ++ added))
  unfolding added
  ordered =
      let P : List ℕ → Type 0 = λ (xs : List ℕ). AreInOrder 0 xs in
      subst P (sym (appearances-append g.rules added)) (in_order-append 0 (appearances g.rules) (appearances added) s.names.ordered
      (groups_in_order (length g.names) (known 0 (appearances g.rules)) groups all_known are.each))

  all_names : AreNames all
  unfolding all added
  all_names = record {
    few = omega (arith, long, p.few_names);
    each = each_name;
    apart = apart_more (λ (n : List ℕ). n) g.names added_name s.names.apart not_added;
    ruled = ruled;
    ordered = ordered;
  }

  all_rules : All (IsRule (length g.codes) (length (g.names ++ added_name ∷ []))) (g.rules ++ added)
  unfolding added
  all_rules =
      let P : ℕ → Type 0 = λ (n : ℕ). All (IsRule (length g.codes) n) (g.rules ++ added) in
      let old = All-weaker (IsRule (length g.codes) (length g.names)) (IsRule (length g.codes) (length g.names + 1)) (wider_rule (length g.codes) (length g.names)) g.rules s.rules in
      let new = group_rules_are (length g.codes) (length g.names) groups are.each in
      subst P (sym long) (All-append (IsRule (length g.codes) (length g.names + 1)) g.rules added old new)

  -- the added name below all others
  lowered : ℕ → ℕ
  lowered x = cond (eqb x (length g.names)) 0 (s.ranks.0 x + 1)

  lowered-old : (x : ℕ) → x < length g.names → lowered x ≡ s.ranks.0 x + 1
  unfolding lowered
  lowered-old x lt = elim (eqb_tells x (length g.names)) [
    | inl q ↦ absurd (omega (arith, q.1))
    | inr q ↦ rw q.0 refl
  ]

  lowered-added : lowered (length g.names) ≡ 0
  unfolding lowered
  lowered-added = elim (eqb_tells (length g.names) (length g.names)) [
    | inl q ↦ rw q.0 refl
    | inr q ↦ absurd (q.1 refl)
  ]

  old_rule : (r : ℕ) (rule : Rule) → slice_get g.rules r ≡ Some rule → IsRule (length g.codes) (length g.names) rule
  old_rule r rule e =
      let within = slice_get_within g.rules r rule e in
      let is : get_or g.rules r rule ≡ rule = same_Some _ rule (sym (slice_get-get_or g.rules r rule within) ∙ e) in
      let P : Rule → Type 0 = λ (x : Rule). IsRule (length g.codes) (length g.names) x in
      subst P is (s.rules r rule within)

  below : (r : ℕ) (rule : Rule) → slice_get (g.rules ++ added) r ≡ Some rule → lowered rule.left < length (g.names ++ added_name ∷ [])
  unfolding added
  below r rule e = elim (split_at g.rules added r rule e) [
    | inl old ↦ omega (arith, long, lowered-old rule.left (old_rule r rule old).left, s.ranks.1.below (suc r) rule old)
    | inr new ↦
        let q = group_at_place (length g.names) groups new.0 rule are.each new.1 in
        let left : rule.left ≡ length g.names = ap (λ (x : Rule). x.left) q.2 in
        omega (arith, long, ap lowered left, lowered-added)
  ]

  named : (codes names y : ℕ) (rule : Rule) → IsRule codes names rule → rule.right ≡ Name y ∷ [] → y < names
  named codes names y rule h e = All-head (Exists codes names) (Name y) [] (subst (λ (x : List Sym). All (Exists codes names) x) e h.symbols)

  rises : (r : ℕ) (rule : Rule) (y : ℕ) → slice_get (g.rules ++ added) r ≡ Some rule → rule.right ≡ Name y ∷ [] → lowered rule.left < lowered y
  unfolding added
  rises r rule y e f = elim (split_at g.rules added r rule e) [
    | inl old ↦
        let is = old_rule r rule old in
        omega (arith, lowered-old rule.left is.left, lowered-old y (named (length g.codes) (length g.names) y rule is f), s.ranks.1.rises (suc r) rule y old f)
    | inr new ↦
        let q = group_at_place (length g.names) groups new.0 rule are.each new.1 in
        let left : rule.left ≡ length g.names = ap (λ (x : Rule). x.left) q.2 in
        let right : q.0.name ≡ y = same_name q.0.name y (sym (ap (λ (x : Rule). x.right) q.2) ∙ f) in
        omega (arith, ap lowered left, lowered-added, lowered-old y (omega (arith, right, q.1.name)))
  ]

  ranked : IsRanked all lowered (length (g.names ++ added_name ∷ []))
  unfolding all added
  ranked = record { below = rank_below; rises = rank_rises }
    where
      rank_below : (r : ℕ) (rule : Rule) → rule_at all r ≡ Some rule → lowered rule.left < length (g.names ++ added_name ∷ [])
      rank_below zero rule e = absurd (none-some rule e)
      rank_below (suc r) rule e = below r rule e

      rank_rises : (r : ℕ) (rule : Rule) (y : ℕ) → rule_at all r ≡ Some rule → rule.right ≡ Name y ∷ [] → lowered rule.left < lowered y
      rank_rises zero rule y e f = absurd (none-some rule e)
      rank_rises (suc r) rule y e f = rises r rule y e f

  pub extension_sound : IsSound (extended g groups)
  unfolding all added
  extension_sound = record {
    some_period = s.some_period;
    few_periods = s.few_periods;
    codes = s.codes;
    names = all_names;
    few_rules = omega (arith, length-append g.rules added, length-map groups (group_rule (length g.names)), p.few_rules, are.few);
    rules = all_rules;
    start = omega (arith, long);
    ranks = (lowered, ranked);
  }
