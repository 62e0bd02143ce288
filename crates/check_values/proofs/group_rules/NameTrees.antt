-- Trees of a name of the rules are the same by those rules and by the rules that groups extend.
use Rattle.std.proofs.Common.{◌≡◌, ℕ, zero, suc, ◌+◌, ◌<◌, Option, None, Some, List, [], ◌∷◌, ◌++◌, length, map, refl, sym, ap, ◌∙◌, arith, inl, inr, ◌⊎◌}
use Rattle.std.specs.Prelude.{slice_get}
use Rattle.std.proofs.lemmas.Option.{none-some, same_Some}
use Rattle.model_rosters.specs.declared.grammar.Grammar.{Grammar}
use Rattle.model_rosters.specs.declared.grammar.Rule.{Rule}
use Rattle.model_rosters.specs.declared.grammar.Sym.{Sym}
use Rattle.model_rosters.specs.declared.grammar.Sym.TheVariants.{Code, Name}
use Rattle.model_rosters.specs.declared.instance.Group.{Group}
use Rattle.model_rosters.specs.Arcs.{cost, rule_cost, used_rules}
use Rattle.model_rosters.specs.Extension.{extended, group_rule}
use Rattle.model_rosters.specs.Folds.{Each, sum_n}
use Rattle.model_rosters.specs.Grammar.{rule_at}
use Rattle.model_rosters.specs.Shifts.{IsPrice, IsWordTree}
use Rattle.model_rosters.specs.Sound.{Exists, IsRule, IsSound}
use Rattle.model_rosters.specs.Trees.{Derive, Parts, done, letter, uses, word}
use Rattle.model_rosters.proofs.EachLemmas.{all_each, Each-append}
use Rattle.model_rosters.proofs.tree_laws.Rules.{All-slice_get}

-- ---- lists

get_left : {X : Type 0} (xs ys : List X) (k : ℕ) (x : X) → slice_get xs k ≡ Some x → slice_get (xs ++ ys) k ≡ Some x
get_left [] ys k x e = absurd (none-some x e)
get_left (y ∷ xs) ys zero x e = e
get_left (y ∷ xs) ys (suc k) x e = get_left xs ys k x e

-- an item of the first list, or one of the second
get_either : {X : Type 0} (xs ys : List X) (k : ℕ) (x : X) → slice_get (xs ++ ys) k ≡ Some x → (slice_get xs k ≡ Some x) ⊎ ((m : ℕ) × (slice_get ys m ≡ Some x))
get_either [] ys k x e = inr (k, e)
get_either (y ∷ xs) ys zero x e = inl e
get_either (y ∷ xs) ys (suc k) x e = get_either xs ys k x e

-- ---- trees

-- a group's rule leads from the added name
from_added : (a : ℕ) (gs : List Group) (m : ℕ) (rule : Rule) → slice_get (map (group_rule a) gs) m ≡ Some rule → rule.left ≡ a
from_added a [] m rule e = absurd (none-some rule e)
from_added a (g ∷ gs) zero rule e = sym (ap (λ (r : Rule). r.left) (same_Some (group_rule a g) rule e))
from_added a (g ∷ gs) (suc m) rule e = from_added a gs m rule e

same_sum : (f h : ℕ → ℕ) (xs : List ℕ) → Each (λ x. f x ≡ h x) xs → sum_n f xs ≡ sum_n h xs
same_sum f h [] e = refl
same_sum f h (x ∷ xs) e = omega (arith, e.0, same_sum f h xs e.1)

module _ (g : Grammar) (gs : List Group) (s : ℕ) (sound : IsSound g) where
  abbrev whole : Grammar
  whole = extended g gs

  abbrev plain : Grammar
  plain = record g { start = s }

  abbrev Below : List Sym → Type 0
  Below ss = Each (Exists (length g.codes) (length g.names)) ss

  rule_down : (r : ℕ) (rule : Rule) → rule_at whole r ≡ Some rule → rule.left < length g.names → rule_at plain r ≡ Some rule
  rule_down zero rule e lt = absurd (none-some rule e)
  rule_down (suc r) rule e lt = elim (get_either g.rules (map (group_rule (length g.names)) gs) r rule e) [
    | inl h ↦ h
    | inr h ↦ absurd (omega (arith, lt, from_added (length g.names) gs h.0 rule h.1))
  ]

  rule_up : (r : ℕ) (rule : Rule) → rule_at plain r ≡ Some rule → rule_at whole r ≡ Some rule
  rule_up zero rule e = absurd (none-some rule e)
  rule_up (suc r) rule e = get_left g.rules (map (group_rule (length g.names)) gs) r rule e

  below : (r : ℕ) (rule : Rule) → rule_at plain r ≡ Some rule → Below rule.right
  below zero rule e = absurd (none-some rule e)
  below (suc r) rule e =
      let fine = All-slice_get (IsRule (length g.codes) (length g.names)) g.rules r rule sound.rules e in
      all_each (Exists (length g.codes) (length g.names)) rule.right fine.symbols

  down : (ss : List Sym) (i : ℕ) (t : Parts) → Below ss → Derive whole ss i t → Derive plain ss i t
  down [] i done b d = tt
  down [] i (letter c rest) b d = absurd d
  down [] i (uses r n inner rest) b d = absurd d
  down (Code c ∷ ss) i done b d = absurd d
  down (Code c ∷ ss) i (letter e rest) b d = (d.0, down ss (i + 1) rest b.1 d.1)
  down (Code c ∷ ss) i (uses r n inner rest) b d = absurd d
  down (Name x ∷ ss) i done b d = absurd d
  down (Name x ∷ ss) i (letter e rest) b d = absurd d
  down (Name x ∷ ss) i (uses r n inner rest) b d =
      let left : d.0.left ≡ x = d.2 in
      let lt : x < length g.names = b.0 in
      let at = rule_down r d.0 d.1 (omega (arith, left, lt)) in
      (d.0, at, d.2, d.3, d.4, d.5, down d.0.right i inner (below r d.0 at) d.6, down ss (i + n) rest b.1 d.7)

  up : (ss : List Sym) (i : ℕ) (t : Parts) → Derive plain ss i t → Derive whole ss i t
  up [] i done d = tt
  up [] i (letter c rest) d = absurd d
  up [] i (uses r n inner rest) d = absurd d
  up (Code c ∷ ss) i done d = absurd d
  up (Code c ∷ ss) i (letter e rest) d = (d.0, up ss (i + 1) rest d.1)
  up (Code c ∷ ss) i (uses r n inner rest) d = absurd d
  up (Name x ∷ ss) i done d = absurd d
  up (Name x ∷ ss) i (letter e rest) d = absurd d
  up (Name x ∷ ss) i (uses r n inner rest) d =
      (d.0, rule_up r d.0 d.1, d.2, d.3, d.4, d.5, up d.0.right i inner d.6, up ss (i + n) rest d.7)

  same_word : (t : Parts) → word whole t ≡ word plain t
  same_word done = refl
  same_word (letter c rest) = rw (same_word rest) refl
  same_word (uses r n inner rest) = rw (same_word inner, same_word rest) refl

  same_rule_cost : (r : ℕ) (rule : Rule) → rule_at plain r ≡ Some rule → rule_cost whole r ≡ rule_cost plain r
  same_rule_cost r rule e =
      ap (λ (o : Option Rule). elim o [ None ↦ 0 | Some q ↦ q.cost ]) (rule_up r rule e ∙ sym e)

  same_costs : (ss : List Sym) (i : ℕ) (t : Parts) → Derive plain ss i t → Each (λ r. rule_cost whole r ≡ rule_cost plain r) (used_rules t)
  same_costs [] i done d = tt
  same_costs [] i (letter c rest) d = absurd d
  same_costs [] i (uses r n inner rest) d = absurd d
  same_costs (Code c ∷ ss) i done d = absurd d
  same_costs (Code c ∷ ss) i (letter e rest) d = same_costs ss (i + 1) rest d.1
  same_costs (Code c ∷ ss) i (uses r n inner rest) d = absurd d
  same_costs (Name x ∷ ss) i done d = absurd d
  same_costs (Name x ∷ ss) i (letter e rest) d = absurd d
  same_costs (Name x ∷ ss) i (uses r n inner rest) d =
      (same_rule_cost r d.0 d.1, Each-append _ (used_rules inner) (used_rules rest) (same_costs d.0.right i inner d.6) (same_costs ss (i + n) rest d.7))

  same_cost : (x : ℕ) (t : Parts) → Derive plain (Name x ∷ []) 1 t → cost whole t ≡ cost plain t
  same_cost x t d = same_sum (rule_cost whole) (rule_cost plain) (used_rules t) (same_costs (Name x ∷ []) 1 t d)

  tree_down : (x : ℕ) (w : List ℕ) (t : Parts) → x < length g.names → IsWordTree whole x w t → IsWordTree plain x w t
  tree_down x w t lt h = record {
    derives = (down (Name x ∷ []) 1 t (lt, tt) h.derives.0, h.derives.1);
    word = sym (same_word t) ∙ h.word;
  }

  tree_up : (x : ℕ) (w : List ℕ) (t : Parts) → IsWordTree plain x w t → IsWordTree whole x w t
  tree_up x w t h = record { derives = (up (Name x ∷ []) 1 t h.derives.0, h.derives.1); word = same_word t ∙ h.word }

  -- a word's price is the same
  pub price_down : (x : ℕ) (w : List ℕ) (p : ℕ) → x < length g.names → IsPrice whole x w p → IsPrice plain x w p
  price_down x w p lt h =
      let best = tree_down x w h.attained.0 lt h.attained.1 in
      record {
        attained = (h.attained.0, best, sym (same_cost x h.attained.0 best.derives.0) ∙ h.attained.2);
        least = λ t k. omega (arith, h.least t (tree_up x w t k), same_cost x t k.derives.0);
      }

  pub price_up : (x : ℕ) (w : List ℕ) (p : ℕ) → x < length g.names → IsPrice plain x w p → IsPrice whole x w p
  price_up x w p lt h =
      record {
        attained = (h.attained.0, tree_up x w h.attained.0 h.attained.1, same_cost x h.attained.0 h.attained.1.derives.0 ∙ h.attained.2);
        least = λ t k.
            let own = tree_down x w t lt k in
            omega (arith, h.least t own, same_cost x t own.derives.0);
      }
