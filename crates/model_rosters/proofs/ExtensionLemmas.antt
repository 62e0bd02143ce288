-- A sound grammar that ends with the added name and the groups' rules is the extension of a sound
-- grammar of a rules text.
use Rattle.std.proofs.Common.{◌≡◌, ℕ, zero, suc, ◌+◌, ◌-◌, ◌<◌, ◌≤◌, inl, inr, Bool, true, false, ◌||◌, nat_eq, max, List, [], ◌∷◌, ◌++◌, Some, length, take, drop, get_or, map, refl, sym, ap, subst, ◌∙◌, arith, All, append_assoc, length-append}
use Rattle.std.specs.Prelude.{slice_get}
use Rattle.std.specs.List.{list_any}
use Rattle.std.proofs.lemmas.Bool.Decides.{eqb_tells}
use Rattle.std.proofs.lemmas.List.{take-append-drop, length-take-le, length-map, length-drop, get_or_append_left, drop_at}
use Rattle.std.proofs.Math.Seq.{take-append_seam}
use Rattle.std.proofs.lemmas.List.Folds.{list_any-append}
use Rattle.std.proofs.lemmas.Option.{same_Some, none-some, slice_get_within, slice_get-get_or}
use Rattle.model_rosters.specs.declared.grammar.Grammar.{Grammar}
use Rattle.model_rosters.specs.declared.grammar.Rule.{Rule}
use Rattle.model_rosters.specs.declared.grammar.Sym.{Sym}
use Rattle.model_rosters.specs.declared.grammar.Sym.TheVariants.{Code, Name}
use Rattle.model_rosters.specs.declared.instance.Group.{Group}
use Rattle.model_rosters.specs.declared.instance.Instance.{Instance}
use Rattle.model_rosters.specs.Extension.{group_rule, extended}
use Rattle.model_rosters.specs.Grammar.{rule_at}
use Rattle.model_rosters.specs.GroupParts.{IsSymbolBelow, IsRuleBelow, LeadToGroups, HasGroupParts}
use Rattle.model_rosters.specs.Names.{added_name}
use Rattle.model_rosters.specs.Sound.{Exists, IsRule, IsNameOf, names_of, appearances, AreInOrder, has_rule, AreNames, IsSound, IsPlain}
use Rattle.model_rosters.specs.SoundInstance.{AreGroups, IsGroupedBy}
use Rattle.model_rosters.proofs.LowerRanks.{lower, lower-lt, lower-rises}

-- ---- lists

slice_get-left : {X : Type 0} (xs ys : List X) (k : ℕ) (x : X) → slice_get xs k ≡ Some x → slice_get (xs ++ ys) k ≡ Some x
slice_get-left [] ys k x e = absurd (none-some x e)
slice_get-left (y ∷ xs) ys zero x e = e
slice_get-left (y ∷ xs) ys (suc k) x e = slice_get-left xs ys k x e

slice_get-last : {X : Type 0} (xs : List X) (x : X) → slice_get (xs ++ x ∷ []) (length xs) ≡ Some x
slice_get-last [] x = refl
slice_get-last (y ∷ xs) x = slice_get-last xs x

All-left : {X : Type 0} (P : X → Type 0) (xs ys : List X) → All P (xs ++ ys) → All P xs
All-left P xs ys h k d lt = subst P (get_or_append_left xs ys d k lt) (h k d (omega (arith, length-append xs ys)))

last_split : {X : Type 0} (xs : List X) (n : ℕ) (x : X) → n + 1 ≡ length xs → slice_get xs n ≡ Some x → xs ≡ take n xs ++ x ∷ []
last_split [] n x l e = absurd (none-some x e)
last_split (y ∷ []) zero x l e = ap (λ z. z ∷ []) (same_Some y x e)
last_split (y ∷ z ∷ ys) zero x l e = absurd (omega arith)
last_split (y ∷ ys) (suc n) x l e = ap (λ zs. y ∷ zs) (last_split ys n x (omega arith) e)

-- ---- the groups' rules

leads : (a : ℕ) (rs : List Rule) (gs : List Group) → length rs ≡ length gs → LeadToGroups a rs gs → rs ≡ map (group_rule a) gs
leads a [] [] l h = refl
leads a [] (g ∷ gs) l h = absurd (omega arith)
leads a (r ∷ rs) [] l h = absurd (omega arith)
leads a (r ∷ rs) (g ∷ gs) l h =
    let first = h 0 r g refl refl in
    let rest = leads a rs gs (omega arith) (λ k x y e f. h (suc k) x y e f) in
    cc

lead : (a : ℕ) (gs : List Group) → LeadToGroups a (map (group_rule a) gs) gs
lead a [] k r g e f = absurd (none-some g f)
lead a (x ∷ gs) zero r g e f =
    sym (same_Some _ r e) ∙ ap (group_rule a) (same_Some x g f)
lead a (x ∷ gs) (suc k) r g e f = lead a gs k r g e f

no_group_has : (a x : ℕ) (gs : List Group) → x < a → has_rule (map (group_rule a) gs) x ≡ false
no_group_has a x [] l = refl
no_group_has a x (g ∷ gs) l = elim (eqb_tells a x) [
  | inl p ↦ absurd (omega (arith, p.1))
  | inr p ↦ rw p.0 (no_group_has a x gs l)
]

-- ---- the order of first appearance

pub appearances-append : (rs qs : List Rule) → appearances (rs ++ qs) ≡ appearances rs ++ appearances qs
appearances-append [] qs = refl
appearances-append (r ∷ rs) qs =
    ap (λ (xs : List ℕ). (r.left ∷ names_of r.right) ++ xs) (appearances-append rs qs)
    ∙ sym (append_assoc (r.left ∷ names_of r.right) (appearances rs) (appearances qs))

in_order-left : (k : ℕ) (xs ys : List ℕ) → AreInOrder k (xs ++ ys) → AreInOrder k xs
in_order-left k [] ys h = tt
in_order-left k (x ∷ xs) ys h = (h.0, in_order-left (max k (x + 1)) xs ys h.1)

-- ---- rules without the added name

exists_below : (codes m n : ℕ) (s : Sym) → Exists codes m s → IsSymbolBelow n s → Exists codes n s
exists_below codes m n (Code c) e b = e
exists_below codes m n (Name x) e b = b

rule_below : (codes m n : ℕ) (r : Rule) → IsRule codes m r → IsRuleBelow n r → IsRule codes n r
rule_below codes m n r s b = record {
  left = b.left;
  cost = s.cost;
  some = s.some;
  eight = s.eight;
  symbols = λ k d lt. exists_below codes m n _ (s.symbols k d lt) (b.right k d lt);
  span = s.span;
  begins = s.begins;
  ends = s.ends;
}

below_rule : (codes n : ℕ) (r : Rule) → IsRule codes n r → IsRuleBelow n r
below_rule codes n r s = record { left = s.left; right = λ k d lt. symbol _ (s.symbols k d lt) }
  where
    symbol : (x : Sym) → Exists codes n x → IsSymbolBelow n x
    symbol (Code c) e = tt
    symbol (Name x) e = e

module _ (g : Grammar) (names : List (List ℕ)) (own : List Rule) (groups : List Group)
    (en : g.names ≡ names ++ added_name ∷ []) (er : g.rules ≡ own ++ map (group_rule (length names)) groups) (es : g.start ≡ length names)
    (s : IsSound g) (below : All (IsRuleBelow (length names)) own) (few : length own ≤ 64) (some : 1 ≤ length names) where
  -- the grammar of the rules text, with the first name as its start
  pub base : Grammar
  base = record { periods = g.periods; codes = g.codes; names = names; rules = own; start = 0 }

  pub is_extended : g ≡ extended base groups
  unfolding base
  is_extended = rw (← er, ← en, ← es) refl

  long : length g.names ≡ length names + 1
  long = ap length en ∙ length-append names (added_name ∷ [])

  name_at : (x : ℕ) (name : List ℕ) → slice_get names x ≡ Some name → slice_get g.names x ≡ Some name
  name_at x name e = rw en (slice_get-left names (added_name ∷ []) x name e)

  spelled : (x : ℕ) (name : List ℕ) → slice_get names x ≡ Some name → IsNameOf g x name → IsNameOf base x name
  unfolding base
  spelled x name e (inl h) = inl h
  spelled x name e (inr h) = let within = slice_get_within names x name e in absurd (omega (arith, h.1, long))

  own_rule : (x : ℕ) → x < length names → has_rule own x ≡ true
  own_rule x l =
      let all : (list_any (λ (r : Rule). nat_eq r.left x) own || has_rule (map (group_rule (length names)) groups) x) ≡ true =
      sym (list_any-append (λ (r : Rule). nat_eq r.left x) own (map (group_rule (length names)) groups)) ∙ (rw er at (s.names.ruled x (omega (arith, long)))) in
      first (has_rule own x) (rw (no_group_has (length names) x groups l) at all)
    where
      first : (b : Bool) → (b || false) ≡ true → b ≡ true
      first true e = refl
      first false e = e

  own_names : AreNames base
  unfolding base
  own_names = record {
    few = omega (arith, s.names.few, long);
    each = λ x name e. spelled x name e (s.names.each x name (name_at x name e));
    apart = λ i j a b l e f. s.names.apart i j a b l (name_at i a e) (name_at j b f);
    ruled = own_rule;
    ordered = in_order-left 0 (appearances own) (appearances (map (group_rule (length names)) groups))
        (let P : List ℕ → Type 0 = λ (xs : List ℕ). AreInOrder 0 xs in
        subst P (ap appearances er ∙ appearances-append own (map (group_rule (length names)) groups)) s.names.ordered);
  }

  own_at : (r : ℕ) (rule : Rule) → rule_at base r ≡ Some rule → rule_at g r ≡ Some rule
  unfolding base
  own_at zero rule e = absurd (none-some rule e)
  own_at (suc r) rule e = rw er (slice_get-left own (map (group_rule (length names)) groups) r rule e)

  own_below : (r : ℕ) (rule : Rule) → rule_at base r ≡ Some rule → rule.left < length names
  unfolding base
  own_below zero rule e = absurd (none-some rule e)
  own_below (suc r) rule e =
      let within = slice_get_within own r rule e in
      let is : get_or own r rule ≡ rule = same_Some _ rule (sym (slice_get-get_or own r rule within) ∙ e) in
      let P : Rule → Type 0 = λ (x : Rule). IsRuleBelow (length names) x in
      (subst P is (below r rule within)).left

  pub base_sound : IsSound base
  unfolding base
  base_sound = record {
    some_period = s.some_period;
    few_periods = s.few_periods;
    codes = s.codes;
    names = own_names;
    few_rules = omega arith;
    rules = λ k d lt. rule_below (length g.codes) (length g.names) (length names) _
        ((All-left (IsRule (length g.codes) (length g.names)) own _ (rw er at s.rules)) k d lt) (below k d lt);
    start = some;
    ranks = (
      λ x. lower s.ranks.0 x (length names),
      record {
        below = λ r rule e. lower-lt s.ranks.0 rule.left (length names) (own_below r rule e);
        rises = λ r rule y e f. lower-rises s.ranks.0 rule.left y (length names) (s.ranks.1.rises r rule y (own_at r rule e) f) (own_below r rule e);
      },
    );
  }

  pub base_plain : IsPlain base
  unfolding base
  base_plain = record {
    few_names = omega (arith, s.names.few, long);
    few_rules = few;
    spelled = λ k d lt e. s.names.apart k (length names) (get_or names k d) added_name lt
        (name_at k (get_or names k d) (slice_get-get_or names k d lt)) (rw en (slice_get-last names added_name)) e;
  }

  pub base_groups : AreGroups g.start groups → AreGroups (length base.names) groups
  unfolding base
  base_groups h = let P : ℕ → Type 0 = λ (n : ℕ). AreGroups n groups in subst P es h

-- ---- instances

pub grouped : (i : Instance) → IsSound i.grammar → 1 ≤ length i.groups → HasGroupParts i → (g : Grammar) × IsGroupedBy i g
grouped i s many h =
    let g = i.grammar in
    let k = length g.rules - length i.groups in
    let names : List (List ℕ) = take g.start g.names in
    let own : List Rule = take k g.rules in
    let long : length names ≡ g.start = length-take-le g.start g.names (omega (arith, h.ends.start)) in
    let en : g.names ≡ names ++ added_name ∷ [] = last_split g.names g.start added_name h.ends.start h.ends.added in
    let tail : drop k g.rules ≡ map (group_rule g.start) i.groups =
    leads g.start (drop k g.rules) i.groups (omega (arith, length-drop k g.rules, h.rules.enough)) h.rules.added in
    let er : g.rules ≡ own ++ map (group_rule (length names)) i.groups = rw (long, ← tail) (sym (take-append-drop k g.rules)) in
    let below : All (IsRuleBelow (length names)) own = rw long h.rules.own in
    let few : length own ≤ 64 = omega (arith, length-take-le k g.rules (omega arith), h.rules.few) in
    let some : 1 ≤ length names = omega (arith, long, (h.groups.each 0 (record { name = 0; heads_min = 0; heads_max = 0 }) (omega arith)).name) in (
      base g names own i.groups en er (sym long) s below few some,
      record {
        sound = base_sound g names own i.groups en er (sym long) s below few some;
        plain = base_plain g names own i.groups en er (sym long) s below few some;
        groups = base_groups g names own i.groups en er (sym long) s below few some h.groups;
        grammar = is_extended g names own i.groups en er (sym long) s below few some;
        least = h.least;
        most = h.most;
      },
    )

module _ (i : Instance) (b : Grammar) (h : IsGroupedBy i b) where
  start-is : i.grammar.start ≡ length b.names
  start-is = ap (λ (g : Grammar). g.start) h.grammar

  names-is : i.grammar.names ≡ b.names ++ added_name ∷ []
  names-is = ap (λ (g : Grammar). g.names) h.grammar

  rules-is : i.grammar.rules ≡ b.rules ++ map (group_rule (length b.names)) i.groups
  rules-is = ap (λ (g : Grammar). g.rules) h.grammar

  rules-long : length i.grammar.rules ≡ length b.rules + length i.groups
  rules-long = ap length rules-is ∙ length-append b.rules (map (group_rule (length b.names)) i.groups) ∙ ap (λ (n : ℕ). length b.rules + n) (length-map i.groups (group_rule (length b.names)))

  own-count : length i.grammar.rules - length i.groups ≡ length b.rules
  own-count = omega (arith, rules-long)

  pub parts : HasGroupParts i
  parts = record {
    ends = record {
      start = omega (arith, start-is, ap length names-is, length-append b.names (added_name ∷ []));
      added = rw (names-is, start-is) (slice_get-last b.names added_name);
    };
    groups = rw start-is h.groups;
    least = h.least;
    most = h.most;
    rules = record {
      enough = omega (arith, rules-long);
      few = omega (arith, rules-long, h.plain.few_rules);
      own = rw (own-count, rules-is, start-is, take-append_seam b.rules (map (group_rule (length b.names)) i.groups))
          (λ k d lt. below_rule (length b.codes) (length b.names) _ (h.sound.rules k d lt));
      added = rw (own-count, rules-is, start-is, drop_at b.rules (map (group_rule (length b.names)) i.groups) (length b.rules) refl)
          (lead (length b.names) i.groups);
    };
  }
