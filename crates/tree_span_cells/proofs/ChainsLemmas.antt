-- The chains of rules, and a name's rules along them.
use Rattle.std.proofs.Common.{◌≡◌, ◌≢◌, ℕ, ℤ, ◌<◌, ◌≤◌, ◌+◌, ◌-◌, List, [], ◌∷◌, Option, Some, arith, subst, sym, ap, ◌∙◌, ◌⊎◌, inl, inr, length, set, get_or, get_or-set_other, get_or-set_same}
use Rattle.std.specs.Prelude.{slice_index}
use Rattle.std.proofs.lemmas.List.{length-set, get_or_read}
use Rattle.std.proofs.lemmas.Option.{same_Some, slice_get-get_or}
use Rattle.std.proofs.lemmas.Bool.{cases_eq, cases_lt}
use Rattle.model_rosters.specs.declared.grammar.Grammar.{Grammar}
use Rattle.model_rosters.specs.declared.grammar.Rule.{Rule}
use Rattle.model_rosters.specs.declared.grammar.Sym.TheVariants.{Name}
use Rattle.model_rosters.specs.Grammar.{rule_at}
use Rattle.model_rosters.specs.Trees.{Parts, done, letter, uses, On}
use Rattle.model_rosters.specs.Sums.{PriceView, IsLeast, IsLesser, tree_sum}
use Rattle.model_rosters.specs.tree_laws.Parts.{root}
use Rattle.model_rosters.proofs.tree_laws.LeastValues.{IsLeast-same}
use Rattle.model_rosters.proofs.tree_laws.RuleLoop.{ByFirst, names-taken}
use Rattle.model_rosters.proofs.tree_laws.Rules.{rule_at-within, rule_here, sound-rule}
use Rattle.model_rosters.specs.Sound.{IsSound}
use Rattle.tree_span_cells.specs.declared.slot.Layout.{Layout}
use Rattle.tree_span_cells.specs.Chains.{IsFirstRule, AreChainedFrom, AreChained}

-- beyond the last rule there is none
pub none-first : (g : Grammar) (x m : ℕ) → m ≡ length g.rules + 1 → IsFirstRule g x m m
none-first g x m e = record {
  low = omega arith;
  high = omega (arith, e);
  there = λ rule at. let w = rule_at-within g m rule at in absurd (omega (arith, w.1, e));
  others = λ r rule le lt at. absurd (omega (arith, le, lt));
}

module _ (g : Grammar) (sound : IsSound g) (first next : List ℕ) (k : ℕ) (rule : Rule) (at : rule_at g k ≡ Some rule) (chained : AreChainedFrom g first next (k + 1)) where
  left_within : rule.left < length first
  left_within = let l = (sound-rule g sound k rule at).left in omega (arith, l, chained.names)

  inside : (1 ≤ k) × (k ≤ length g.rules)
  inside = rule_at-within g k rule at

  -- one rule more at the front
  pub chained-next : AreChainedFrom g (set first rule.left k) (set next (k - 1) (slice_index first rule.left)) k
  chained-next = record {
    names = rw length-set chained.names;
    rules = rw length-set chained.rules;
    begins = λ x lt. begins x lt (cases_eq x rule.left);
    goes = λ r o le at'. goes r o at' (k_or_later r le);
  }
    where
      k_or_later : (r : ℕ) → k ≤ r → (r ≡ k) ⊎ (k + 1 ≤ r)
      k_or_later r le = grind arith

      begins : (x : ℕ) → x < length g.names → (x ≡ rule.left) ⊎ (x ≢ rule.left) → IsFirstRule g x k (slice_index (set first rule.left k) x)
      begins x lt (inl e) = rw (e, get_or-set_same, left_within) (record {
        low = omega arith;
        high = omega (arith, inside.1);
        there = λ o at'. ap (λ (q : Rule). q.left) (same_Some o rule (sym at' ∙ at));
        others = λ r o le less at'. absurd (omega (arith, le, less));
      })
      begins x lt (inr ne) =
          let old = chained.begins x lt in
          rw get_or-set_other (record {
            low = omega (arith, old.low);
            high = old.high;
            there = old.there;
            others = λ r o le less at'. by r o at' less (k_or_later r le);
          })
        where
          by : (r : ℕ) (o : Rule) → rule_at g r ≡ Some o → r < slice_index first x → (r ≡ k) ⊎ (k + 1 ≤ r) → o.left ≢ x
          by r o at' less (inr le) = (chained.begins x lt).others r o le less at'
          by r o at' less (inl e) = λ same. ne (sym same ∙ ap (λ (q : Rule). q.left) (same_Some o rule (sym at' ∙ ap (λ (q : ℕ). rule_at g q) e ∙ at)))

      goes : (r : ℕ) (o : Rule) → rule_at g r ≡ Some o → (r ≡ k) ⊎ (k + 1 ≤ r) → IsFirstRule g o.left (r + 1) (slice_index (set next (k - 1) (slice_index first rule.left)) (r - 1))
      goes r o at' (inl e) =
          let lt : k - 1 < length next = omega (arith, inside, chained.rules) in
          let same : o ≡ rule = same_Some o rule (sym at' ∙ ap (λ (q : ℕ). rule_at g q) e ∙ at) in
          rw (e, same, get_or-set_same, lt) (chained.begins rule.left (sound-rule g sound k rule at).left)
      goes r o at' (inr le) =
          let ne : r - 1 ≢ k - 1 = omega (arith, le, inside) in
          rw get_or-set_other (chained.goes r o le at')

-- so it is for the rule before the first i
pub chained-front : (g : Grammar) (sound : IsSound g) (first next : List ℕ) (i : ℕ) (rule : Rule) → 0 < i → rule_at g (i - 1 + 1) ≡ Some rule → AreChainedFrom g first next (i + 1)
    → AreChainedFrom g (set first rule.left (i - 1 + 1)) (set next (i - 1) (slice_index first rule.left)) (i - 1 + 1)
chained-front g sound first next i rule some at chained =
    let e : i + 1 ≡ i - 1 + 1 + 1 = omega (arith, some) in
    let f : i - 1 + 1 - 1 ≡ i - 1 = omega (arith, some) in
    subst (λ (q : ℕ). AreChainedFrom g (set first rule.left (i - 1 + 1)) (set next q (slice_index first rule.left)) (i - 1 + 1)) f
    (chained-next g sound first next (i - 1 + 1) rule at (subst (λ (q : ℕ). AreChainedFrom g first next q) e chained))

module _ (g : Grammar) (p : PriceView) (x i l : ℕ) where
  -- a tree of the name is by a rule of the name
  root_rule : (t : Parts) → On g (Name x ∷ []) i l t → (rule : Rule) × (rule_at g (root t) ≡ Some rule) × (rule.left ≡ x)
  root_rule done h = absurd h.0
  root_rule (letter c rest) h = absurd h.0
  root_rule (uses q n inner rest) h = (h.0.0, h.0.1, h.0.2)

  -- from one rule of the name to the next
  pub names-skip : (m n : ℕ) (best : Option ℤ) → IsFirstRule g x m n → IsLeast (ByFirst g p x i l m) (tree_sum p i) best → IsLeast (ByFirst g p x i l n) (tree_sum p i) best
  names-skip m n best first h =
      IsLeast-same (ByFirst g p x i l m) (ByFirst g p x i l n) (tree_sum p i) best (λ t q. (q.0, omega (arith, q.1, first.low))) (λ t q. (q.0, below t q (cases_lt (root t) m))) h
    where
      below : (t : Parts) → ByFirst g p x i l n t → (root t < m) ⊎ (m ≤ root t) → root t < m
      below t q (inl lt) = lt
      below t q (inr le) = let r = root_rule t q.0 in absurd (first.others (root t) r.0 le q.1 r.1 r.2)

  -- one rule more
  pub names-more : (m : ℕ) (best v then : Option ℤ) → 1 ≤ m → IsLeast (ByFirst g p x i l m) (tree_sum p i) best
      → IsLeast (λ t. On g (Name x ∷ []) i l t × (root t ≡ m)) (tree_sum p i) v → IsLesser best v then → IsLeast (ByFirst g p x i l (m + 1)) (tree_sum p i) then
  names-more m best v then one h new lesser =
      let e : m - 1 + 1 ≡ m = omega (arith, one) in
      let f : m - 1 + 1 + 1 ≡ m + 1 = omega (arith, one) in
      subst (λ (q : ℕ). IsLeast (ByFirst g p x i l q) (tree_sum p i) then) f
      (names-taken g p x i l (m - 1) best v then (subst (λ (q : ℕ). IsLeast (ByFirst g p x i l q) (tree_sum p i) best) (sym e) h)
      (subst (λ (q : ℕ). IsLeast (λ t. On g (Name x ∷ []) i l t × (root t ≡ q)) (tree_sum p i) v) (sym e) new) lesser)

-- the chains of a layout, as they are read
module _ (g : Grammar) (lay : Layout) (chains : AreChained g lay.chains) where
  pub first-read : (x n : ℕ) → x < length g.names → n ≡ get_or lay.chains.first.items x n → IsFirstRule g x 1 n
  first-read x n lt read =
      let within : x < length lay.chains.first.items = omega (arith, lt, chains.names) in
      let e : n ≡ get_or lay.chains.first.items x 0 = get_or_read lay.chains.first.items x n within read 0 in
      subst (λ (q : ℕ). IsFirstRule g x 1 q) (sym e) (chains.begins x lt)

  pub next-read : (x m n : ℕ) → 1 ≤ m → m ≤ length g.rules → ((rule : Rule) → rule_at g m ≡ Some rule → rule.left ≡ x) → n ≡ get_or lay.chains.next.items (m - 1) n → IsFirstRule g x (m + 1) n
  next-read x m n one lt there read =
      let within : m - 1 < length lay.chains.next.items = omega (arith, one, lt, chains.rules) in
      let e : n ≡ get_or lay.chains.next.items (m - 1) 0 = get_or_read lay.chains.next.items (m - 1) n within read 0 in
      let k : m - 1 < length g.rules = omega (arith, one, lt) in
      let rule = get_or g.rules (m - 1) no_rule in
      let at : rule_at g m ≡ Some rule = ap (λ (q : ℕ). rule_at g q) (omega (arith, one)) ∙ rule_here g (m - 1) rule (slice_get-get_or g.rules (m - 1) no_rule k) in
      rw (← there rule at) (subst (λ (q : ℕ). IsFirstRule g rule.left (m + 1) q) (sym e) (chains.goes m rule one at))
    where
      no_rule : Rule
      no_rule = record { left = 0; cost = 0; right = []; span = record { lo = 0; hi = 0 }; first = record { lo = 0; hi = 0 }; last = record { lo = 0; hi = 0 } }
