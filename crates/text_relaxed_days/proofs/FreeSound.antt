-- Rules that cost nothing are sound where the rules are, and groups extend both alike.
use Rattle.std.proofs.Common.{◌≡◌, ℕ, zero, suc, ◌+◌, ◌≤◌, ◌<◌, List, [], ◌∷◌, ◌++◌, Some, refl, sym, ap, subst, ◌∙◌, arith, length, map, All}
use Rattle.std.specs.Prelude.{slice_get, nat_eq, ◌||◌}
use Rattle.std.specs.List.{list_any}
use Rattle.std.proofs.lemmas.List.{length-map, map-append}
use Rattle.std.proofs.lemmas.List.Elements.{All-head, All-tail, All-nil, All-cons}
use Rattle.model_rosters.specs.declared.grammar.Grammar.{Grammar}
use Rattle.model_rosters.specs.declared.grammar.Rule.{Rule}
use Rattle.model_rosters.specs.declared.grammar.Sym.TheVariants.{Name}
use Rattle.model_rosters.specs.declared.instance.Group.{Group}
use Rattle.model_rosters.specs.Extension.{group_rule, extended}
use Rattle.model_rosters.specs.Grammar.{rule_at}
use Rattle.model_rosters.specs.Sound.{IsSound, IsPlain, IsRule, AreNames, has_rule, appearances, names_of, AreInOrder}
use Rattle.model_rosters.specs.UnitRules.{IsRanked}
use Rattle.text_demand.specs.InstanceOf.{day_grammar}
use Rattle.text_relaxed_days.specs.FreeRules.{free_rule, free_rules}
use Rattle.text_relaxed_days.proofs.FreeTrees.{IsFreed, freed}

same_appearances : (rs : List Rule) → appearances (map free_rule rs) ≡ appearances rs
same_appearances [] = refl
same_appearances (r ∷ rs) = ap (λ (xs : List ℕ). r.left ∷ names_of r.right ++ xs) (same_appearances rs)

same_ruled : (rs : List Rule) (x : ℕ) → has_rule (map free_rule rs) x ≡ has_rule rs x
same_ruled [] x = refl
same_ruled (r ∷ rs) x = rw (same_ruled rs x) refl

rules_free : (codes names : ℕ) (rs : List Rule) → All (IsRule codes names) rs → All (IsRule codes names) (map free_rule rs)
rules_free codes names [] h = All-nil (IsRule codes names)
rules_free codes names (r ∷ rs) h =
    let own = All-head (IsRule codes names) r rs h in
    All-cons (IsRule codes names) (free_rule r) (map free_rule rs)
    (record {
      left = own.left;
      cost = omega arith;
      some = own.some;
      eight = own.eight;
      symbols = own.symbols;
      span = own.span;
      begins = own.begins;
      ends = own.ends;
    })
    (rules_free codes names rs (All-tail (IsRule codes names) r rs h))

module _ (g : Grammar) where
  names_free : AreNames g → AreNames (free_rules g)
  names_free h = record {
    few = h.few;
    each = h.each;
    apart = h.apart;
    ruled = λ x lt. same_ruled g.rules x ∙ h.ruled x lt;
    ordered = subst (AreInOrder 0) (sym (same_appearances g.rules)) h.ordered;
  }

  ranked_free : (rank : ℕ → ℕ) (names : ℕ) → IsRanked g rank names → IsRanked (free_rules g) rank names
  ranked_free rank names h = record {
    below = λ r rule at.
        let f = freed g r rule at in
        subst (λ (q : Rule). rank q.left < names) (sym f.is) (h.below r f.own f.at);
    rises = λ r rule y at right.
        let f = freed g r rule at in
        let own : f.own.right ≡ Name y ∷ [] = sym (ap (λ (q : Rule). q.right) f.is) ∙ right in
        subst (λ (q : Rule). rank q.left < rank y) (sym f.is) (h.rises r f.own y f.at own);
  }

  pub sound-free : IsSound g → IsSound (free_rules g)
  sound-free h = record {
    some_period = h.some_period;
    few_periods = h.few_periods;
    codes = h.codes;
    names = names_free h.names;
    few_rules = subst (λ (n : ℕ). n ≤ 72) (sym (length-map g.rules free_rule)) h.few_rules;
    rules = rules_free (length g.codes) (length g.names) g.rules h.rules;
    start = h.start;
    ranks = (h.ranks.0, ranked_free h.ranks.0 (length g.names) h.ranks.1);
  }

  pub plain-free : IsPlain g → IsPlain (free_rules g)
  plain-free h = record {
    few_names = h.few_names;
    few_rules = subst (λ (n : ℕ). n ≤ 64) (sym (length-map g.rules free_rule)) h.few_rules;
    spelled = h.spelled;
  }

-- the rules of groups cost nothing
groups_free : (names : ℕ) (gs : List Group) → map free_rule (map (group_rule names) gs) ≡ map (group_rule names) gs
groups_free names [] = refl
groups_free names (x ∷ gs) = ap (λ (rs : List Rule). group_rule names x ∷ rs) (groups_free names gs)

pub extended-free : (g : Grammar) (gs : List Group) → free_rules (extended g gs) ≡ extended (free_rules g) gs
extended-free g gs =
    ap (λ (rs : List Rule). record (extended g gs) { rules = rs })
    (map-append free_rule g.rules (map (group_rule (length g.names)) gs) ∙ ap (λ (rs : List Rule). map free_rule g.rules ++ rs) (groups_free (length g.names) gs))

pub day-free : (g : Grammar) (gs : List Group) → free_rules (day_grammar g gs) ≡ day_grammar (free_rules g) gs
day-free g [] = refl
day-free g (x ∷ gs) = extended-free g (x ∷ gs)
