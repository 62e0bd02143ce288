-- The trees of a group's name are those of the day by the group's added rule.
use Rattle.std.proofs.Common.{◌≡◌, ℕ, zero, suc, arith, ◌+◌, ◌≤◌, Bool, true, false, cond, Option, None, Some, List, [], ◌∷◌, ◌++◌, sym, refl, ap, subst, ◌∙◌, ◌⊎◌, inl, inr}
use Rattle.std.specs.Prelude.{nat_eq, ◌≢◌, ◌&&◌}
use Rattle.std.proofs.lemmas.Bool.{eq-eqb}
use Rattle.std.proofs.lemmas.Bool.Decides.{eqb_tells}
use Rattle.model_rosters.specs.declared.grammar.ArcKey.{ArcKey}
use Rattle.model_rosters.specs.declared.grammar.Grammar.{Grammar}
use Rattle.model_rosters.specs.declared.grammar.Rule.{Rule}
use Rattle.model_rosters.specs.declared.grammar.Sym.{Sym}
use Rattle.model_rosters.specs.declared.grammar.Sym.TheVariants.{Code, Name}
use Rattle.model_rosters.specs.declared.instance.Instance.{Instance}
use Rattle.model_rosters.specs.Grammar.{rule_at, Stands}
use Rattle.model_rosters.specs.Trees.{Parts, done, letter, uses, span_length, word, Derive, IsTreeOf, IsDayTree}
use Rattle.model_rosters.specs.Folds.{sum_n, count, Each, In}
use Rattle.model_rosters.specs.Arcs.{arc_of_part, parts_arcs, used_rules, rule_cost, cost, same_arc}
use Rattle.model_rosters.specs.Teams.{Team, teams_from}
use Rattle.model_rosters.proofs.EachLemmas.{Each-in}
use Rattle.model_rosters.proofs.arc_laws.FoldsLemmas.{count-append}
use Rattle.law_bounds.proofs.ReadyInstances.{arc_of_team, IsWrap}
use Rattle.law_bounds.specs.DutyTrees.{own_rules}
use Rattle.model_rosters.specs.tree_laws.Parts.{root}

abbrev pub IsOther : Grammar → Sym → Type 0
IsOther g (Code c) = Unit {0}
IsOther g (Name x) = x ≢ g.start

abbrev pub added_rule : Grammar → ℕ → Rule
added_rule g x = record { left = g.start; cost = 0; right = Name x ∷ []; span = record { lo = 1; hi = 96 }; first = record { lo = 1; hi = 96 }; last = record { lo = 1; hi = 96 } }

-- Each group has its added rule, and the added name stands on no right side.
pub record IsExtended (i : Instance) : Type 0 where
  pub added : (o : Team) → In o (teams_from 1 i.groups) → rule_at i.grammar (own_rules i + o.number) ≡ Some (added_rule i.grammar o.name)
  pub names : (o : Team) → In o (teams_from 1 i.groups) → o.name ≢ i.grammar.start
  pub lone : (r : ℕ) (rule : Rule) → rule_at i.grammar r ≡ Some rule → Each (IsOther i.grammar) rule.right
  pub some : 1 ≤ i.grammar.periods
  pub few : i.grammar.periods ≤ 96

-- no arc of a rule that no use has
module _ (g : Grammar) (a : ArcKey) (lone : (r : ℕ) (rule : Rule) → rule_at g r ≡ Some rule → Each (IsOther g) rule.right)
    (foreign : (q : ℕ) (rule : Rule) → rule_at g q ≡ Some rule → rule.left ≢ g.start → a.rule ≢ q) where
  one_none : (r k i s : ℕ) (rest : Parts) → a.rule ≢ r → count (same_arc a) (arc_of_part r k i s rest) ≡ 0
  one_none r zero i s rest h = pick (eqb_tells a.rule r)
    where
      pick : ((nat_eq a.rule r ≡ true) × (a.rule ≡ r)) ⊎ ((nat_eq a.rule r ≡ false) × (a.rule ≢ r)) → count (same_arc a) (arc_of_part r 0 i s rest) ≡ 0
      pick (inl e) = absurd (h e.1)
      pick (inr e) = rw e.0 (omega arith)
  one_none r (suc k) i s done h = refl
  one_none r (suc k) i s (letter c rest) h = pick (eqb_tells a.rule r)
    where
      pick : ((nat_eq a.rule r ≡ true) × (a.rule ≡ r)) ⊎ ((nat_eq a.rule r ≡ false) × (a.rule ≢ r)) → count (same_arc a) (arc_of_part r (suc k) i s (letter c rest)) ≡ 0
      pick (inl e) = absurd (h e.1)
      pick (inr e) = rw e.0 (omega arith)
  one_none r (suc k) i s (uses q n inner rest) h = pick (eqb_tells a.rule r)
    where
      pick : ((nat_eq a.rule r ≡ true) × (a.rule ≡ r)) ⊎ ((nat_eq a.rule r ≡ false) × (a.rule ≢ r)) → count (same_arc a) (arc_of_part r (suc k) i s (uses q n inner rest)) ≡ 0
      pick (inl e) = absurd (h e.1)
      pick (inr e) = rw e.0 (omega arith)

  parts_none : (t : Parts) (r k i : ℕ) (ss : List Sym) → a.rule ≢ r → Each (IsOther g) ss → Derive g ss i t → count (same_arc a) (parts_arcs r k i t) ≡ 0
  parts_none done r k i ss h o d = refl
  parts_none (letter c rest) r k i [] h o d = absurd d
  parts_none (letter c rest) r k i (Name x ∷ ss) h o d = absurd d
  parts_none (letter c rest) r k i (Code b ∷ ss) h o d =
      omega (arith, count-append (same_arc a) (arc_of_part r k i 1 rest) (parts_arcs r (suc k) (i + 1) rest), one_none r k i 1 rest h, parts_none rest r (suc k) (i + 1) ss h o.1 d.1)
  parts_none (uses q n inner rest) r k i [] h o d = absurd d
  parts_none (uses q n inner rest) r k i (Code b ∷ ss) h o d = absurd d
  parts_none (uses q n inner rest) r k i (Name x ∷ ss) h o d =
      let other : d.0.left ≢ g.start = λ e. o.0 (sym d.2 ∙ e) in
      let inside = parts_none inner q 0 i d.0.right (foreign q d.0 d.1 other) (lone q d.0 d.1) d.6 in
      let more = parts_none rest r (suc k) (i + n) ss h o.1 d.7 in
      let e1 = count-append (same_arc a) (arc_of_part r k i n rest) (parts_arcs q 0 i inner ++ parts_arcs r (suc k) (i + n) rest) in
      let e2 = count-append (same_arc a) (parts_arcs q 0 i inner) (parts_arcs r (suc k) (i + n) rest) in
      omega (arith, one_none r k i n rest h)

same_shift : (f a b : ℕ) → nat_eq (f + a) (f + b) ≡ nat_eq b a
same_shift f a b = pick (eqb_tells b a)
  where
    pick : ((nat_eq b a ≡ true) × (b ≡ a)) ⊎ ((nat_eq b a ≡ false) × (b ≢ a)) → nat_eq (f + a) (f + b) ≡ nat_eq b a
    pick (inl e) = eq-eqb (f + a) (f + b) (omega (arith, e.1)) ∙ sym e.0
    pick (inr e) = other (eqb_tells (f + a) (f + b))
      where
        other : ((nat_eq (f + a) (f + b) ≡ true) × (f + a ≡ f + b)) ⊎ ((nat_eq (f + a) (f + b) ≡ false) × (f + a ≢ f + b)) → nat_eq (f + a) (f + b) ≡ nat_eq b a
        other (inl h) = absurd (e.1 (omega (arith, h.1)))
        other (inr h) = h.0 ∙ sym e.0

module _ (i : Instance) (x : IsExtended i) where
  own_arc : (o team : Team) (m : ℕ) → m ≡ i.grammar.periods → count (same_arc (arc_of_team i o)) (arc_of_part (own_rules i + team.number) 0 1 m done) ≡ cond (nat_eq team.number o.number) 1 0
  own_arc o team m e =
      let a = same_shift (own_rules i) o.number team.number in
      let z = eq-eqb 0 0 refl in
      let b = eq-eqb i.grammar.periods (m + 0) (omega arith) in
      let c = eq-eqb i.grammar.periods m (omega arith) in
      rw (a, b, c) (by (nat_eq team.number o.number))
    where
      by : (b : Bool) → count {A = ℕ} (λ k. b && true && true && true && true) (0 ∷ []) ≡ cond b 1 0
      by true = omega arith
      by false = omega arith

  -- a tree of a group's name below the added rule
  abbrev over : Team → Parts → Parts
  over team t = uses (own_rules i + team.number) i.grammar.periods t done

  wrap : (team : Team) → In team (teams_from 1 i.groups) → (t : Parts) → IsTreeOf i.grammar team.name t → IsWrap i team t (over team t)
  wrap team listed t on = record {
    day = ((added_rule i.grammar team.name, at, refl, stands, x.some, on.1, on.0, tt), omega arith);
    cost = by_cost;
    spelled = append_nil (word i.grammar t);
    led = λ some. refl;
    base = Each-in _ (teams_from 1 i.groups) (λ o h. base_at t on.0 on.1 o h);
  }
    where
      at : rule_at i.grammar (own_rules i + team.number) ≡ Some (added_rule i.grammar team.name)
      at = x.added team listed

      stands : Stands i.grammar.periods (added_rule i.grammar team.name) 1 i.grammar.periods
      stands = let s = x.some in let f = x.few in record { within = omega arith; span = (omega arith, omega arith); first = (omega arith, omega arith); last = (omega arith, omega arith) }

      append_nil : {A : Type 0} (xs : List A) → xs ++ [] ≡ xs
      append_nil [] = refl
      append_nil (y ∷ xs) = ap (λ ys. y ∷ ys) (append_nil xs)

      by_cost : cost i.grammar (uses (own_rules i + team.number) i.grammar.periods t done) ≡ cost i.grammar t
      by_cost =
          let free = ap (λ (o : Option Rule). elim o as (λ v. ℕ) [ None ↦ 0 | Some q ↦ q.cost ]) at in
          let same = ap (sum_n (rule_cost i.grammar)) (append_nil (used_rules t)) in
          omega arith

      base_at : (t : Parts) → Derive i.grammar (Name team.name ∷ []) 1 t → span_length t ≡ i.grammar.periods → (o : Team) → In o (teams_from 1 i.groups)
          → count (same_arc (arc_of_team i o)) (parts_arcs (own_rules i + team.number) 0 1 t) ≡ cond (nat_eq team.number o.number) 1 0
      base_at done d e o h = absurd d
      base_at (letter c rest) d e o h = absurd d
      base_at (uses q n inner (letter c rest)) d e o h = absurd d.7
      base_at (uses q n inner (uses q' n' inner' rest')) d e o h = absurd d.7
      base_at (uses q n inner done) d e o h =
          let foreign = λ (q : ℕ) (rule : Rule) (at : rule_at i.grammar q ≡ Some rule) (other : rule.left ≢ i.grammar.start) (same : own_rules i + o.number ≡ q).
          other (left_same q rule at same) in
          let other : d.0.left ≢ i.grammar.start = λ z. x.names team listed (sym d.2 ∙ z) in
          let inside = parts_none i.grammar (arc_of_team i o) x.lone foreign inner q 0 1 d.0.right (foreign q d.0 d.1 other) (x.lone q d.0 d.1) d.6 in
          let own = own_arc o team n (omega arith) in
          let e1 = count-append (same_arc (arc_of_team i o)) (arc_of_part (own_rules i + team.number) 0 1 n done) (parts_arcs q 0 1 inner ++ []) in
          let e2 = count-append (same_arc (arc_of_team i o)) (parts_arcs q 0 1 inner) [] in
          omega arith
        where
          left_same : (q : ℕ) (rule : Rule) → rule_at i.grammar q ≡ Some rule → own_rules i + o.number ≡ q → rule.left ≡ i.grammar.start
          left_same q rule at same =
              let one = x.added o h in
              let two : rule_at i.grammar (own_rules i + o.number) ≡ Some rule = subst (λ (k : ℕ). rule_at i.grammar k ≡ Some rule) (sym same) at in
              let three : added_rule i.grammar o.name ≡ rule = cc in
              sym (ap (λ (y : Rule). y.left) three)

  pub wrap_group : (team : Team) → In team (teams_from 1 i.groups) → (t : Parts) → IsTreeOf i.grammar team.name t → (u : Parts) × IsWrap i team t u
  wrap_group team listed t on = (over team t, wrap team listed t on)

  -- what the added rule derives is a tree of the group's name
  pub unwrap_group : (team : Team) → In team (teams_from 1 i.groups) → (u : Parts) → IsDayTree i.grammar u → root u ≡ own_rules i + team.number → (t : Parts) × IsTreeOf i.grammar team.name t × IsWrap i team t u
  unwrap_group team listed done day e = absurd day.0
  unwrap_group team listed (letter c rest) day e = absurd day.0
  unwrap_group team listed (uses q n t (letter c rest)) day e = absurd day.0.7
  unwrap_group team listed (uses q n t (uses r m t' rest)) day e = absurd day.0.7
  unwrap_group team listed (uses q n t done) day e =
      let d = day.0 in
      let one = x.added team listed in
      let two : rule_at i.grammar (own_rules i + team.number) ≡ Some d.0 = subst (λ (k : ℕ). rule_at i.grammar k ≡ Some d.0) e d.1 in
      let same : d.0 ≡ added_rule i.grammar team.name = cc in
      let on : Derive i.grammar (Name team.name ∷ []) 1 t = subst (λ (rule : Rule). Derive i.grammar rule.right 1 t) same d.6 in
      let long : n ≡ i.grammar.periods = omega (arith, day.1) in
      let whole : span_length t ≡ i.grammar.periods = omega (arith, d.5) in
      (t, (on, whole), subst (λ (m : ℕ). IsWrap i team t (uses q m t done)) (sym long) (subst (λ (r : ℕ). IsWrap i team t (uses r i.grammar.periods t done)) (sym e) (wrap team listed t (on, whole))))
