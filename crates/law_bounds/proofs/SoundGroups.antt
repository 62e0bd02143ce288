-- The grammar that groups extend has their rules last, and no other use of the added name.
use Rattle.std.proofs.Common.{◌≡◌, ℕ, zero, suc, arith, ◌+◌, ◌-◌, ◌≤◌, ◌<◌, Some, List, [], ◌∷◌, ◌++◌, length, map, refl, ap, subst, sym, ◌∙◌, inl, inr}
use Rattle.std.specs.Prelude.{slice_get, ◌≢◌}
use Rattle.model_rosters.specs.declared.grammar.Grammar.{Grammar}
use Rattle.model_rosters.specs.declared.grammar.Rule.{Rule}
use Rattle.model_rosters.specs.declared.grammar.Sym.{Sym}
use Rattle.model_rosters.specs.declared.grammar.Sym.TheVariants.{Code, Name}
use Rattle.model_rosters.specs.declared.instance.Group.{Group}
use Rattle.model_rosters.specs.declared.instance.Instance.{Instance}
use Rattle.model_rosters.specs.Grammar.{rule_at}
use Rattle.model_rosters.specs.Folds.{Each, In}
use Rattle.model_rosters.specs.Sound.{Exists, IsRule}
use Rattle.model_rosters.specs.Extension.{group_rule, extended}
use Rattle.model_rosters.specs.SoundInstance.{IsGroup, IsGroupedBy}
use Rattle.model_rosters.specs.Teams.{Team, teams_from}
use Rattle.model_rosters.proofs.EachLemmas.{all_each, Each-weaker, Each-append, Each-get}
use Rattle.law_bounds.specs.DutyTrees.{own_rules}
use Rattle.law_bounds.proofs.Groups.{IsOther, added_rule, IsExtended}

-- an item of the second list, by its place there
get-append : {A : Type 0} (xs ys : List A) (k : ℕ) (x : A) → slice_get ys k ≡ Some x → slice_get (xs ++ ys) (length xs + k) ≡ Some x
get-append [] ys k x e = rw zero_plus e
  where
    zero_plus : 0 + k ≡ k
    zero_plus = omega arith
get-append (y ∷ xs) ys k x e = rw next (get-append xs ys k x e)
  where
    next : length (y ∷ xs) + k ≡ suc (length xs + k)
    next = omega arith

abbrev IsFree : ℕ → Sym → Type 0
IsFree a (Code c) = Unit {0}
IsFree a (Name x) = x ≢ a

-- the rule that leads from the added name a to name x
abbrev lead : ℕ → ℕ → Rule
lead a x = group_rule a (record { name = x; heads_min = 0; heads_max = 0 })

module _ (g : Grammar) (a : ℕ) where
  -- a team's rule stands at the team's place among those added
  team_rule : (k : ℕ) (gs : List Group) (o : Team) → In o (teams_from k gs) → (m : ℕ) × (o.number ≡ k + m) × (slice_get (map (group_rule a) gs) m ≡ Some (lead a o.name))
  team_rule k [] o h = absurd h
  team_rule k (x ∷ gs) o (inl e) = (0, omega (arith, ap (λ (t : Team). t.number) e), ap (λ (n : ℕ). Some (lead a n)) (sym (ap (λ (t : Team). t.name) e)))
  team_rule k (x ∷ gs) o (inr h) = let r = team_rule (k + 1) gs o h in (suc r.0, omega (arith, r.1), r.2)

  rule_of_team : (n : ℕ) (gs : List Group) (o : Team) → n ≡ length gs → In o (teams_from 1 gs) → rule_at (extended g gs) (length (g.rules ++ map (group_rule (length g.names)) gs) - n + o.number) ≡ rule_at (extended g gs) (length g.rules + o.number)
  rule_of_team n gs o e h = ap (λ (k : ℕ). rule_at (extended g gs) (k + o.number)) (omega (arith, long g.rules gs))
    where
      long : (rs : List Rule) (gs : List Group) → length (rs ++ map (group_rule (length g.names)) gs) ≡ length rs + length gs
      long [] [] = refl
      long [] (x ∷ gs) = omega (arith, long [] gs)
      long (r ∷ rs) gs = omega (arith, long rs gs)

  name_of_team : (names k : ℕ) (gs : List Group) (o : Team) → Each (IsGroup names) gs → In o (teams_from k gs) → o.name < names
  name_of_team names k [] o h i = absurd i
  name_of_team names k (x ∷ gs) o h (inl e) = let f = ap (λ (t : Team). t.name) e in omega (arith, h.0.name)
  name_of_team names k (x ∷ gs) o h (inr i) = name_of_team names (k + 1) gs o h.1 i

  free_symbols : (names : ℕ) (codes : ℕ) (ss : List Sym) → names ≤ a → Each (Exists codes names) ss → Each (IsFree a) ss
  free_symbols names codes [] l h = tt
  free_symbols names codes (Code c ∷ ss) l h = (tt, free_symbols names codes ss l h.1)
  free_symbols names codes (Name x ∷ ss) l h = ((λ e. absurd (omega (arith, e, h.0))), free_symbols names codes ss l h.1)

  free_groups : (names : ℕ) (gs : List Group) → names ≤ a → Each (IsGroup names) gs → Each (λ (r : Rule). Each (IsFree a) r.right) (map (group_rule a) gs)
  free_groups names [] l h = tt
  free_groups names (x ∷ gs) l h = (((λ e. absurd (omega (arith, e, h.0.name))), tt), free_groups names gs l h.1)

other_symbols : (g : Grammar) (ss : List Sym) → Each (IsFree g.start) ss → Each (IsOther g) ss
other_symbols g [] h = tt
other_symbols g (Code c ∷ ss) h = (tt, other_symbols g ss h.1)
other_symbols g (Name x ∷ ss) h = (h.0, other_symbols g ss h.1)

module _ (i : Instance) (g : Grammar) (by : IsGroupedBy i g) where
  groups : Each (IsGroup (length g.names)) i.groups
  groups = all_each (IsGroup (length g.names)) i.groups by.groups.each

  added : (o : Team) → In o (teams_from 1 i.groups) → rule_at i.grammar (own_rules i + o.number) ≡ Some (added_rule i.grammar o.name)
  added o h =
      subst (λ (q : Grammar). rule_at q (length q.rules - length i.groups + o.number) ≡ Some (added_rule q o.name)) (sym by.grammar)
      (rule_of_team g (length g.names) (length i.groups) i.groups o refl h ∙ at)
    where
      place : (m : ℕ) → o.number ≡ 1 + m → slice_get (map (group_rule (length g.names)) i.groups) m ≡ Some (lead (length g.names) o.name)
          → rule_at (extended g i.groups) (length g.rules + o.number) ≡ Some (added_rule (extended g i.groups) o.name)
      place m e f =
          let next : length g.rules + o.number ≡ suc (length g.rules + m) = omega arith in
          rw next (get-append g.rules (map (group_rule (length g.names)) i.groups) m (lead (length g.names) o.name) f)

      at : rule_at (extended g i.groups) (length g.rules + o.number) ≡ Some (added_rule (extended g i.groups) o.name)
      at = let r = team_rule g (length g.names) 1 i.groups o h in place r.0 r.1 r.2

  lone : (r : ℕ) (rule : Rule) → rule_at i.grammar r ≡ Some rule → Each (IsOther i.grammar) rule.right
  lone zero rule e = cc
  lone (suc r) rule e = other_symbols i.grammar rule.right (Each-get Free i.grammar.rules r rule all e)
    where
      Free : Rule → Type 0
      Free rule = Each (IsFree i.grammar.start) rule.right

      all : Each Free i.grammar.rules
      all = subst (λ (q : Grammar). Each (λ (rule : Rule). Each (IsFree q.start) rule.right) q.rules) (sym by.grammar)
          (Each-append (λ (rule : Rule). Each (IsFree (length g.names)) rule.right) g.rules _
          (Each-weaker (IsRule (length g.codes) (length g.names)) _ g.rules
          (λ rule s. free_symbols g (length g.names) (length g.names) (length g.codes) rule.right (omega arith) (all_each (Exists (length g.codes) (length g.names)) rule.right s.symbols))
          (all_each (IsRule (length g.codes) (length g.names)) g.rules by.sound.rules))
          (free_groups g (length g.names) (length g.names) i.groups (omega arith) groups))

  start : i.grammar.start ≡ length g.names
  start = ap (λ (q : Grammar). q.start) by.grammar

  periods : i.grammar.periods ≡ g.periods
  periods = ap (λ (q : Grammar). q.periods) by.grammar

  pub is-extended : IsExtended i
  is-extended = record {
    added = added;
    names = λ o h e. absurd (omega (arith, name_of_team g 0 (length g.names) 1 i.groups o groups h, e, start));
    lone = lone;
    some = omega (arith, by.sound.some_period, periods);
    few = omega (arith, by.sound.few_periods, periods);
  }
