-- The grammar of the remaining day, made from that of the day.
use Rattle.std.proofs.Common.{◌≡◌, ℕ, zero, suc, arith, ◌+◌, ◌-◌, ◌≤◌, ◌<◌, Bool, true, false, cond, List, [], ◌∷◌, ◌++◌, length, map, take, get_or, refl, sym, ap, subst, ◌∙◌, add-one, add-zero}
use Rattle.std.specs.Prelude.{nat_eq}
use Rattle.model_rosters.specs.declared.grammar.Grammar.{Grammar}
use Rattle.model_rosters.specs.declared.instance.Group.{Group}
use Rattle.model_rosters.specs.declared.instance.Instance.{Instance}
use Rattle.model_rosters.specs.Duties.{Duty}
use Rattle.model_rosters.specs.Sound.{IsSound, IsPlain}
use Rattle.model_rosters.specs.SoundInstance.{IsSoundInstance, HasGroups}
use Rattle.text_demand_lines.specs.Teams.{most_heads}
use Rattle.text_demand.specs.InstanceOf.{day_grammar}
use Rattle.check_values.specs.group_rules.Plain.{plain_from}
use Rattle.check_values.proofs.group_rules.PlainGrammars.{plain_none, plain_extended}
use Rattle.check_values.specs.remaining_day.Days.{rules_of, regrouped}
use Rattle.check_values.specs.remaining_day.Remaining.{kept_of, group_left, groups_left, most_left}

-- ---- the groups that are left, one after another

abbrev pub some_of : Group → List Group
some_of x = cond (nat_eq x.heads_max 0) [] (x ∷ [])

module _ (kept : List Duty) where
  groups_more : (n : ℕ) (gs : List Group) (k : ℕ) (d : Group) → k < length gs → groups_left n kept (take (suc k) gs) ≡ groups_left n kept (take k gs) ++ some_of (group_left (n + k) kept (get_or gs k d))
  groups_more n [] k d l = absurd (omega (arith, l))
  groups_more n (x ∷ gs) zero d l = rw (add-zero n) refl
  groups_more n (x ∷ gs) (suc k) d l =
      let e : n + suc k ≡ (n + 1) + k = omega arith in
      rw e (by (nat_eq (x.heads_max - kept_of n kept) 0) (groups_more (n + 1) gs k d (omega (arith, l))))
    where
      by : (b : Bool) → groups_left (n + 1) kept (take (suc k) gs) ≡ groups_left (n + 1) kept (take k gs) ++ some_of (group_left ((n + 1) + k) kept (get_or gs k d))
          → cond b (groups_left (n + 1) kept (take (suc k) gs)) (group_left n kept x ∷ groups_left (n + 1) kept (take (suc k) gs))
          ≡ cond b (groups_left (n + 1) kept (take k gs)) (group_left n kept x ∷ groups_left (n + 1) kept (take k gs)) ++ some_of (group_left ((n + 1) + k) kept (get_or gs k d))
      by true h = h
      by false h = ap (λ (zs : List Group). group_left n kept x ∷ zs) h

  -- one more group
  pub one_group : (gs : List Group) (k : ℕ) (d : Group) (old new : List Group) → k < length gs → old ≡ groups_left 1 kept (take k gs)
      → new ≡ old ++ some_of (group_left (k + 1) kept (get_or gs k d)) → new ≡ groups_left 1 kept (take (k + 1) gs)
  one_group gs k d old new l e h =
      let same : k + 1 ≡ 1 + k = omega arith in
      h ∙ ap (λ (zs : List Group). zs ++ some_of (group_left (k + 1) kept (get_or gs k d))) e
      ∙ ap (λ (m : ℕ). groups_left 1 kept (take k gs) ++ some_of (group_left m kept (get_or gs k d))) same
      ∙ sym (groups_more 1 gs k d l) ∙ ap (λ (j : ℕ). groups_left 1 kept (take j gs)) (sym (add-one k))

-- ---- grammars

-- another start counts for nothing where there are groups
other_start : (g : Grammar) (s : ℕ) (ls : List Group) → 1 ≤ most_heads ls → day_grammar (record g { start = s }) ls ≡ day_grammar g ls
other_start g s [] h = absurd (omega (arith, h))
other_start g s (y ∷ ls) h = refl

abbrev IsRegrouped : Grammar → List Duty → Instance → Type 0
IsRegrouped g kept i = i.grammar ≡ day_grammar g i.groups → 1 ≤ most_left i kept i.groups
    → regrouped i (groups_left 1 kept i.groups) ≡ day_grammar g (groups_left 1 kept i.groups)

pub grammar-left : (g : Grammar) (kept : List Duty) (i : Instance) → IsRegrouped g kept i
grammar-left g kept i = by i.groups
  where
    by : (gs : List Group) → IsRegrouped g kept (record i { groups = gs })
    by [] same some = plain_none i.grammar ∙ same
    by (x ∷ xs) same some =
        let ls : List Group = groups_left 1 kept (x ∷ xs) in
        let s : ℕ = i.grammar.start in
        ap (λ (q : Grammar). day_grammar (plain_from q (x ∷ xs) s) ls) same
        ∙ ap (λ (q : Grammar). day_grammar q ls) (plain_extended g x xs s) ∙ other_start g s ls some

plain_start : (g : Grammar) (s : ℕ) → IsPlain g → IsPlain (record g { start = s })
plain_start g s h = record { few_names = h.few_names; few_rules = h.few_rules; spelled = h.spelled }

abbrev HasPlainRules : Instance → Type 0
HasPlainRules i = HasGroups i i.groups → IsPlain (rules_of i)

pub plain-rules : (i : Instance) → HasPlainRules i
plain-rules i = by i.groups
  where
    by : (gs : List Group) → HasPlainRules (record i { groups = gs })
    by [] h = subst IsPlain (sym (plain_none i.grammar)) h
    by (x ∷ xs) h =
        let b : Grammar = h.0 in
        let s : ℕ = i.grammar.start in
        let same : plain_from i.grammar (x ∷ xs) s ≡ record b { start = s } = ap (λ (q : Grammar). plain_from q (x ∷ xs) s) h.1.grammar ∙ plain_extended b x xs s in
        subst IsPlain (sym same) (plain_start b s h.1.plain)

-- there is a rules' grammar of which a sound day is
pub record HasRules (i : Instance) : Type 0 where
  pub rules : Grammar
  pub sound : IsSound rules
  pub plain : IsPlain rules
  pub day : i.grammar ≡ day_grammar rules i.groups

abbrev HaveRules : Instance → Type 0
HaveRules i = IsSoundInstance i → HasRules i

pub has-rules : (i : Instance) → HaveRules i
has-rules i = by i.groups
  where
    by : (gs : List Group) → HaveRules (record i { groups = gs })
    by [] h = record { rules = i.grammar; sound = h.grammar; plain = h.groups; day = refl }
    by (x ∷ xs) h = record { rules = h.groups.0; sound = h.groups.1.sound; plain = h.groups.1.plain; day = h.groups.1.grammar }
