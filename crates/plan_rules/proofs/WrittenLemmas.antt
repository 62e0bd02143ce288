-- What is written for a plan is what the law of plans asks.
use Rattle.std.proofs.Common.{◌≡◌, ◌≢◌, ◌⊎◌, inl, inr, ℕ, suc, ◌+◌, Bool, true, false, cond, nat_eq, Option, None, Some, List, [], ◌∷◌, map, slice_get, arith, refl, sym, ap, ◌∙◌, subst}
use Rattle.std.proofs.lemmas.Bool.{eq-eqb, eqb-true}
use Rattle.model_rosters.specs.declared.grammar.CodeDef.{CodeDef}
use Rattle.model_rosters.specs.declared.grammar.Grammar.{Grammar}
use Rattle.model_rosters.specs.declared.grammar.Rule.{Rule}
use Rattle.model_rosters.specs.Folds.{Each, In}
use Rattle.model_rosters.specs.Trees.{byte_of}
use Rattle.model_rosters.proofs.EachLemmas.{Each-in}
use Rattle.plan_laws.specs.declared.period_plan.Activity.{Activity}
use Rattle.plan_laws.specs.declared.period_plan.NamedLines.{NamedLines}
use Rattle.plan_laws.specs.declared.period_plan.PeriodPlan.{PeriodPlan}
use Rattle.plan_laws.specs.Laws.{IsWritten}
use Rattle.plan_laws.specs.Named.{EachName, NamedRule, Numbers, Symbol, all_rules, coded, named, to_rule}
use Rattle.plan_laws.specs.Names.{Kind, day, start, day_rule, rules_for}
use Rattle.plan_laws.specs.PeriodShifts.{IsLetter}
use Rattle.plan_laws.proofs.Sides.{in_map}
use Rattle.plan_laws.proofs.Turning.{from_map}
use Rattle.plan_laws.proofs.Words.{in_either, in_first, in_second}
use Rattle.plan_names.specs.FreeCodes.{free_of}
use Rattle.plan_names.specs.Gathered.{place}
use Rattle.plan_names.specs.Same.{same, same_bool}
use Rattle.plan_names.specs.StartNames.{only_day, start_kind}
use Rattle.plan_names.specs.WrittenFor.{written_for}
use Rattle.plan_names.proofs.Gathering.{at_place, one_place}
use Rattle.plan_names.proofs.SameNames.{is_same, own_same}
use Rattle.plan_rules.specs.Closed.{names_in}
use Rattle.plan_rules.specs.Grammars.{code_place, codes_of, numbers_of, plan_codes}
use Rattle.plan_rules.specs.NameTexts.{day_text}
use Rattle.plan_rules.specs.Outcomes.{HasWritten}
use Rattle.plan_rules.specs.WrittenLaws.{IsCalled, IsWrittenFor, WrittenLaw}
use Rattle.plan_rules.proofs.Closing.{name_in, start_in}
use Rattle.plan_rules.proofs.Members.{same_members}
use Rattle.plan_rules.proofs.TextPlaces.{text_at}

module _ (num : Numbers Kind) (w : Kind → List (NamedRule Kind)) where
  pub from_all : (ks : List Kind) (rule : Rule) → In rule (all_rules num w ks) → (k : Kind) × (own : NamedRule Kind) × In k ks × In own (w k) × (rule ≡ to_rule num k own)
  from_all [] rule h = absurd h
  from_all (k ∷ ks) rule h = go (in_either rule (map (to_rule num k) (w k)) (all_rules num w ks) h) (from_all ks rule)
    where
      go : In rule (map (to_rule num k) (w k)) ⊎ In rule (all_rules num w ks)
          → (In rule (all_rules num w ks) → (j : Kind) × (own : NamedRule Kind) × In j ks × In own (w j) × (rule ≡ to_rule num j own))
          → (j : Kind) × (own : NamedRule Kind) × In j (k ∷ ks) × In own (w j) × (rule ≡ to_rule num j own)
      go (inl at) more = let l = from_map (to_rule num k) (w k) rule at in (k, l.0, inl refl, l.1, l.2)
      go (inr at) more = let m = more at in (m.0, m.1, inr m.2, m.3, m.4)

  pub to_all : (ks : List Kind) (k : Kind) (own : NamedRule Kind) → In k ks → In own (w k) → In (to_rule num k own) (all_rules num w ks)
  to_all [] k own at one = absurd at
  to_all (j ∷ ks) k own (inl e) one =
      in_first (to_rule num k own) (map (to_rule num j) (w j)) (all_rules num w ks)
      (subst (λ i. In (to_rule num k own) (map (to_rule num i) (w i))) e (in_map (to_rule num k) own (w k) one))
  to_all (j ∷ ks) k own (inr at) one = in_second (to_rule num k own) (map (to_rule num j) (w j)) (all_rules num w ks) (to_all ks k own at one)

-- the same rules of each name are the same rules of all
all_same : (num : Numbers Kind) (v w : Kind → List (NamedRule Kind)) → ((k : Kind) (own : NamedRule Kind) → In own (v k) → In own (w k))
    → (ks : List Kind) (rule : Rule) → In rule (all_rules num v ks) → In rule (all_rules num w ks)
all_same num v w each ks rule h =
    let l = from_all num v ks rule h in
    subst (λ r. In r (all_rules num w ks)) (sym l.4) (to_all num w ks l.0 l.1 l.2 (each l.0 l.1 l.3))

each_name : (P : Kind → Type 0) (ss : List (Symbol Kind)) → ((x : Kind) → In x (names_in ss) → P x) → EachName P ss
each_name P [] h = tt
each_name P (coded c ∷ ss) h = each_name P ss h
each_name P (named k ∷ ss) h = (h k (inl refl), each_name P ss (λ x at. h x (inr at)))

-- the first code of a letter
pub code_at : (c : ℕ) (ds : List CodeDef) (d : CodeDef) → In d ds → d.byte ≡ c → (e : CodeDef) × (slice_get ds (code_place c ds) ≡ Some e) × (e.byte ≡ c)
code_at c [] d at same = absurd at
code_at c (x ∷ ds) d at same = go (nat_eq x.byte c) refl at (λ h. code_at c ds d h same)
  where
    go : (v : Bool) → nat_eq x.byte c ≡ v → In d (x ∷ ds) → (In d ds → (e : CodeDef) × (slice_get ds (code_place c ds) ≡ Some e) × (e.byte ≡ c))
        → (e : CodeDef) × (slice_get (x ∷ ds) (cond v 0 (suc (code_place c ds))) ≡ Some e) × (e.byte ≡ c)
    go true e at more = (x, refl, eqb-true x.byte c e)
    go false e (inl eq) more = absurd (never (sym e ∙ eq-eqb x.byte c (sym (ap (λ (y : CodeDef). y.byte) eq) ∙ same)))
      where
        never : false ≡ true → ⊥
        never e = cc
    go false e (inr at) more = more at

code_in : (work : Bool) (all : List Activity) (a : Activity) → In a all → a.work ≡ work → In (record { byte = a.code; work = work }) (codes_of work all)
code_in work [] a at w = absurd at
code_in work (b ∷ all) a at w = go (same_bool b.work work) refl at (λ h. code_in work all a h w)
  where
    is_so : (v : Bool) → same_bool v v ≡ true
    is_so true = refl
    is_so false = refl

    go : (v : Bool) → same_bool b.work work ≡ v → In a (b ∷ all) → (In a all → In (record { byte = a.code; work = work }) (codes_of work all))
        → In (record { byte = a.code; work = work }) (cond v (record { byte = b.code; work = work } ∷ codes_of work all) (codes_of work all))
    go true e (inl eq) more = inl (ap (λ (y : Activity). record { byte = y.code; work = work }) eq)
    go true e (inr at) more = inr (more at)
    go false e (inl eq) more =
        absurd (never (sym e ∙ subst (λ v. same_bool v work ≡ true) (sym (ap (λ (y : Activity). y.work) (sym eq) ∙ w)) (is_so work)))
      where
        never : false ≡ true → ⊥
        never e = cc
    go false e (inr at) more = more at

pub letter_code : (p : PeriodPlan) (c : ℕ) → IsLetter p c → (d : CodeDef) × In d (plan_codes p) × (d.byte ≡ c)
letter_code p c (inl e) =
    let off : CodeDef = record { byte = p.off; work = false } in
    (off, in_second off (codes_of true p.activities) (off ∷ codes_of false p.activities) (inl refl), sym e)
letter_code p c (inr (a, at, e)) = go a.work refl
  where
    go : (v : Bool) → a.work ≡ v → (d : CodeDef) × In d (plan_codes p) × (d.byte ≡ c)
    go true w =
        let own : CodeDef = record { byte = a.code; work = true } in
        let off : CodeDef = record { byte = p.off; work = false } in
        (own, in_first own (codes_of true p.activities) (off ∷ codes_of false p.activities) (code_in true p.activities a at w), sym e)
    go false w =
        let own : CodeDef = record { byte = a.code; work = false } in
        let off : CodeDef = record { byte = p.off; work = false } in
        (own, in_second own (codes_of true p.activities) (off ∷ codes_of false p.activities) (inr (code_in false p.activities a at w)), sym e)

pub spelled : (p : PeriodPlan) (g : Grammar) → g.codes ≡ plan_codes p → (c : ℕ) → IsLetter p c → byte_of g (code_place c (plan_codes p)) ≡ c ∷ []
spelled p g is c letter =
    let l = letter_code p c letter in
    let found = code_at c (plan_codes p) l.0 l.1 l.2 in
    let there : slice_get g.codes (code_place c (plan_codes p)) ≡ Some found.0 = ap (λ ds. slice_get ds (code_place c (plan_codes p))) is ∙ found.1 in
    ap (λ (o : Option CodeDef). elim o [ None ↦ [] | Some d ↦ d.byte ∷ [] ]) there ∙ ap (λ b. b ∷ []) found.2

-- where a duty name has its name, the rules start at a day of any
start_is : (xs : List NamedLines) (x : NamedLines) → In x xs → x.name ≢ [] → start_kind xs ≡ start xs
start_is [] x at some = absurd at
start_is (y ∷ []) x (inr at) some = absurd at
start_is (y ∷ []) x (inl e) some = go y.name refl
  where
    go : (n : List ℕ) → y.name ≡ n → only_day n y.lines ≡ start (record { name = n; lines = y.lines } ∷ [])
    go [] none = absurd (some (ap (λ (z : NamedLines). z.name) e ∙ none))
    go (c ∷ cs) is = refl
start_is (y ∷ z ∷ ys) x at some = refl

own_text : (name : List ℕ) (n : ℕ) → name ≢ [] → day_text name n ≡ name
own_text [] n some = absurd (some refl)
own_text (c ∷ cs) n some = refl

module _ (p : PeriodPlan) (xs : List NamedLines) (g : Grammar) (h : HasWritten p xs g) where
  abbrev num : Numbers Kind
  num = numbers_of (plan_codes p) h.names

  closed : Each (λ (k : Kind). Each (λ (own : NamedRule Kind). EachName (λ (x : Kind). In x h.names) own.right) (rules_for p (free_of p xs) k)) h.names
  closed = Each-in (λ (k : Kind). Each (λ (own : NamedRule Kind). EachName (λ (x : Kind). In x h.names) own.right) (rules_for p (free_of p xs) k)) h.names
      (λ k at. Each-in (λ (own : NamedRule Kind). EachName (λ (x : Kind). In x h.names) own.right) (rules_for p (free_of p xs) k)
      (λ own one. each_name (λ (x : Kind). In x h.names) own.right (λ x right. name_in p xs h.names h.closed x k own at ((same_members p xs k own).1 one) right)))

  written : IsWritten p (free_of p xs) num h.names g
  written = record {
    periods = h.is.periods;
    few = let most = h.sound.few_periods in omega (arith, most, h.is.periods);
    rules = record {
      same = λ rule. (
        (λ r. all_same num (written_for p xs) (rules_for p (free_of p xs)) (λ k own. (same_members p xs k own).0) h.names rule (subst (λ rs. In rule rs) h.is.rules r)),
        (λ r. subst (λ rs. In rule rs) (sym h.is.rules) (all_same num (rules_for p (free_of p xs)) (written_for p xs) (λ k own. (same_members p xs k own).1) h.names rule r)),
      );
      apart = λ j k at_j at_k e. one_place same is_same own_same j k h.names at_j at_k e;
      closed = closed;
      letters = λ c letter. spelled p g h.is.codes c letter;
    };
  }

  called : (x : NamedLines) → In x xs → x.name ≢ [] → IsCalled num h.names g x
  called x at some =
      let k = day x.name x.lines in
      let begins = start_in p xs h.names h.closed in
      let listed : In k h.names = name_in p xs h.names h.closed k (start xs) (day_rule x)
      (subst (λ y. In y h.names) (start_is xs x at some) begins) (in_map day_rule x xs at) (inl refl) in
      let i = place same k h.names in
      record {
        listed = listed;
        called = ap (λ ts. slice_get ts i) h.is.names ∙ text_at 0 h.names i k (at_place same is_same own_same k h.names listed)
            ∙ ap Some (own_text x.name (0 + i) some);
      }

  pub written_for_plan : IsWrittenFor p xs g
  written_for_plan = record {
    num = num;
    names = h.names;
    written = written;
    start_listed = start_in p xs h.names h.closed;
    start = h.is.start;
    called = called;
  }

pub written_law : WrittenLaw
written_law = λ p xs g h. written_for_plan p xs g h
