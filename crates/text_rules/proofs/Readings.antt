-- What a reading says of the lines of its text.
use Rattle.std.proofs.Common.{◌≡◌, ℕ, Bool, true, false, cond, List, length, Option, Some, None, Result, Ok, Err, refl, sym, ap, subst, ◌∙◌, arith, inl, inr, ◌⊎◌, ltb}
use Rattle.text_lines.specs.Lines.{text_items}
use Rattle.model_rosters.specs.declared.grammar.Grammar.{Grammar}
use Rattle.text_rules.specs.declared.fault.RulesFault.{RulesFault}
use Rattle.text_rules.specs.declared.fault.RulesFault.TheVariants.{NoPeriods, NoStart, NoRule, TooLong}
use Rattle.text_rules.specs.declared.draft.Draft.{Draft}
use Rattle.text_rules.specs.declared.draft.Parsed.{Parsed}
use Rattle.text_rules.specs.declared.draft.Start.{Start}
use Rattle.text_rules.specs.declared.place.Place.{Place}
use Rattle.text_rules.specs.Names.{has_name}
use Rattle.text_rules.specs.Steps.{◌>>=◌}
use Rattle.text_rules.specs.RulesOf.{all_ruled, no_rule, some_periods, some_start, unruled, finish, no_draft, draft_of, parsed_of, IsOutcome, IsReading}
use Rattle.text_rules.specs.Forms.{IsComplete, IsFirstRefused, IsOfWhole, IsRefusedWhole}
use Rattle.text_lines.proofs.StepsLemmas.{passed, bind_ok, err}
use Rattle.text_lines.proofs.ListLemmas.{has}
use Rattle.text_rules.proofs.FaultAt.{refused_at}
use Rattle.text_rules.proofs.LineForms.{all_add}

some_number : (o : Option ℕ) (n : ℕ) → some_periods o ≡ Ok n → has o ≡ 1
some_number None n e = absurd cc
some_number (Some m) n e = refl

some_name : (o : Option Start) (s : Start) → some_start o ≡ Ok s → has o ≡ 1
some_name None s e = absurd cc
some_name (Some t) s e = refl

finish_both : (d : Draft) (p : Parsed) → finish d ≡ Ok p → (has d.periods ≡ 1) × (has d.start ≡ 1)
unfolding finish
finish_both d p e =
    let n = bind_ok (some_periods d.periods) _ _ e in
    let s = bind_ok (some_start d.start) _ _ n.2 in
    (some_number d.periods n.0 n.1, some_name d.start s.0 s.1)

-- a parsed text is short, and its lines make a draft that is finished
parsed_parts : (text : List ℕ) (p : Parsed) → parsed_of text ≡ Ok p → (d : Draft) × (draft_of text ≡ Ok d) × (finish d ≡ Ok p)
unfolding parsed_of
parsed_parts text p e =
    let short = passed (ltb 1048576 (length text)) TooLong (draft_of text >>= finish) p e in
    bind_ok (draft_of text) finish p short.1

complete_parsed : (text : List ℕ) (p : Parsed) → parsed_of text ≡ Ok p → IsComplete text
complete_parsed text p e =
    let d = parsed_parts text p e in
    let both = finish_both d.0 p d.2 in
    let added = all_add no_draft d.0 (text_items text) d.1 in
    record { forms = added.forms; periods = omega (arith, added.periods_said, both.0); start = omega (arith, added.start_said, both.1) }

-- ---- the faults of the whole

periods_fault : (o : Option ℕ) (e : RulesFault) → some_periods o ≡ Err e → IsOfWhole e
periods_fault None e h = let same : NoPeriods ≡ e = cc in subst IsOfWhole same tt
periods_fault (Some n) e h = absurd cc

start_fault : (o : Option Start) (e : RulesFault) → some_start o ≡ Err e → IsOfWhole e
start_fault None e h = let same : NoStart ≡ e = cc in subst IsOfWhole same tt
start_fault (Some s) e h = absurd cc

ruled_fault : (o : Option Place) (e : RulesFault) → all_ruled o ≡ Err e → IsOfWhole e
ruled_fault None e h = absurd cc
ruled_fault (Some p) e h = let same : no_rule p ≡ e = cc in subst IsOfWhole same tt

named_fault : {A : Type 0} (t : Bool) (a : A) (line : ℕ) (e : RulesFault) → cond t (Ok a) (Err (NoRule line 2)) ≡ Err e → IsOfWhole e
named_fault true a line e h = absurd cc
named_fault false a line e h = let same : NoRule line 2 ≡ e = cc in subst IsOfWhole same tt

-- what a step gave that ended in a fault: the fault, or a value behind which it came
step_fault : {A B : Type 0} (r : Result A RulesFault) (f : A → Result B RulesFault) (e : RulesFault) → r >>= f ≡ Err e → (r ≡ Err e) ⊎ ((a : A) × (f a ≡ Err e))
step_fault {A} (Err c) f e h = let same : c ≡ e = cc in inl (ap (λ (x : RulesFault). err {A = A} x) same)
step_fault (Ok a) f e h = inr (a, h)

finish_fault : (d : Draft) (e : RulesFault) → finish d ≡ Err e → IsOfWhole e
unfolding finish
finish_fault d e h = elim (step_fault (some_periods d.periods) _ e h) [
  | inl p ↦ periods_fault d.periods e p
  | inr p ↦ elim (step_fault (some_start d.start) _ e p.1) [
    | inl s ↦ start_fault d.start e s
    | inr s ↦ elim (step_fault (all_ruled (unruled d.rules.rules 0 d.rules.names.places)) _ e s.1) [
      | inl r ↦ ruled_fault (unruled d.rules.rules 0 d.rules.names.places) e r
      | inr r ↦ named_fault (has_name d.rules.names.texts s.0.name) _ s.0.line e r.1
    ]
  ]
]

outcome_fault : (r : Result Parsed RulesFault) (e : RulesFault) → ((c : RulesFault) → r ≡ Err c → IsOfWhole c) → IsOutcome r (Err e) → IsOfWhole e
outcome_fault (Ok p) e of h = subst IsOfWhole (sym h.fault) tt
outcome_fault (Err c) e of h = let same : c ≡ e = cc in subst IsOfWhole same (of c refl)

refused_whole : (text : List ℕ) (d : Draft) (e : RulesFault) → draft_of text ≡ Ok d → IsOutcome (finish d) (Err e) → IsRefusedWhole text e
refused_whole text d e s h = record { draft = d; stand = s; outcome = h; of_whole = outcome_fault (finish d) e (finish_fault d) h }

abbrev Why : List ℕ → RulesFault → Type 0
Why text e = (e ≡ TooLong) ⊎ (IsFirstRefused text e ⊎ IsRefusedWhole text e)

refused_parsed : (text : List ℕ) (e : RulesFault) → parsed_of text ≡ Err e → Why text e
unfolding parsed_of
refused_parsed text e h = by (ltb 1048576 (length text)) (draft_of text) refl h
  where
    by : (t : Bool) (r : Result Draft RulesFault) → draft_of text ≡ r → cond t (err TooLong) (r >>= finish) ≡ Err e → Why text e
    by true r s q = inl cc
    by false (Err c) s q = let same : c ≡ e = cc in inr (inl (refused_at text e (s ∙ ap (λ (x : RulesFault). err {A = Draft} x) same)))
    by false (Ok d) s q = inr (inr (refused_whole text d e s (subst (λ (r : Result Parsed RulesFault). IsOutcome r (Err e)) (sym q) refl)))

pub accepted_lines : (text : List ℕ) (g : Grammar) → IsReading text (Ok g) → IsComplete text
accepted_lines text g h = by (parsed_of text) refl h
  where
    by : (r : Result Parsed RulesFault) → parsed_of text ≡ r → IsOutcome r (Ok g) → IsComplete text
    by (Ok p) s q = complete_parsed text p s
    by (Err c) s q = absurd cc

pub refused_line : (text : List ℕ) (e : RulesFault) → IsReading text (Err e) → (e ≡ TooLong) ⊎ (IsFirstRefused text e ⊎ IsRefusedWhole text e)
refused_line text e h = by (parsed_of text) refl h
  where
    by : (r : Result Parsed RulesFault) → parsed_of text ≡ r → IsOutcome r (Err e) → Why text e
    by (Ok p) s q = let d = parsed_parts text p s in inr (inr (refused_whole text d.0 e d.1 (subst (λ (r : Result Parsed RulesFault). IsOutcome r (Err e)) (sym d.2) q)))
    by (Err c) s q = let same : e ≡ c = cc in refused_parsed text e (s ∙ ap (λ (x : RulesFault). err {A = Parsed} x) (sym same))
