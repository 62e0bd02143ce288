-- A text is read in one way.
use Rattle.std.proofs.Common.{◌≡◌, ℕ, List, Some, Result, Ok, Err, sym, ap, ◌∙◌, inl, inr, subst}
use Rattle.std.specs.Prelude.{slice_get}
use Rattle.std.proofs.lemmas.Bool.{cases_order}
use Rattle.model_rosters.specs.declared.grammar.Grammar.{Grammar}
use Rattle.text_rules.specs.declared.fault.RulesFault.{RulesFault}
use Rattle.text_rules.specs.declared.fault.RulesFault.TheVariants.{UnitCycle}
use Rattle.text_rules.specs.declared.draft.Parsed.{Parsed}
use Rattle.text_rules.specs.declared.place.Place.{Place}
use Rattle.text_rules.specs.RulesOf.{HasNoCycle, IsCycleFault, IsValue, IsOutcome, parsed_of, IsReading}

abbrev read : Grammar → Result Grammar RulesFault
read g = Ok g

abbrev refused : RulesFault → Result Grammar RulesFault
refused e = Err e

same_some : (a b : Place) → Some a ≡ Some b → a ≡ b
same_some a b e = cc

one_cycle : (p : Parsed) (e f : RulesFault) → IsCycleFault p e → IsCycleFault p f → e ≡ f
one_cycle p e f a b = elim (cases_order a.name b.name) [
  | inl same ↦
      let place : a.place ≡ b.place = same_some a.place b.place (sym a.there ∙ ap (slice_get p.places) same ∙ b.there) in
      let fault : Place → RulesFault = λ (q : Place). UnitCycle q.line q.word in
      a.fault ∙ ap fault place ∙ sym b.fault
  | inr apart ↦ elim apart [
    | inl lt ↦ absurd (b.first.first a.name lt a.first.within)
    | inr gt ↦ absurd (a.first.first b.name gt b.first.within)
  ]
]

no_fault : (p : Parsed) (g : Grammar) (e : RulesFault) → g ≡ p.grammar → HasNoCycle g → IsCycleFault p e → ⊥
no_fault p g e same none a = subst HasNoCycle same none a.name a.first.within

one_value : (p : Parsed) (r s : Result Grammar RulesFault) → IsValue p r → IsValue p s → r ≡ s
one_value p (Ok g) (Ok h) a b = ap read (a.0 ∙ sym b.0)
one_value p (Ok g) (Err e) a b = absurd (no_fault p g e a.0 a.1 b)
one_value p (Err e) (Ok g) a b = absurd (no_fault p g e b.0 b.1 a)
one_value p (Err e) (Err f) a b = ap refused (one_cycle p e f a b)

one_outcome : (said : Result Parsed RulesFault) (r s : Result Grammar RulesFault) → IsOutcome said r → IsOutcome said s → r ≡ s
one_outcome (Ok p) r s a b = one_value p r s a b
one_outcome (Err e) r s a b = a ∙ sym b

pub one_reading : (text : List ℕ) (r s : Result Grammar RulesFault) → IsReading text r → IsReading text s → r ≡ s
one_reading text r s a b = one_outcome (parsed_of text) r s a b
