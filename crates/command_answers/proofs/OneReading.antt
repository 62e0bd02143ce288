-- A text has one reading.
use Rattle.std.proofs.Common.{◌≡◌, ℕ, List, Some, Result, Ok, Err, sym, ap, ◌∙◌}
use Rattle.std.specs.FinMap as fin
use Rattle.model_rosters.specs.declared.grammar.Grammar.{Grammar}
use Rattle.text_rules.specs.declared.fault.RulesFault.{RulesFault}
use Rattle.text_rules.specs.RulesOf.{IsReading}
use Rattle.text_rules.specs.FaultLine.{fault_line}
use Rattle.text_rules.proofs.OneReading.{one_reading}
use Rattle.command_shelf.specs.Shelf.{Texts}
use Rattle.command_answers.specs.Readings.{SaysFault}

pub same_text : (held : Texts) (name t u : List ℕ) → fin.get held name ≡ Some t → fin.get held name ≡ Some u → t ≡ u
same_text held name t u e f = let g : Some t ≡ Some u = sym e ∙ f in cc

pub same_ok : {A E : Type 0} (r : Result A E) (x y : A) → r ≡ Ok x → r ≡ Ok y → x ≡ y
same_ok r x y e f = let g : Ok x ≡ Ok y = sym e ∙ f in cc

pub same_err : {A E : Type 0} (r : Result A E) (x y : E) → r ≡ Err x → r ≡ Err y → x ≡ y
same_err r x y e f = let g : Err x ≡ Err y = sym e ∙ f in cc

pub not_both : {A E : Type 0} (r : Result A E) (x : A) (y : E) → r ≡ Ok x → r ≡ Err y → ⊥
not_both r x y e f = let g : Ok x ≡ Err y = sym e ∙ f in cc

-- a rules text has one grammar
pub same_grammar : (text : List ℕ) (g h : Grammar) → IsReading text (Ok g) → IsReading text (Ok h) → g ≡ h
same_grammar text g h r q = let e : Ok g ≡ Ok h = one_reading text (Ok g) (Ok h) r q in cc

same_fault : (text : List ℕ) (e f : RulesFault) → IsReading text (Err e) → IsReading text (Err f) → e ≡ f
same_fault text e f r q = let x : Err e ≡ Err f = one_reading text (Err e) (Err f) r q in cc

pub no_fault : (text : List ℕ) (g : Grammar) (e : RulesFault) → IsReading text (Ok g) → IsReading text (Err e) → ⊥
no_fault text g e r q = let x : Ok g ≡ Err e = one_reading text (Ok g) (Err e) r q in cc

pub faults_once : (text a b : List ℕ) → SaysFault text a → SaysFault text b → a ≡ b
faults_once text a b h k = h.line ∙ ap (λ (x : RulesFault). fault_line x) (same_fault text h.fault k.fault h.reading k.reading) ∙ sym k.line
