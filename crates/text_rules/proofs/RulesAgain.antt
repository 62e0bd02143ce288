-- The rule lines that were written are read again.
use Rattle.std.proofs.Common.{◌≡◌, ℕ, ◌+◌, ◌<◌, ◌≤◌, max, List, [], ◌∷◌, ◌++◌, length, map, Result, Ok, refl, sym, ap, ◌∙◌, arith, append_assoc, append-nil, length-append}
use Rattle.std.specs.Prelude.{codes, All}
use Rattle.std.proofs.lemmas.List.Elements.{All-head, All-tail}
use Rattle.text_lines.specs.Written.{numbered}
use Rattle.model_rosters.specs.declared.grammar.Rule.{Rule}
use Rattle.model_rosters.specs.declared.grammar.Sym.{Sym}
use Rattle.model_rosters.specs.declared.grammar.Sym.TheVariants.{Code, Name}
use Rattle.model_rosters.specs.Sound.{Exists, IsRule, AreInOrder, names_of, appearances}
use Rattle.text_rules.specs.declared.fault.RulesFault.{RulesFault}
use Rattle.text_rules.specs.declared.draft.Draft.{Draft}
use Rattle.text_rules.specs.declared.place.Place.{Place}
use Rattle.text_rules.specs.declared.rules.Rules.{Rules}
use Rattle.text_rules.specs.Steps.{each}
use Rattle.text_rules.specs.Names.{Named}
use Rattle.text_rules.specs.Lines.{line_at, item_at}
use Rattle.text_rules.specs.RuleLine.{rule_at}
use Rattle.text_rules.specs.Drafts.{known_after}
use Rattle.text_rules.specs.Written.{rule_words, rule_line}
use Rattle.text_lines.proofs.StepsLemmas.{ok}
use Rattle.text_rules.proofs.Orders.{order-parts, known-append}
use Rattle.text_rules.proofs.RuleSound.{NamesSound, CodesSound, rule_sound}
use Rattle.text_rules.proofs.RuleAgain.{known, rule_again}

-- names that exist are at most all names
pub known_within : (codes n m : ℕ) (ss : List Sym) → m ≤ n → All (Exists codes n) ss → known_after m (names_of ss) ≤ n
known_within codes n m [] le h = le
known_within codes n m (Code c ∷ ss) le h = known_within codes n m ss le (All-tail (Exists codes n) (Code c) ss h)
known_within codes n m (Name x ∷ ss) le h =
    let lt : x < n = All-head (Exists codes n) (Name x) ss h in
    known_within codes n (max m (x + 1)) ss (omega arith) (All-tail (Exists codes n) (Name x) ss h)

rule_line_again : (k : ℕ) (d : Draft) (ns : List (List ℕ)) (r : Rule) (new : Rules) → rule_at k d.codes d.rules (rule_words d.codes ns r) ≡ Ok new → line_at k d (rule_line d.codes ns r) ≡ Ok (record d { rules = new })
unfolding line_at
rule_line_again k d ns r new e = rw e refl

abbrev pub with_rules : Draft → Named → List Rule → Draft
with_rules d ns rs = record d { rules = record { names = ns; rules = rs } }

pub rules_again : (k : ℕ) (d : Draft) (ns : List (List ℕ)) (m : ℕ) (ps : List Place) (done rs : List Rule) → CodesSound d.codes → NamesSound ns → m ≤ length ns → All (IsRule (length d.codes) (length ns)) rs → AreInOrder m (appearances rs) → length done + length rs ≤ 64
    → (qs : List Place) × (each item_at (with_rules d (known ns m ps) done) (numbered k (map (rule_line d.codes ns) rs)) ≡ Ok (with_rules d (known ns (known_after m (appearances rs)) qs) (done ++ rs)))
rules_again k d ns m ps done [] cs s le h o few = (ps, rw (append-nil done) refl)
rules_again k d ns m ps done (r ∷ rs) cs s le h o few =
    let Sound : Rule → Type 0 = IsRule (length d.codes) (length ns) in
    let here : Sound r = All-head Sound r rs h in
    let parts = order-parts m (r.left ∷ names_of r.right) (appearances rs) o in
    let m2 : ℕ = known_after m (r.left ∷ names_of r.right) in
    let one = rule_again k d.codes ns m ps done r cs s le (rule_sound d.codes ns m r here parts.0) (omega arith) in
    let within : m2 ≤ length ns = known_within (length d.codes) (length ns) (max m (r.left + 1)) r.right (omega (arith, here.left)) here.symbols in
    let more = rules_again (k + 1) d ns m2 one.0 (done ++ r ∷ []) rs cs s within (All-tail Sound r rs h) parts.1 (omega (arith, length-append done (r ∷ []))) in
    let read = rule_line_again k (with_rules d (known ns m ps) done) ns r (record { names = known ns m2 one.0; rules = done ++ r ∷ [] }) one.1 in
    let count : known_after m (appearances (r ∷ rs)) ≡ known_after m2 (appearances rs) = known-append m (r.left ∷ names_of r.right) (appearances rs) in
    let Counted : ℕ → Result Draft RulesFault = λ (n : ℕ). ok (with_rules d (known ns n more.0) (done ++ r ∷ rs)) in
    let Joined : List Rule → Result Draft RulesFault = λ (l : List Rule). ok (with_rules d (known ns (known_after m2 (appearances rs)) more.0) l) in
    (more.0, rw read (more.1 ∙ ap Joined (append_assoc done (r ∷ []) rs) ∙ ap Counted (sym count)))
