-- A grammar that was written is read again.
use Rattle.std.proofs.Common.{◌≡◌, ℕ, zero, suc, ◌+◌, ◌<◌, ◌≤◌, true, false, max, List, [], ◌∷◌, ◌++◌, length, take, map, Some, None, Result, Ok, refl, ap, ◌∙◌, arith, inl, inr, eqb, ltb, length-append}
use Rattle.std.specs.Prelude.{All, codes}
use Rattle.std.specs.Str.{bytes_eq}
use Rattle.std.proofs.lemmas.Bool.{le-ltb, lt-ltb, or_cases, eqb-true}
use Rattle.std.proofs.lemmas.List.{length-map}
use Rattle.std.proofs.lemmas.List.Elements.{All-head, All-tail}
use Rattle.std.proofs.Math.Seq.{take-length}
use Rattle.text_lines.specs.Lines.{text_items}
use Rattle.text_lines.specs.Written.{numbered}
use Rattle.text_lines.proofs.WrittenAgain.{written_again}
use Rattle.model_rosters.specs.declared.grammar.CodeDef.{CodeDef}
use Rattle.model_rosters.specs.declared.grammar.Rule.{Rule}
use Rattle.model_rosters.specs.declared.grammar.Grammar.{Grammar}
use Rattle.model_rosters.specs.Folds.{Each}
use Rattle.model_rosters.specs.Names.{is_code_byte, is_name}
use Rattle.model_rosters.specs.Sound.{IsRule, names_of, appearances, has_rule, IsSound, IsPlain}
use Rattle.text_rules.specs.declared.fault.RulesFault.{RulesFault}
use Rattle.text_rules.specs.declared.draft.Draft.{Draft}
use Rattle.text_rules.specs.declared.place.Place.{Place}
use Rattle.text_rules.specs.Steps.{◌>>=◌, each}
use Rattle.text_rules.specs.Names.{has_name, place_of}
use Rattle.text_rules.specs.Lines.{periods_at, start_at, line_at, item_at}
use Rattle.text_rules.specs.RulesOf.{unruled, finish, no_draft, draft_of, parsed_of, IsReading}
use Rattle.text_rules.specs.Drafts.{known_after, IsDraft}
use Rattle.text_rules.specs.Written.{periods_line, code_line, start_line, rule_line, grammar_lines, rules_text}
use Rattle.text_lines.proofs.StepsLemmas.{ok, each-append}
use Rattle.text_rules.proofs.Places.{any_place}
use Rattle.text_rules.proofs.Orders.{known-append}
use Rattle.text_rules.proofs.LinesKept.{draft_keeps}
use Rattle.model_rosters.proofs.StepRules.{no_cycle}
use Rattle.model_rosters.proofs.EachLemmas.{Each-append, Each-map}
use Rattle.text_rules.proofs.RuleSound.{NamesSound, CodesSound, names_sound, codes_sound}
use Rattle.text_lines.proofs.FieldsLemmas.{number_at_again}
use Rattle.text_rules.specs.declared.fault.RulesFault.TheVariants.{BadNumber, OutOfRange}
use Rattle.text_rules.proofs.CodesAgain.{codes_again}
use Rattle.text_rules.proofs.RulesAgain.{known_within, with_rules, rules_again}
use Rattle.text_rules.proofs.FineLines.{IsFineLine, periods_fine, code_fine, start_fine, rule_fine, lines_written, lines_short}
use Rattle.text_lines.proofs.WrittenLemmas.{numbered-append}
use Rattle.text_lines.specs.Names.{name_of}

-- all names are known at the end

known_grows : (m : ℕ) (xs : List ℕ) → m ≤ known_after m xs
known_grows m [] = omega arith
known_grows m (x ∷ xs) = omega (arith, known_grows (max m (x + 1)) xs)

left_known : (m : ℕ) (rs : List Rule) (x : ℕ) → has_rule rs x ≡ true → x < known_after m (appearances rs)
left_known m [] x h = absurd cc
left_known m (r ∷ rs) x h = elim (or_cases (eqb r.left x) (has_rule rs x) h) [
  | inl here ↦ let same : r.left ≡ x = eqb-true r.left x here in omega (arith, known_grows (max m (r.left + 1)) (names_of r.right ++ appearances rs))
  | inr later ↦
      let more : x < known_after (known_after m (r.left ∷ names_of r.right)) (appearances rs) = left_known (known_after m (r.left ∷ names_of r.right)) rs x later in
      let join : known_after m (appearances (r ∷ rs)) ≡ known_after (known_after m (r.left ∷ names_of r.right)) (appearances rs) = known-append m (r.left ∷ names_of r.right) (appearances rs) in
      omega (arith, more, join)
]

all_within : (codes n m : ℕ) (rs : List Rule) → m ≤ n → All (IsRule codes n) rs → known_after m (appearances rs) ≤ n
all_within codes n m [] le h = le
all_within codes n m (r ∷ rs) le h =
    let here : IsRule codes n r = All-head (IsRule codes n) r rs h in
    let m2 : ℕ = known_after m (r.left ∷ names_of r.right) in
    let first : m2 ≤ n = known_within codes n (max m (r.left + 1)) r.right (omega (arith, here.left)) here.symbols in
    let more : known_after m2 (appearances rs) ≤ n = all_within codes n m2 rs first (All-tail (IsRule codes n) r rs h) in
    let join : known_after m (appearances (r ∷ rs)) ≡ known_after m2 (appearances rs) = known-append m (r.left ∷ names_of r.right) (appearances rs) in
    omega (arith, more, join)

all_known : (g : Grammar) → IsSound g → known_after 0 (appearances g.rules) ≡ length g.names
all_known g s =
    let le : known_after 0 (appearances g.rules) ≤ length g.names = all_within (length g.codes) (length g.names) 0 g.rules (omega arith) s.rules in
    by (length g.names) refl le (omega (arith, s.start))
  where
    by : (n : ℕ) → length g.names ≡ n → known_after 0 (appearances g.rules) ≤ length g.names → 0 < length g.names → known_after 0 (appearances g.rules) ≡ length g.names
    by zero e le lt = absurd (omega (arith, e, lt))
    by (suc n) e le lt =
        let last : n < known_after 0 (appearances g.rules) = left_known 0 g.rules n (s.names.ruled n (omega (arith, e))) in
        omega (arith, e, le, last)

-- the lines

periods_again : (k n : ℕ) → 1 ≤ n → n ≤ 96 → line_at k no_draft (periods_line n) ≡ Ok (record no_draft { periods = Some n })
unfolding line_at periods_at
periods_again k n ge le = rw (number_at_again (BadNumber k) (OutOfRange k) 1 96 n ge le (omega arith)) refl

record IsUnstarted (d : Draft) : Type 0 where
  none : d.start ≡ None

start_again : (k : ℕ) (d : Draft) (w : List ℕ) → is_name w ≡ true → IsUnstarted d → line_at k d (start_line w) ≡ Ok (record d { start = Some (record { line = k; name = w }) })
unfolding line_at start_at
start_again k d w e h = rw (e, h.none) refl

-- the draft of a written grammar
abbrev drafted : Grammar → ℕ → List Place → Draft
drafted g k qs = record { periods = Some g.periods; codes = g.codes; start = Some (record { line = k; name = name_of g.names g.start }); rules = record { names = record { texts = g.names; places = qs }; rules = g.rules } }

lines_again : (g : Grammar) → IsSound g → IsPlain g → (k : ℕ) × (qs : List Place) × (each item_at no_draft (numbered 1 (grammar_lines g)) ≡ Ok (drafted g k qs))
lines_again g s p =
    let d1 : Draft = record no_draft { periods = Some g.periods } in
    let d2 : Draft = record d1 { codes = g.codes } in
    let cs : List (List (List ℕ)) = map code_line g.codes in
    let rs : List (List (List ℕ)) = map (rule_line g.codes g.names) g.rules in
    let w : List ℕ = name_of g.names g.start in
    let k : ℕ = 2 + length cs in
    let d3 : Draft = record d2 { start = Some (record { line = k; name = w }) } in
    let ns : NamesSound g.names = names_sound g s.names p in
    let first : line_at 1 no_draft (periods_line g.periods) ≡ Ok d1 = periods_again 1 g.periods s.some_period s.few_periods in
    let second : each item_at d1 (numbered 2 cs) ≡ Ok d2 = codes_again 2 d1 g.codes s.codes in
    let third : line_at k d2 (start_line w) ≡ Ok d3 = start_again k d2 w (ns.names g.start s.start) (record { none = refl }) in
    let fourth = rules_again (k + 1) d3 g.names 0 [] [] g.rules (codes_sound g.codes s.codes) ns (omega arith) s.rules s.names.ordered (omega (arith, p.few_rules)) in
    let all : take (known_after 0 (appearances g.rules)) g.names ≡ g.names = ap (λ (n : ℕ). take n g.names) (all_known g s) ∙ take-length g.names in
    let Filled : List (List ℕ) → Result Draft RulesFault = λ (l : List (List ℕ)). ok (with_rules d3 (record { texts = l; places = fourth.0 }) g.rules) in
    let split : each item_at d1 (numbered 2 (cs ++ start_line w ∷ rs)) ≡ (each item_at d1 (numbered 2 cs) >>= λ (t : Draft). each item_at t (numbered k (start_line w ∷ rs))) = ap (each item_at d1) (numbered-append 2 cs (start_line w ∷ rs)) ∙ each-append item_at d1 (numbered 2 cs) (numbered k (start_line w ∷ rs)) in
    let last : each item_at d2 (numbered k (start_line w ∷ rs)) ≡ Ok (drafted g k fourth.0) = rw third (fourth.1 ∙ ap Filled all) in
    (k, fourth.0, rw (first, split, second) last)

-- the end

none_unruled : (rules : List Rule) (x : ℕ) (ps : List Place) → ((y : ℕ) → x ≤ y → y < x + length ps → has_rule rules y ≡ true) → unruled rules x ps ≡ None
none_unruled rules x [] h = refl
none_unruled rules x (p ∷ ps) h = rw (h x (omega arith) (omega arith)) (none_unruled rules (x + 1) ps (λ y ge lt. h y (omega arith) (omega arith)))

finish_again : (g : Grammar) (k : ℕ) (qs : List Place) → IsSound g → IsPlain g → length qs ≡ length g.names → finish (drafted g k qs) ≡ Ok (record { grammar = g; places = qs })
unfolding finish
finish_again g k qs s p len =
    let ns : NamesSound g.names = names_sound g s.names p in
    let w : List ℕ = name_of g.names g.start in
    let ruled : unruled g.rules 0 qs ≡ None = none_unruled g.rules 0 qs (λ y ge lt. s.names.ruled y (omega (arith, lt, len))) in
    let place : place_of g.names w ≡ g.start = ns.distinct g.start s.start in
    let has : has_name g.names w ≡ true = any_place (λ (n : List ℕ). bytes_eq w n) g.names ∙ ap (λ (n : ℕ). ltb n (length g.names)) place ∙ lt-ltb g.start (length g.names) s.start in
    rw (ruled, has, place) refl

all_fine : (g : Grammar) → IsSound g → IsPlain g → Each IsFineLine (grammar_lines g)
all_fine g s p =
    let ns : NamesSound g.names = names_sound g s.names p in
    let cs : CodesSound g.codes = codes_sound g.codes s.codes in (
      periods_fine g.periods s.few_periods,
      Each-append IsFineLine (map code_line g.codes) _ (Each-map (λ (c : CodeDef). is_code_byte c.byte ≡ true) IsFineLine code_line code_fine g.codes s.codes.bytes) (
        start_fine (name_of g.names g.start) (ns.names g.start s.start),
        Each-map (IsRule (length g.codes) (length g.names)) IsFineLine (rule_line g.codes g.names) (rule_fine g.codes g.names cs ns) g.rules s.rules,
      ),
    )

short : (g : Grammar) → IsSound g → IsPlain g → length (rules_text g) ≤ 1048576
short g s p =
    let cs : List (List (List ℕ)) = map code_line g.codes in
    let rs : List (List (List ℕ)) = map (rule_line g.codes g.names) g.rules in
    let c : length cs ≡ length g.codes = simp length-map in
    let r : length rs ≡ length g.rules = simp length-map in
    omega (arith, lines_short (grammar_lines g) (all_fine g s p), length-append cs (start_line (name_of g.names g.start) ∷ rs), c, r, s.codes.few, p.few_rules)

parsed_again : (g : Grammar) → IsSound g → IsPlain g → (qs : List Place) × (parsed_of (rules_text g) ≡ Ok (record { grammar = g; places = qs }))
unfolding parsed_of
parsed_again g s p =
    let lines = lines_again g s p in
    let items : text_items (rules_text g) ≡ numbered 1 (grammar_lines g) = written_again 1 (grammar_lines g) (lines_written (grammar_lines g) (all_fine g s p)) in
    let draft : draft_of (rules_text g) ≡ Ok (drafted g lines.0 lines.1) = ap (each item_at no_draft) items ∙ lines.2 in
    let sound : IsDraft (drafted g lines.0 lines.1) = draft_keeps (rules_text g) (drafted g lines.0 lines.1) draft in
    let few : ltb 1048576 (length (rules_text g)) ≡ false = le-ltb 1048576 (length (rules_text g)) (short g s p) in
    (lines.1, rw (few, draft) (finish_again g lines.0 lines.1 s p sound.rules.names.places))

pub grammar_again : (g : Grammar) → IsSound g → IsPlain g → IsReading (rules_text g) (Ok g)
grammar_again g s p =
    let h = parsed_again g s p in
    rw h.1 (refl, no_cycle g s.ranks.0 (length g.names) s.ranks.1)
