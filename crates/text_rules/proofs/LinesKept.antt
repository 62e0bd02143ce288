-- A line that is read keeps what was read sound.
use Rattle.std.proofs.Common.{◌≡◌, ℕ, ◌≤◌, Bool, true, false, not, cond, List, [], ◌∷◌, length, Some, Result, Ok, Err, refl, arith, subst}
use Rattle.std.specs.Prelude.{codes, is_some}
use Rattle.std.specs.Str.{bytes_eq}
use Rattle.std.proofs.lemmas.List.Elements.{All-nil, All-weaker}
use Rattle.text_lines.specs.Lines.{TextLine, text_items}
use Rattle.text_lines.specs.declared.line.BadByte as bad
use Rattle.model_rosters.specs.declared.grammar.CodeDef.{CodeDef}
use Rattle.model_rosters.specs.Names.{is_name}
use Rattle.model_rosters.specs.Sound.{AreCodes, IsRule}
use Rattle.text_rules.specs.declared.fault.RulesFault.TheVariants.{UnknownLine, BadName, Twice}
use Rattle.text_rules.specs.declared.draft.Draft.{Draft}
use Rattle.text_rules.specs.declared.rules.Rules.{Rules}
use Rattle.text_rules.specs.Steps.{◌>>=◌, each}
use Rattle.text_rules.specs.Fields.{number_at}
use Rattle.text_rules.specs.Lines.{declare_at, codes_at, periods_at, start_at, line_at, item_at}
use Rattle.text_rules.specs.RuleLine.{rule_at}
use Rattle.text_rules.specs.RulesOf.{no_draft, draft_of}
use Rattle.text_rules.specs.Drafts.{AreRules, IsDraft}
use Rattle.text_lines.proofs.StepsLemmas.{each_keeps, passed, bind_ok, same_ok, err, ok}
use Rattle.text_rules.proofs.CodesKept.{declare_keeps}
use Rattle.text_lines.proofs.FieldsLemmas.{number_within}
use Rattle.text_rules.proofs.RuleKept.{rule_more, rule_keeps}

codes_more : (defs new : List CodeDef) (st : Rules) → length defs ≤ length new → AreRules defs st → AreRules new st
codes_more defs new st le s = record {
  names = s.names;
  few = s.few;
  each = All-weaker (IsRule (length defs) (length st.names.texts)) (IsRule (length new) (length st.names.texts)) (rule_more (length defs) (length new) (length st.names.texts) (length st.names.texts) le (omega arith)) st.rules s.each;
  ordered = s.ordered;
  counted = s.counted;
}

abbrev Grown : List CodeDef → List CodeDef → Type 0
Grown old new = AreCodes new × (length old ≤ length new)

codes_keep : (k : ℕ) (work : Bool) (d new : Draft) (ws : List (List ℕ)) → IsDraft d → codes_at k work d ws ≡ Ok new → IsDraft new
unfolding codes_at
codes_keep k work d new [] s e = absurd cc
codes_keep k work d new (w ∷ ws) s e =
    let b = bind_ok (each (declare_at k work) d.codes (w ∷ ws)) (λ (defs : List CodeDef). ok (record d { codes = defs })) new e in
    let step : (old defs : List CodeDef) (v : List ℕ) → Grown d.codes old → declare_at k work old v ≡ Ok defs → Grown d.codes defs = λ old defs v g h. let more = declare_keeps k work old defs v g.0 h in (more.0, omega (arith, more.1, g.1)) in
    let g = each_keeps (declare_at k work) (Grown d.codes) step d.codes b.0 (w ∷ ws) (s.codes, omega arith) b.1 in
    subst IsDraft (same_ok (record d { codes = b.0 }) new b.2) (record { periods = s.periods; codes = g.0; rules = codes_more d.codes b.0 d.rules g.1 s.rules })

periods_keep : (k : ℕ) (d new : Draft) (ws : List (List ℕ)) → IsDraft d → periods_at k d ws ≡ Ok new → IsDraft new
unfolding periods_at
periods_keep k d new [] s e = absurd cc
periods_keep k d new (n ∷ []) s e =
    let b = bind_ok (number_at k 1 96 n) _ _ e in
    let once = passed _ _ _ _ b.2 in
    subst IsDraft (same_ok (record d { periods = Some b.0 }) new once.1) (record { periods = number_within _ _ 1 96 b.0 n b.1; codes = s.codes; rules = s.rules })
periods_keep k d new (n ∷ m ∷ ws) s e = absurd cc

start_keeps : (k : ℕ) (d new : Draft) (ws : List (List ℕ)) → IsDraft d → start_at k d ws ≡ Ok new → IsDraft new
unfolding start_at
start_keeps k d new [] s e = absurd cc
start_keeps k d new (n ∷ []) s e =
    let more : Draft = record d { start = Some (record { line = k; name = n }) } in
    let name = passed (not (is_name n)) (BadName k) (cond (is_some d.start) (err (Twice k)) (ok more)) new e in
    let once = passed (is_some d.start) (Twice k) (ok more) new name.1 in
    subst IsDraft (same_ok more new once.1) (record { periods = s.periods; codes = s.codes; rules = s.rules })
start_keeps k d new (n ∷ m ∷ ws) s e = absurd cc

rules_keep : (k : ℕ) (d new : Draft) (ws : List (List ℕ)) → IsDraft d → (rule_at k d.codes d.rules ws >>= λ (r : Rules). ok (record d { rules = r })) ≡ Ok new → IsDraft new
rules_keep k d new ws s e =
    let b = bind_ok (rule_at k d.codes d.rules ws) (λ (r : Rules). ok (record d { rules = r })) new e in
    subst IsDraft (same_ok (record d { rules = b.0 }) new b.2) (record { periods = s.periods; codes = s.codes; rules = rule_keeps k d.codes d.rules b.0 ws s.rules b.1 })

line_keeps : (k : ℕ) (d new : Draft) (ws : List (List ℕ)) → IsDraft d → line_at k d ws ≡ Ok new → IsDraft new
unfolding line_at
line_keeps k d new [] s e = absurd cc
line_keeps k d new (w ∷ ws) s e = by (bytes_eq w (codes "periods")) (bytes_eq w (codes "work")) (bytes_eq w (codes "idle")) (bytes_eq w (codes "start")) (bytes_eq w (codes "rule")) e
  where
    by : (p q r t u : Bool) → cond p (periods_at k d ws) (cond q (codes_at k true d ws) (cond r (codes_at k false d ws) (cond t (start_at k d ws) (cond u (rule_at k d.codes d.rules ws >>= λ (r : Rules). ok (record d { rules = r })) (err (UnknownLine k)))))) ≡ ok new → IsDraft new
    by true q r t u h = periods_keep k d new ws s h
    by false true r t u h = codes_keep k true d new ws s h
    by false false true t u h = codes_keep k false d new ws s h
    by false false false true u h = start_keeps k d new ws s h
    by false false false false true h = rules_keep k d new ws s h
    by false false false false false h = absurd cc

item_keeps : (d new : Draft) (item : Result TextLine bad.BadByte) → IsDraft d → item_at d item ≡ Ok new → IsDraft new
item_keeps d new (Ok line) s e = line_keeps line.number d new line.words s e
item_keeps d new (Err b) s e = absurd cc

pub no_draft_is : IsDraft no_draft
no_draft_is = record {
  periods = tt;
  codes = record { few = omega arith; few_work = omega arith; bytes = All-nil _; apart = λ i j a b lt ei ej. absurd cc };
  rules = record {
    names = record { few = omega arith; names = λ x name e. absurd cc; apart = λ i j a b lt ei ej. absurd cc; places = refl };
    few = omega arith;
    each = All-nil _;
    ordered = tt;
    counted = refl;
  };
}

-- what all lines of a text say is sound
pub draft_keeps : (text : List ℕ) (d : Draft) → draft_of text ≡ Ok d → IsDraft d
draft_keeps text d e = each_keeps item_at IsDraft item_keeps no_draft d (text_items text) no_draft_is e

pub items_keep : (d new : Draft) (items : List (Result TextLine bad.BadByte)) → IsDraft d → each item_at d items ≡ Ok new → IsDraft new
items_keep d new items s e = each_keeps item_at IsDraft item_keeps d new items s e
