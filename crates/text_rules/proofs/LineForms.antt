-- Lines that stand have one of the five forms.
use Rattle.std.proofs.Common.{◌≡◌, ℕ, suc, ◌+◌, Bool, true, false, cond, not, ◌&&◌, List, [], ◌∷◌, ◌++◌, take, drop, Some, Result, Ok, Err, refl, sym, ap, ◌∙◌, arith, subst}
use Rattle.std.specs.Prelude.{codes, is_some}
use Rattle.std.specs.Str.{bytes_eq}
use Rattle.std.proofs.lemmas.Bool.{and_parts}
use Rattle.std.proofs.lemmas.List.{take-append-drop}
use Rattle.text_lines.specs.Lines.{TextLine}
use Rattle.text_lines.specs.declared.line.BadByte as bad
use Rattle.model_rosters.specs.declared.grammar.CodeDef.{CodeDef}
use Rattle.model_rosters.specs.Folds.{Each, count}
use Rattle.model_rosters.specs.Names.{is_name, is_window_word}
use Rattle.text_rules.specs.declared.fault.RulesFault.TheVariants.{BadName, Twice, UnknownLine}
use Rattle.text_rules.specs.declared.draft.Draft.{Draft}
use Rattle.text_rules.specs.declared.rules.Rules.{Rules}
use Rattle.text_rules.specs.Steps.{◌>>=◌, each}
use Rattle.text_rules.specs.Fields.{number_at}
use Rattle.text_rules.specs.RuleLine.{are_windows, symbol_count, rule_of, rule_at}
use Rattle.text_rules.specs.Lines.{declare_at, codes_at, periods_at, start_at, line_at, item_at}
use Rattle.text_rules.specs.Forms.{IsForm, periods, work, idle, start, rule, HasForm}
use Rattle.text_lines.proofs.StepsLemmas.{held, passed, bind_ok, same_ok, err, ok}
use Rattle.text_lines.proofs.WordLemmas.{the_bytes}
use Rattle.text_lines.proofs.ListLemmas.{one_if, has, none_there}
use Rattle.text_lines.specs.Refusals.{begins}

-- what a line that stands is, and what it adds
record Stands (d new : Draft) (ws : List (List ℕ)) : Type 0 where
  form : IsForm ws
  periods_said : has new.periods ≡ one_if (begins (codes "periods") (Ok (record { number = 0; words = ws }))) + has d.periods
  start_said : has new.start ≡ one_if (begins (codes "start") (Ok (record { number = 0; words = ws }))) + has d.start

periods_stand : (k : ℕ) (d new : Draft) (ws : List (List ℕ)) → periods_at k d ws ≡ Ok new → Stands d new (codes "periods" ∷ ws)
unfolding periods_at
periods_stand k d new [] e = absurd cc
periods_stand k d new (n ∷ []) e =
    let b = bind_ok (number_at k 1 96 n) _ _ e in
    let more : Draft = record d { periods = Some b.0 } in
    let once = passed (is_some d.periods) (Twice k) (ok more) new b.2 in
    subst (λ (x : Draft). Stands d x (codes "periods" ∷ n ∷ [])) (same_ok more new once.1) (record { form = periods n refl; periods_said = omega (arith, none_there d.periods once.0); start_said = omega arith })
periods_stand k d new (n ∷ m ∷ ws) e = absurd cc

start_stands : (k : ℕ) (d new : Draft) (ws : List (List ℕ)) → start_at k d ws ≡ Ok new → Stands d new (codes "start" ∷ ws)
unfolding start_at
start_stands k d new [] e = absurd cc
start_stands k d new (n ∷ []) e =
    let more : Draft = record d { start = Some (record { line = k; name = n }) } in
    let name = passed (not (is_name n)) (BadName k) (cond (is_some d.start) (err (Twice k)) (ok more)) new e in
    let once = passed (is_some d.start) (Twice k) (ok more) new name.1 in
    subst (λ (x : Draft). Stands d x (codes "start" ∷ n ∷ [])) (same_ok more new once.1) (record { form = start n refl; periods_said = omega arith; start_said = omega (arith, none_there d.start once.0) })
start_stands k d new (n ∷ m ∷ ws) e = absurd cc

codes_stand : (k : ℕ) (t : Bool) (d new : Draft) (ws : List (List ℕ)) → codes_at k t d ws ≡ Ok new → (c : List ℕ) × (cs : List (List ℕ)) × (ws ≡ c ∷ cs) × (has new.periods ≡ has d.periods) × (has new.start ≡ has d.start)
unfolding codes_at
codes_stand k t d new [] e = absurd cc
codes_stand k t d new (w ∷ ws) e =
    let b = bind_ok (each (declare_at k t) d.codes (w ∷ ws)) (λ (defs : List CodeDef). ok (record d { codes = defs })) new e in
    let same : record d { codes = b.0 } ≡ new = same_ok (record d { codes = b.0 }) new b.2 in
    (w, ws, refl, ap (λ (x : Draft). has x.periods) (sym same), ap (λ (x : Draft). has x.start) (sym same))

symbols_plain : (ws : List (List ℕ)) → Each (λ (w : List ℕ). is_window_word w ≡ false) (take (symbol_count ws) ws)
symbols_plain [] = tt
symbols_plain (w ∷ ws) = by (is_window_word w) refl (symbols_plain ws)
  where
    by : (t : Bool) → is_window_word w ≡ t → Each (λ (v : List ℕ). is_window_word v ≡ false) (take (symbol_count ws) ws) → Each (λ (v : List ℕ). is_window_word v ≡ false) (take (cond (not t) (1 + symbol_count ws) 0) (w ∷ ws))
    by true e h = tt
    by false e h = let more : 1 + symbol_count ws ≡ suc (symbol_count ws) = omega arith in rw more (e, h)

joined : (n : ℕ) (ws : List (List ℕ)) → take n ws ++ drop n ws ≡ ws
joined n ws = take-append-drop n ws

rule_form : (k : ℕ) (defs : List CodeDef) (st new : Rules) (ws : List (List ℕ)) → rule_at k defs st ws ≡ Ok new → IsForm (codes "rule" ∷ ws)
unfolding rule_at
rule_form k defs st new [] e = absurd cc
rule_form k defs st new (a ∷ []) e = absurd cc
rule_form k defs st new (a ∷ b ∷ []) e = absurd cc
rule_form k defs st new (name ∷ cost ∷ mark ∷ rest) e =
    let n : ℕ = symbol_count rest in
    let form = held (bytes_eq mark (codes "=") && are_windows (drop n rest)) (UnknownLine k) (rule_of k defs st name cost (take n rest) (drop n rest)) new e in
    let parts = and_parts (bytes_eq mark (codes "=")) (are_windows (drop n rest)) form.0 in
    let line : List ℕ → List (List ℕ) → List (List ℕ) = λ m r. codes "rule" ∷ name ∷ cost ∷ m ∷ r in
    rule name cost (take n rest) (drop n rest) (ap (λ (m : List ℕ). line m rest) (the_bytes mark (codes "=") parts.0) ∙ ap (line (codes "=")) (sym (joined n rest))) (symbols_plain rest) parts.1

rules_stand : (k : ℕ) (d new : Draft) (ws : List (List ℕ)) → (rule_at k d.codes d.rules ws >>= λ (r : Rules). ok (record d { rules = r })) ≡ Ok new → Stands d new (codes "rule" ∷ ws)
rules_stand k d new ws e =
    let b = bind_ok (rule_at k d.codes d.rules ws) (λ (r : Rules). ok (record d { rules = r })) new e in
    subst (λ (x : Draft). Stands d x (codes "rule" ∷ ws)) (same_ok (record d { rules = b.0 }) new b.2) (record { form = rule_form k d.codes d.rules b.0 ws b.1; periods_said = omega arith; start_said = omega arith })

work_stands : (k : ℕ) (d new : Draft) (ws : List (List ℕ)) → codes_at k true d ws ≡ Ok new → Stands d new (codes "work" ∷ ws)
work_stands k d new ws e =
    let h = codes_stand k true d new ws e in
    record { form = work h.0 h.1 (ap (λ (r : List (List ℕ)). codes "work" ∷ r) h.2); periods_said = omega (arith, h.3); start_said = omega (arith, h.4) }

idle_stands : (k : ℕ) (d new : Draft) (ws : List (List ℕ)) → codes_at k false d ws ≡ Ok new → Stands d new (codes "idle" ∷ ws)
idle_stands k d new ws e =
    let h = codes_stand k false d new ws e in
    record { form = idle h.0 h.1 (ap (λ (r : List (List ℕ)). codes "idle" ∷ r) h.2); periods_said = omega (arith, h.3); start_said = omega (arith, h.4) }

line_stands : (k : ℕ) (d new : Draft) (ws : List (List ℕ)) → line_at k d ws ≡ Ok new → Stands d new ws
unfolding line_at
line_stands k d new [] e = absurd cc
line_stands k d new (w ∷ ws) e = by (bytes_eq w (codes "periods")) (bytes_eq w (codes "work")) (bytes_eq w (codes "idle")) (bytes_eq w (codes "start")) (bytes_eq w (codes "rule")) refl refl refl refl refl e
  where
    at : (v : List ℕ) → bytes_eq w v ≡ true → Stands d new (v ∷ ws) → Stands d new (w ∷ ws)
    at v h s = subst (λ (x : List ℕ). Stands d new (x ∷ ws)) (sym (the_bytes w v h)) s

    by : (p q r t u : Bool) → bytes_eq w (codes "periods") ≡ p → bytes_eq w (codes "work") ≡ q → bytes_eq w (codes "idle") ≡ r → bytes_eq w (codes "start") ≡ t → bytes_eq w (codes "rule") ≡ u
        → cond p (periods_at k d ws) (cond q (codes_at k true d ws) (cond r (codes_at k false d ws) (cond t (start_at k d ws) (cond u (rule_at k d.codes d.rules ws >>= λ (x : Rules). ok (record d { rules = x })) (err (UnknownLine k)))))) ≡ ok new → Stands d new (w ∷ ws)
    by true q r t u a b c f g h = at (codes "periods") a (periods_stand k d new ws h)
    by false true r t u a b c f g h = at (codes "work") b (work_stands k d new ws h)
    by false false true t u a b c f g h = at (codes "idle") c (idle_stands k d new ws h)
    by false false false true u a b c f g h = at (codes "start") f (start_stands k d new ws h)
    by false false false false true a b c f g h = at (codes "rule") g (rules_stand k d new ws h)
    by false false false false false a b c f g h = absurd cc

-- what lines that stand are, and what they add
pub record AllAdd (d new : Draft) (items : List (Result TextLine bad.BadByte)) : Type 0 where
  pub forms : Each HasForm items
  pub periods_said : has new.periods ≡ count (begins (codes "periods")) items + has d.periods
  pub start_said : has new.start ≡ count (begins (codes "start")) items + has d.start

item_adds : (d t new : Draft) (i : Result TextLine bad.BadByte) (is : List (Result TextLine bad.BadByte)) → item_at d i ≡ Ok t → AllAdd t new is → AllAdd d new (i ∷ is)
item_adds d t new (Err b) is e h = absurd cc
item_adds d t new (Ok line) is e h =
    let s = line_stands line.number d t line.words e in
    record { forms = (s.form, h.forms); periods_said = omega (arith, h.periods_said, s.periods_said); start_said = omega (arith, h.start_said, s.start_said) }

pub all_add : (d new : Draft) (items : List (Result TextLine bad.BadByte)) → each item_at d items ≡ Ok new → AllAdd d new items
all_add d new [] e = subst (λ (x : Draft). AllAdd d x []) (same_ok d new e) (record { forms = tt; periods_said = omega arith; start_said = omega arith })
all_add d new (i ∷ is) e =
    let b = bind_ok (item_at d i) (λ (t : Draft). each item_at t is) new e in
    item_adds d b.0 new i is b.1 (all_add b.0 new is b.2)
