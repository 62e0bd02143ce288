-- The line of a code, by its marginal.
use Rattle.std.proofs.Common.{◌≡◌, ℕ, ℤ, ◌+◌, ◌<◌, ◌≤◌, Option, List, ◌++◌, length, get_or, refl, ap, ◌∙◌}
use Rattle.std.proofs.lemmas.Option.{slice_get-get_or}
use Rattle.model_rosters.specs.declared.grammar.CodeDef.{CodeDef}
use Rattle.model_rosters.specs.declared.grammar.Grammar.{Grammar}
use Rattle.model_rosters.specs.Sound.{IsSound}
use Rattle.text_lines.specs.Written.{written}
use Rattle.tree_span_table.specs.next_codes.Views.{MarginalsView, AreMarginals, value_at}
use Rattle.tree_questions.specs.Prices.{pattern_view}
use Rattle.tree_questions.specs.Lines.{Line}
use Rattle.tree_questions.specs.Codes.{SaysCode, price_lines}
use Rattle.tree_questions.specs.Laws.{IsSumOf, TakesWith}
use Rattle.tree_questions.proofs.PatternLaws.{marginal-prices}

-- what is said of a code
abbrev pub code_says : Grammar → Option ℕ → List ℕ → ℕ → Line → ℕ → CodeDef → List Line → Type 0
code_says g any pattern i front k d own = SaysCode g front (TakesWith any pattern i d.byte) d.byte own

pub code-said : (g : Grammar) → IsSound g → (any : Option ℕ) (pattern : List ℕ) → length pattern ≤ g.periods
    → (m : MarginalsView) → AreMarginals g (pattern_view g any pattern) m → (c i : ℕ) → c < length g.codes → 1 ≤ i → i ≤ g.periods
    → (front : Line) (defs : List CodeDef) (d : CodeDef) (v : Option ℤ) (mid new : List ℕ) → defs ≡ g.codes → v ≡ value_at m c i
    → ((p : Option ℕ) → IsSumOf v p → new ≡ mid ++ written (price_lines front (get_or defs c d).byte p))
    → (own : List Line) × code_says g any pattern i front (0 + c) (get_or g.codes c d) own × (new ≡ mid ++ written own)
code-said g sound any pattern short m filled c i within first last front defs d v mid new same is wrote =
    let x : CodeDef = get_or g.codes c d in
    let r = marginal-prices g any pattern c i x (value_at m c i) sound short (slice_get-get_or g.codes c d within) first (filled c i within first last) in
    let text : new ≡ mid ++ written (price_lines front (get_or defs c d).byte r.0) = wrote r.0 (is ∙ r.1) in
    (price_lines front x.byte r.0, (r.0, r.2, refl), text ∙ ap (λ (ds : List CodeDef). mid ++ written (price_lines front (get_or ds c d).byte r.0)) same)
