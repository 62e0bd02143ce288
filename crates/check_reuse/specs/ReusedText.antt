-- What is said of an old certificate on another day.
use Rattle.std.specs.Prelude.{ℕ, Option, List, [], ◌∷◌, codes}
use Rattle.text_lines.specs.Written.{written}
use Rattle.check_certificates.specs.declared.verdict.Verdict.TheVariants.{No}
use Rattle.text_certificates.specs.Written.{amount_words}
use Rattle.text_answers.specs.VerdictText.{verdict_text}
use Rattle.check_reuse.specs.declared.nodes.Reused.{Reused}
use Rattle.check_reuse.specs.declared.nodes.Reused.TheVariants.{Bound, Refused}

abbrev pub bound_text : Option ℕ → List ℕ
bound_text bound = written (amount_words (codes "bound") bound ∷ [])

-- one line: the bound, or the cause for which there is none
abbrev pub reused_text : Reused → List ℕ
reused_text (Bound bound) = bound_text bound
reused_text (Refused why) = verdict_text (No why)
