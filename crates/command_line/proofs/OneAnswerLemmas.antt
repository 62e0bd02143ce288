-- The same texts have the same answer.
use Rattle.std.proofs.Common.{sym, ◌∙◌, Some}
use Rattle.command_texts.specs.Check.{Judgement}
use Rattle.command_answers.specs.Asked.{ProofAnswers}
use Rattle.command_texts.specs.Days.{RankFrom, NextFrom, FitsFrom}
use Rattle.tree_questions.specs.Ranked.{RankedAnswer}
use Rattle.tree_questions.specs.Next.{NextAnswer}
use Rattle.tree_questions.specs.Fitting.{FitsAnswer}
use Rattle.tree_questions.proofs.OnceLemmas.{one-ranked, one-next, one-fits}
use Rattle.command_searches.specs.Reuse.{Reusing}
use Rattle.command_line.specs.Form.{Form, explain, rank, next, fits, check, value, rest, relax_rules, relax_demand, reuse, solve, curve, make, none}
use Rattle.command_line.specs.OneAnswer.{HasOneAnswer}
use Rattle.command_searches.proofs.OneEndLemmas.{solve-ends, make-ends}
use Rattle.command_searches.proofs.CurveEnds.{curve-ends}
use Rattle.command_searches.proofs.SolveLemmas.{as-parts}
use Rattle.command_searches.proofs.CurveLemmas.{as-curve-parts}
use Rattle.command_searches.proofs.ReuseLemmas.{reused-once}
use Rattle.command_searches.specs.Series.{answered}
use Rattle.command_texts.specs.relax.Answers.{RelaxedRules, RelaxedDemand}
use Rattle.command_texts.proofs.relax.Relaxings.{day-once, freed-once, relaxed-once}
use Rattle.command_texts.specs.what_if.Rest.{Resting}
use Rattle.command_texts.specs.what_if.Value.{Valuation}
use Rattle.command_texts.proofs.what_if.Rests.{resting-once}
use Rattle.command_texts.proofs.what_if.Values.{value-once}
use Rattle.command_texts.proofs.OnceLemmas.{judged-once, explain-once, from-once, held-once}
use Rattle.command_answers.proofs.OnceLemmas.{proof-once, texts-once}
use Rattle.command_answers.proofs.SaysLemmas.{as-texts, as-cert-texts}
use Rattle.command_texts.proofs.SaysLemmas.{as-day}
use Rattle.command_texts.specs.Explain.{DerivationFrom}

pub has-one-answer : (f : Form) → HasOneAnswer f
has-one-answer (explain rules word start) =
    λ held s t a b h k. explain-once held rules word start s t a b (as-day (λ g x o. DerivationFrom word start g x o) (Some held) rules s a h) (as-day (λ g x o. DerivationFrom word start g x o) (Some held) rules t b k)
has-one-answer (rank rules most start) = λ held s t a b h k.
    held-once (λ g x o. RankFrom most start g x o) (from-once (λ g x o. RankedAnswer g most x o) (λ g. one-ranked g most) start) held rules s t a b
    (as-day (λ g x o. RankFrom most start g x o) (Some held) rules s a h) (as-day (λ g x o. RankFrom most start g x o) (Some held) rules t b k)
has-one-answer (next rules prefix start) = λ held s t a b h k.
    held-once (λ g x o. NextFrom prefix start g x o) (from-once (λ g x o. NextAnswer g prefix x o) (λ g. one-next g prefix) start) held rules s t a b
    (as-day (λ g x o. NextFrom prefix start g x o) (Some held) rules s a h) (as-day (λ g x o. NextFrom prefix start g x o) (Some held) rules t b k)
has-one-answer (fits rules pattern start) = λ held s t a b h k.
    held-once (λ g x o. FitsFrom pattern start g x o) (from-once (λ g x o. FitsAnswer g pattern x o) (λ g. one-fits g pattern) start) held rules s t a b
    (as-day (λ g x o. FitsFrom pattern start g x o) (Some held) rules s a h) (as-day (λ g x o. FitsFrom pattern start g x o) (Some held) rules t b k)
has-one-answer (check rules demand proof) = λ held s t a b h k.
    texts-once (ProofAnswers Judgement) (proof-once Judgement judged-once) held rules demand proof s t a b
    (as-cert-texts Judgement (Some held) rules demand proof s a h) (as-cert-texts Judgement (Some held) rules demand proof t b k)
has-one-answer (value rules demand roster) = λ held s t a b h k.
    texts-once Valuation value-once held rules demand roster s t a b
    (as-texts Valuation (Some held) rules demand roster s a h) (as-texts Valuation (Some held) rules demand roster t b k)
has-one-answer (rest rules demand roster) = λ held s t a b h k.
    texts-once Resting resting-once held rules demand roster s t a b
    (as-texts Resting (Some held) rules demand roster s a h) (as-texts Resting (Some held) rules demand roster t b k)
has-one-answer (relax_rules rules) = λ held s t a b h k.
    held-once RelaxedRules freed-once held rules s t a b (as-day RelaxedRules (Some held) rules s a h) (as-day RelaxedRules (Some held) rules t b k)
has-one-answer (relax_demand kind rules demand) = λ held s t a b h k.
    day-once (RelaxedDemand kind) (relaxed-once kind) held rules demand s t a b h k
has-one-answer (reuse rules demand proof) = λ held s t a b h k.
    texts-once (ProofAnswers Reusing) (proof-once Reusing reused-once) held rules demand proof s t a b
    (as-cert-texts Reusing (Some held) rules demand proof s a h) (as-cert-texts Reusing (Some held) rules demand proof t b k)
has-one-answer (solve rules demand proof limit from) = λ held m n s t a b x y h k.
    solve-ends held rules demand from limit m n s t a b x y (as-parts (Some held) rules demand from m limit s a x h) (as-parts (Some held) rules demand from n limit t b y k)
has-one-answer (curve rules demand proof limit group) = λ held m n s t a b x y h k.
    curve-ends held rules demand group proof limit m n s t a b x y
    (as-curve-parts (Some held) rules demand group proof m limit (answered s a) x h) (as-curve-parts (Some held) rules demand group proof n limit (answered t b) y k)
has-one-answer (make number proof limit) = make-ends number limit
has-one-answer none = λ s t a b h k. (h.two ∙ sym k.two, h.line ∙ sym k.line)
