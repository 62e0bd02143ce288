use Rattle.std.proofs.Common.{ℕ, ◌++◌, List, ap, ◌∙◌, append_assoc}
use Rattle.std.proofs.Common.{codes as text}
use Rattle.plan_faults.specs.Phrases.{said}
use Rattle.plan_words.specs.ClockText.{clock_text}
use Rattle.plan_forecast.specs.FaultLine.{row_text}
use Rattle.plan_forecast.proofs.message.put_first.Goals as goal

pub returns : goal.returns
unfolding row_text
returns c =
    let why : List ℕ = said (text " in the first row; the day begins at ") in
    let time : List ℕ = clock_text c.args.begin in
    c.in_ok-put_clock.ensures ∙ ap (λ (xs : List ℕ). xs ++ time) c.in_ok-put_word.ensures
    ∙ append_assoc c.args.out.now (c.args.word.now ++ why) time
    ∙ ap (λ (xs : List ℕ). c.args.out.now ++ xs) (append_assoc c.args.word.now why time)
