use Rattle.std.proofs.Common.{ℕ, ◌++◌, List, ap, ◌∙◌, append_assoc}
use Rattle.std.proofs.Common.{codes as text}
use Rattle.plan_faults.specs.Phrases.{said}
use Rattle.plan_words.specs.ClockText.{clock_text}
use Rattle.plan_forecast.specs.FaultLine.{row_text, title_text}
use Rattle.plan_forecast.proofs.message.put_missing.Goals as goal

pub returns : goal.returns
unfolding row_text
returns c =
    let at : List ℕ = said (text "no number at ") in
    let time : List ℕ = clock_text c.args.minute in
    let under : List ℕ = said (text " under ") in
    let title : List ℕ = title_text c.args.code c.args.kind in
    c.in_ok-put_title.ensures ∙ ap (λ (xs : List ℕ). xs ++ title) c.in_ok-say-2.ensures
    ∙ append_assoc c.put_clock.new.out under title
    ∙ ap (λ (xs : List ℕ). xs ++ (under ++ title)) c.in_ok-put_clock.ensures
    ∙ append_assoc c.say.new.out time (under ++ title)
    ∙ ap (λ (xs : List ℕ). xs ++ (time ++ (under ++ title))) c.in_ok-say.ensures
    ∙ append_assoc c.args.out.now at (time ++ (under ++ title))
