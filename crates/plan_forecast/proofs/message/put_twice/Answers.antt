use Rattle.std.proofs.Common.{ℕ, ◌++◌, List, ap, ◌∙◌, append_assoc}
use Rattle.std.proofs.Common.{codes as text}
use Rattle.plan_faults.specs.Phrases.{said}
use Rattle.plan_forecast.specs.FaultLine.{heading_text, title_text}
use Rattle.plan_forecast.proofs.message.put_twice.Goals as goal

pub returns : goal.returns
unfolding heading_text
returns c =
    let title : List ℕ = title_text c.args.code c.args.kind in
    c.in_ok-put_title.ensures ∙ ap (λ (xs : List ℕ). xs ++ title) c.in_ok-say.ensures
    ∙ append_assoc c.args.out.now (said (text "two columns ")) title
