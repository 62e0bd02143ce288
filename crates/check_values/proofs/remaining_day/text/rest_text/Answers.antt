use Rattle.check_values.proofs.remaining_day.text.rest_text.Goals as goal

pub returns-clause-wide : goal.returns-clause-wide
returns-clause-wide c =
    let wide = c.in_ok-comment.ensures.wide in
    record { few = wide.few; cheap = wide.cheap; small = wide.small }
