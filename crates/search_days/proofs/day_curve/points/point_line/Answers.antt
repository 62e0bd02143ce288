use Rattle.std.specs.Fmt.{decimal}
use Rattle.std.specs.Option.{option_copied}
use Rattle.std.specs.Prelude.{codes}
use Rattle.std.proofs.Common.{[], ◌∷◌, Some}
use Rattle.text_certificates.specs.Written.{amount_words}
use Rattle.search_days.specs.day_curve.CurveText.{team_word, team_words}
use Rattle.search_days.proofs.day_curve.PointLines.{line-words}
use Rattle.search_days.proofs.day_curve.points.point_line.Goals as goal

pub returns : goal.returns
returns c =
    let p = c.args.point.now in
    let group = option_copied c.args.group in
    let heads = rw c.from.ensures at c.in_ok-field.ensures in
    let processed = rw c.from-2.ensures at c.in_ok-amount-3.ensures in
    let failed = rw c.from-3.ensures at c.in_ok-amount-4.ensures in
    line-words c.args.out.now c.team.new.out c.field.new.out c.amount.new.out c.amount-2.new.out c.amount-3.new.out c.amount-4.new.out c.push.new.self (team_word group) (team_words group) (decimal p.heads ∷ [])
    (amount_words (codes "cost") p.cost) (amount_words (codes "bound") p.bound) (amount_words (codes "processed") (Some p.processed)) (amount_words (codes "failed") (Some p.failed))
    c.in_ok-team.ensures heads c.in_ok-amount.ensures c.in_ok-amount-2.ensures processed failed c.in_ok-push.ensures.ok
