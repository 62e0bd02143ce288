use Rattle.std.proofs.Common.{[], ◌∷◌, ◌++◌, ◌∙◌, ap, List, ℕ}
use Rattle.std.specs.Prelude.{codes}
use Rattle.std.proofs.lemmas.Result.{on_ok_weaker}
use Rattle.check_values.specs.remaining_day.RestText.{spaced_number}
use Rattle.check_values.proofs.CauseLists.{parts}
use Rattle.check_values.proofs.remaining_day.text.comment.Goals as goal

pub returns-clause-said : goal.returns-clause-said
returns-clause-said c =
    let o = c.args.out.now in
    let n : List ℕ = spaced_number c.args.count in
    let p : List ℕ = spaced_number c.args.paid in
    let q : List ℕ = spaced_number c.args.penalty in
    let a1 : List ℕ = codes "# kept shifts" in
    let a2 : List ℕ = a1 ++ n in
    let a3 : List ℕ = a2 ++ codes ", paid" in
    let a4 : List ℕ = a3 ++ p in
    let a5 : List ℕ = a4 ++ codes ", penalty" in
    let e2 = parts o c.put.new.out c.field.new.out a1 n c.in_ok-put.ensures.ok c.in_ok-field.ensures in
    let e3 = parts o c.field.new.out c.put-2.new.out a2 (codes ", paid") e2 c.in_ok-put-2.ensures.ok in
    let e4 = parts o c.put-2.new.out c.field-2.new.out a3 p e3 c.in_ok-field-2.ensures in
    let e5 = parts o c.field-2.new.out c.put-3.new.out a4 (codes ", penalty") e4 c.in_ok-put-3.ensures.ok in
    let e6 = parts o c.put-3.new.out c.field-3.new.out a5 q e5 c.in_ok-field-3.ensures in
    on_ok_weaker c.push.result (λ e. e ∙ ap (λ (z : List ℕ). z ++ 10 ∷ []) e6) c.push.ensures.ok

pub returns-clause-wide : goal.returns-clause-wide
returns-clause-wide c = on_ok_weaker c.push.result (λ e. record { few = c.ranges.count.fits; cheap = c.ranges.paid.fits; small = c.ranges.penalty.fits }) c.push.ensures.ok
