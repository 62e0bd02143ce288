use Rattle.std.proofs.lemmas.Result.{on_ok_weaker}
use Rattle.std.proofs.Common.{[], ◌∷◌}
use Rattle.std.specs.Fmt.{decimal}
use Rattle.std.specs.Prelude.{codes}
use Rattle.text_demand.specs.declared.number_of.NumberOf.TheVariants.{Need}
use Rattle.text_demand.specs.Written.{numbers_of}
use Rattle.text_lines.proofs.WrittenLemmas.{three_words, line_joined}
use Rattle.text_demand.proofs.write.need_line.Goals as goal

pub returns : goal.returns
returns c =
    on_ok_weaker c.push.result (λ e. line_joined c.args.out.now _ _ _ c.push.new.self (codes "need") ((c.args.code ∷ []) ∷ decimal c.args.under ∷ decimal c.args.over ∷ []) (numbers_of Need c.args.cells.now)
    c.in_ok-put.ensures.ok (three_words _ _ _ _ (c.args.code ∷ []) (decimal c.args.under) (decimal c.args.over) c.in_ok-word.ensures c.in_ok-field.ensures c.in_ok-field-2.ensures)
    c.in_ok-numbers.ensures e) c.push.ensures.ok
