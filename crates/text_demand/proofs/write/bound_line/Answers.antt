use Rattle.std.proofs.lemmas.Result.{on_ok_weaker}
use Rattle.std.proofs.Common.{◌≡◌, false, [], ◌∷◌, sym, ◌∙◌}
use Rattle.text_demand.specs.Written.{numbers_of, are_all}
use Rattle.text_lines.proofs.WrittenLemmas.{line_joined}
use Rattle.text_demand.proofs.write.bound_line.Goals as goal

pub returns : goal.returns
returns c =
    let some : are_all c.args.which c.args.free c.args.cells.now ≡ false = sym c.are_all.ensures ∙ c.if-are_all.false in
    on_ok_weaker c.push.result (λ e. rw some (line_joined c.args.out.now _ _ _ c.push.new.self c.args.first.now ((c.args.code ∷ []) ∷ []) (numbers_of c.args.which c.args.cells.now)
    c.in_ok-put.ensures.ok c.in_ok-word.ensures c.in_ok-numbers.ensures e)) c.push.ensures.ok
