use Rattle.std.proofs.Common.{[], ◌∷◌}
use Rattle.std.specs.Prelude.{codes, map}
use Rattle.text_lines.specs.Numbers.{number_text}
use Rattle.text_lines.proofs.WrittenLemmas.{line_joined}
use Rattle.text_certificates.proofs.write.price_line.Goals as goal

pub returns : goal.returns
returns c =
    line_joined c.args.out.now _ _ _ c.push.new.self (codes "price") ((c.args.code ∷ []) ∷ []) (map number_text c.args.prices.now)
    c.in_ok-put.ensures.ok c.in_ok-word.ensures c.in_ok-numbers.ensures c.in_ok-push.ensures.ok
