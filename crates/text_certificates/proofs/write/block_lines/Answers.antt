use Rattle.std.proofs.Common.{◌/◌, length, map}
use Rattle.text_certificates.specs.Written.{price_lines, mult_words}
use Rattle.text_lines.proofs.WrittenLemmas.{lines_then}
use Rattle.text_certificates.proofs.write.block_lines.Goals as goal

pub returns : goal.returns
returns c =
    let i = c.args.instance.now in
    let p = c.args.prices.now in
    lines_then c.args.out.now c.price_lines.new.out c.mult_lines.new.out (price_lines i 0 (length p.cell / i.grammar.periods) p.cell) (map mult_words p.mult)
    (rw c.as_slice.ensures at c.in_ok-price_lines.ensures) (rw c.as_slice-2.ensures at c.in_ok-mult_lines.ensures)
