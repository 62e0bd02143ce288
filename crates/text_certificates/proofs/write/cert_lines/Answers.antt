use Rattle.std.proofs.Common.{map}
use Rattle.std.specs.Prelude.{codes}
use Rattle.text_certificates.specs.Written.{header_words, amount_words, shift_line, tree_lines, end_words}
use Rattle.text_certificates.proofs.WrittenLemmas.{cert_joined}
use Rattle.text_certificates.proofs.CertParts.{all_prices}
use Rattle.text_certificates.proofs.write.cert_lines.Goals as goal

pub tree_lines-requires-clause-whole : goal.tree_lines-requires-clause-whole
tree_lines-requires-clause-whole c = rw c.as_slice-3.ensures (all_prices c.args.instance.now c.args.cert.now c.requires.cert)

pub returns : goal.returns
returns c =
    let i = c.args.instance.now in
    let t = c.args.cert.now in
    cert_joined c.new-out.result c.header.new.out c.amount_line.new.out c.amount_line-2.new.out c.shift_lines.new.out c.tree_lines.new.out c.end_line.new.out
    (header_words i.groups) (amount_words (codes "cost") t.cost) (amount_words (codes "bound") t.bound) end_words (map (shift_line i) t.shifts) (tree_lines i t.nodes)
    c.new-out.ensures (rw c.as_slice.ensures at c.in_ok-header.ensures) c.in_ok-amount_line.ensures c.in_ok-amount_line-2.ensures
    (rw c.as_slice-2.ensures at c.in_ok-shift_lines.ensures) (rw c.as_slice-3.ensures at c.in_ok-tree_lines.ensures) c.in_ok-end_line.ensures
