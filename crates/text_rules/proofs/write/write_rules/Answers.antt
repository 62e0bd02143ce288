use Rattle.std.proofs.Common.{map}
use Rattle.text_rules.specs.Written.{periods_line, code_line, start_line, rule_line}
use Rattle.text_rules.proofs.WrittenLemmas.{lines_joined}
use Rattle.text_rules.proofs.write.write_rules.Goals as goal
use Rattle.text_lines.specs.Names.{name_of}

pub returns : goal.returns
returns c =
    let g = c.args.grammar.now in
    lines_joined _ _ _ _ c.rule_lines.new.out (periods_line g.periods) (start_line (name_of g.names g.start)) (map code_line g.codes) (map (rule_line g.codes g.names) g.rules)
    c.new-out.ensures c.in_ok-periods_line.ensures (rw c.as_slice-codes.ensures at c.in_ok-code_lines.ensures) (rw c.as_slice-names.ensures at c.in_ok-start_line.ensures)
    (rw (c.as_slice-codes.ensures, c.as_slice-names.ensures, c.as_slice.ensures) at c.in_ok-rule_lines.ensures)
