use Rattle.text_lines.proofs.WrittenLemmas.{text_joined}
use Rattle.check_values.specs.ValueText.{head_lines, roster_lines}
use Rattle.check_values.proofs.value_text.value_text.Goals as goal

pub returns : goal.returns
returns c =
    let i = c.args.instance.now in
    let v = c.args.value.now in
    text_joined c.new-out.result c.head_lines.new.out c.roster_lines.new.out (head_lines i v) (roster_lines i v) c.new-out.ensures c.in_ok-head_lines.ensures c.in_ok-roster_lines.ensures
