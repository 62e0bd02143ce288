use Rattle.text_demand.specs.Written.{group_line}
use Rattle.text_lines.proofs.WrittenLemmas.{line_more}
use Rattle.text_demand.proofs.write.group_lines.Goals as goal

pub loop-group-preserved : goal.loop-group-preserved
loop-group-preserved c =
    line_more (group_line c.args.names.now) c.args.groups.now c.loop-group.group-index (record { name = 0; heads_min = 0; heads_max = 0 }) c.args.out.now c.loop-group.out c.group_line.new.out
    c.loop-group-test.true c.loop-group.invariant c.in_ok-group_line.ensures
