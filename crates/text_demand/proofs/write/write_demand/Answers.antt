use Rattle.std.proofs.Common.{◌∙◌}
use Rattle.text_demand.specs.Written.{team_lines, demand_lines}
use Rattle.text_lines.proofs.WrittenLemmas.{text_joined}
use Rattle.text_demand.proofs.write.write_demand.Goals as goal

pub returns : goal.returns
returns c = λ ds are.
    let i = c.args.instance.now in
    text_joined _ c.team_lines.new.out c.demand_lines.new.out (team_lines i i.groups) (demand_lines i.grammar.codes ds)
    c.new-out.ensures c.in_ok-team_lines.ensures (c.in_ok-demand_lines.ensures ds are.each (c.as_slice.ensures ∙ are.made))
