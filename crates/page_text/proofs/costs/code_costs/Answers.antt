use Rattle.std.proofs.Common.{◌+◌, ap}
use Rattle.std.specs.Prelude.{false}
use Rattle.page_text.specs.Costs.{code_cost}
use Rattle.model_rosters.specs.declared.grammar.CodeDef.{CodeDef}
use Rattle.page_parts.proofs.ElementsLemmas.{more_from}
use Rattle.page_text.proofs.costs.code_costs.Goals as goal

abbrev nothing : CodeDef
nothing = record { byte = 0; work = false }

pub loop-code-preserved : goal.loop-code-preserved
loop-code-preserved c = record {
  out = more_from (code_cost c.args.money.now c.args.codes.now c.args.columns.now) c.args.codes.now c.loop-code.code-index c.loop-code.place nothing c.args.out.now c.loop-code.out c.code_cost.new.out
      c.loop-code-test.true c.loop-code.invariant.place c.loop-code.invariant.out c.in_ok-code_cost.ensures;
  place = ap (λ n. n + 1) c.loop-code.invariant.place;
}
