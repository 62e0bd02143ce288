use Rattle.std.proofs.Common.{◌+◌, ap}
use Rattle.std.specs.Prelude.{false}
use Rattle.page_text.specs.Pages.{legend_item}
use Rattle.model_rosters.specs.declared.grammar.CodeDef.{CodeDef}
use Rattle.page_parts.proofs.ElementsLemmas.{more_from}
use Rattle.page_text.proofs.page.legend.Goals as goal

abbrev nothing : CodeDef
nothing = record { byte = 0; work = false }

pub loop-code-preserved : goal.loop-code-preserved
loop-code-preserved c = record {
  out = more_from (legend_item c.args.codes.now c.args.words.now) c.args.codes.now c.loop-code.code-index c.loop-code.place nothing c.args.out.now c.loop-code.out c.legend_item.new.out
      c.loop-code-test.true c.loop-code.invariant.place c.loop-code.invariant.out c.in_ok-legend_item.ensures;
  place = ap (λ n. n + 1) c.loop-code.invariant.place;
}
