use Rattle.std.proofs.Common.{get_or}
use Rattle.model_shift_figures.specs.declared.run.Lack.{Lack}
use Rattle.model_shift_figures.proofs.RunLemmas.{one_more, small_more}
use Rattle.model_shift_figures.proofs.run.runs_of.Goals as goal

abbrev nothing : Lack
nothing = record { code = 0; period = 0; count = 0; cost = 0 }

pub loop-lack-preserved : goal.loop-lack-preserved
loop-lack-preserved c =
    let xs = c.args.lacks.now in
    let i = c.loop-lack.lack-index in
    record {
      runs = one_more xs i nothing c.loop-lack.runs c.end.new.runs c.loop-lack.live c.next_open-live.result c.loop-lack-test.true c.loop-lack.invariant.runs c.in_ok-end.ensures c.next_open-live.ensures;
      small = small_more i c.loop-lack.live c.next_open-live.result (get_or xs i nothing) c.loop-lack.invariant.small (c.requires.small i nothing c.loop-lack-test.true) c.next_open-live.ensures;
    }
