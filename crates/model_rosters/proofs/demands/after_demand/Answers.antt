use Rattle.std.proofs.Common.{arith, ◌<◌, length, sym, ◌∙◌}
use Rattle.std.proofs.lemmas.Bool.{false≢true}
use Rattle.std.proofs.lemmas.Option.{slice_get-get_or}
use Rattle.model_rosters.proofs.DemandCells.{split, found, parted}
use Rattle.model_rosters.proofs.demands.after_demand.Goals as goal
use Rattle.model_rosters.proofs.demands.after_demand.Goals.{else-is_demand-via-then-is_demand+else-lack_code, else-is_demand-via-else-is_demand}

pub returns-then-cells-periods-clause-value : goal.returns-then-cells-periods-clause-value
returns-then-cells-periods-clause-value c = λ all.
    let s = split c.args.grammar.now c.requires.periods c.args.cells.now all c.requires.some in
    omega (arith, s.enough, c.if-cells-periods.true)

pub returns-then-lack_code-clause-value : goal.returns-then-lack_code-clause-value
returns-then-lack_code-clause-value c =
    found c.args.grammar.now c.requires.periods c.args.cells.now c.split_at.result.0.now c.split_at.result.1.now c.split_at.ensures.front c.split_at.ensures.back
    (omega (arith, c.if-cells-periods.false)) _ (slice_get-get_or c.split_at.result.0.now 0 _ (omega (arith, c.split_at.ensures.front_len, c.requires.periods)))
    (c.is_demand.ensures.0 c.if-is_demand.true) (c.lack_code.ensures.0 c.if-lack_code.true)

pub returns-else-is_demand-clause-value : goal.returns-else-is_demand-clause-value
returns-else-is_demand-clause-value c = λ all.
    let within : 0 < length c.split_at.result.0.now = omega (arith, c.split_at.ensures.front_len, c.requires.periods) in
    let p = parted c.args.grammar.now c.requires.periods c.args.cells.now c.split_at.result.0.now c.split_at.result.1.now c.split_at.ensures.front c.split_at.ensures.back
    (omega (arith, c.if-cells-periods.false)) _ (slice_get-get_or c.split_at.result.0.now 0 _ within) all in
    elim c.else-is_demand.branch [
      | else-is_demand-via-then-is_demand+else-lack_code w ↦ false≢true (sym w.if-lack_code.false ∙ w.lack_code.ensures.1 p.1)
      | else-is_demand-via-else-is_demand w ↦ false≢true (sym w.if-is_demand.false ∙ c.is_demand.ensures.1 p.0)
    ]
