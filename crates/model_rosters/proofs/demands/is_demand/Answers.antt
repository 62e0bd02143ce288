use Rattle.std.proofs.Common.{arith, ◌<◌, ◌∙◌, length, get_or, sym}
use Rattle.std.proofs.lemmas.Bool.{false≢true}
use Rattle.std.proofs.lemmas.Option.{slice_get-get_or}
use Rattle.model_rosters.specs.declared.instance.Cell.{Cell}
use Rattle.model_rosters.proofs.DemandCells.{one_demand, of_one_demand}
use Rattle.model_rosters.proofs.demands.is_demand.Goals as goal

abbrev no_cell : Cell
no_cell = record { code = 0; period = 0; need = 0; under = 0; over = 0; floor = 0; ceiling = 0 }

pub returns-then-may_be_demanded : goal.returns-then-may_be_demanded
returns-then-may_be_demanded c =
    let within : 0 < length c.args.cells.now = omega (arith, c.requires.whole, c.requires.periods) in
    let head = c.may_be_demanded.ensures.0 c.if-may_be_demanded.true in (
      λ of. one_demand c.args.grammar.now c.args.cells.now c.requires.whole (get_or c.args.cells.now 0 no_cell) head.0 head.1 head.2 (c.are_of.ensures.0 of),
      λ one. c.are_of.ensures.1 (of_one_demand c.args.grammar.now c.args.cells.now c.requires.whole (get_or c.args.cells.now 0 no_cell) c.requires.periods (slice_get-get_or c.args.cells.now 0 _ within) one).3,
    )

pub returns-else-may_be_demanded : goal.returns-else-may_be_demanded
returns-else-may_be_demanded c =
    let within : 0 < length c.args.cells.now = omega (arith, c.requires.whole, c.requires.periods) in (
      λ yes. absurd (false≢true (sym c.if-may_be_demanded.false ∙ yes)),
      λ one. let p = of_one_demand c.args.grammar.now c.args.cells.now c.requires.whole (get_or c.args.cells.now 0 no_cell) c.requires.periods (slice_get-get_or c.args.cells.now 0 _ within) one in
          c.may_be_demanded.ensures.1 (p.0, p.1, p.2),
    )
