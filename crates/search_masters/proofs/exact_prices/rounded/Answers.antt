use Rattle.std.proofs.Common.{◌≡◌, ◌∙◌, arith, rules, to_z, of_z, refl, take}
use mir.Syntax.{w128}
use Rattle.model_rosters.proofs.Mults.{nonzero-le}
use Rattle.law_bounds.specs.master_laws.Rounding.{cell_lines, line_sums}
use Rattle.law_bounds.proofs.master_laws.Signs.{cuts_signed}
use Rattle.lp_fractions.specs.Row.{at}
use Rattle.search_node_columns.proofs.RowPrices.{cell_part, few_cuts}
use Rattle.search_masters.proofs.RoundedRows.{numbers_part, not_wide}
use Rattle.search_masters.proofs.exact_prices.rounded.Goals as goal

pub to_prices-requires-clause-few : goal.to_prices-requires-clause-few
to_prices-requires-clause-few c = few_cuts c.args.task.now.day.instance.now c.args.task.now.cuts.now 1500 c.requires.task.rows.few

pub to_prices-requires-clause-signs : goal.to_prices-requires-clause-signs
to_prices-requires-clause-signs c =
    let i = c.args.task.now.day.instance.now in
    let cuts = c.args.task.now.cuts.now in
    let out = c.gather.ensures i cuts c.requires.task.rows c.len-cells.ensures c.requires.y.long (rw c.len-cells.ensures c.requires.numbers) in
    rw (numbers_part i cuts (at c.args.y.now) c.gather.new.out c.len-cells.result out c.len-cells.ensures) (cuts_signed i cuts (at c.args.y.now) c.args.kappa c.requires.y.out)

pub memory_of-requires : goal.memory_of-requires
memory_of-requires c =
    let i = c.args.task.now.day.instance.now in
    let cuts = c.args.task.now.cuts.now in
    let y = c.args.y.now in
    let k : to_z w128 (of_z w128 c.args.kappa) ≡ c.args.kappa = search rules in
    let out = c.gather.ensures i cuts c.requires.task.rows c.len-cells.ensures c.requires.y.long (rw c.len-cells.ensures c.requires.numbers) in
    let front : take c.len-cells.result c.gather.new.out ≡ line_sums (cell_lines i (at y)) = cell_part i cuts (at y) c.gather.new.out _ c.len-cells.result out c.len-cells.ensures refl in
    let back = numbers_part i cuts (at y) c.gather.new.out c.len-cells.result out c.len-cells.ensures in
    (not_wide i cuts y c.args.kappa _ _ c.in-Err.fault c.requires.y.narrow (rw (k, front, back) at c.in-Err.ensures.wide)).0

pub returns-in-Ok-clause-prices : goal.returns-in-Ok-clause-prices
returns-in-Ok-clause-prices c =
    let i = c.args.task.now.day.instance.now in
    let cuts = c.args.task.now.cuts.now in
    let y = c.args.y.now in
    let k : to_z w128 (of_z w128 c.args.kappa) ≡ c.args.kappa = search rules in
    let out = c.gather.ensures i cuts c.requires.task.rows c.len-cells.ensures c.requires.y.long (rw c.len-cells.ensures c.requires.numbers) in
    let front : take c.len-cells.result c.gather.new.out ≡ line_sums (cell_lines i (at y)) = cell_part i cuts (at y) c.gather.new.out _ c.len-cells.result out c.len-cells.ensures refl in
    let back = numbers_part i cuts (at y) c.gather.new.out c.len-cells.result out c.len-cells.ensures in
    let few = few_cuts i cuts 1500 c.requires.task.rows.few in
    let d = c.in-Ok.ensures.d in
    let cells = c.in-Ok.ensures.cells in
    let mults = c.in-Ok.ensures.mults in
    let short = c.in-Ok.ensures.few in
    let less = nonzero-le c.in-Ok.prices.mult in
    record {
      rounded = rw (k, front, back) at c.in-Ok.ensures.rounded;
      fit = record {
        fit = record { positive = d.0; small = d.1; cells = cells.0 ∙ c.len-cells.ensures; each = cells.1; few = omega (arith, less, short, few); mults = mults.0; rising = mults.1 };
        positive = search rules;
      };
    }

pub returns-in-Err-clause-tally : goal.returns-in-Err-clause-tally
returns-in-Err-clause-tally c =
    let i = c.args.task.now.day.instance.now in
    let cuts = c.args.task.now.cuts.now in
    let y = c.args.y.now in
    let k : to_z w128 (of_z w128 c.args.kappa) ≡ c.args.kappa = search rules in
    let out = c.gather.ensures i cuts c.requires.task.rows c.len-cells.ensures c.requires.y.long (rw c.len-cells.ensures c.requires.numbers) in
    let front : take c.len-cells.result c.gather.new.out ≡ line_sums (cell_lines i (at y)) = cell_part i cuts (at y) c.gather.new.out _ c.len-cells.result out c.len-cells.ensures refl in
    let back = numbers_part i cuts (at y) c.gather.new.out c.len-cells.result out c.len-cells.ensures in
    (not_wide i cuts y c.args.kappa _ _ c.in-Err.fault c.requires.y.narrow (rw (k, front, back) at c.in-Err.ensures.wide)).1
