use Rattle.std.proofs.Common.{◌+◌, arith, pos, ◌<ℤ◌, length, SFits, rules, sym, inr, inl, ap, ◌∙◌}
use Rattle.std.specs.Int.{w128, w64}
use Rattle.std.proofs.lemmas.Int.{to_z-of_z, ints}
use Rattle.lp_fractions.specs.Row.{at}
use Rattle.lp_tableaus.proofs.Counts.{refused_risen, refused_counts}
use Rattle.lp_tableaus.proofs.Places.{reduced_is}
use Rattle.lp_tableaus.proofs.EnteringColumns.{tied_of, some_entry, refused_column}
use Rattle.lp_tableaus.proofs.Ends.{on_path_turn, wide_turn}
use Rattle.lp_tableaus.proofs.enter.enter.Goals as goal

pub returns-in-Err-clause-fault : goal.returns-in-Err-clause-fault
returns-in-Err-clause-fault g c =
    let p = g.C.Columns.program (g.C.Columns.site c.args.columns.now) in
    let Lists = g.C.Columns.Lists (g.C.Columns.state c.args.columns.now) in
    let size = g.C.Columns.size (g.C.Columns.state c.args.columns.now) in
    let rows = c.args.sheet.now.rows in
    let cost = c.args.sheet.now.cost in
    let basis = c.args.sheet.now.basis.items in
    let cheap = c.requires.column in
    let path = c.requires.path in
    let column = c.places-places.ensures cheap.key cheap.listed in
    let own = c.cost-cost.ensures cheap.key cheap.listed in
    let f : SFits w64 c.cost-cost.result = search rules in
    let large = refused_column p Lists c.args.column cheap.key c.places-places.result.now c.cost-cost.result column own cheap.listed (simp to_z-of_z at c.in-Err.ensures.wide) in
    λ n. (refused_risen c.args.tally.now c.check_column.new.tally c.in-Err.ensures.counted, inr large)

pub returns-in-Err-clause-counts : goal.returns-in-Err-clause-counts
returns-in-Err-clause-counts g c =
    refused_counts c.args.tally.now c.check_column.new.tally (rw c.wide-before.ensures at c.wide-before.type_inv) c.in-Err.ensures.counted

pub reduced_cost-reduced-requires-clause-kappa : goal.reduced_cost-reduced-requires-clause-kappa
reduced_cost-reduced-requires-clause-kappa g c =
    let p = g.C.Columns.program (g.C.Columns.site c.args.columns.now) in
    let Lists = g.C.Columns.Lists (g.C.Columns.state c.args.columns.now) in
    let size = g.C.Columns.size (g.C.Columns.state c.args.columns.now) in
    let rows = c.args.sheet.now.rows in
    let cost = c.args.sheet.now.cost in
    let basis = c.args.sheet.now.basis.items in
    let cheap = c.requires.column in
    let path = c.requires.path in
    let column = c.places-places.ensures cheap.key cheap.listed in
    let own = c.cost-cost.ensures cheap.key cheap.listed in
    let f : SFits w64 c.cost-cost.result = search rules in
    let tied = tied_of p Lists rows cost basis path.0 c.requires.sound path.1 in
    rw (c.as_slice.ensures, c.rows.ensures) (let k = tied.kappa in omega (arith, ints))

pub turn-requires-clause-reduced : goal.turn-requires-clause-reduced
turn-requires-clause-reduced g c =
    let p = g.C.Columns.program (g.C.Columns.site c.args.columns.now) in
    let Lists = g.C.Columns.Lists (g.C.Columns.state c.args.columns.now) in
    let size = g.C.Columns.size (g.C.Columns.state c.args.columns.now) in
    let rows = c.args.sheet.now.rows in
    let cost = c.args.sheet.now.cost in
    let basis = c.args.sheet.now.basis.items in
    let cheap = c.requires.column in
    let path = c.requires.path in
    let column = c.places-places.ensures cheap.key cheap.listed in
    let own = c.cost-cost.ensures cheap.key cheap.listed in
    let f : SFits w64 c.cost-cost.result = search rules in
    let h : SFits w128 c.reduced_cost-reduced.result = search rules in
    let value = simp to_z-of_z at (rw (c.as_slice.ensures, c.rows.ensures) at c.reduced_cost-reduced.ensures.value) in
    let is = reduced_is p.rows (at cost) (at cost (p.rows + 1)) c.reduced_cost-reduced.result c.cost-cost.result (p.column cheap.key) c.places-places.result.now value own column in
    let negative : c.reduced_cost-reduced.result <ℤ pos 0 = rw (sym is) at cheap.cheaper in
    simp to_z-of_z (c.reduced_cost-reduced.ensures.size negative)

pub turn-requires-clause-some : goal.turn-requires-clause-some
turn-requires-clause-some g c =
    let p = g.C.Columns.program (g.C.Columns.site c.args.columns.now) in
    let Lists = g.C.Columns.Lists (g.C.Columns.state c.args.columns.now) in
    let size = g.C.Columns.size (g.C.Columns.state c.args.columns.now) in
    let rows = c.args.sheet.now.rows in
    let cost = c.args.sheet.now.cost in
    let basis = c.args.sheet.now.basis.items in
    let cheap = c.requires.column in
    let path = c.requires.path in
    let column = c.places-places.ensures cheap.key cheap.listed in
    let own = c.cost-cost.ensures cheap.key cheap.listed in
    let f : SFits w64 c.cost-cost.result = search rules in
    rw c.requires.sheet.lines.count (some_entry p Lists rows cost basis path.0 c.requires.sound c.requires.costs path.1 size c.args.column cheap c.places-places.result.now column)

pub returns-in-Err-turn-clause-fault : goal.returns-in-Err-turn-clause-fault
returns-in-Err-turn-clause-fault g c =
    let p = g.C.Columns.program (g.C.Columns.site c.args.columns.now) in
    let Lists = g.C.Columns.Lists (g.C.Columns.state c.args.columns.now) in
    let size = g.C.Columns.size (g.C.Columns.state c.args.columns.now) in
    let rows = c.args.sheet.now.rows in
    let cost = c.args.sheet.now.cost in
    let basis = c.args.sheet.now.basis.items in
    let cheap = c.requires.column in
    let path = c.requires.path in
    let column = c.places-places.ensures cheap.key cheap.listed in
    let own = c.cost-cost.ensures cheap.key cheap.listed in
    let f : SFits w64 c.cost-cost.result = search rules in
    let h : SFits w128 c.reduced_cost-reduced.result = search rules in
    let value = simp to_z-of_z at (rw (c.as_slice.ensures, c.rows.ensures) at c.reduced_cost-reduced.ensures.value) in
    let is = reduced_is p.rows (at cost) (at cost (p.rows + 1)) c.reduced_cost-reduced.result c.cost-cost.result (p.column cheap.key) c.places-places.result.now value own column in
    let negative : c.reduced_cost-reduced.result <ℤ pos 0 = rw (sym is) at cheap.cheaper in
    let wide = simp to_z-of_z at (rw c.requires.sheet.lines.count at c.in-Err-turn.ensures.wide) in
    let end = wide_turn p Lists rows cost basis path.0 path.1 c.requires.sheet c.places-places.result.now cheap.key cheap.member column c.reduced_cost-reduced.result is negative wide.1 wide.2 wide.0 wide.3 in
    λ n. (rw c.in_default.ensures.counted at (refused_risen c.check_column.new.tally c.turn.new.tally c.in-Err-turn.ensures.counted), inl end)

pub returns-in-Err-turn-clause-counts : goal.returns-in-Err-turn-clause-counts
returns-in-Err-turn-clause-counts g c =
    rw c.in_default.ensures.counted at (refused_counts c.check_column.new.tally c.turn.new.tally (rw (c.wide-before.ensures, sym c.in_default.ensures.counted) at c.wide-before.type_inv) c.in-Err-turn.ensures.counted)

pub returns-clause-path : goal.returns-clause-path
returns-clause-path g c =
    let p = g.C.Columns.program (g.C.Columns.site c.args.columns.now) in
    let Lists = g.C.Columns.Lists (g.C.Columns.state c.args.columns.now) in
    let size = g.C.Columns.size (g.C.Columns.state c.args.columns.now) in
    let rows = c.args.sheet.now.rows in
    let cost = c.args.sheet.now.cost in
    let basis = c.args.sheet.now.basis.items in
    let cheap = c.requires.column in
    let path = c.requires.path in
    let column = c.places-places.ensures cheap.key cheap.listed in
    let own = c.cost-cost.ensures cheap.key cheap.listed in
    let f : SFits w64 c.cost-cost.result = search rules in
    let h : SFits w128 c.reduced_cost-reduced.result = search rules in
    let value = simp to_z-of_z at (rw (c.as_slice.ensures, c.rows.ensures) at c.reduced_cost-reduced.ensures.value) in
    let is = reduced_is p.rows (at cost) (at cost (p.rows + 1)) c.reduced_cost-reduced.result c.cost-cost.result (p.column cheap.key) c.places-places.result.now value own column in
    let negative : c.reduced_cost-reduced.result <ℤ pos 0 = rw (sym is) at cheap.cheaper in
    let turned = simp to_z-of_z at (rw c.requires.sheet.lines.count at c.in_default-turn.ensures.turned) in
    λ n o. rw turned.3 (on_path_turn p Lists rows cost basis n o c.requires.sheet c.places-places.result.now cheap.key cheap.member column c.reduced_cost-reduced.result is negative c.turn.new.sheet.entries turned.1 turned.0 c.turn.new.sheet.rows c.turn.new.sheet.cost c.args.column turned.2 cheap.listed)

pub returns-clause-room : goal.returns-clause-room
returns-clause-room g c =
    record { entry = c.turn.ensures.entries ∙ c.requires.room.entry; price = ap length c.turn.ensures.prices ∙ c.requires.room.price; numbers = c.turn.ensures.pivot ∙ c.requires.room.numbers }

pub check_column-requires : goal.check_column-requires
check_column-requires g c =
    let cheap = c.requires.column in
    let own = c.cost-cost.ensures cheap.key cheap.listed in
    let f : SFits w64 c.cost-cost.result = search rules in
    simp to_z-of_z (rw own (c.requires.costs cheap.key cheap.member))

pub reduced_cost-reduced-requires-clause-narrow : goal.reduced_cost-reduced-requires-clause-narrow
reduced_cost-reduced-requires-clause-narrow g c =
    rw c.as_slice.ensures c.requires.sheet.prices.narrow

pub reduced_cost-reduced-requires-clause-within : goal.reduced_cost-reduced-requires-clause-within
reduced_cost-reduced-requires-clause-within g c =
    let cheap = c.requires.column in
    let column = c.places-places.ensures cheap.key cheap.listed in
    rw c.rows.ensures column.within

pub reduced_cost-reduced-requires-clause-rising : goal.reduced_cost-reduced-requires-clause-rising
reduced_cost-reduced-requires-clause-rising g c =
    let cheap = c.requires.column in
    let column = c.places-places.ensures cheap.key cheap.listed in
    column.rising

pub reduced_cost-reduced-requires-clause-low : goal.reduced_cost-reduced-requires-clause-low
reduced_cost-reduced-requires-clause-low g c =
    let cheap = c.requires.column in
    let own = c.cost-cost.ensures cheap.key cheap.listed in
    let f : SFits w64 c.cost-cost.result = search rules in
    simp to_z-of_z (rw own (c.requires.costs cheap.key cheap.member))

pub turn-requires-clause-sheet : goal.turn-requires-clause-sheet
turn-requires-clause-sheet g c =
    rw c.requires.sheet.lines.count c.requires.sheet

pub turn-requires-clause-within : goal.turn-requires-clause-within
turn-requires-clause-within g c =
    let cheap = c.requires.column in
    let column = c.places-places.ensures cheap.key cheap.listed in
    rw c.requires.sheet.lines.count column.within

pub turn-requires-clause-rising : goal.turn-requires-clause-rising
turn-requires-clause-rising g c =
    let cheap = c.requires.column in
    let column = c.places-places.ensures cheap.key cheap.listed in
    column.rising

pub returns-clause-sheet : goal.returns-clause-sheet
returns-clause-sheet g c =
    rw c.requires.sheet.lines.count at c.in_default-turn.ensures.sheet
