use Rattle.std.proofs.Common.{◌≡◌, ◌+◌, ◌-◌, arith, pos, SFits, rules, length, slice_index_or, ap, ◌∙◌}
use Rattle.std.specs.Int.{w64, w128}
use Rattle.std.proofs.lemmas.Int.{to_z-of_z}
use Rattle.lp_fractions.specs.Row.{at}
use Rattle.lp_tableaus.specs.Sheet.{AreCopied}
use Rattle.lp_tableaus.proofs.EnteringColumns.{found_cheaper, none_priced, priced_fault}
use Rattle.lp_tableaus.proofs.enter.entering.Goals as goal

pub returns-in-Ok-clause-found : goal.returns-in-Ok-clause-found
returns-in-Ok-clause-found g c =
    let p = g.C.Columns.program (g.C.Columns.site c.args.columns.now) in
    let f : SFits w64 (slice_index_or c.args.cost.now (length c.args.cost.now - 1) (pos 0)) = search rules in
    let k : SFits w128 c.from-kappa.result = search rules in
    let last : length c.args.cost.now - 1 ≡ p.rows + 1 = omega (arith, c.requires.cost.long) in
    let kappa = simp to_z-of_z at c.from-kappa.ensures in
    let copied : AreCopied p.rows c.copy.new.self c.args.cost.now = rw c.requires.prices at c.copy.ensures.copied in
    let found = rw c.as_slice.ensures at c.in-Ok.ensures.found in
    found_cheaper p (g.C.Columns.Lists (g.C.Columns.state c.price_out.new.self)) (g.C.Columns.size (g.C.Columns.state c.price_out.new.self)) c.copy.new.self c.args.cost.now c.from-kappa.result copied (kappa ∙ ap (at c.args.cost.now) last) c.in-Ok.found (simp to_z-of_z at found)

pub returns-in-Ok-clause-none : goal.returns-in-Ok-clause-none
returns-in-Ok-clause-none g c =
    let p = g.C.Columns.program (g.C.Columns.site c.args.columns.now) in
    let f : SFits w64 (slice_index_or c.args.cost.now (length c.args.cost.now - 1) (pos 0)) = search rules in
    let k : SFits w128 c.from-kappa.result = search rules in
    let last : length c.args.cost.now - 1 ≡ p.rows + 1 = omega (arith, c.requires.cost.long) in
    let kappa = simp to_z-of_z at c.from-kappa.ensures in
    let copied : AreCopied p.rows c.copy.new.self c.args.cost.now = rw c.requires.prices at c.copy.ensures.copied in
    let none = rw c.as_slice.ensures at c.in-Ok.ensures.none in
    none_priced p (g.C.Columns.Lists (g.C.Columns.state c.price_out.new.self)) (g.C.Columns.size (g.C.Columns.state c.price_out.new.self)) c.copy.new.self c.args.cost.now c.from-kappa.result copied (kappa ∙ ap (at c.args.cost.now) last) c.in-Ok.found (simp to_z-of_z at none)

pub returns-in-Some-clause-kept : goal.returns-in-Some-clause-kept
returns-in-Some-clause-kept g c =
    g.C.Columns.same _

pub price_out-requires-clause-kappa : goal.price_out-requires-clause-kappa
price_out-requires-clause-kappa g c =
    let p = g.C.Columns.program (g.C.Columns.site c.args.columns.now) in
    let f : SFits w64 (slice_index_or c.args.cost.now (length c.args.cost.now - 1) (pos 0)) = search rules in
    let k : SFits w128 c.from-kappa.result = search rules in
    let last : length c.args.cost.now - 1 ≡ p.rows + 1 = omega (arith, c.requires.cost.long) in
    let kappa = simp to_z-of_z at c.from-kappa.ensures in
    simp to_z-of_z (rw (kappa ∙ ap (at c.args.cost.now) last) c.requires.kappa)

pub returns-in-Err-clause-fault : goal.returns-in-Err-clause-fault
returns-in-Err-clause-fault g c =
    let p = g.C.Columns.program (g.C.Columns.site c.args.columns.now) in
    let f : SFits w64 (slice_index_or c.args.cost.now (length c.args.cost.now - 1) (pos 0)) = search rules in
    let k : SFits w128 c.from-kappa.result = search rules in
    let last : length c.args.cost.now - 1 ≡ p.rows + 1 = omega (arith, c.requires.cost.long) in
    let kappa = simp to_z-of_z at c.from-kappa.ensures in
    let copied : AreCopied p.rows c.copy.new.self c.args.cost.now = rw c.requires.prices at c.copy.ensures.copied in
    let wide = rw c.as_slice.ensures at c.in-Err.ensures.wide in
    λ n. rw c.lp_fault.ensures (priced_fault p (g.C.Columns.Lists (g.C.Columns.state c.price_out.new.self)) n c.copy.new.self c.args.cost.now c.from-kappa.result c.args.tally.now c.price_out.new.tally copied (kappa ∙ ap (at c.args.cost.now) last) c.requires.cost c.in-Err.fault (simp to_z-of_z at wide))
