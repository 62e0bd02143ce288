use Rattle.std.proofs.Common.{◌≡◌, rules}
use Rattle.lp_fractions.proofs.Entries.{entry_is, entry_fits}
use Rattle.lp_fractions.proofs.pivot_rows.Sizes.{combined_size, entry_narrow, narrow_fits}
use Rattle.lp_fractions.proofs.pivot_rows.step.combine.Goals as goal

pub overflow_sub-result : goal.overflow_sub-result
overflow_sub-result c =
    let f1 = c.ranges.number in let f2 = c.ranges.other in
    let e1 : c.from.result ≡ c.args.number = search rules in
    let e2 : c.from-2.result ≡ c.args.other = search rules in
    let q = c.requires in
    rw (e1, e2) (entry_fits c.args.factor c.args.number c.args.entry c.args.other c.ranges.factor (narrow_fits c.args.number q.number) c.ranges.entry (narrow_fits c.args.other q.other)
    (entry_narrow c.args.factor c.args.number c.args.entry c.args.other q.factor q.number q.entry q.other))

pub returns-clause-value : goal.returns-clause-value
returns-clause-value c =
    let f1 = c.ranges.number in let f2 = c.ranges.other in
    let e1 : c.from.result ≡ c.args.number = search rules in
    let e2 : c.from-2.result ≡ c.args.other = search rules in
    let q = c.requires in
    rw (e1, e2) (entry_is c.args.factor c.args.number c.args.entry c.args.other c.ranges.factor (narrow_fits c.args.number q.number) c.ranges.entry (narrow_fits c.args.other q.other)
    (entry_narrow c.args.factor c.args.number c.args.entry c.args.other q.factor q.number q.entry q.other))

pub returns-clause-size : goal.returns-clause-size
returns-clause-size c =
    let f1 = c.ranges.number in let f2 = c.ranges.other in
    let e1 : c.from.result ≡ c.args.number = search rules in
    let e2 : c.from-2.result ≡ c.args.other = search rules in
    let q = c.requires in
    let e = entry_is c.args.factor c.args.number c.args.entry c.args.other c.ranges.factor (narrow_fits c.args.number q.number) c.ranges.entry (narrow_fits c.args.other q.other)
    (entry_narrow c.args.factor c.args.number c.args.entry c.args.other q.factor q.number q.entry q.other) in
    rw (e1, e2, e) (combined_size c.args.factor c.args.number c.args.entry c.args.other q.factor q.number q.entry q.other)
