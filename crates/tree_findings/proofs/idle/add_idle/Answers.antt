use Rattle.std.proofs.Common.{◌⊎◌, length}
use Rattle.std.proofs.lemmas.Result.{on_ok_weaker}
use Rattle.tree_findings.specs.declared.finding.Finding.{Finding}
use Rattle.tree_findings.specs.declared.finding.Finding.TheVariants.{NoShift}
use Rattle.tree_findings.specs.Findings.{OfIdleRule, OfIdleName, OfIdleCode}
use Rattle.tree_findings.specs.Listed.{Says, OfFirst}
use Rattle.tree_findings.specs.Used.{HasTree}
use Rattle.tree_findings.proofs.ListedLemmas.{adds-then, adds-untested}
use Rattle.tree_findings.proofs.idle.add_idle.Goals as goal

pub returns : goal.returns
returns c =
    let own = c.args.shifts.now.own.now in
    let day = c.args.shifts.now.day.now in
    let s = Says (HasTree day → ⊥) NoShift in
    let r = OfFirst (OfIdleRule own day) (length own.rules) in
    let n = OfFirst (OfIdleName own day) (length own.names) in
    let k = OfFirst (OfIdleCode own day) (length own.codes) in
    let old = c.args.found.now in
    let first = adds-untested c.has_tree.result (HasTree day) NoShift old c.add_if.new.found c.has_tree.ensures c.in_ok-add_if.ensures in
    on_ok_weaker c.add_codes.result
    (λ h. adds-then (λ (f : Finding). (s f ⊎ r f) ⊎ n f) k old c.add_names.new.found c.add_codes.new.found
    (adds-then (λ (f : Finding). s f ⊎ r f) n old c.add_rules.new.found c.add_names.new.found
    (adds-then s r old c.add_if.new.found c.add_rules.new.found first c.in_ok-add_rules.ensures) c.in_ok-add_names.ensures) h)
    c.add_codes.ensures
