use Rattle.std.proofs.Common.{◌≡◌, IfOk, subst}
use Rattle.model_rosters.specs.declared.grammar.Grammar.{Grammar}
use Rattle.page_derived_rules.specs.RuledTrees.{SaysWithRules}
use Rattle.page_views.specs.Rows.{rules_of}
use Rattle.page_views.proofs.DerivedLemmas.{with_start}
use Rattle.page_views.proofs.derived.derived.Goals as goal

pub returns-clause-text : goal.returns-clause-text
returns-clause-text c =
    let i = c.args.instance.now in
    let r = c.args.row.now in
    let g : Grammar = record c.args.grammar.now { start = c.start_of-grammar.result } in
    let same : g ≡ rules_of i r.group = rw c.start_of-grammar.ensures (with_start i r.group c.args.grammar.now c.requires.rules) in
    subst (λ (q : Grammar). IfOk c.derivation_with_rules.result (SaysWithRules q r.word r.price)) same (rw c.as_slice.ensures at c.derivation_with_rules.ensures)
