use Rattle.std.proofs.Common.{◌≡◌, length, take}
use Rattle.check_values.specs.group_rules.Plain.{plain_from}
use Rattle.page_views.specs.Rows.{AreDerived}
use Rattle.page_views.proofs.derived.derivations_by.Given as goal

abbrev pub invariant-loop-row : goal.invariant-loop-row
invariant-loop-row l = record {
  texts : AreDerived l.instance (take l.row-index l.rows) l.texts;
  count : length l.texts ≡ l.row-index;
  rules : l.grammar ≡ plain_from l.instance.grammar l.instance.groups l.grammar.start;
}
