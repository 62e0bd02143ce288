use Rattle.std.proofs.Common.{◌≡◌, map, take}
use Rattle.plan_names.specs.Views.{kind_of}
use Rattle.plan_rules.specs.NameTexts.{name_texts}
use Rattle.plan_rules.proofs.texts.name_texts.Given as goal

abbrev pub invariant-loop-name : goal.invariant-loop-name
invariant-loop-name l = record {
  number : l.number ≡ l.name-index;
  texts : l.texts ≡ name_texts 0 (map kind_of (take l.name-index l.names));
}
