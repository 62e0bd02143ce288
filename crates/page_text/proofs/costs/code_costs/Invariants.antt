use Rattle.std.proofs.Common.{◌≡◌, ◌++◌, take}
use Rattle.page_parts.specs.Elements.{each_from, written}
use Rattle.page_text.specs.Costs.{code_cost}
use Rattle.page_text.proofs.costs.code_costs.Given as goal

abbrev pub invariant-loop-code : goal.invariant-loop-code
invariant-loop-code l = record {
  out : l.out ≡ l.fn.out ++ written (each_from (code_cost l.money l.codes l.columns) 0 (take l.code-index l.codes));
  place : l.place ≡ l.code-index;
}
