use Rattle.std.proofs.Common.{arith, not}
use Rattle.std.proofs.lemmas.List.{length-set}
use Rattle.model_rosters.specs.Trees.{Parts, IsTreeOf}
use Rattle.check_parts.proofs.priced_part.DerivedNames.{told-next}
use Rattle.check_parts.proofs.priced_part.derived.derived_names.Goals as goal

pub loop-name-preserved : goal.loop-name-preserved
loop-name-preserved c =
    let ds = c.loop-name.derives in
    let n = c.loop-name.name in
    record {
      count = omega (arith, length-set ds n (not c.is_empty.result), c.loop-name.invariant.count);
      told = told-next (λ x. (t : Parts) → IsTreeOf c.args.grammar.now x t → ⊥) ds n c.is_empty.result (omega (arith, c.loop-name.invariant.count)) c.is_empty.ensures c.loop-name.invariant.told;
    }
