use Rattle.std.proofs.Common.{arith, ◌≡◌, ◌≤◌, length}
use Rattle.std.proofs.lemmas.Int.{ints}
use mir.Val.{to_z, of_z}
use mir.Syntax.{w128}
use Rattle.model_rosters.proofs.tree_laws.Rules.{sound-rule}
use Rattle.tree_span_table.proofs.next_codes.names.push_right.Goals as goal

pub push_only-requires-clause-around : goal.push_only-requires-clause-around
push_only-requires-clause-around g c =
    let same : to_z w128 (of_z w128 c.args.outside) ≡ c.args.outside = omega (arith, ints) in
    rw same c.requires.around

pub push_parts-requires-clause-within : goal.push_parts-requires-clause-within
push_parts-requires-clause-within g c =
    let some : 1 ≤ length c.args.rule.now.right = (sound-rule c.args.grammar.now c.requires.pushing.sound c.args.number c.args.rule.now c.requires.rule).some in
    omega (arith, some, c.len.ensures, c.if-len-eq1.false)

pub push_parts-requires-clause-around : goal.push_parts-requires-clause-around
push_parts-requires-clause-around g c =
    let same : to_z w128 (of_z w128 c.args.outside) ≡ c.args.outside = omega (arith, ints) in
    rw same c.requires.around

pub returns-else-len-eq1-clause-done : goal.returns-else-len-eq1-clause-done
returns-else-len-eq1-clause-done g c =
    let same : to_z w128 (of_z w128 c.args.outside) ≡ c.args.outside = omega (arith, ints) in
    record {
      only = λ a one h. absurd (omega (arith, one, c.len.ensures, c.if-len-eq1.false));
      parts = λ two. rw same at c.push_parts.ensures.done;
    }
