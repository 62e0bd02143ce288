use Rattle.std.proofs.Common.{arith, ◌≡◌, ◌≤◌, ◌≢◌, length, ap, sym, ◌∙◌, get_or, [], ◌∷◌}
use Rattle.std.proofs.lemmas.Int.{ints}
use mir.Val.{to_z, of_z}
use mir.Syntax.{w128}
use Rattle.model_rosters.specs.declared.grammar.Sym.TheVariants.{Name, Code}
use Rattle.model_rosters.proofs.tree_laws.Rules.{sound-rule, sound-symbol}
use Rattle.model_rosters.proofs.tree_laws.Symbols.{here_only}
use Rattle.model_rosters.proofs.tree_laws.Ends.{only-least}
use Rattle.model_rosters.proofs.tree_laws.Bounds.{parts_within}
use Rattle.tree_span_cells.proofs.names.right_least.Goals as goal

pub symbol_least-part-requires-clause-name : goal.symbol_least-part-requires-clause-name
symbol_least-part-requires-clause-name g c =
    λ x e. let e2 : get_or c.args.rule.now.right 0 (Code 0) ≡ Name x = rw c.as_slice-right.ensures at e in
    let one : length c.args.rule.now.right ≡ 1 = ap length (sym c.as_slice-right.ensures) ∙ c.if-right-eq1.true in
    let only : c.args.rule.now.right ≡ Name x ∷ [] = here_only c.args.rule.now.right (Code 0) (Name x) one e2 in
    (sound-symbol c.args.grammar.now c.requires.sound c.args.number 0 c.args.rule.now (Name x) [] c.requires.rule only, c.requires.unit x only)

pub least_part-requires-clause-within : goal.least_part-requires-clause-within
least_part-requires-clause-within g c =
    let ne : length c.args.rule.now.right ≡ length c.as_slice-right.result.now = ap length (sym c.as_slice-right.ensures) in
    let some : 1 ≤ length c.args.rule.now.right = (sound-rule c.args.grammar.now c.requires.sound c.args.number c.args.rule.now c.requires.rule).some in
    let other : length c.as_slice-right.result.now ≢ 1 = c.if-right-eq1.false in
    omega (arith, ne, some, other)

pub returns-else-is_none-clause-least : goal.returns-else-is_none-clause-least
returns-else-is_none-clause-least g c =
    let one : length c.args.rule.now.right ≡ 1 = ap length (sym c.as_slice-right.ensures) ∙ c.if-right-eq1.true in
    let only = here_only c.args.rule.now.right (Code 0) _ one (ap (λ r. get_or r 0 (Code 0)) (sym c.as_slice-right.ensures)) in
    let same : to_z w128 (of_z w128 c.arc-arc.result) ≡ c.arc-arc.result = omega (arith, ints) in
    rw (c.add.ensures, same, c.arc-arc.ensures.value, only)
    (only-least c.args.grammar.now (g.P.LetterPrice.view c.args.prices.now) c.args.span.start c.args.span.len c.args.number _ c.symbol_least-part.result c.symbol_least-part.ensures.least)

pub returns-else-is_none-clause-within : goal.returns-else-is_none-clause-within
returns-else-is_none-clause-within g c =
    let most : c.args.span.len ≤ 96 = omega arith in
    parts_within c.args.grammar.now c.requires.sound _ (g.met.P.LetterPrice.all_within c.args.prices.now) c.args.number 0 c.args.span.start c.args.span.len _ _ most
    (returns-else-is_none-clause-least g c)
