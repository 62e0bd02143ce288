use Rattle.std.proofs.Common.{ℤ, ◌≡◌, ◌<◌, ◌≤◌, ◌+◌, subst, arith, length}
use Rattle.std.proofs.lemmas.Int.{ints}
use mir.Val.{to_z, of_z}
use mir.Syntax.{w128}
use Rattle.model_rosters.specs.declared.grammar.Sym.TheVariants.{Name}
use Rattle.tree_ranking.specs.Frames.{right_of}
use Rattle.tree_ranking.specs.Children.{AreChildren}
use Rattle.tree_ranking.proofs.FrameLemmas.{symbol-here}
use Rattle.tree_ranking.proofs.ChildListLemmas.{children-begin, children-next, children-pass, children-end}
use Rattle.tree_ranking.proofs.children.children_of.Goals.{then-rule_of-name+in_ok-add_children, else-rule_of-name}
use Rattle.tree_ranking.proofs.children.children_of.Goals as goal

pub loop-number-init : goal.loop-number-init
loop-number-init g c =
    let f = c.args.frame in
    let name = symbol-here (right_of c.args.grammar.now f.suffix.rule) f.suffix.from (Name c.args.name) c.requires.symbol in
    rw c.new-children.ensures.items (children-begin c.args.grammar.now (g.P.LetterPrice.view c.args.prices.now) f c.args.name name (to_z w128 (of_z w128 c.args.base)))

pub loop-number-preserved : goal.loop-number-preserved
loop-number-preserved g c =
    let f = c.args.frame in
    let p = g.P.LetterPrice.view c.args.prices.now in
    let name = symbol-here (right_of c.args.grammar.now f.suffix.rule) f.suffix.from (Name c.args.name) c.requires.symbol in
    elim c.if-rule_of-name.branch [
      | then-rule_of-name+in_ok-add_children w ↦
          (rw w.children-is (children-next c.args.grammar.now p f c.args.name name (to_z w128 (of_z w128 c.args.base)) c.loop-number.number (f.span.len + 1) w.add_children.new.children.items (omega arith) w.in_ok-add_children.ensures))
      | else-rule_of-name w ↦
          (rw w.children-is (children-pass c.args.grammar.now p f c.args.name name (to_z w128 (of_z w128 c.args.base)) c.loop-number.number c.rule_of.result.now c.loop-number.children.items c.rule_of.ensures w.if-rule_of-name.false c.loop-number.invariant))
    ]

pub returns : goal.returns
returns g c =
    let f = c.args.frame in
    let name = symbol-here (right_of c.args.grammar.now f.suffix.rule) f.suffix.from (Name c.args.name) c.requires.symbol in
    let same : to_z w128 (of_z w128 c.args.base) ≡ c.args.base = omega (arith, ints, c.requires.base) in
    let few : length c.args.grammar.now.rules ≤ 72 = c.requires.sums.sound.few_rules in
    let all : length c.args.grammar.now.rules < c.loop-number.number = omega (arith, ints, few, c.loop-number-test.false, c.len.ensures) in
    subst (λ (z : ℤ). AreChildren c.args.grammar.now (g.P.LetterPrice.view c.args.prices.now) c.args.frame c.args.name z c.loop-number.children.items) same
    (children-end c.args.grammar.now (g.P.LetterPrice.view c.args.prices.now) f c.args.name name (to_z w128 (of_z w128 c.args.base)) c.loop-number.number c.loop-number.children.items all c.loop-number.invariant)
