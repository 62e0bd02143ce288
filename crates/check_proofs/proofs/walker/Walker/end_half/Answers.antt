use Rattle.std.proofs.Common.{sym, subst}
use Rattle.check_proofs.specs.OpenSplits.{IsLeafValue}
use Rattle.check_proofs.specs.Stacks.{StackView}
use Rattle.check_proofs.specs.Steps.{way, MayFollow, IsShown}
use Rattle.check_proofs.specs.Views.{node_of}
use Rattle.check_proofs.proofs.NextNodes.{leaf-shown}
use Rattle.check_proofs.proofs.walker.Walker.end_half.Goals as goal

pub returns-clause-shows : goal.returns-clause-shows
returns-clause-shows c =
    let i = c.args.instance.now in
    let node = node_of c.args.leaf.now in
    let e = c.close.ensures in
    let same = c.leaf_value-value.ensures.stack in
    let value = c.leaf_value-value.ensures.value in
    let mid = c.leaf_value-value.new.self.stack in
    subst (λ (s : StackView). IsShown i s node c.args.is_right c.close.new.self c.close.result) same
    (leaf-shown i mid c.args.is_right node c.leaf_value-value.result c.close.new.self c.close.result (subst (λ (s : StackView). MayFollow i s node) (sym same) c.requires.node) c.requires.leaf
    (λ t. subst (λ (s : StackView). IsLeafValue i (way s) node c.leaf_value-value.result) (sym same) (value t)) e.base e.most e.fewer e.halves e.small (e.values i) e.visits)
