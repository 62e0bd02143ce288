use Rattle.std.proofs.Common.{arith, ap, sym, subst, ◌∙◌}
use Rattle.check_certificates.specs.declared.cert.Node.{Node}
use Rattle.check_proofs.specs.Stacks.{StackView}
use Rattle.check_proofs.specs.Steps.{MayFollow, IsStep}
use Rattle.check_proofs.proofs.BaseCuts.{small-base}
use Rattle.check_proofs.proofs.StepsLemmas.{may-follow, next-node, start-walk, end-walk}
use Rattle.check_proofs.proofs.walker.Walker.walk.Goals as goal

pub loop-node-init : goal.loop-node-init
loop-node-init c =
    let i = c.args.instance.now in
    let b = c.requires.walker in
    let base = ap (λ (s : StackView). s.base) c.clear.ensures in
    record {
      bench = record { tables = b.tables; rooms = b.rooms; base = base ∙ b.base };
      most = ap (λ (s : StackView). s.most) c.clear.ensures;
      walking = λ p s. start-walk i p c.clear.new.self c.new-walk.result (base ∙ b.base) (ap (λ (s : StackView). s.splits) c.clear.ensures) (small-base i c.requires.sound) c.new-walk.ensures;
    }

pub step-walk-requires-clause-node : goal.step-walk-requires-clause-node
step-walk-requires-clause-node c =
    let i = c.args.instance.now in
    let q = c.requires.proof in
    let w = c.loop-node.invariant in
    let may = may-follow i q.0 c.args.nodes.now q.1 c.loop-node.node-index c.loop-node.self.stack c.loop-node.walk (w.walking q.0 q.1) c.node-item.result c.loop-node-test.true c.requires.listed (omega (arith, w.most, c.requires.room)) in
    subst (λ (n : Node). MayFollow i c.loop-node.self.stack n) (sym c.node-item.is ∙ sym c.view_node.ensures) may

pub loop-node-preserved : goal.loop-node-preserved
loop-node-preserved c =
    let i = c.args.instance.now in
    let w = c.loop-node.invariant in
    let step = subst (λ (n : Node). IsStep i c.loop-node.self.stack c.loop-node.walk n c.step-walk.new.self.stack c.step-walk.result) (c.view_node.ensures ∙ c.node-item.is) c.step-walk.ensures.step in
    record {
      bench = c.step-walk.ensures.walker;
      most = step.shows.most ∙ w.most;
      walking = λ p s. next-node i p c.args.nodes.now s c.loop-node.node-index c.loop-node.self.stack c.loop-node.walk (w.walking p s) c.node-item.result c.loop-node-test.true c.step-walk.new.self.stack c.step-walk.result step;
    }

pub returns-clause-walked : goal.returns-clause-walked
returns-clause-walked c =
    let q = c.requires.proof in
    end-walk c.args.instance.now q.0 c.args.nodes.now c.loop-node.node-index c.loop-node.self.stack c.loop-node.walk q.1 c.loop-node-test.false (c.loop-node.invariant.walking q.0 q.1)
