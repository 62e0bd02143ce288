use Rattle.std.proofs.Common.{ap, sym, subst, ◌∙◌, ◌≡◌, ℕ}
use Rattle.check_proofs.specs.declared.frame.Frame.{Frame}
use Rattle.check_proofs.specs.OpenSplits.{path}
use Rattle.check_proofs.specs.Stacks.{StackView, AreSmall, IsClosing}
use Rattle.check_proofs.specs.Stacks.{halves_of}
use Rattle.check_proofs.proofs.StacksLemmas.{small-turned, closed, turned-halves}
use Rattle.check_proofs.proofs.stack.Stack.close.Goals as goal
use Rattle.check_certificates.specs.certificate_laws.Shown.{joined}

pub returns-in-Low-clause-small : goal.returns-in-Low-clause-small
returns-in-Low-clause-small c = λ s.
    let pushed = ap (λ (v : StackView). v.splits) c.push.ensures in
    let before = subst (λ (v : StackView). AreSmall (path c.args.self.now.base v.splits)) c.in-Some.ensures (c.loop-frame.invariant.small s) in
    let same : c.high_half.result.cut.b ≡ c.in-Some.frame.cut.b = ap (λ (f : Frame). f.cut.b) c.high_half.ensures in
    subst (λ (v : StackView). AreSmall (path c.args.self.now.base v.splits)) (sym c.push.ensures) (small-turned c.args.self.now.base c.pop.new.self.splits c.in-Some.frame c.high_half.result same before)

pub loop-frame-preserved : goal.loop-frame-preserved
loop-frame-preserved c =
    let before = subst (λ (v : StackView). IsClosing c.args.self.now c.args.value v c.loop-frame.shown) c.in-Some.ensures c.loop-frame.invariant in
    let after = closed c.args.self.now c.pop.new.self c.args.value c.loop-frame.shown c.in-Some.frame c.in-High.is before in
    subst (λ (n : ℕ). IsClosing c.args.self.now c.args.value c.pop.new.self n) (sym (c.joined-shown.ensures ∙ ap (λ (n : ℕ). joined c.in-Some.frame.own n) c.min.ensures)) after

pub returns-in-Low-clause-halves : goal.returns-in-Low-clause-halves
returns-in-Low-clause-halves c =
    let before = subst (λ (v : StackView). IsClosing c.args.self.now c.args.value v c.loop-frame.shown) c.in-Some.ensures c.loop-frame.invariant in
    let high = ap (λ (f : Frame). f.cut.side) c.high_half.ensures in
    ap (λ (v : StackView). halves_of v.splits) c.push.ensures ∙ turned-halves c.args.self.now c.pop.new.self c.args.value c.loop-frame.shown c.in-Some.frame c.high_half.result c.in-Low.is high before
