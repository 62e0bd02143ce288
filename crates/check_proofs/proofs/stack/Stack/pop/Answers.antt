use Rattle.std.proofs.Common.{rules, vec_len}
use Rattle.check_proofs.proofs.Paths.{popped}
use Rattle.check_proofs.proofs.stack.Stack.pop.Goals as goal

pub invariant_of-self-2 : goal.invariant_of-self-2
invariant_of-self-2 c =
    let p = popped c.self.inside.base c.self.inside.most _ _ c.self.inside.frames.items c.pop.new.self.items c.in_ok-frame.frame c.self.inside.path.items c.pop-2.new.self.items (vec_len c.self.inside.path) c.self.invariant c.in_ok-frame.ensures.items (search rules) c.pop-2.ensures.rest in
    let i = p.0 in
    record { begins = i.begins; whole = i.whole; splits = rw c.in_ok-frame.ensures.capacity i.splits; cuts = rw c.pop-2.ensures.capacity i.cuts }

pub returns : goal.returns
returns c =
    let p = popped c.self.inside.base c.self.inside.most _ _ c.self.inside.frames.items c.pop.new.self.items c.in_ok-frame.frame c.self.inside.path.items c.pop-2.new.self.items (vec_len c.self.inside.path) c.self.invariant c.in_ok-frame.ensures.items (search rules) c.pop-2.ensures.rest in
    let base = p.1 in
    let turned = p.2 in
    let seen = c.self.view_is in
    cc
