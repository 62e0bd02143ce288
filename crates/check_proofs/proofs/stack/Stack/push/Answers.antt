use Rattle.std.proofs.Common.{arith}
use Rattle.std.proofs.lemmas.List.{length-reverse}
use Rattle.check_proofs.proofs.Paths.{path-long}
use Rattle.check_proofs.proofs.stack.Stack.push.Goals as goal

pub push_reserved-requires-2 : goal.push_reserved-requires-2
push_reserved-requires-2 c =
    let s = c.self.invariant in
    let long = path-long c.self.inside.base c.self.inside.most _ _ c.self.inside.frames.items c.self.inside.path.items s in
    let few = rw (← c.self.view_is) at c.requires in
    omega (arith, s.cuts, few, long, length-reverse c.self.inside.frames.items)
