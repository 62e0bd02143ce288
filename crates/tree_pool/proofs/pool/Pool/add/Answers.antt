use Rattle.std.proofs.Common.{subst, sym}
use Rattle.tree_pool.specs.Pools.{IsPool}
use Rattle.tree_pool.proofs.EntriesLemmas.{found-entry, put-order, put-pool, put-grown, put-added, put-found}
use Rattle.tree_pool.proofs.pool.Pool.add.Goals as goal

pub invariant_of-self : goal.invariant_of-self
invariant_of-self c =
    let place = rw (c.as_slice.ensures, c.as_slice-2.ensures.value) at c.in-Err.ensures.place in
    put-order c.args.grammar.now c.self.inside.entries c.in_ok-entry-in-Err.entry c.self.inside.order.items c.self.invariant c.args.steps.now c.in-Err.place place
    (subst (IsPool c.args.grammar.now) (sym c.self.view_is) c.requires.pool) c.in_ok-entry-in-Err.ensures.tree c.requires.steps c.in_ok-entry-in-Err.ensures.facts
    c.put.result c.put.new.entries c.put.new.order.items c.put.ensures.entries c.put.ensures.order c.put.ensures.number c.put.ensures.kept

pub returns-in_ok-entry-in-Err-clause-pool : goal.returns-in_ok-entry-in-Err-clause-pool
returns-in_ok-entry-in-Err-clause-pool c =
    let place = rw (c.as_slice.ensures, c.as_slice-2.ensures.value) at c.in-Err.ensures.place in
    put-pool c.args.grammar.now c.self.inside.entries c.in_ok-entry-in-Err.entry c.self.inside.order.items c.self.invariant c.args.steps.now c.in-Err.place place
    (subst (IsPool c.args.grammar.now) (sym c.self.view_is) c.requires.pool) c.in_ok-entry-in-Err.ensures.tree c.requires.steps c.in_ok-entry-in-Err.ensures.facts
    c.put.result c.put.new.entries c.put.new.order.items c.put.ensures.entries c.put.ensures.order c.put.ensures.number c.put.ensures.kept

pub returns-in_ok-entry-in-Err-clause-grown : goal.returns-in_ok-entry-in-Err-clause-grown
returns-in_ok-entry-in-Err-clause-grown c =
    let place = rw (c.as_slice.ensures, c.as_slice-2.ensures.value) at c.in-Err.ensures.place in
    rw (← c.self.view_is) (put-grown c.args.grammar.now c.self.inside.entries c.in_ok-entry-in-Err.entry c.self.inside.order.items c.self.invariant c.args.steps.now c.in-Err.place place
    (subst (IsPool c.args.grammar.now) (sym c.self.view_is) c.requires.pool) c.in_ok-entry-in-Err.ensures.tree c.requires.steps c.in_ok-entry-in-Err.ensures.facts
    c.put.result c.put.new.entries c.put.new.order.items c.put.ensures.entries c.put.ensures.order c.put.ensures.number c.put.ensures.kept)

pub returns-in_ok-entry-in-Err-clause-found : goal.returns-in_ok-entry-in-Err-clause-found
returns-in_ok-entry-in-Err-clause-found c =
    let place = rw (c.as_slice.ensures, c.as_slice-2.ensures.value) at c.in-Err.ensures.place in
    put-found c.args.grammar.now c.self.inside.entries c.in_ok-entry-in-Err.entry c.self.inside.order.items c.self.invariant c.args.steps.now c.in-Err.place place
    (subst (IsPool c.args.grammar.now) (sym c.self.view_is) c.requires.pool) c.in_ok-entry-in-Err.ensures.tree c.requires.steps c.in_ok-entry-in-Err.ensures.facts
    c.put.result c.put.new.entries c.put.new.order.items c.put.ensures.entries c.put.ensures.order c.put.ensures.number c.put.ensures.kept

pub returns-in_ok-entry-in-Err-clause-added : goal.returns-in_ok-entry-in-Err-clause-added
returns-in_ok-entry-in-Err-clause-added c =
    let place = rw (c.as_slice.ensures, c.as_slice-2.ensures.value) at c.in-Err.ensures.place in
    rw (← c.self.view_is) (put-added c.args.grammar.now c.self.inside.entries c.in_ok-entry-in-Err.entry c.self.inside.order.items c.self.invariant c.args.steps.now c.in-Err.place place
    (subst (IsPool c.args.grammar.now) (sym c.self.view_is) c.requires.pool) c.in_ok-entry-in-Err.ensures.tree c.requires.steps c.in_ok-entry-in-Err.ensures.facts
    c.put.result c.put.new.entries c.put.new.order.items c.put.ensures.entries c.put.ensures.order c.put.ensures.number c.put.ensures.kept)

pub returns-in-Ok-clause-found : goal.returns-in-Ok-clause-found
returns-in-Ok-clause-found c =
    let found = rw (c.as_slice.ensures, c.as_slice-2.ensures.value) at c.in-Ok.ensures.found in
    rw (← c.self.view_is, c.as_slice-in-Ok.ensures.value)
    (found-entry c.self.inside.entries c.self.inside.order.items c.self.invariant c.args.steps.now c.in-Ok.place found)
