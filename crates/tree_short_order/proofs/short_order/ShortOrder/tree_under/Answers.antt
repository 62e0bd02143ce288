use Rattle.std.proofs.Common.{ℕ, List, sym, subst}
use Rattle.tree_short_order.specs.Best.{AreBest}
use Rattle.tree_short_order.proofs.DayLemmas.{asks-under, holds-under, most-under}
use Rattle.tree_short_order.proofs.short_order.ShortOrder.tree_under.Goals as goal

pub write_under-requires : goal.write_under-requires
write_under-requires c =
    let are : AreBest c.args.graph.now c.deref.result.now = subst (λ (q : List ℕ). AreBest c.args.graph.now q) (sym c.deref.ensures.value) c.requires.made.best in
    asks-under c.requires.asks.0 c.args.graph.now c.deref.result.now c.args.room.now c.clear.new.self c.args.arc c.requires.asks.1 c.requires.asks.2 are c.clear.ensures

pub returns-clause-tree : goal.returns-clause-tree
returns-clause-tree c = λ g a asks.
    let are : AreBest c.args.graph.now c.deref.result.now = subst (λ (q : List ℕ). AreBest c.args.graph.now q) (sym c.deref.ensures.value) c.requires.made.best in
    holds-under g c.args.graph.now c.deref.result.now c.args.room.now c.clear.new.self c.args.arc a asks are c.clear.ensures c.write_under.new.room c.write_under.ensures

pub returns-clause-kept : goal.returns-clause-kept
returns-clause-kept c =
    let are : AreBest c.args.graph.now c.deref.result.now = subst (λ (q : List ℕ). AreBest c.args.graph.now q) (sym c.deref.ensures.value) c.requires.made.best in
    most-under c.requires.asks.0 c.args.graph.now c.deref.result.now c.args.room.now c.clear.new.self c.args.arc c.requires.asks.1 c.requires.asks.2 are c.clear.ensures c.write_under.new.room c.write_under.ensures
