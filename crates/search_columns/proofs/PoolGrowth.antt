-- What a column generation and a solution keep.
use Rattle.std.specs.Prelude.{◌≡◌, List, [], ◌++◌, length}
use mathlib.Core.Path.{sym, ap, subst, ◌∙◌}
use mathlib.Core.List.{append_assoc, append-nil}
use Rattle.tree_cheapest.specs.Pricers.{PricerView}
use Rattle.tree_pool.specs.Pools.{PoolTree, IsGrown}
use Rattle.lp_master_rows.specs.declared.search_day.day.Day.{Day}
use Rattle.lp_master_rows.specs.declared.node_task.task.NodeTask.{NodeTask}
use Rattle.search_node_columns.specs.declared.workspace.ColumnWorkspace.{ColumnWorkspace}
use Rattle.search_node_columns.specs.Columns.{IsWorkspace}
use Rattle.search_columns.specs.declared.generation.Generation.{Generation}
use Rattle.search_columns.specs.Generations.{IsGeneration, IsGenerating, StayGenerating}
use Rattle.search_columns.specs.Tools.{AreTools, StayTools}

-- a pool has grown by nothing
pub grown_same : (a : List PoolTree) → IsGrown a a
grown_same a = ([], sym (append-nil a))

-- a pool that grows twice has grown
pub grown_chain : (a b c : List PoolTree) → IsGrown a b → IsGrown b c → IsGrown a c
grown_chain a b c h k = (h.0 ++ k.0, k.1 ∙ ap (λ xs. xs ++ k.0) h.1 ∙ append_assoc a h.0 k.0)

-- tools that nobody touched
pub stay_same : (d : Day) (a : List PoolTree) (p : PricerView) → AreTools d p a → StayTools d p a a
stay_same d a p h = record { are = h; grown = grown_same a }

-- tools that are lent twice
pub stay_chain : (d : Day) (a b c : List PoolTree) (p q : PricerView) → StayTools d p a b → StayTools d q b c → StayTools d q a c
stay_chain d a b c p q h k = record { are = k.are; grown = grown_chain a b c h.grown k.grown }

-- a column generation whose workspace stays, and that has as many prices
generation_moved : (t : NodeTask) (a : List PoolTree) (h n : Generation) → length n.asked.y.items ≡ length h.asked.y.items → n.workspace ≡ h.workspace → IsGeneration t a h → IsGeneration t a n
generation_moved t a h n e d is = record { y = e ∙ is.y; workspace = subst (λ (k : ColumnWorkspace). IsWorkspace t.day.instance.now t.cuts.now a k) (sym d) is.workspace }

pub generating_moved : (t : NodeTask) (a : List PoolTree) (p : PricerView) (h n : Generation) → length n.asked.y.items ≡ length h.asked.y.items → n.workspace ≡ h.workspace → IsGenerating t p a h → IsGenerating t p a n
generating_moved t a p h n e d is = record { may = is.may; generation = generation_moved t a h n e d is.generation }

-- a column generation that lent nothing
pub generating_same : (t : NodeTask) (a : List PoolTree) (p : PricerView) (h n : Generation) → length n.asked.y.items ≡ length h.asked.y.items → n.workspace ≡ h.workspace → IsGenerating t p a h
    → StayGenerating t p a a n
generating_same t a p h n e d is = record { are = generating_moved t a p h n e d is; grown = grown_same a }

-- a column generation that lent its tools twice
pub generating_chain : (t : NodeTask) (a b c : List PoolTree) (p q : PricerView) (h k n : Generation) → length n.asked.y.items ≡ length k.asked.y.items → n.workspace ≡ k.workspace
    → StayGenerating t p a b h → StayGenerating t q b c k → StayGenerating t q a c n
generating_chain t a b c p q h k n e d one two =
    record { are = generating_moved t c q k n e d two.are; grown = grown_chain a b c one.grown two.grown }

-- a column generation that lent its tools, and whose workspace stays then
pub generating_after : (t : NodeTask) (a b : List PoolTree) (p : PricerView) (h n : Generation) → length n.asked.y.items ≡ length h.asked.y.items → n.workspace ≡ h.workspace
    → StayGenerating t p a b h → StayGenerating t p a b n
generating_after t a b p h n e d one = record { are = generating_moved t b p h n e d one.are; grown = one.grown }
