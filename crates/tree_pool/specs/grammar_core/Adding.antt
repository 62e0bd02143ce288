-- The steps by which a normal form is made.
use Rattle.std.specs.Prelude.{ℕ, ◌≡◌, ◌+◌, ◌*◌, ◌<◌, ◌≤◌, ◌⊎◌, List, Some, length, slice_get, slice_index}
use Rattle.model_rosters.specs.declared.grammar.Grammar.{Grammar}
use Rattle.model_rosters.specs.declared.grammar.Rule.{Rule}
use Rattle.model_rosters.specs.declared.grammar.Sym.{Sym}
use Rattle.model_rosters.specs.Grammar.{rule_at}
use Rattle.tree_pool.specs.declared.grammar_core.normal.Item.{Item}
use Rattle.tree_pool.specs.declared.grammar_core.normal.Second.{Second}
use Rattle.tree_pool.specs.declared.grammar_core.normal.Second.TheVariants.{Nothing, One, Rest}
use Rattle.tree_pool.specs.grammar_core.Items.{item_count, IsItem, ItemBefore}

-- what follows the first symbol, where the item of the next suffix has the position `next`
abbrev pub Continues : List Sym → ℕ → ℕ → Second → Type 0
Continues right k next Nothing = length right ≡ 1
Continues right k next (One s) = (k + 2 ≡ length right) × (slice_get right (k + 1) ≡ Some s)
Continues right k next (Rest p) = (k + 2 < length right) × (p ≡ next)

-- the item of a rule's suffix k, where that of the next suffix has the position `next`
pub record IsItemOf (r : ℕ) (right : List Sym) (k next : ℕ) (item : Item) : Type 0 where
  pub rule : item.rule ≡ r
  pub suffix : item.suffix ≡ k
  pub first : slice_get right k ≡ Some item.first
  pub second : Continues right k next item.second

-- the items of the first n suffixes of rule r were added, one after the other
pub record AddsItems (r : ℕ) (right : List Sym) (n : ℕ) (old new : List Item) : Type 0 where
  pub kept : (p : ℕ) (item : Item) → slice_get old p ≡ Some item → slice_get new p ≡ Some item
  pub count : length new ≡ length old + n
  pub added : (k : ℕ) → k < n → (item : Item) × (slice_get new (length old + k) ≡ Some item)
      × IsItemOf r right k (length old + k + 1) item
  pub only : (p : ℕ) (item : Item) → slice_get new p ≡ Some item
      → (slice_get old p ≡ Some item) ⊎ ((k : ℕ) × (k < n) × (p ≡ length old + k)
      × IsItemOf r right k (length old + k + 1) item)

-- the items of the first n rules stand in order
pub record ItemsOfFirst (g : Grammar) (n : ℕ) (items : List Item) : Type 0 where
  pub few : length items ≤ 7 * n
  pub each : (p : ℕ) (item : Item) → slice_get items p ≡ Some item → IsItem g items item × (item.rule ≤ n)
  pub all : (r k : ℕ) (rule : Rule) → rule_at g r ≡ Some rule → r ≤ n → k < item_count (length rule.right)
      → (p : ℕ) × (item : Item) × (slice_get items p ≡ Some item) × (item.rule ≡ r) × (item.suffix ≡ k)
  pub order : (p q : ℕ) (a b : Item) → p < q → slice_get items p ≡ Some a → slice_get items q ≡ Some b
      → ItemBefore a b

-- the names that are done, of so many names, stand in order, each once, those of a higher rank first
pub record AreOrdered (ranks : List ℕ) (names : ℕ) (done : ℕ → Type 0) (order : List ℕ) : Type 0 where
  pub each : (p x : ℕ) → slice_get order p ≡ Some x → (x < names) × done x
  pub all : (x : ℕ) → x < names → done x → (p : ℕ) × (slice_get order p ≡ Some x)
  pub once : (p q x : ℕ) → slice_get order p ≡ Some x → slice_get order q ≡ Some x → p ≡ q
  pub rising : (p q x y : ℕ) → slice_get order p ≡ Some x → slice_get order q ≡ Some y
      → slice_index ranks y < slice_index ranks x → p < q
