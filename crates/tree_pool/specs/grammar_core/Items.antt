-- The normal form of a grammar.
use Rattle.std.specs.Prelude.{ℕ, ◌≡◌, ◌+◌, ◌-◌, ◌*◌, ◌<◌, ◌≤◌, ◌⊎◌, max, List, [], ◌∷◌, Some, length, slice_get}
use Rattle.model_rosters.specs.declared.grammar.Grammar.{Grammar}
use Rattle.model_rosters.specs.declared.grammar.Rule.{Rule}
use Rattle.model_rosters.specs.declared.grammar.Sym.{Sym}
use Rattle.model_rosters.specs.declared.grammar.Sym.TheVariants.{Name}
use Rattle.model_rosters.specs.Grammar.{rule_at}
use Rattle.tree_pool.specs.declared.grammar_core.normal.Item.{Item}
use Rattle.tree_pool.specs.declared.grammar_core.normal.Normal.{Normal}
use Rattle.tree_pool.specs.declared.grammar_core.normal.Second.{Second}
use Rattle.tree_pool.specs.declared.grammar_core.normal.Second.TheVariants.{Nothing, One, Rest}

-- how many items a rule of so many symbols has: one for each suffix of two or more symbols, and one
-- for the whole right side where that has one symbol
abbrev pub item_count : ℕ → ℕ
item_count m = max 1 (m - 1)

-- what follows the first symbol at a suffix of a right side: nothing where that is its only symbol,
-- its last symbol where that is all, and else the item of the same rule at the next suffix
abbrev pub Follows : List Item → ℕ → List Sym → ℕ → Second → Type 0
Follows items r right k Nothing = length right ≡ 1
Follows items r right k (One s) = (k + 2 ≡ length right) × (slice_get right (k + 1) ≡ Some s)
Follows items r right k (Rest p) =
    (k + 2 < length right) × (next : Item) × (slice_get items p ≡ Some next) × (next.rule ≡ r)
    × (next.suffix ≡ k + 1)

-- an item stands for a suffix of one of the rules
pub record IsItem (g : Grammar) (items : List Item) (item : Item) : Type 0 where
  pub rule : Rule
  pub at : rule_at g item.rule ≡ Some rule
  pub suffix : item.suffix < item_count (length rule.right)
  pub first : slice_get rule.right item.suffix ≡ Some item.first
  pub second : Follows items item.rule rule.right item.suffix item.second

-- the order of items: by rule, then by suffix
abbrev pub ItemBefore : Item → Item → Type 0
ItemBefore a b = (a.rule < b.rule) ⊎ ((a.rule ≡ b.rule) × (a.suffix < b.suffix))

-- the items of a grammar: one for each rule and suffix, in the order of rules and suffixes, so that no
-- rule has more than seven
pub record AreItems (g : Grammar) (items : List Item) : Type 0 where
  pub few : length items ≤ 7 * length g.rules
  pub each : (p : ℕ) (item : Item) → slice_get items p ≡ Some item → IsItem g items item
  pub all : (r k : ℕ) (rule : Rule) → rule_at g r ≡ Some rule → k < item_count (length rule.right)
      → (p : ℕ) × (item : Item) × (slice_get items p ≡ Some item) × (item.rule ≡ r) × (item.suffix ≡ k)
  pub order : (p q : ℕ) (a b : Item) → p < q → slice_get items p ≡ Some a → slice_get items q ≡ Some b
      → ItemBefore a b

-- an order of the names in which each stands once, and the right name of a one-symbol rule before its
-- left name
pub record IsOrder (g : Grammar) (order : List ℕ) : Type 0 where
  pub each : (p x : ℕ) → slice_get order p ≡ Some x → x < length g.names
  pub all : (x : ℕ) → x < length g.names → (p : ℕ) × (slice_get order p ≡ Some x)
  pub once : (p q x : ℕ) → slice_get order p ≡ Some x → slice_get order q ≡ Some x → p ≡ q
  pub rising : (r y p q : ℕ) (rule : Rule) → rule_at g r ≡ Some rule → rule.right ≡ Name y ∷ []
      → slice_get order p ≡ Some y → slice_get order q ≡ Some rule.left → p < q

-- the normal form of a grammar
pub record IsNormal (g : Grammar) (n : Normal) : Type 0 where
  pub items : AreItems g n.items
  pub order : IsOrder g n.order
