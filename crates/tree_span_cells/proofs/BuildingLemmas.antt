-- A layout with slots for all suffixes and then for all names is one of the grammar.
use Rattle.std.proofs.Common.{◌≡◌, ℕ, ◌<◌, ◌≤◌, List, [], ◌∷◌, Some, arith, length}
use Rattle.std.specs.Prelude.{slice_get, slice_index}
use Rattle.std.proofs.Math.Nat.{mul-le-mul_right}
use Rattle.model_rosters.specs.declared.grammar.Grammar.{Grammar}
use Rattle.model_rosters.specs.declared.grammar.Rule.{Rule}
use Rattle.model_rosters.specs.declared.grammar.Sym.TheVariants.{Name}
use Rattle.model_rosters.specs.Grammar.{rule_at}
use Rattle.model_rosters.specs.Sound.{IsSound}
use Rattle.model_rosters.proofs.tree_laws.Rules.{rule_at-within, sound-rule, sound-symbol}
use Rattle.tree_span_cells.specs.declared.slot.Layout.{Layout}
use Rattle.tree_span_cells.specs.declared.slot.Slot.{Slot}
use Rattle.tree_span_cells.specs.declared.slot.Slot.TheVariants.{OfName, OfSuffix}
use Rattle.tree_span_cells.specs.Cells.{IsLayoutOf}
use Rattle.tree_span_cells.specs.Chains.{AreChained}
use Rattle.tree_span_cells.specs.Building.{SuffixSlots, AreNamed, IsSlotOf}
use Rattle.tree_span_cells.specs.Lengths.{AreLengths}

-- each slot stands for a name or for a suffix that wants one
pub slots-stand : (g : Grammar) (base slots : List Slot) (starts names : List ℕ) → SuffixSlots g base starts (length g.rules) → AreNamed g base slots names
    → (s : ℕ) (w : Slot) → slice_get slots s ≡ Some w → IsSlotOf g w
slots-stand g base slots starts names a b s (OfName x) e = omega (arith, (b.placed.only s x e).0, b.count)
slots-stand g base slots starts names a b s (OfSuffix x) e = a.only s (OfSuffix x) (b.placed.suffixes s x e)

-- the parts of a layout make one of the grammar
pub layout-made : (g : Grammar) (sound : IsSound g) (lay : Layout) (base : List Slot) → lay.spans ≡ g.periods
    → SuffixSlots g base lay.suffixes.items (length g.rules) → AreNamed g base lay.slots.items lay.names.items → AreChained g lay.chains
    → AreLengths g lay.slots.items lay.lengths.items (length lay.slots.items) → IsLayoutOf g lay
layout-made g sound lay base periods a b chains lengths = record {
  periods = periods;
  few = few;
  all_names = b.count;
  all_rules = a.count;
  names = λ x lt. b.placed.there x (omega (arith, lt, b.count)) tt;
  named = λ s x e. let k = b.placed.only s x e in (omega (arith, k.0, b.count), k.2);
  suffixes = λ r k rule at one two.
      b.placed.kept _ _ (a.there r k rule at (rule_at-within g r rule at).1 one two);
  parted = λ s x e. a.only s (OfSuffix x) (b.placed.suffixes s x e);
  order = λ r y rule at right. order r y rule at right;
  chains = chains;
  lengths = lengths;
}
  where
    few : length lay.slots.items < 65536
    few =
        let n : length g.names ≤ 33 = sound.names.few in
        let p = mul-le-mul_right (length g.names) n in
        omega (arith, b.placed.few, a.few, sound.few_rules, p, n)

    order : (r y : ℕ) (rule : Rule) → rule_at g r ≡ Some rule → rule.right ≡ Name y ∷ [] → slice_index lay.names.items y < slice_index lay.names.items rule.left
    order r y rule at right =
        let left = (sound-rule g sound r rule at).left in
        let to : y < length g.names = sound-symbol g sound r 0 rule (Name y) [] at right in
        b.placed.order rule.left y (omega (arith, left, b.count)) (omega (arith, to, b.count)) tt tt (b.ranked.rises r rule y at right)
