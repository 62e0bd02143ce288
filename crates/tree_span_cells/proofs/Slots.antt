-- The slots of a layout, and the cells of a place.
use Rattle.std.proofs.Common.{◌≡◌, ℕ, ◌<◌, ◌≤◌, ◌+◌, List, Some, refl, sym, ap, ◌∙◌, length, get_or}
use Rattle.std.specs.Prelude.{slice_get}
use Rattle.std.proofs.lemmas.Option.{same_Some, slice_get_within, slice_get_read}
use Rattle.model_rosters.specs.declared.grammar.Grammar.{Grammar}
use Rattle.model_rosters.specs.declared.grammar.Rule.{Rule}
use Rattle.model_rosters.specs.Grammar.{rule_at}
use Rattle.tree_span_cells.specs.declared.slot.Layout.{Layout}
use Rattle.tree_span_cells.specs.declared.slot.Slot.{Slot}
use Rattle.tree_span_cells.specs.declared.slot.Slot.TheVariants.{OfName}
use Rattle.tree_span_cells.specs.Cells.{IsLayoutOf, name_slot, suffix_slot}

module _ (g : Grammar) (lay : Layout) (fits : IsLayoutOf g lay) where
  -- the slot of a name is there
  pub name_slot-within : (x : ℕ) → x < length g.names → name_slot lay x < length lay.slots.items
  name_slot-within x lt = slice_get_within lay.slots.items (name_slot lay x) (OfName x) (fits.names x lt)

  -- so is that of a suffix
  pub suffix_slot-within : (r k : ℕ) (rule : Rule) → rule_at g r ≡ Some rule → 1 ≤ k → k + 2 ≤ length rule.right → suffix_slot lay r k < length lay.slots.items
  suffix_slot-within r k rule at one two = slice_get_within lay.slots.items (suffix_slot lay r k) _ (fits.suffixes r k rule at one two)

-- what a slot that was read stands for
pub slot_here : (slots : List Slot) (s : ℕ) (read what : Slot) → s < length slots → read ≡ get_or slots s read → read ≡ what → slice_get slots s ≡ Some what
slot_here slots s read what lt e is = slice_get_read slots (length slots) s read refl lt e ∙ ap Some is

-- a slot stands for one thing
pub same_slot : (slots : List Slot) (s : ℕ) (a b : Slot) → slice_get slots s ≡ Some a → slice_get slots s ≡ Some b → b ≡ a
same_slot slots s a b h k = same_Some b a (sym k ∙ h)
