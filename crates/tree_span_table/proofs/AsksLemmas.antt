-- What each call of the walk asks follows from what its caller was asked.
use Rattle.std.proofs.Common.{◌≡◌, ℕ, zero, suc, ℤ, ◌<◌, ◌≤◌, ◌+◌, ◌-◌, List, [], ◌∷◌, ◌++◌, Option, Some, arith, refl, subst, sym, ap, ◌∙◌, length, drop, get_or, add-one}
use Rattle.std.specs.Prelude.{OnSome}
use Rattle.std.proofs.Math.Seq.{drop-cons}
use Rattle.std.proofs.lemmas.Option.{same_Some}
use Rattle.model_rosters.specs.declared.grammar.Grammar.{Grammar}
use Rattle.model_rosters.specs.declared.grammar.Rule.{Rule}
use Rattle.model_rosters.specs.declared.grammar.Step.{Step}
use Rattle.model_rosters.specs.declared.grammar.Sym.{Sym}
use Rattle.model_rosters.specs.declared.grammar.Sym.TheVariants.{Code, Name}
use Rattle.model_rosters.specs.Grammar.{rule_at}
use Rattle.model_rosters.specs.Trees.{On, IsDayTree, steps}
use Rattle.model_rosters.specs.Room.{most_uses}
use Rattle.model_rosters.specs.Sums.{PriceView, SymbolLeast, PartsLeast, tree_sum}
use Rattle.model_rosters.specs.Sound.{Exists, IsSound}
use Rattle.model_rosters.specs.Room.{RoomView}
use Rattle.model_rosters.proofs.tree_laws.Rules.{rule_at-within, sound-rule, sound-symbol}
use Rattle.model_rosters.proofs.tree_laws.Symbols.{here, here_last}
use Rattle.tree_span_cells.specs.declared.slot.Layout.{Layout}
use Rattle.tree_span_cells.specs.Cells.{Held, IsLayoutOf, name_slot}
use Rattle.tree_span_cells.specs.Choices.{ChosenPart, ChosenRule}
use Rattle.tree_span_table.specs.Walks.{HasParts, HasRoom, AsksTree, AsksParts, WritesTree, WritesParts, tree_measure, parts_measure}
use Rattle.model_rosters.proofs.tree_laws.Bounds.{few-steps}
use Rattle.model_rosters.proofs.tree_laws.Size.{length-steps}
use Rattle.model_rosters.specs.tree_laws.LeastTrees.{HasDaySum, HoldsLeastTree}
use Rattle.model_rosters.proofs.tree_laws.LeastValues.{least_there, at_sum}
use Rattle.tree_span_table.specs.Tables.{TableView, IsMadeFor, IsFilled}
use Rattle.tree_span_cells.proofs.CellsLemmas.{filled-right}
use Rattle.tree_span_table.proofs.TablesLemmas.{day-least}
use Rattle.tree_span_cells.proofs.PointsLemmas.{symbol-value}
use Rattle.tree_span_cells.proofs.Slots.{name_slot-within}
use Rattle.tree_span_table.proofs.WalksLemmas.{one_tree, one_parts, last-has, last-writes, first-has, others-has, first-room, rest-room, split-writes, rule-has, rule-room, rule-writes}

module _ (g : Grammar) (p : PriceView) (lay : Layout) (h : Held) (rule : Rule) (r k i l : ℕ) (room : RoomView) (asks : AsksParts g p lay h rule r k i l room) (d s : Sym) (is : get_or rule.right k d ≡ s) where
  -- the symbol exists
  pub symbol-exists : Exists (length g.codes) (length g.names) s
  symbol-exists = sound-symbol g asks.sound r k rule s (drop (suc k) rule.right) asks.at (here rule.right k d s asks.within is)

  module _ (one : k + 1 ≡ length rule.right) where
    only : drop k rule.right ≡ s ∷ []
    only = here_last rule.right k d s one is

    -- a one-symbol rule leads to an earlier slot
    pub last-earlier : (y : ℕ) → k ≡ 0 → s ≡ Name y → name_slot lay y < name_slot lay rule.left
    last-earlier y zero_k is_name =
        let right : rule.right ≡ Name y ∷ [] = ap (λ (q : ℕ). drop q rule.right) (sym zero_k) ∙ only ∙ ap (λ q. q ∷ []) is_name in
        asks.ready.layout.order r y rule asks.at right

    -- the last symbol's tree
    pub asks-last : AsksTree g p lay h s i l room
    asks-last =
        let v = symbol-value g p i l lay asks.ready.layout h (filled-right g p lay asks.ready.layout h asks.filled i l asks.day) s symbol-exists in
        record {
          sound = asks.sound;
          ready = asks.ready;
          filled = asks.filled;
          day = asks.day;
          exists = symbol-exists;
          sum = last-has g p r k s i l v.0 v.1 (subst (λ (q : List Sym). HasParts g p r k q i l) only asks.sum);
          space = subst (λ (q : List Sym). HasRoom (On g q i l) room) only asks.space;
        }

    -- is the last parts
    pub writes-last : (new : RoomView) → WritesTree g p s i l room new → WritesParts g p r k (drop k rule.right) i l room new
    writes-last new w = subst (λ (q : List Sym). WritesParts g p r k q i l room new) (sym only) (last-writes g p r k s i l room new w)

  module _ (two : k + 2 ≤ length rule.right) (part : ℕ) (v : Option ℤ) (least : PartsLeast g p r k (drop k rule.right) i l v) (choice : OnSome v (ChosenPart g p r k s rule.right i l part v)) where
    there : v ≡ Some asks.sum.0
    there = one_parts g p r k (drop k rule.right) i l v (Some asks.sum.0) least asks.sum.1

    chosen : ChosenPart g p r k s rule.right i l part v
    chosen = at_sum v asks.sum.0 (ChosenPart g p r k s rule.right i l part v) there choice

    x : Sym
    x = get_or rule.right (suc k) d

    next : drop (suc k) rule.right ≡ get_or rule.right (suc k) d ∷ drop (suc (suc k)) rule.right
    next = drop-cons rule.right (suc k) d (omega arith)

    next_one : drop (k + 1) rule.right ≡ get_or rule.right (suc k) d ∷ drop (suc (suc k)) rule.right
    next_one = rw add-one next

    both : drop k rule.right ≡ s ∷ get_or rule.right (suc k) d ∷ drop (suc (suc k)) rule.right
    both = here rule.right k d s (omega arith) is ∙ ap (λ q. s ∷ q) next

    fits : part + (l - part) ≡ l
    fits = omega (arith, chosen.high)

    space : HasRoom (On g (s ∷ get_or rule.right (suc k) d ∷ drop (suc (suc k)) rule.right) i l) room
    space = subst (λ (q : List Sym). HasRoom (On g q i l) room) both asks.space

    rest_has : HasParts g p r (k + 1) (drop (k + 1) rule.right) (i + part) (l - part)
    rest_has = others-has g p r k s (get_or rule.right (suc k) d) (drop (suc (suc k)) rule.right) rule.right i l part asks.sum.0 v chosen there next_one

    -- the first part is some period long
    pub part-low : 1 ≤ part
    part-low = chosen.low

    -- and shorter than the span
    pub part-high : part < l
    part-high = chosen.high

    -- the first symbol's tree
    pub asks-first : AsksTree g p lay h s i part room
    asks-first = record {
      sound = asks.sound;
      ready = asks.ready;
      filled = asks.filled;
      day = record { begins = asks.day.begins; some = chosen.low; within = omega (arith, chosen.high, asks.day.within) };
      exists = symbol-exists;
      sum = first-has g p r k s (get_or rule.right (suc k) d) (drop (suc (suc k)) rule.right) rule.right i l part asks.sum.0 v chosen there next_one;
      space = first-room g p r (k + 1) s (get_or rule.right (suc k) d) (drop (suc (suc k)) rule.right) i l part (l - part) room fits space
          (subst (λ (q : List Sym). HasParts g p r (k + 1) q (i + part) (l - part)) next_one rest_has);
    }

    -- the others, once it is written
    pub asks-rest : (mid : RoomView) → WritesTree g p s i part room mid → AsksParts g p lay h rule r (k + 1) (i + part) (l - part) mid
    asks-rest mid w = record {
      sound = asks.sound;
      ready = asks.ready;
      filled = asks.filled;
      day = record { begins = omega (arith, asks.day.begins); some = omega (arith, chosen.high); within = omega (arith, chosen.high, asks.day.within) };
      at = asks.at;
      within = omega arith;
      sum = rest_has;
      space = subst (λ (q : List Sym). HasRoom (On g q (i + part) (l - part)) mid) (sym next_one)
          (rest-room g p r k s (get_or rule.right (suc k) d) (drop (suc (suc k)) rule.right) i l part (l - part) room mid fits space w);
    }

    -- are the parts
    pub writes-split : (mid new : RoomView) → WritesTree g p s i part room mid → WritesParts g p r (k + 1) (drop (k + 1) rule.right) (i + part) (l - part) mid new
        → WritesParts g p r k (drop k rule.right) i l room new
    writes-split mid new w o =
        let tail : PartsLeast g p r (suc k) (get_or rule.right (suc k) d ∷ drop (suc (suc k)) rule.right) (i + part) (l - part) chosen.tail =
        subst (λ (q : List Sym). PartsLeast g p r (suc k) q (i + part) (l - part) chosen.tail) next (rw add-one at chosen.rest) in
        let rest : WritesParts g p r (suc k) (get_or rule.right (suc k) d ∷ drop (suc (suc k)) rule.right) (i + part) (l - part) mid new =
        subst (λ (q : List Sym). WritesParts g p r (suc k) q (i + part) (l - part) mid new) next (rw add-one at o) in
        subst (λ (q : List Sym). WritesParts g p r k q i l room new) (sym both)
        (split-writes g p r k s (get_or rule.right (suc k) d) (drop (suc (suc k)) rule.right) i l part (l - part) room mid new chosen.head chosen.tail v fits
        chosen.first tail chosen.sum (subst (λ (q : List Sym). PartsLeast g p r k q i l v) both least) w rest)

module _ (g : Grammar) (p : PriceView) (lay : Layout) (h : Held) (y i l : ℕ) (room : RoomView) (asks : AsksTree g p lay h (Name y) i l room)
    (number : ℕ) (v : Option ℤ) (least : SymbolLeast g p (Name y) i l v) (choice : OnSome v (ChosenRule g p y i l number v)) where
  value : v ≡ Some asks.sum.0
  value = one_tree g p (Name y) i l v (Some asks.sum.0) least asks.sum.1

  by_rule : ChosenRule g p y i l number v
  by_rule = at_sum v asks.sum.0 (ChosenRule g p y i l number v) value choice

  -- the chosen number is that of a rule
  pub number-within : (1 ≤ number) × (number ≤ length g.rules)
  number-within = rule_at-within g number by_rule.rule by_rule.at

  module _ (rule : Rule) (at : rule_at g number ≡ Some rule) where
    same : by_rule.rule ≡ rule
    same = same_Some by_rule.rule rule (sym by_rule.at ∙ at)

    -- the rule is one of the name
    pub rule-left : rule.left ≡ y
    rule-left = ap (λ (q : Rule). q.left) (sym same) ∙ by_rule.left

    -- the parts of the chosen rule
    pub asks-rule : (mid : RoomView) → mid ≡ record room { steps = room.steps ++ record { rule = number; start = i; len = l } ∷ [] } → AsksParts g p lay h rule number 0 i l mid
    asks-rule mid now = record {
      sound = asks.sound;
      ready = asks.ready;
      filled = asks.filled;
      day = asks.day;
      at = at;
      within = (sound-rule g asks.sound number rule at).some;
      sum = subst (λ (q : Rule). HasParts g p number 0 q.right i l) same (rule-has g p y i l number asks.sum.0 v by_rule value);
      space = subst (λ (q : Rule). HasRoom (On g q.right i l) mid) same (rule-room g p y i l number asks.sum.0 v by_rule value (record { rule = number; start = i; len = l }) room mid asks.day.some asks.space now);
    }

    -- make the name's tree
    pub writes-rule : (mid new : RoomView) → mid ≡ record room { steps = room.steps ++ record { rule = number; start = i; len = l } ∷ [] } → WritesParts g p number 0 rule.right i l mid new
        → WritesTree g p (Name y) i l room new
    writes-rule mid new now w =
        rule-writes g p y i l number asks.sum.0 v by_rule value room mid new asks.day.some least now (subst (λ (q : Rule). WritesParts g p number 0 q.right i l mid new) (sym same) w)

-- a slot is below 65,536
slot-small : (g : Grammar) (lay : Layout) → IsLayoutOf g lay → (y : ℕ) → y < length g.names → name_slot lay y < 65536
slot-small g lay fits y lt = omega (arith, name_slot-within g lay fits y lt, fits.few)

module _ (g : Grammar) (lay : Layout) (fits : IsLayoutOf g lay) where
  -- to the last symbol
  pub falls-last : (s : Sym) (left k l : ℕ) → Exists (length g.codes) (length g.names) s → ((y : ℕ) → k ≡ 0 → s ≡ Name y → name_slot lay y < name_slot lay left)
      → tree_measure lay s l < parts_measure lay left k l
  falls-last (Code c) left zero l ex unit = omega arith
  falls-last (Code c) left (suc k) l ex unit = omega arith
  falls-last (Name y) left zero l ex unit = omega (arith, unit y refl refl)
  falls-last (Name y) left (suc k) l ex unit = omega (arith, slot-small g lay fits y ex)

  -- to the first of several symbols
  pub falls-first : (s : Sym) (left k part l : ℕ) → Exists (length g.codes) (length g.names) s → part < l → tree_measure lay s part < parts_measure lay left k l
  falls-first (Code c) left zero part l ex less = omega arith
  falls-first (Code c) left (suc k) part l ex less = omega arith
  falls-first (Name y) left zero part l ex less = omega (arith, slot-small g lay fits y ex)
  falls-first (Name y) left (suc k) part l ex less = omega (arith, slot-small g lay fits y ex)

  -- to the other symbols
  pub falls-rest : (left k part l : ℕ) → 1 ≤ part → part < l → parts_measure lay left (k + 1) (l - part) < parts_measure lay left k l
  falls-rest left zero part l some less = rw add-one (omega arith)
  falls-rest left (suc k) part l some less = rw add-one (omega arith)

  -- to the parts of a rule
  pub falls-rule : (y left l : ℕ) → left ≡ y → parts_measure lay left 0 l < tree_measure lay (Name y) l
  falls-rule y left l e = let k = ap (name_slot lay) e in omega (arith, k)

-- what is asked to write a tree of the day into an empty room for the grammar's trees
pub asks-day : (g : Grammar) (p : PriceView) (t : TableView) (room : RoomView) → IsSound g → IsMadeFor g t → IsFilled g p t → HasDaySum g p → room.most ≡ most_uses g → room.steps ≡ []
    → AsksTree g p t.layout t.cells (Name g.start) 1 g.periods room
asks-day g p t room sound made filled has most empty =
    let least = day-least g p t sound made filled g.start sound.start in
    let there = least_there (IsDayTree g) (tree_sum p 1) _ has.0 least has.1 has.2 in
    record {
      sound = sound;
      ready = made.ready;
      filled = filled;
      day = record { begins = omega arith; some = sound.some_period; within = omega arith };
      exists = sound.start;
      sum = (there.0, subst (λ (v : Option ℤ). SymbolLeast g p (Name g.start) 1 g.periods v) there.1 least);
      space = λ u h. let few = few-steps g sound u g.start 1 g.periods sound.some_period h in
          let none : length room.steps ≡ 0 = ap length empty in
          omega (arith, few, none, most, length-steps u 1);
    }

-- the tree that was written is one of the day of least sum
pub holds-day : (g : Grammar) (p : PriceView) (old new : RoomView) → old.steps ≡ [] → WritesTree g p (Name g.start) 1 g.periods old new → HoldsLeastTree g p new
holds-day g p old new empty w = record {
  tree = w.0;
  of_day = w.1;
  least = w.2;
  held = ap (λ (q : RoomView). q.steps) w.3 ∙ ap (λ (q : List Step). q ++ steps 1 w.0) empty;
}
