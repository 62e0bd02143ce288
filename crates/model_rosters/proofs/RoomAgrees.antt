-- The numbers that a room holds agree with the prices that they stand for.
use Rattle.std.proofs.Common.{◌≡◌, ℕ, ℤ, zero, suc, ◌+◌, ◌*◌, ◌<◌, ◌≤◌, List, Some, length, refl, arith, All, pos}
use Rattle.std.specs.Prelude.{◌*ℤ◌}
use Rattle.std.proofs.lemmas.Nat.{mul-le}
use Rattle.std.proofs.lemmas.List.Elements.{All-weaker}
use Rattle.std.proofs.lemmas.Option.{none-some, slice_get_within}
use Rattle.model_rosters.specs.declared.grammar.ArcKey.{ArcKey}
use Rattle.model_rosters.specs.declared.grammar.Grammar.{Grammar}
use Rattle.model_rosters.specs.declared.grammar.Rule.{Rule}
use Rattle.model_rosters.specs.declared.instance.Cell.{Cell}
use Rattle.model_rosters.specs.declared.arc_prices.ArcPrice.{ArcPrice}
use Rattle.model_rosters.specs.Agreement.{Agree}
use Rattle.model_rosters.specs.Arcs.{rule_cost}
use Rattle.model_rosters.specs.Demands.{AreCells}
use Rattle.model_rosters.specs.Filled.{AreRulePrices, AreLetterPrices, HasPlace}
use Rattle.model_rosters.specs.Grammar.{rule_at}
use Rattle.model_rosters.specs.Limits.{IsDayCell}
use Rattle.model_rosters.specs.Reduced.{CellPrice, CutPrice, arc_price, view_of}
use Rattle.model_rosters.specs.RoomPrices.{letter_place, listed_price, rule_number, numbers_view}
use Rattle.model_rosters.proofs.SoundCells.{cells_of_day}

-- letters of the day have their places
place-within : (codes p c i : ℕ) → c < codes → 1 ≤ i → i ≤ p → letter_place p c i < codes * p
place-within codes p c i l a b = let more = mul-le (c + 1) p codes p (omega arith) (omega arith) in omega (arith, more)

pub places : (g : Grammar) (cells : List Cell) (p letters : ℕ) → AreCells g cells → p ≡ g.periods → letters ≡ length g.codes * p → All (HasPlace p letters) cells
places g cells p letters are e f =
    All-weaker (IsDayCell g) (HasPlace p letters)
    (λ c h. record {
      first = h.first;
      last = omega (arith, h.last);
      within = (let w = place-within (length g.codes) p c.code c.period (slice_get_within g.codes c.code h.work.0 h.work.1) h.first (omega (arith, h.last)) in omega (arith, w, f));
    })
    cells (cells_of_day g cells are)

rule-agrees : (g : Grammar) (d : ℕ) (rules : List ℤ) → AreRulePrices d g.rules rules → (r : ℕ) (rule : Rule) → rule_at g r ≡ Some rule → rule_number rules r ≡ pos d *ℤ pos (rule_cost g r)
rule-agrees g d rules h zero rule e = absurd (none-some rule e)
rule-agrees g d rules h (suc r) rule e = rw (h r rule e, rule_cost, e) refl

pub agrees : (g : Grammar) (d p : ℕ) (ps : List CellPrice) (ks : List CutPrice) (letters rules : List ℤ) (arcs : List ArcPrice)
    → p ≡ g.periods → length letters ≡ length g.codes * p → AreLetterPrices p ps letters → AreRulePrices d g.rules rules
    → ((a : ArcKey) → listed_price arcs a ≡ arc_price ks a) → Agree g (numbers_view p letters rules arcs) (view_of g d ps ks)
agrees g d p ps ks letters rules arcs e f l r a = record {
  letters = λ c i lt first last.
      l c i first (omega arith) (let w = place-within (length g.codes) p c i lt first (omega arith) in omega (arith, w, f));
  arcs = a;
  rules = rule-agrees g d rules r;
}
