use Rattle.std.proofs.Common.{arith, ◌≡◌, ◌∙◌, ap, sym, subst, length, ◌*◌, List, ℤ}
use Rattle.std.specs.Vec.{with_items}
use Rattle.std.proofs.lemmas.List.{with_items_is}
use Rattle.model_rosters.specs.Filled.{AreLetterPrices, AreRulePrices}
use Rattle.model_rosters.specs.Reduced.{cell_prices, cuts_paid}
use Rattle.model_rosters.proofs.CostBounds.{cells-le}
use Rattle.model_rosters.proofs.RoomAgrees.{agrees, places}
use Rattle.model_rosters.proofs.price_room.PriceRoom.set_wide.Goals as goal

pub set_letters-requires-clause-few : goal.set_letters-requires-clause-few
set_letters-requires-clause-few c = let few = cells-le c.args.instance.now c.requires.sound in omega (arith, few, ap length c.as_slice-2.ensures)

letters : (c : goal.After-as_slice-2) → length c.deref_mut-2.result.now ≡ length c.args.instance.now.grammar.codes * c.args.self.now.periods
letters c = ap length c.deref_mut-2.ensures.value ∙ c.args.self.now.whole ∙ ap (λ n. n * c.args.self.now.periods) c.requires.room.codes

pub set_letters-requires-clause-places : goal.set_letters-requires-clause-places
set_letters-requires-clause-places c = rw c.as_slice-2.ensures (places c.args.instance.now.grammar c.args.instance.now.cells c.args.self.now.periods _ c.requires.sound.cells c.requires.room.periods (letters c))

pub returns-clause-value : goal.returns-clause-value
returns-clause-value c =
    let g = c.args.instance.now.grammar in
    let p = c.args.self.now.periods in
    let ps = cell_prices c.args.instance.now.cells c.args.cell.now in
    let letters : List ℤ = (with_items c.args.self.now.letters c.set_letters.new.numbers).items in
    let rules : List ℤ = (with_items c.args.self.now.rules c.set_rules.new.numbers).items in
    let letters-are : letters ≡ c.set_letters.new.numbers =
    with_items_is c.args.self.now.letters c.set_letters.new.numbers (c.set_letters.auto.numbers ∙ c.deref_mut-2.ensures.len) in
    let rules-are : rules ≡ c.set_rules.new.numbers =
    with_items_is c.args.self.now.rules c.set_rules.new.numbers (c.set_rules.auto.numbers ∙ c.deref_mut.ensures.len) in
    let P : List ℤ → Type 0 = λ (xs : List ℤ). AreLetterPrices p ps xs in
    let Q : List ℤ → Type 0 = λ (xs : List ℤ). AreRulePrices c.args.d g.rules xs in
    agrees g c.args.d p ps (cuts_paid c.args.cuts.now c.args.paid.now) letters rules c.set_paid.new.entries.items c.requires.room.periods
    (ap length letters-are ∙ c.set_letters.auto.numbers ∙ ap length c.deref_mut-2.ensures.value ∙ c.args.self.now.whole ∙ ap (λ n. n * p) c.requires.room.codes)
    (subst P (sym letters-are) (rw c.as_slice-2.ensures at c.set_letters.ensures.value))
    (subst Q (sym rules-are) (rw c.as_slice.ensures at c.set_rules.ensures.value))
    c.set_paid.ensures.value
