use Rattle.std.proofs.Common.{arith, ℤ, ◌≡◌, ◌<◌, ◌≤◌, ◌+◌, ◌-ℤ◌, Option, Some, length, drop, get_or, sym, ap, subst, ◌∙◌}
use Rattle.std.proofs.lemmas.Option.{same_Some, slice_get-get_or}
use Rattle.model_rosters.specs.declared.grammar.Rule.{Rule}
use Rattle.model_rosters.specs.declared.grammar.Sym.TheVariants.{Name}
use Rattle.model_rosters.specs.Sums.{SymbolLeast, PartsLeast}
use Rattle.model_rosters.proofs.tree_laws.Bounds.{Within-more}
use Rattle.model_rosters.proofs.tree_laws.Rules.{rule_at-within}
use Rattle.tree_span_cells.specs.declared.slot.Slot.TheVariants.{OfName, OfSuffix}
use Rattle.tree_span_cells.specs.Cells.{name_slot, place}
use Rattle.tree_span_cells.proofs.Slots.{slot_here}
use Rattle.tree_span_table.specs.next_codes.Totals.{AreLowered}
use Rattle.tree_span_table.proofs.next_codes.LoweredTotals.{lowered-none, lowered-more}
use Rattle.tree_span_table.proofs.next_codes.SlotTotals.{outside-of, total-read, total-small, inside-small, less-small, slot-empty, small-less, less-fits, less-more}
use Rattle.tree_span_table.proofs.next_codes.PushesLemmas.{from-slot, slot-none, slot-name, slot-suffix}
use Rattle.tree_span_table.proofs.next_codes.slots.push_slot.Goals as goal

pub returns-in_default-clause-done : goal.returns-in_default-clause-done
returns-in_default-clause-done g c =
    let gr = c.args.grammar.now in
    let p = g.P.LetterPrice.view c.args.prices.now in
    let lay = c.args.layout.now in
    let fits = c.requires.pushing.ready.layout in
    let sound = c.requires.pushing.sound in
    let within = g.met.P.LetterPrice.all_within c.args.prices.now in
    let slot = c.args.slot in
    let i = c.args.span.start in
    let l = c.args.span.len in
    let what = get_or c.args.layout.now.slots.items c.args.slot (OfName 0) in
    let here = slice_get-get_or c.args.layout.now.slots.items c.args.slot (OfName 0) c.requires.slot in
    let room : c.place_of-place.result < length c.args.totals.now.cells.items = omega (arith, c.place_of-place.ensures.within, c.requires.pushing.counted.cells) in
    let total = total-read gr p sound within lay fits slot i l what here c.requires.day c.args.totals.now c.place_of-place.result c.index.result.now c.sum.result c.place_of-place.ensures.place room c.index.ensures c.sum.ensures in
    from-slot gr p lay fits c.args.totals.now c.args.totals.now slot i l what here c.requires.day (lowered-none (place c.args.layout.now c.args.slot c.args.span.start c.args.span.len) c.args.totals.now)
    (slot-none gr p lay fits c.args.totals.now what slot i l (total ∙ c.in_default.is)) c.requires.later

pub returns-in_default-sum_at-clause-done : goal.returns-in_default-sum_at-clause-done
returns-in_default-sum_at-clause-done g c =
    let gr = c.args.grammar.now in
    let p = g.P.LetterPrice.view c.args.prices.now in
    let lay = c.args.layout.now in
    let fits = c.requires.pushing.ready.layout in
    let sound = c.requires.pushing.sound in
    let within = g.met.P.LetterPrice.all_within c.args.prices.now in
    let slot = c.args.slot in
    let i = c.args.span.start in
    let l = c.args.span.len in
    let what = get_or c.args.layout.now.slots.items c.args.slot (OfName 0) in
    let here = slice_get-get_or c.args.layout.now.slots.items c.args.slot (OfName 0) c.requires.slot in
    from-slot gr p lay fits c.args.totals.now c.args.totals.now slot i l what here c.requires.day (lowered-none (place c.args.layout.now c.args.slot c.args.span.start c.args.span.len) c.args.totals.now)
    (slot-empty gr p sound within lay fits slot i l what here c.requires.day c.args.inside.now c.args.totals.now c.requires.pushing.filled (sym c.sum_at.ensures ∙ c.in_default-sum_at.is)) c.requires.later

pub overflow_sub-outside : goal.overflow_sub-outside
overflow_sub-outside g c =
    let gr = c.args.grammar.now in
    let p = g.P.LetterPrice.view c.args.prices.now in
    let lay = c.args.layout.now in
    let fits = c.requires.pushing.ready.layout in
    let sound = c.requires.pushing.sound in
    let within = g.met.P.LetterPrice.all_within c.args.prices.now in
    let slot = c.args.slot in
    let i = c.args.span.start in
    let l = c.args.span.len in
    let what = get_or c.args.layout.now.slots.items c.args.slot (OfName 0) in
    let here = slice_get-get_or c.args.layout.now.slots.items c.args.slot (OfName 0) c.requires.slot in
    let room : c.place_of-place.result < length c.args.totals.now.cells.items = omega (arith, c.place_of-place.ensures.within, c.requires.pushing.counted.cells) in
    let total = total-read gr p sound within lay fits slot i l what here c.requires.day c.args.totals.now c.place_of-place.result c.index.result.now c.sum.result c.place_of-place.ensures.place room c.index.ensures c.sum.ensures in
    let most : c.args.span.len ≤ 96 = omega (arith, c.requires.day.within, c.requires.day.begins, c.requires.pushing.sound.few_periods) in
    let big = total-small gr p sound within lay fits slot i l what here c.requires.day c.args.totals.now c.in-Some.total c.requires.pushing.through (total ∙ c.in-Some.is) in
    let held = sym c.sum_at.ensures ∙ c.in-Some-sum_at.is in
    let small = inside-small gr p sound within lay fits slot i l what here c.requires.day c.args.inside.now c.in-Some-sum_at.sum most c.requires.pushing.filled held in
    less-fits c.in-Some.total c.in-Some-sum_at.sum big small

pub push_name-requires-clause-name : goal.push_name-requires-clause-name
push_name-requires-clause-name g c =
    let gr = c.args.grammar.now in
    let p = g.P.LetterPrice.view c.args.prices.now in
    let lay = c.args.layout.now in
    let fits = c.requires.pushing.ready.layout in
    let sound = c.requires.pushing.sound in
    let within = g.met.P.LetterPrice.all_within c.args.prices.now in
    let slot = c.args.slot in
    let i = c.args.span.start in
    let l = c.args.span.len in
    let what = OfName c.in-OfName.name in
    let here = slot_here c.args.layout.now.slots.items c.args.slot c.index-2.result.now (OfName c.in-OfName.name) c.requires.slot c.index-2.ensures c.in-OfName.is in
    (fits.named slot c.in-OfName.name here).0

pub push_name-requires-clause-around : goal.push_name-requires-clause-around
push_name-requires-clause-around g c =
    let gr = c.args.grammar.now in
    let p = g.P.LetterPrice.view c.args.prices.now in
    let lay = c.args.layout.now in
    let fits = c.requires.pushing.ready.layout in
    let sound = c.requires.pushing.sound in
    let within = g.met.P.LetterPrice.all_within c.args.prices.now in
    let slot = c.args.slot in
    let i = c.args.span.start in
    let l = c.args.span.len in
    let what = OfName c.in-OfName.name in
    let here = slot_here c.args.layout.now.slots.items c.args.slot c.index-2.result.now (OfName c.in-OfName.name) c.requires.slot c.index-2.ensures c.in-OfName.is in
    let room : c.place_of-place.result < length c.args.totals.now.cells.items = omega (arith, c.place_of-place.ensures.within, c.requires.pushing.counted.cells) in
    let total = total-read gr p sound within lay fits slot i l what here c.requires.day c.args.totals.now c.place_of-place.result c.index.result.now c.sum.result c.place_of-place.ensures.place room c.index.ensures c.sum.ensures in
    let most : c.args.span.len ≤ 96 = omega (arith, c.requires.day.within, c.requires.day.begins, c.requires.pushing.sound.few_periods) in
    let big = total-small gr p sound within lay fits slot i l what here c.requires.day c.args.totals.now c.in-Some.total c.requires.pushing.through (total ∙ c.in-Some.is) in
    let held = sym c.sum_at.ensures ∙ c.in-Some-sum_at.is in
    let small = inside-small gr p sound within lay fits slot i l what here c.requires.day c.args.inside.now c.in-Some-sum_at.sum most c.requires.pushing.filled held in
    let least = subst (λ (v : Option ℤ). SymbolLeast c.args.grammar.now (g.P.LetterPrice.view c.args.prices.now) (Name c.in-OfName.name) c.args.span.start c.args.span.len v) held (c.requires.pushing.filled slot i l what here c.requires.day).least in
    let around = outside-of gr p _ _ i c.in-Some.total c.in-Some-sum_at.sum (c.requires.pushing.through.cells slot i l what c.in-Some.total here c.requires.day (total ∙ c.in-Some.is)) least in
    rw (small-less c.in-Some.total c.in-Some-sum_at.sum big small) around

pub push_name-requires-clause-outside : goal.push_name-requires-clause-outside
push_name-requires-clause-outside g c =
    let gr = c.args.grammar.now in
    let p = g.P.LetterPrice.view c.args.prices.now in
    let lay = c.args.layout.now in
    let fits = c.requires.pushing.ready.layout in
    let sound = c.requires.pushing.sound in
    let within = g.met.P.LetterPrice.all_within c.args.prices.now in
    let slot = c.args.slot in
    let i = c.args.span.start in
    let l = c.args.span.len in
    let what = OfName c.in-OfName.name in
    let here = slot_here c.args.layout.now.slots.items c.args.slot c.index-2.result.now (OfName c.in-OfName.name) c.requires.slot c.index-2.ensures c.in-OfName.is in
    let room : c.place_of-place.result < length c.args.totals.now.cells.items = omega (arith, c.place_of-place.ensures.within, c.requires.pushing.counted.cells) in
    let total = total-read gr p sound within lay fits slot i l what here c.requires.day c.args.totals.now c.place_of-place.result c.index.result.now c.sum.result c.place_of-place.ensures.place room c.index.ensures c.sum.ensures in
    let most : c.args.span.len ≤ 96 = omega (arith, c.requires.day.within, c.requires.day.begins, c.requires.pushing.sound.few_periods) in
    let big = total-small gr p sound within lay fits slot i l what here c.requires.day c.args.totals.now c.in-Some.total c.requires.pushing.through (total ∙ c.in-Some.is) in
    let held = sym c.sum_at.ensures ∙ c.in-Some-sum_at.is in
    let small = inside-small gr p sound within lay fits slot i l what here c.requires.day c.args.inside.now c.in-Some-sum_at.sum most c.requires.pushing.filled held in
    rw (small-less c.in-Some.total c.in-Some-sum_at.sum big small) (less-small gr p sound within lay fits c.in-Some.total c.in-Some-sum_at.sum big small)

pub returns-in-OfName-clause-done : goal.returns-in-OfName-clause-done
returns-in-OfName-clause-done g c =
    let gr = c.args.grammar.now in
    let p = g.P.LetterPrice.view c.args.prices.now in
    let lay = c.args.layout.now in
    let fits = c.requires.pushing.ready.layout in
    let sound = c.requires.pushing.sound in
    let within = g.met.P.LetterPrice.all_within c.args.prices.now in
    let slot = c.args.slot in
    let i = c.args.span.start in
    let l = c.args.span.len in
    let what = OfName c.in-OfName.name in
    let here = slot_here c.args.layout.now.slots.items c.args.slot c.index-2.result.now (OfName c.in-OfName.name) c.requires.slot c.index-2.ensures c.in-OfName.is in
    let room : c.place_of-place.result < length c.args.totals.now.cells.items = omega (arith, c.place_of-place.ensures.within, c.requires.pushing.counted.cells) in
    let total = total-read gr p sound within lay fits slot i l what here c.requires.day c.args.totals.now c.place_of-place.result c.index.result.now c.sum.result c.place_of-place.ensures.place room c.index.ensures c.sum.ensures in
    let most : c.args.span.len ≤ 96 = omega (arith, c.requires.day.within, c.requires.day.begins, c.requires.pushing.sound.few_periods) in
    let big = total-small gr p sound within lay fits slot i l what here c.requires.day c.args.totals.now c.in-Some.total c.requires.pushing.through (total ∙ c.in-Some.is) in
    let held = sym c.sum_at.ensures ∙ c.in-Some-sum_at.is in
    let small = inside-small gr p sound within lay fits slot i l what here c.requires.day c.args.inside.now c.in-Some-sum_at.sum most c.requires.pushing.filled held in
    let least = subst (λ (v : Option ℤ). SymbolLeast c.args.grammar.now (g.P.LetterPrice.view c.args.prices.now) (Name c.in-OfName.name) c.args.span.start c.args.span.len v) held (c.requires.pushing.filled slot i l what here c.requires.day).least in
    let around = outside-of gr p _ _ i c.in-Some.total c.in-Some-sum_at.sum (c.requires.pushing.through.cells slot i l what c.in-Some.total here c.requires.day (total ∙ c.in-Some.is)) least in
    let same : c.args.slot ≡ name_slot c.args.layout.now c.in-OfName.name = (fits.named slot c.in-OfName.name here).1 in
    let low : AreLowered (place c.args.layout.now c.args.slot c.args.span.start c.args.span.len) c.args.totals.now c.push_name.new.totals = rw same c.push_name.ensures.lowered in
    let kept = low.kept (place c.args.layout.now c.args.slot c.args.span.start c.args.span.len) (omega arith) in
    let now = kept ∙ total ∙ c.in-Some.is ∙ ap Some (less-more c.in-Some.total c.in-Some-sum_at.sum) in
    let done = rw (small-less c.in-Some.total c.in-Some-sum_at.sum big small) at c.push_name.ensures.done in
    from-slot gr p lay fits c.args.totals.now c.push_name.new.totals slot i l what here c.requires.day low
    (slot-name gr p lay fits c.push_name.new.totals c.in-OfName.name slot i l c.in-Some-sum_at.sum (c.in-Some.total -ℤ c.in-Some-sum_at.sum) now least done) c.requires.later

pub returns-in-OfName-clause-lowered : goal.returns-in-OfName-clause-lowered
returns-in-OfName-clause-lowered g c =
    let gr = c.args.grammar.now in
    let p = g.P.LetterPrice.view c.args.prices.now in
    let lay = c.args.layout.now in
    let fits = c.requires.pushing.ready.layout in
    let sound = c.requires.pushing.sound in
    let within = g.met.P.LetterPrice.all_within c.args.prices.now in
    let slot = c.args.slot in
    let i = c.args.span.start in
    let l = c.args.span.len in
    let what = OfName c.in-OfName.name in
    let here = slot_here c.args.layout.now.slots.items c.args.slot c.index-2.result.now (OfName c.in-OfName.name) c.requires.slot c.index-2.ensures c.in-OfName.is in
    let same : c.args.slot ≡ name_slot c.args.layout.now c.in-OfName.name = (fits.named slot c.in-OfName.name here).1 in
    rw same c.push_name.ensures.lowered

pub rule_of-rule-requires-clause-some : goal.rule_of-rule-requires-clause-some
rule_of-rule-requires-clause-some g c =
    let gr = c.args.grammar.now in
    let p = g.P.LetterPrice.view c.args.prices.now in
    let lay = c.args.layout.now in
    let fits = c.requires.pushing.ready.layout in
    let sound = c.requires.pushing.sound in
    let within = g.met.P.LetterPrice.all_within c.args.prices.now in
    let slot = c.args.slot in
    let i = c.args.span.start in
    let l = c.args.span.len in
    let what = OfSuffix c.in-OfSuffix.suffix in
    let here = slot_here c.args.layout.now.slots.items c.args.slot c.index-2.result.now (OfSuffix c.in-OfSuffix.suffix) c.requires.slot c.index-2.ensures c.in-OfSuffix.is in
    let has = fits.parted slot c.in-OfSuffix.suffix here in
    (rule_at-within gr c.in-OfSuffix.suffix.rule has.rule has.at).0

pub rule_of-rule-requires-clause-within : goal.rule_of-rule-requires-clause-within
rule_of-rule-requires-clause-within g c =
    let gr = c.args.grammar.now in
    let p = g.P.LetterPrice.view c.args.prices.now in
    let lay = c.args.layout.now in
    let fits = c.requires.pushing.ready.layout in
    let sound = c.requires.pushing.sound in
    let within = g.met.P.LetterPrice.all_within c.args.prices.now in
    let slot = c.args.slot in
    let i = c.args.span.start in
    let l = c.args.span.len in
    let what = OfSuffix c.in-OfSuffix.suffix in
    let here = slot_here c.args.layout.now.slots.items c.args.slot c.index-2.result.now (OfSuffix c.in-OfSuffix.suffix) c.requires.slot c.index-2.ensures c.in-OfSuffix.is in
    let has = fits.parted slot c.in-OfSuffix.suffix here in
    (rule_at-within gr c.in-OfSuffix.suffix.rule has.rule has.at).1

pub push_parts-requires-clause-within : goal.push_parts-requires-clause-within
push_parts-requires-clause-within g c =
    let gr = c.args.grammar.now in
    let p = g.P.LetterPrice.view c.args.prices.now in
    let lay = c.args.layout.now in
    let fits = c.requires.pushing.ready.layout in
    let sound = c.requires.pushing.sound in
    let within = g.met.P.LetterPrice.all_within c.args.prices.now in
    let slot = c.args.slot in
    let i = c.args.span.start in
    let l = c.args.span.len in
    let what = OfSuffix c.in-OfSuffix.suffix in
    let here = slot_here c.args.layout.now.slots.items c.args.slot c.index-2.result.now (OfSuffix c.in-OfSuffix.suffix) c.requires.slot c.index-2.ensures c.in-OfSuffix.is in
    let has = fits.parted slot c.in-OfSuffix.suffix here in
    let rule = c.rule_of-rule.result.now in
    let at = c.rule_of-rule.ensures in
    let same : has.rule ≡ c.rule_of-rule.result.now = same_Some has.rule c.rule_of-rule.result.now (sym has.at ∙ c.rule_of-rule.ensures) in
    subst (λ (r : Rule). c.in-OfSuffix.suffix.from + 2 ≤ length r.right) same has.two

pub push_parts-requires-clause-around : goal.push_parts-requires-clause-around
push_parts-requires-clause-around g c =
    let gr = c.args.grammar.now in
    let p = g.P.LetterPrice.view c.args.prices.now in
    let lay = c.args.layout.now in
    let fits = c.requires.pushing.ready.layout in
    let sound = c.requires.pushing.sound in
    let within = g.met.P.LetterPrice.all_within c.args.prices.now in
    let slot = c.args.slot in
    let i = c.args.span.start in
    let l = c.args.span.len in
    let what = OfSuffix c.in-OfSuffix.suffix in
    let here = slot_here c.args.layout.now.slots.items c.args.slot c.index-2.result.now (OfSuffix c.in-OfSuffix.suffix) c.requires.slot c.index-2.ensures c.in-OfSuffix.is in
    let has = fits.parted slot c.in-OfSuffix.suffix here in
    let rule = c.rule_of-rule.result.now in
    let at = c.rule_of-rule.ensures in
    let room : c.place_of-place.result < length c.args.totals.now.cells.items = omega (arith, c.place_of-place.ensures.within, c.requires.pushing.counted.cells) in
    let total = total-read gr p sound within lay fits slot i l what here c.requires.day c.args.totals.now c.place_of-place.result c.index.result.now c.sum.result c.place_of-place.ensures.place room c.index.ensures c.sum.ensures in
    let most : c.args.span.len ≤ 96 = omega (arith, c.requires.day.within, c.requires.day.begins, c.requires.pushing.sound.few_periods) in
    let big = total-small gr p sound within lay fits slot i l what here c.requires.day c.args.totals.now c.in-Some.total c.requires.pushing.through (total ∙ c.in-Some.is) in
    let held = sym c.sum_at.ensures ∙ c.in-Some-sum_at.is in
    let small = inside-small gr p sound within lay fits slot i l what here c.requires.day c.args.inside.now c.in-Some-sum_at.sum most c.requires.pushing.filled held in
    let least = subst (λ (v : Option ℤ). PartsLeast c.args.grammar.now (g.P.LetterPrice.view c.args.prices.now) c.in-OfSuffix.suffix.rule c.in-OfSuffix.suffix.from (drop c.in-OfSuffix.suffix.from c.rule_of-rule.result.now.right) c.args.span.start c.args.span.len v) held ((c.requires.pushing.filled slot i l what here c.requires.day).least rule at) in
    let around = outside-of gr p _ _ i c.in-Some.total c.in-Some-sum_at.sum (c.requires.pushing.through.cells slot i l what c.in-Some.total here c.requires.day (total ∙ c.in-Some.is) rule at) least in
    rw (small-less c.in-Some.total c.in-Some-sum_at.sum big small) around

pub push_parts-requires-clause-outside : goal.push_parts-requires-clause-outside
push_parts-requires-clause-outside g c =
    let gr = c.args.grammar.now in
    let p = g.P.LetterPrice.view c.args.prices.now in
    let lay = c.args.layout.now in
    let fits = c.requires.pushing.ready.layout in
    let sound = c.requires.pushing.sound in
    let within = g.met.P.LetterPrice.all_within c.args.prices.now in
    let slot = c.args.slot in
    let i = c.args.span.start in
    let l = c.args.span.len in
    let what = OfSuffix c.in-OfSuffix.suffix in
    let here = slot_here c.args.layout.now.slots.items c.args.slot c.index-2.result.now (OfSuffix c.in-OfSuffix.suffix) c.requires.slot c.index-2.ensures c.in-OfSuffix.is in
    let has = fits.parted slot c.in-OfSuffix.suffix here in
    let room : c.place_of-place.result < length c.args.totals.now.cells.items = omega (arith, c.place_of-place.ensures.within, c.requires.pushing.counted.cells) in
    let total = total-read gr p sound within lay fits slot i l what here c.requires.day c.args.totals.now c.place_of-place.result c.index.result.now c.sum.result c.place_of-place.ensures.place room c.index.ensures c.sum.ensures in
    let most : c.args.span.len ≤ 96 = omega (arith, c.requires.day.within, c.requires.day.begins, c.requires.pushing.sound.few_periods) in
    let big = total-small gr p sound within lay fits slot i l what here c.requires.day c.args.totals.now c.in-Some.total c.requires.pushing.through (total ∙ c.in-Some.is) in
    let held = sym c.sum_at.ensures ∙ c.in-Some-sum_at.is in
    let small = inside-small gr p sound within lay fits slot i l what here c.requires.day c.args.inside.now c.in-Some-sum_at.sum most c.requires.pushing.filled held in
    let less = less-small gr p sound within lay fits c.in-Some.total c.in-Some-sum_at.sum big small in
    rw (small-less c.in-Some.total c.in-Some-sum_at.sum big small) (Within-more _ _ (c.in-Some.total -ℤ c.in-Some-sum_at.sum) (omega arith) less)

pub returns-in-OfSuffix-clause-done : goal.returns-in-OfSuffix-clause-done
returns-in-OfSuffix-clause-done g c =
    let gr = c.args.grammar.now in
    let p = g.P.LetterPrice.view c.args.prices.now in
    let lay = c.args.layout.now in
    let fits = c.requires.pushing.ready.layout in
    let sound = c.requires.pushing.sound in
    let within = g.met.P.LetterPrice.all_within c.args.prices.now in
    let slot = c.args.slot in
    let i = c.args.span.start in
    let l = c.args.span.len in
    let what = OfSuffix c.in-OfSuffix.suffix in
    let here = slot_here c.args.layout.now.slots.items c.args.slot c.index-2.result.now (OfSuffix c.in-OfSuffix.suffix) c.requires.slot c.index-2.ensures c.in-OfSuffix.is in
    let has = fits.parted slot c.in-OfSuffix.suffix here in
    let rule = c.rule_of-rule.result.now in
    let at = c.rule_of-rule.ensures in
    let room : c.place_of-place.result < length c.args.totals.now.cells.items = omega (arith, c.place_of-place.ensures.within, c.requires.pushing.counted.cells) in
    let total = total-read gr p sound within lay fits slot i l what here c.requires.day c.args.totals.now c.place_of-place.result c.index.result.now c.sum.result c.place_of-place.ensures.place room c.index.ensures c.sum.ensures in
    let most : c.args.span.len ≤ 96 = omega (arith, c.requires.day.within, c.requires.day.begins, c.requires.pushing.sound.few_periods) in
    let big = total-small gr p sound within lay fits slot i l what here c.requires.day c.args.totals.now c.in-Some.total c.requires.pushing.through (total ∙ c.in-Some.is) in
    let held = sym c.sum_at.ensures ∙ c.in-Some-sum_at.is in
    let small = inside-small gr p sound within lay fits slot i l what here c.requires.day c.args.inside.now c.in-Some-sum_at.sum most c.requires.pushing.filled held in
    let least = subst (λ (v : Option ℤ). PartsLeast c.args.grammar.now (g.P.LetterPrice.view c.args.prices.now) c.in-OfSuffix.suffix.rule c.in-OfSuffix.suffix.from (drop c.in-OfSuffix.suffix.from c.rule_of-rule.result.now.right) c.args.span.start c.args.span.len v) held ((c.requires.pushing.filled slot i l what here c.requires.day).least rule at) in
    let around = outside-of gr p _ _ i c.in-Some.total c.in-Some-sum_at.sum (c.requires.pushing.through.cells slot i l what c.in-Some.total here c.requires.day (total ∙ c.in-Some.is) rule at) least in
    let row : AreLowered (place c.args.layout.now c.args.slot c.args.span.start c.args.span.len) c.args.totals.now c.push_parts.new.totals = lowered-more _ _ _ _ (omega arith) c.push_parts.ensures.lowered in
    let kept = row.kept (place c.args.layout.now c.args.slot c.args.span.start c.args.span.len) (omega arith) in
    let now = kept ∙ total ∙ c.in-Some.is ∙ ap Some (less-more c.in-Some.total c.in-Some-sum_at.sum) in
    let done = rw (small-less c.in-Some.total c.in-Some-sum_at.sum big small) at c.push_parts.ensures.done in
    from-slot gr p lay fits c.args.totals.now c.push_parts.new.totals slot i l what here c.requires.day row
    (slot-suffix gr p lay fits c.push_parts.new.totals c.in-OfSuffix.suffix rule slot i l c.in-Some-sum_at.sum (c.in-Some.total -ℤ c.in-Some-sum_at.sum) at now least done) c.requires.later
