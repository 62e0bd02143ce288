use Rattle.std.proofs.Common.{arith, ◌≡◌, ◌<◌, ℕ, ℤ, List, Option, Some, length, get_or, take, drop, ◌++◌, subst, sym, ap, ◌∙◌}
use Rattle.std.proofs.lemmas.Option.{slice_get_within}
use Rattle.std.proofs.lemmas.List.{take_at}
use Rattle.model_rosters.specs.Sums.{IsLeast, tree_sum}
use Rattle.model_rosters.specs.Trees.{IsDayTree}
use Rattle.tree_graph.specs.Graphs.{IsRoot}
use Rattle.tree_cheapest.specs.Pricers.{PricerView, IsMadeFor, IsFilled, value_at}
use Rattle.tree_cheapest.proofs.PassesLemmas.{day-least}
use Rattle.tree_cheapest.proofs.LinksLemmas.{value-read, made-kept}
use Rattle.tree_cheapest.proofs.pricer.Pricer.cheapest.Goals as goal

pub returns-in_err-root-clause-kept : goal.returns-in_err-root-clause-kept
returns-in_err-root-clause-kept g c = λ v made.
    let old : IsMadeFor v (record { links = c.self.inside.links; letters = c.self.inside.letters; order = Some c.self.inside.order; values = c.self.inside.values.items; best = c.self.inside.best.items }) = subst (λ (w : PricerView). IsMadeFor v w) (sym c.self.view_is) made in
    made-kept v c.self.inside.links c.self.inside.letters (Some c.self.inside.order) c.self.inside.values.items c.fill_slots.new.values (drop (length c.fill_slots.new.values) c.self.inside.values.items) c.self.inside.values.len
    c.self.inside.best.items c.fill_slots.new.best (drop (length c.fill_slots.new.best) c.self.inside.best.items) c.self.inside.best.len (omega arith) (omega arith) (omega arith) (omega arith) old

pub index-requires : goal.index-requires
index-requires g c =
    let e : c.args.graph.now.root ≡ Some c.in_ok-root.root = sym c.root.ensures ∙ c.in_ok-root.was in
    let there = subst (λ (q : Option ℕ). IsRoot c.requires.graph.0 c.args.graph.now.nodes q) e c.requires.graph.2.root in
    let lt : c.in_ok-root.root < length c.args.graph.now.nodes = slice_get_within c.args.graph.now.nodes c.in_ok-root.root _ there in
    let same : length c.self.inside.values.items ≡ length c.args.self.now.values = ap (λ (w : PricerView). length w.values) c.self.view_is in
    omega (arith, lt, same, c.requires.made.slots)

pub returns-clause-least : goal.returns-clause-least
returns-clause-least g c = λ g2 sound graph.
    let e : c.args.graph.now.root ≡ Some c.in_ok-root.root = sym c.root.ensures ∙ c.in_ok-root.was in
    let there = subst (λ (q : Option ℕ). IsRoot g2 c.args.graph.now.nodes q) e graph.root in
    let lt : c.in_ok-root.root < length c.args.graph.now.nodes = slice_get_within c.args.graph.now.nodes c.in_ok-root.root _ there in
    let same : length c.self.inside.values.items ≡ length c.args.self.now.values = ap (λ (w : PricerView). length w.values) c.self.view_is in
    let whole = take_at c.fill_slots.new.values (drop (length c.fill_slots.new.values) c.self.inside.values.items) c.self.inside.values.len (omega arith) in
    let read : c.sum.result ≡ value_at c.fill_slots.new.values c.in_ok-root.root =
    value-read c.fill_slots.new.values c.in_ok-root.root c.index.result.now c.sum.result (omega (arith, lt, same, c.requires.made.slots)) (c.sum.ensures ∙ c.index.ensures ∙ ap (λ (q : List (Option ℤ)). get_or q c.in_ok-root.root c.index.result.now) whole) in
    subst (λ (q : Option ℤ). IsLeast (IsDayTree g2) (tree_sum (g.P.LetterPrice.view c.args.prices.now) 1) q) (sym read)
    (day-least g2 (g.P.LetterPrice.view c.args.prices.now) c.args.graph.now graph c.fill_slots.new.values (c.fill_slots.ensures.filled g2 sound graph c.self.inside.links (Some c.self.inside.order)).nodes c.in_ok-root.root e)

pub returns-in_err-root-clause-filled : goal.returns-in_err-root-clause-filled
returns-in_err-root-clause-filled g c = λ g2 sound graph.
    subst (λ (q : List ℕ). IsFilled g2 (g.P.LetterPrice.view c.args.prices.now) c.args.graph.now
    (record { links = c.self.inside.links; letters = c.self.inside.letters; order = Some c.self.inside.order; values = take c.self.inside.values.len (c.fill_slots.new.values ++ drop (length c.fill_slots.new.values) c.self.inside.values.items); best = q }))
    (sym (take_at c.fill_slots.new.best (drop (length c.fill_slots.new.best) c.self.inside.best.items) c.self.inside.best.len (omega arith)))
    (subst (λ (q : List (Option ℤ)). IsFilled g2 (g.P.LetterPrice.view c.args.prices.now) c.args.graph.now
    (record { links = c.self.inside.links; letters = c.self.inside.letters; order = Some c.self.inside.order; values = q; best = c.fill_slots.new.best }))
    (sym (take_at c.fill_slots.new.values (drop (length c.fill_slots.new.values) c.self.inside.values.items) c.self.inside.values.len (omega arith)))
    (rw (← c.as_slice.ensures) (c.fill_slots.ensures.filled g2 sound graph c.self.inside.links (Some c.self.inside.order))))

pub returns-clause-filled : goal.returns-clause-filled
returns-clause-filled g c = λ g2 sound graph.
    subst (λ (q : List ℕ). IsFilled g2 (g.P.LetterPrice.view c.args.prices.now) c.args.graph.now
    (record { links = c.self.inside.links; letters = c.self.inside.letters; order = Some c.self.inside.order; values = take c.self.inside.values.len (c.fill_slots.new.values ++ drop (length c.fill_slots.new.values) c.self.inside.values.items); best = q }))
    (sym (take_at c.fill_slots.new.best (drop (length c.fill_slots.new.best) c.self.inside.best.items) c.self.inside.best.len (omega arith)))
    (subst (λ (q : List (Option ℤ)). IsFilled g2 (g.P.LetterPrice.view c.args.prices.now) c.args.graph.now
    (record { links = c.self.inside.links; letters = c.self.inside.letters; order = Some c.self.inside.order; values = q; best = c.fill_slots.new.best }))
    (sym (take_at c.fill_slots.new.values (drop (length c.fill_slots.new.values) c.self.inside.values.items) c.self.inside.values.len (omega arith)))
    (rw (← c.as_slice.ensures) (c.fill_slots.ensures.filled g2 sound graph c.self.inside.links (Some c.self.inside.order))))

pub returns-clause-kept : goal.returns-clause-kept
returns-clause-kept g c = λ v made.
    let old : IsMadeFor v (record { links = c.self.inside.links; letters = c.self.inside.letters; order = Some c.self.inside.order; values = c.self.inside.values.items; best = c.self.inside.best.items }) = subst (λ (w : PricerView). IsMadeFor v w) (sym c.self.view_is) made in
    made-kept v c.self.inside.links c.self.inside.letters (Some c.self.inside.order) c.self.inside.values.items c.fill_slots.new.values (drop (length c.fill_slots.new.values) c.self.inside.values.items) c.self.inside.values.len
    c.self.inside.best.items c.fill_slots.new.best (drop (length c.fill_slots.new.best) c.self.inside.best.items) c.self.inside.best.len (omega arith) (omega arith) (omega arith) (omega arith) old
