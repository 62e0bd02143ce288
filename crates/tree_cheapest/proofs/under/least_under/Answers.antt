use Rattle.std.proofs.Common.{arith, ◌≡◌, ℕ, ℤ, ap, sym, subst, ◌∙◌, length, List, Option, IfSome, ◌^◌}
use Rattle.std.specs.Prelude.{slice_index, slice_index_or}
use Rattle.model_rosters.specs.Sums.{Within}
use Rattle.tree_cheapest.specs.declared.slots.Links.{Links}
use Rattle.tree_cheapest.specs.Pricers.{value_at}
use Rattle.tree_cheapest.proofs.UnderLemmas.{its-key, inside-below, small-below, value-below, sum-under}
use Rattle.tree_cheapest.proofs.under.least_under.Goals as goal

pub bounds-values-as_slice : goal.bounds-values-as_slice
bounds-values-as_slice g c =
    let asked = c.requires in
    let key = its-key asked.g (g.P.LetterPrice.view c.args.prices.now) c.args.graph.now asked.w asked.ready asked.made c.args.arc asked.inside in
    let below = inside-below asked.g (g.P.LetterPrice.view c.args.prices.now) c.args.graph.now asked.w asked.ready asked.made c.args.arc asked.inside key.0 key.1 (g.met.P.LetterPrice.all_within c.args.prices.now) in
    let index : slice_index_or c.as_slice.result.now c.args.arc 0 ≡ slice_index asked.w.links.first c.args.arc = ap (λ (q : List ℕ). slice_index q c.args.arc) (c.as_slice.ensures ∙ ap (λ (q : Links). q.first) (sym asked.same_links)) in
    let len : length asked.w.values ≡ length c.args.values.now = ap length asked.same_values in
    omega (arith, below.0, index, len)

pub bounds-values-as_slice-2 : goal.bounds-values-as_slice-2
bounds-values-as_slice-2 g c =
    let asked = c.requires in
    let key = its-key asked.g (g.P.LetterPrice.view c.args.prices.now) c.args.graph.now asked.w asked.ready asked.made c.args.arc asked.inside in
    let below = inside-below asked.g (g.P.LetterPrice.view c.args.prices.now) c.args.graph.now asked.w asked.ready asked.made c.args.arc asked.inside key.0 key.1 (g.met.P.LetterPrice.all_within c.args.prices.now) in
    let index : slice_index_or c.as_slice-2.result.now c.args.arc 0 ≡ slice_index asked.w.links.rest c.args.arc = ap (λ (q : List ℕ). slice_index q c.args.arc) (c.as_slice-2.ensures ∙ ap (λ (q : Links). q.rest) (sym asked.same_links)) in
    let len : length asked.w.values ≡ length c.args.values.now = ap length asked.same_values in
    omega (arith, below.1, index, len)

pub arc_sum-requires-clause-first : goal.arc_sum-requires-clause-first
arc_sum-requires-clause-first g c =
    let asked = c.requires in
    let key = its-key asked.g (g.P.LetterPrice.view c.args.prices.now) c.args.graph.now asked.w asked.ready asked.made c.args.arc asked.inside in
    let below = inside-below asked.g (g.P.LetterPrice.view c.args.prices.now) c.args.graph.now asked.w asked.ready asked.made c.args.arc asked.inside key.0 key.1 (g.met.P.LetterPrice.all_within c.args.prices.now) in
    let small = small-below asked.g (g.P.LetterPrice.view c.args.prices.now) c.args.graph.now asked.w asked.ready asked.made c.args.arc asked.inside key.0 key.1 (g.met.P.LetterPrice.all_within c.args.prices.now) in
    let index : slice_index c.as_slice.result.now c.args.arc ≡ slice_index asked.w.links.first c.args.arc = ap (λ (q : List ℕ). slice_index q c.args.arc) (c.as_slice.ensures ∙ ap (λ (q : Links). q.first) (sym asked.same_links)) in
    let read : c.sum-first.result ≡ value_at asked.w.values (slice_index asked.w.links.first c.args.arc) = value-below asked.w.values c.args.values.now _ _ _ _ asked.same_values index below.0 (c.sum-first.ensures ∙ c.index-values-as_slice.is) in
    subst (λ (q : Option ℤ). IfSome q (Within (2 ^ 110))) (sym read) small.0

pub arc_sum-requires-clause-rest : goal.arc_sum-requires-clause-rest
arc_sum-requires-clause-rest g c =
    let asked = c.requires in
    let key = its-key asked.g (g.P.LetterPrice.view c.args.prices.now) c.args.graph.now asked.w asked.ready asked.made c.args.arc asked.inside in
    let below = inside-below asked.g (g.P.LetterPrice.view c.args.prices.now) c.args.graph.now asked.w asked.ready asked.made c.args.arc asked.inside key.0 key.1 (g.met.P.LetterPrice.all_within c.args.prices.now) in
    let small = small-below asked.g (g.P.LetterPrice.view c.args.prices.now) c.args.graph.now asked.w asked.ready asked.made c.args.arc asked.inside key.0 key.1 (g.met.P.LetterPrice.all_within c.args.prices.now) in
    let index : slice_index c.as_slice-2.result.now c.args.arc ≡ slice_index asked.w.links.rest c.args.arc = ap (λ (q : List ℕ). slice_index q c.args.arc) (c.as_slice-2.ensures ∙ ap (λ (q : Links). q.rest) (sym asked.same_links)) in
    let read : c.sum-rest.result ≡ value_at asked.w.values (slice_index asked.w.links.rest c.args.arc) = value-below asked.w.values c.args.values.now _ _ _ _ asked.same_values index below.1 (c.sum-rest.ensures ∙ c.index-values-as_slice-2.is) in
    subst (λ (q : Option ℤ). IfSome q (Within (2 ^ 110))) (sym read) small.1

pub returns : goal.returns
returns g c = λ asked a top.
    let below = inside-below asked.g (g.P.LetterPrice.view c.args.prices.now) c.args.graph.now asked.w asked.ready asked.made c.args.arc asked.inside a top.at (g.met.P.LetterPrice.all_within c.args.prices.now) in
    let index : slice_index c.as_slice.result.now c.args.arc ≡ slice_index asked.w.links.first c.args.arc = ap (λ (q : List ℕ). slice_index q c.args.arc) (c.as_slice.ensures ∙ ap (λ (q : Links). q.first) (sym asked.same_links)) in
    let index2 : slice_index c.as_slice-2.result.now c.args.arc ≡ slice_index asked.w.links.rest c.args.arc = ap (λ (q : List ℕ). slice_index q c.args.arc) (c.as_slice-2.ensures ∙ ap (λ (q : Links). q.rest) (sym asked.same_links)) in
    let one : c.sum-first.result ≡ value_at asked.w.values (slice_index asked.w.links.first c.args.arc) = value-below asked.w.values c.args.values.now _ _ _ _ asked.same_values index below.0 (c.sum-first.ensures ∙ c.index-values-as_slice.is) in
    let two : c.sum-rest.result ≡ value_at asked.w.values (slice_index asked.w.links.rest c.args.arc) = value-below asked.w.values c.args.values.now _ _ _ _ asked.same_values index2 below.1 (c.sum-rest.ensures ∙ c.index-values-as_slice-2.is) in
    sum-under asked.g (g.P.LetterPrice.view c.args.prices.now) c.args.graph.now asked.w asked.ready asked.made c.args.arc asked.inside a top c.arcs.result.now _ c.sum-first.result c.sum-rest.result c.arc_sum.result c.arcs.ensures.arcs one two c.arc_sum.ensures
