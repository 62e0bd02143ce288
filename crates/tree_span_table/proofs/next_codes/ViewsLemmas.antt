-- What marginals were made for, when they are filled.
use Rattle.std.proofs.Common.{◌≡◌, ℕ, ◌<◌, ◌≤◌, ◌+◌, ◌-◌, ◌*◌, None, arith, length, get_or, subst, sym, ◌∙◌}
use Rattle.model_rosters.specs.declared.grammar.Grammar.{Grammar}
use Rattle.model_rosters.specs.Grammar.{InDay}
use Rattle.model_rosters.specs.Sound.{IsSound}
use Rattle.model_rosters.specs.Sums.{PriceView, IsLeast, tree_sum}
use Rattle.model_rosters.specs.Trees.{IsDayTree}
use Rattle.tree_span_cells.specs.declared.slot.Layout.{Layout}
use Rattle.tree_span_cells.specs.declared.slot.Slot.TheVariants.{OfName}
use Rattle.tree_span_cells.specs.Cells.{Held, AreMade, IsReady, AreFilled, cell, name_slot}
use Rattle.tree_span_cells.proofs.CellsLemmas.{ready-made}
use Rattle.tree_span_table.specs.declared.next_codes.totals.Totals.{Totals}
use Rattle.tree_span_table.specs.next_codes.Marginals.{IsMarginal}
use Rattle.tree_span_table.specs.next_codes.Totals.{AreCounted, letter_total}
use Rattle.tree_span_table.specs.next_codes.Views.{MarginalsView, IsMadeFor, AreMarginals}

-- in filled cells that of the start name on the day is the least sum of the trees of the day
pub day-sum : (g : Grammar) (p : PriceView) (lay : Layout) (h : Held) → IsSound g → IsReady g lay h → AreFilled g p lay h
    → IsLeast (IsDayTree g) (tree_sum p 1) (cell lay h (name_slot lay g.start) 1 g.periods)
day-sum g p lay h sound ready filled =
    let day : InDay g.periods 1 g.periods = record { begins = omega arith; some = sound.some_period; within = omega arith } in
    (filled (name_slot lay g.start) 1 g.periods (OfName g.start) (ready.layout.names g.start sound.start) day).least

abbrev pub view_of : Layout → Held → Totals → ℕ → ℕ → MarginalsView
view_of lay h t codes periods = record { layout = lay; inside = h; totals = t; codes = codes; periods = periods }

module _ (g : Grammar) (lay : Layout) (h k : Held) (t u : Totals) (codes periods : ℕ) (made : IsMadeFor g (view_of lay h t codes periods)) where
  -- they stay made for the grammar
  pub made-kept : ((m n : ℕ) → AreMade m n h → AreMade m n k) → (AreCounted g lay t → AreCounted g lay u) → IsMadeFor g (view_of lay k u codes periods)
  made-kept cells counted = record {
    ready = ready-made g lay h k made.ready cells;
    codes = made.codes;
    periods = made.periods;
    counted = counted made.counted;
  }

  -- the totals of letters are the values
  pub made-marginals : (p : PriceView) → ((c i : ℕ) → c < length g.codes → 1 ≤ i → i ≤ g.periods → IsMarginal g p c i (letter_total lay u c i)) → AreMarginals g p (view_of lay k u codes periods)
  made-marginals p all c i lt one most =
      let same : lay.spans ≡ periods = made.ready.layout.periods ∙ sym made.periods in
      subst (λ (n : ℕ). IsMarginal g p c i (get_or u.letters.items (c * n + (i - 1)) None)) same (all c i lt one most)
