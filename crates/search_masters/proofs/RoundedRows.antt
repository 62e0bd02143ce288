-- The prices of a master's rows, rounded.
use Rattle.std.proofs.Common.{◌≡◌, ℕ, ℤ, arith, ◌+◌, List, ◌∷◌, length, drop, refl, ap, ◌∙◌}
use Rattle.std.proofs.Math.Seq.{drop-append-add}
use Rattle.model_rosters.specs.declared.instance.Cut.{Cut}
use Rattle.model_rosters.specs.declared.instance.Instance.{Instance}
use Rattle.lp_fractions.specs.Range.{Counts}
use Rattle.lp_fractions.specs.Row.{at}
use Rattle.law_bounds.specs.master_laws.Rounding.{cell_lines, line_sums, first_head, numbers_from}
use Rattle.law_bounds.proofs.master_laws.WideNumbers.{wide_rounding}
use Rattle.lp_rounded_prices.proofs.RoundFaults.{wide_floor}
use Rattle.lp_rounded_prices.specs.Faults.{IsRoundFault}
use Rattle.lp_rounded_prices.specs.declared.round.RoundFault.{RoundFault}
use Rattle.lp_rounded_prices.specs.declared.round.RoundFault.TheVariants.{Wide as RoundWide, Memory as RoundMemory}
use Rattle.search_node_columns.specs.Priced.{AreNarrowPrices}
use Rattle.search_node_columns.proofs.RowPrices.{at_narrow, gathered, cells_length}

-- the prices of the cuts stand behind those of the cells and of the heads
pub numbers_part : (i : Instance) (cuts : List Cut) (y : ℕ → ℤ) (out : List ℤ) (n : ℕ) → out ≡ gathered i cuts y → n ≡ length i.cells
    → drop (n + 2) out ≡ numbers_from y (first_head i + 2) cuts
numbers_part i cuts y out n a b =
    let e : n + 2 ≡ length (line_sums (cell_lines i y)) + 2 = omega (arith, b, cells_length i y) in
    ap (λ (xs : List ℤ). drop (n + 2) xs) a ∙ ap (λ k. drop k (gathered i cuts y)) e
    ∙ drop-append-add (line_sums (cell_lines i y)) (y (first_head i) ∷ y (first_head i + 1) ∷ numbers_from y (first_head i + 2) cuts) 2

-- prices within 2^56 are rounded without a refusal
pub not_wide : (i : Instance) (cuts : List Cut) (y : List ℤ) (kappa : ℤ) (old new : Counts) (fault : RoundFault) → AreNarrowPrices y kappa
    → IsRoundFault kappa (line_sums (cell_lines i (at y))) cuts (numbers_from (at y) (first_head i + 2) cuts) old new fault → (fault ≡ RoundMemory) × (new ≡ old)
not_wide i cuts y kappa old new (RoundWide f) narrow h =
    let n = h.1 in
    let w = wide_floor kappa (line_sums (cell_lines i (at y))) cuts (numbers_from (at y) (first_head i + 2) cuts) f n in
    let r = wide_rounding i cuts (at y) kappa n.d w.number w.rounded narrow.some n.denominator w.listed w.floor w.wide in
    absurd (let l = at_narrow y narrow.prices r.0 in omega (arith, r.2))
not_wide i cuts y kappa old new RoundMemory narrow h = (refl, h)
