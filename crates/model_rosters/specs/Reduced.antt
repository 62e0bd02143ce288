-- Prices of cells and cuts, and the reduced cost of a tree.
use Rattle.std.specs.Prelude.{ℕ, ℤ, pos, neg_ℤ, ◌*ℤ◌, ◌+◌, cond, nat_eq, Some, List, [], ◌∷◌}
use Rattle.model_rosters.specs.declared.grammar.ArcKey.{ArcKey}
use Rattle.model_rosters.specs.declared.grammar.Grammar.{Grammar}
use Rattle.model_rosters.specs.declared.instance.Cell.{Cell}
use Rattle.model_rosters.specs.declared.instance.Cut.{Cut}
use Rattle.model_rosters.specs.declared.instance.Mult.{Mult}
use Rattle.model_rosters.specs.declared.instance.Side.{Side}
use Rattle.model_rosters.specs.declared.instance.Side.TheVariants.{Low, High}
use Rattle.model_rosters.specs.declared.instance.Instance.{Instance}
use Rattle.model_rosters.specs.declared.instance.Prices.{Prices}
use Rattle.model_rosters.specs.Sums.{PriceView}
use Rattle.model_rosters.specs.Folds.{sum_z}
use Rattle.model_rosters.specs.Arcs.{Letter, rule_cost, same_arc}
use Rattle.model_rosters.specs.Coverage.{is_at}

pub record CellPrice : Type 0 where
  pub cell : Cell
  pub price : ℤ

pub record CutPrice : Type 0 where
  pub cut : Cut
  pub mult : ℤ

-- each cell with its price, 0 where there are too few prices
abbrev pub cell_prices : List Cell → List ℤ → List CellPrice
cell_prices [] ps = []
cell_prices (c ∷ cs) [] = record { cell = c; price = pos 0 } ∷ cell_prices cs []
cell_prices (c ∷ cs) (p ∷ ps) = record { cell = c; price = p } ∷ cell_prices cs ps

-- the multiplier of cut number j, 0 where it is not listed
abbrev pub mult_of : List Mult → ℕ → ℤ
mult_of [] j = pos 0
mult_of (m ∷ ms) j = cond (nat_eq m.cut j) m.value (mult_of ms j)

-- the cuts, numbered from j, with their multipliers
abbrev pub cut_prices : ℕ → List Cut → List Mult → List CutPrice
cut_prices j [] ms = []
cut_prices j (c ∷ cs) ms = record { cut = c; mult = mult_of ms j } ∷ cut_prices (j + 1) cs ms

-- what a tree with the arc pays for the cut
abbrev pub signed : Side → ℤ → ℤ
signed Low m = m
signed High m = neg_ℤ m

-- the cuts, at the multipliers at which a tree with a cut's arc is paid its price; cuts that are left
-- over where there are too few prices are left out
abbrev pub cuts_paid : List Cut → List ℤ → List CutPrice
cuts_paid [] xs = []
cuts_paid (c ∷ cs) [] = []
cuts_paid (c ∷ cs) (x ∷ xs) = record { cut = c; mult = neg_ℤ (signed c.side x) } ∷ cuts_paid cs xs

-- what a tree with the letter is paid
abbrev pub letter_price : List CellPrice → Letter → ℤ
letter_price ps l = sum_z (λ (p : CellPrice). cond (is_at p.cell l) p.price (pos 0)) ps

-- what a tree with the arc pays
abbrev pub arc_price : List CutPrice → ArcKey → ℤ
arc_price ks a = sum_z (λ (k : CutPrice). cond (same_arc k.cut.arc a) (signed k.cut.side k.mult) (pos 0)) ks

-- the prices under which the sum of a tree is its reduced cost
abbrev pub view_of : Grammar → ℕ → List CellPrice → List CutPrice → PriceView
view_of g d ps ks = record {
  letter_at = λ c i. Some (neg_ℤ (letter_price ps (record { code = c; period = i })));
  arc_of = λ a. arc_price ks a;
  rule_of = λ r. pos d *ℤ pos (rule_cost g r);
}

-- those of an instance's prices at a list of cuts
abbrev pub reduced_view : Instance → Prices → List Cut → PriceView
reduced_view i p cuts = view_of i.grammar p.d (cell_prices i.cells p.cell) (cut_prices 1 cuts p.mult)
