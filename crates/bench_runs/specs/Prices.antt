-- The prices of one fill.
use Rattle.std.specs.Prelude.{ℕ, ℤ, pos, ◌+◌, ◌*◌, ◌%◌, Some}
use Rattle.model_rosters.specs.Sums.{PriceView}

abbrev pub price_of : ℕ → ℕ → ℤ
price_of fill number = pos ((fill * 7 + number) % 100)

abbrev pub fill_view : ℕ → PriceView
fill_view fill = record {
  letter_at = λ c i. Some (price_of fill (c * 31 + i * 17));
  arc_of = λ a. pos 0;
  rule_of = λ r. price_of fill (r * 13);
}
