-- Prices of letters by their bytes, and of rules.
use Rattle.std.specs.Prelude.{ℕ, ℤ, pos, ◌-◌, ◌^◌, ◌==◌, ◌||◌, Bool, true, false, Option, None, Some, List, slice_get, if◌then◌else◌, zero, suc}
use Rattle.model_rosters.specs.declared.grammar.CodeDef.{CodeDef}
use Rattle.model_rosters.specs.declared.grammar.Grammar.{Grammar}
use Rattle.model_rosters.specs.Arcs.{rule_cost}
use Rattle.model_rosters.specs.Sums.{PriceView}

-- the price of a code at period i by its byte
abbrev pub code_price : (ℕ → ℕ → Option ℤ) → Option CodeDef → ℕ → Option ℤ
code_price price None i = None
code_price price (Some d) i = price i d.byte

-- letters are priced by period and byte, rules by their number, and arcs are free
abbrev pub byte_view : Grammar → (ℕ → ℕ → Option ℤ) → (ℕ → ℕ) → PriceView
byte_view g price rules =
    record {
      letter_at = λ c i. code_price price (slice_get g.codes c) i;
      arc_of = λ a. pos 0;
      rule_of = λ r. pos (rules r);
    }

-- each rule costs what it costs, and letters are free
abbrev pub cost_view : Grammar → PriceView
cost_view g = byte_view g (λ i b. Some (pos 0)) (rule_cost g)

-- what stands at period i
abbrev pub at_period : List ℕ → ℕ → Option ℕ
at_period w zero = None
at_period w (suc i) = slice_get w i

-- whether the byte b may stand where the pattern has x: the pattern's byte, or each byte where nothing or
-- the byte `any` stands
abbrev pub takes : Option ℕ → Option ℕ → ℕ → Bool
takes any None b = true
takes None (Some x) b = x == b
takes (Some a) (Some x) b = x == a || x == b

abbrev pub free_where : Bool → Option ℤ
free_where true = Some (pos 0)
free_where false = None

-- letters that the pattern takes are free and others forbidden, and each rule costs what it costs
abbrev pub pattern_view : Grammar → Option ℕ → List ℕ → PriceView
pattern_view g any pattern = byte_view g (λ i b. free_where (takes any (at_period pattern i) b)) (rule_cost g)

-- what a byte costs that misses the prefix, where so many periods follow it
abbrev pub miss : Option ℕ → ℕ → ℕ → ℕ
miss None b left = 0
miss (Some x) b left = if x == b then 0 else 2 ^ left

-- a letter that misses the prefix costs 2 to the power of the number of the periods behind it, and all else
-- is free: so one miss costs more than all later ones
abbrev pub miss_view : Grammar → List ℕ → PriceView
miss_view g prefix = byte_view g (λ i b. Some (pos (miss (at_period prefix i) b (g.periods - i)))) (λ r. 0)
