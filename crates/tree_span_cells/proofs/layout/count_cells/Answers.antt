use Rattle.std.proofs.Common.{ℕ, arith, ◌≡◌, ◌≤◌, ◌<◌, ◌*◌, ◌^◌}
use Rattle.std.proofs.lemmas.Nat.{mul-le}
use Rattle.tree_span_cells.specs.Places.{shorter}
use Rattle.tree_span_cells.proofs.FormRows.{shorter-small}
use Rattle.tree_span_cells.proofs.layout.count_cells.Goals as goal

-- a table has few cells
few_cells : (n count width : ℕ) → n ≤ 96 → count ≡ shorter n n → width < 65536 → count * width < 2 ^ 64
few_cells n count width most e w =
    let a = shorter-small n n in
    let b = mul-le n n 96 96 most most in
    let c : count ≤ 9216 = omega (arith, a, b, e) in
    let d : width ≤ 65535 = omega (arith, w) in
    omega (arith, mul-le count width 9216 65535 c d)

pub overflow_mul-result : goal.overflow_mul-result
overflow_mul-result c =
    let spans : c.args.layout.now.spans ≡ c.args.grammar.now.periods = c.requires.layout.periods in
    let most : c.args.layout.now.spans ≤ 96 = omega (arith, spans, c.requires.sound.few_periods) in
    let width : c.len.result < 65536 = omega (arith, c.requires.layout.few) in
    let few : c.count.result * c.len.result < 2 ^ 64 = few_cells c.args.layout.now.spans c.count.result c.len.result most c.count.ensures.spans width in
    omega (arith, few)
