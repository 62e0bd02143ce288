use Rattle.std.proofs.Common.{◌≡◌, ◌≤◌, ◌+◌, ◌-◌, ℕ, ℤ, List, length, take, drop, arith, ap, ◌∙◌, rules, take_all, length-drop}
use Rattle.law_bounds.specs.master_laws.Rounding.{first_head}
use Rattle.lp_master_rows.proofs.CellPrices.{many, low, gathered, head_low}
use Rattle.lp_master_rows.proofs.rows.NodeRows.gather.Goals as goal

rest : (k : ℕ) (ys : List ℤ) → take (length ys - k) (drop k ys) ≡ drop k ys
rest k ys = take_all (length ys - k) (drop k ys) (omega (arith, length-drop k ys))

begin : (c : goal.After-first_head-first) → c.first_head-first.result + 2 + length c.requires.out.1 ≡ length c.args.y.now
begin c =
    let h = c.requires.out in
    omega (arith, c.first_head-first.ensures h.0 h.1 h.2, head_low h.0 h.1 c.args.self.now h.2, h.4)

pub slice_bounds-others-count : goal.slice_bounds-others-count
slice_bounds-others-count c = omega (arith, begin c)

pub slice_bounds-others-start : goal.slice_bounds-others-start
slice_bounds-others-start c = let l : c.first_head-first.result ≤ length c.args.y.now = omega (arith, begin c) in search rules

pub gather_cells-requires-clause-bounds : goal.gather_cells-requires-clause-bounds
gather_cells-requires-clause-bounds c = let h = c.requires.out in low h.0 h.1 c.args.self.now h.2 (length c.args.y.now) h.4

pub gather_cells-requires-clause-cells : goal.gather_cells-requires-clause-cells
gather_cells-requires-clause-cells c =
    let h = c.requires.out in
    let n = many h.0 h.1 c.args.self.now h.2 in
    let m = head_low h.0 h.1 c.args.self.now h.2 in
    omega (arith, n, m, h.4)

pub gather_cells-requires-clause-out : goal.gather_cells-requires-clause-out
gather_cells-requires-clause-out c =
    let h = c.requires.out in
    let n = many h.0 h.1 c.args.self.now h.2 in
    omega (arith, n, c.split_at_mut-prices.ensures.front_len, h.3)

pub copy_from_slice-requires : goal.copy_from_slice-requires
copy_from_slice-requires c =
    let h = c.requires.out in
    let b : c.first_head-first.result + 2 + length c.requires.out.1 ≡ length c.args.y.now =
    omega (arith, c.first_head-first.ensures h.0 h.1 h.2, head_low h.0 h.1 c.args.self.now h.2, h.4) in
    rw rest (omega (arith, b, c.split_at_mut-prices.ensures.back_len, h.5, length-drop c.first_head-first.result c.args.y.now))

pub returns : goal.returns
returns c = λ i cuts are cells many out.
    let back : c.copy_from_slice.new.self ≡ drop (first_head i) c.args.y.now =
    c.copy_from_slice.ensures.after ∙ rest c.first_head-first.result c.args.y.now ∙ ap (λ k. drop k c.args.y.now) (c.first_head-first.ensures i cuts are) in
    rw (c.gather_cells.ensures, back) (gathered i cuts c.args.self.now are c.args.y.now many)
