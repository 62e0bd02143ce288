use Rattle.std.proofs.Common.{ℕ, ℤ}
use Rattle.lp_master_rows.proofs.TreeEntries.{listed_all}
use Rattle.lp_master_rows.proofs.rows.NodeRows.put_places.Goals as goal

pub returns : goal.returns
returns c = λ i t x are at is.
    let letters = rw (c.as_slice.ensures, c.codes.ensures x at) at c.in_ok-add_letters.ensures in
    rw c.into_places.ensures
    (listed_all i c.args.cuts.now c.args.self.now are t x is c.over-entries.result c.add_letters.new.self c.add.new.self c.add-2.new.self c.add_cuts.new.self
    c.over-entries.ensures letters c.in_ok-add.ensures c.in_ok-add-2.ensures (λ n (entry : ℕ → ℤ) l few h. c.in_ok-add_cuts.ensures n entry x at l few h))
