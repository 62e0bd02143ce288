-- Prices of a cell's rows that show as much as its share of a Lagrangian value.
use Rattle.std.proofs.Common.{ltb-true, ltb-false, true≢false, ◌≡◌, ℕ, ℤ, arith, pos, negsuc, neg_ℤ, ◌+ℤ◌, ◌-ℤ◌, ◌*ℤ◌, ◌≤ℤ◌, ◌+◌, ◌-◌, ◌*◌, ◌≤◌, ◌<◌, min, Bool, true, false, cond, Option, None, Some, IfSome, List, [], ◌∷◌, refl, sym, ap, ◌∙◌, ◌⊎◌, inl, inr}
use Rattle.std.specs.Prelude.{nat_lt}
use Rattle.std.proofs.lemmas.Int.{ints}
use lib.IntN.{*ℤ_comm}
use Rattle.model_rosters.specs.declared.instance.Cell.{Cell}
use Rattle.model_rosters.specs.Folds.{sum_z, Each}
use Rattle.model_rosters.specs.Coverage.{penalty}
use Rattle.model_rosters.specs.Reduced.{CellPrice, cell_prices}
use Rattle.law_bounds.specs.Lagrangian.{trees_share, cell_at, cell_share}
use Rattle.law_bounds.proofs.Relaxation.{cell_share-le}
use Rattle.law_bounds.proofs.linear_programs.Orders.{times_le}
use Rattle.law_bounds.specs.master_laws.Rows.{Row, has_floor, has_ceiling}
use Rattle.law_bounds.specs.master_laws.Rounding.{CellLine, line_sum}
use Rattle.law_bounds.proofs.master_laws.RowSums.{worth, IsGood}
use Rattle.law_bounds.proofs.master_laws.Lines.{line_total, cells_of, OfLine}
use Rattle.law_bounds.proofs.master_laws.Numbers.{add_times, neg_times, times_mono}
use Rattle.law_bounds.proofs.master_laws.RoundingLemmas.{IsClean}

-- prices of a cell's rows, and what the heads' rows pay for each employee at the cell
record Dual (k d most : ℕ) (q : CellPrice) : Type 0 where
  line : CellLine
  excess : ℤ
  cell : line.cell ≡ q.cell
  good : OfLine (IsGood k (pos d)) line
  clean : IsClean line
  some : pos 0 ≤ℤ excess
  paid : line_sum line ≤ℤ (q.price +ℤ excess)
  share : (cell_share d most q +ℤ excess *ℤ pos most) ≤ℤ line_total (worth (λ (r : Row). pos r.right)) line

either : (a b : ℕ) → (a ≤ b) ⊎ (b ≤ a)
either a b = grind arith

either_z : (x y : ℤ) → (x ≤ℤ y) ⊎ (y ≤ℤ x)
either_z x y = by (x -ℤ y) refl
  where
    by : (z : ℤ) → x -ℤ y ≡ z → (x ≤ℤ y) ⊎ (y ≤ℤ x)
    by (pos n) e = inr (omega (arith, ints))
    by (negsuc n) e = inl (omega (arith, ints))

lt_true : (a b : ℕ) → nat_lt a b ≡ true → a < b
lt_true a b h = ltb-true a b h

lt_false : (a b : ℕ) → nat_lt a b ≡ false → b ≤ a
lt_false a b h = ltb-false a b h

pub slope_high : (d u m n j : ℕ) → n + j ≡ m → pos d *ℤ pos (u * j) ≡ (pos d *ℤ pos u) *ℤ pos m -ℤ (pos d *ℤ pos u) *ℤ pos n
slope_high d u m n j e = let h : d * u * n + d * (u * j) ≡ d * u * m = rw (sym e) (omega arith) in omega (arith, ints)

pub slope_low : (d o m n j : ℕ) → m + j ≡ n → pos d *ℤ pos (o * j) ≡ neg_ℤ (pos d *ℤ pos o) *ℤ pos m -ℤ neg_ℤ (pos d *ℤ pos o) *ℤ pos n
slope_low d o m n j e =
    let h : d * o * m + d * (o * j) ≡ d * o * n = rw (sym e) (omega arith) in
    let a = neg_times (pos d *ℤ pos o) m in
    let b = neg_times (pos d *ℤ pos o) n in
    omega (arith, ints)

module _ (k d most : ℕ) (q : CellPrice) (fits : q.cell.floor ≤ min q.cell.ceiling most) (heads : most ≤ 64)
    (rival : 0 < q.cell.floor → q.price ≤ℤ ((pos k -ℤ pos q.cell.over) *ℤ pos d)) where
  abbrev c : Cell
  c = q.cell

  abbrev low : ℤ
  low = neg_ℤ (pos d *ℤ pos c.over)

  abbrev high : ℤ
  high = pos d *ℤ pos c.under

  -- at a count on one side of the need the penalty has one slope
  record IsSlope (s : ℤ) (n : ℕ) : Type 0 where
    above_low : low ≤ℤ s
    below_high : s ≤ℤ high
    value : pos d *ℤ pos (penalty c n) ≡ s *ℤ pos c.need -ℤ s *ℤ pos n

  slope_above : (n : ℕ) → c.need ≤ n → IsSlope low n
  slope_above n h =
      let a : penalty c n ≡ c.over * (n - c.need) = (let z : c.need - n ≡ 0 = omega arith in rw z (omega arith)) in
      record { above_low = omega (arith, ints); below_high = omega (arith, ints); value = ap (λ m. pos d *ℤ pos m) a ∙ slope_low d c.over c.need n (n - c.need) (omega arith) }

  slope_below : (n : ℕ) → n ≤ c.need → IsSlope high n
  slope_below n h =
      let a : penalty c n ≡ c.under * (c.need - n) = (let z : n - c.need ≡ 0 = omega arith in rw z (omega arith)) in
      record { above_low = omega (arith, ints); below_high = omega (arith, ints); value = ap (λ m. pos d *ℤ pos m) a ∙ slope_high d c.under c.need n (c.need - n) (omega arith) }

  pick_true : (b : Bool) (z : ℤ) → b ≡ true → cond b z (pos 0) ≡ z
  pick_true b z e = rw e refl

  pick_false : (b : Bool) (z : ℤ) → b ≡ false → cond b z (pos 0) ≡ pos 0
  pick_false b z e = rw e refl

  -- the price is at least the slope at the floor
  at_floor : (s : ℤ) → IsSlope s c.floor → s ≤ℤ q.price → Dual k d most q
  at_floor s slope h = record {
    line = record { cell = c; own = s; floor = cond (has_floor c) (q.price -ℤ s) (pos 0); ceiling = pos 0 };
    excess = pos 0;
    cell = refl;
    good = record {
      own = (slope.above_low, slope.below_high);
      floor = λ t. rw (pick_true (has_floor c) (q.price -ℤ s) t) (omega (arith, ints), bound (lt_true 0 c.floor t));
      ceiling = λ t. omega (arith, ints);
    };
    clean = record { floor = λ t. pick_false (has_floor c) (q.price -ℤ s) t; ceiling = λ t. refl };
    some = omega (arith, ints);
    paid = paid_by (has_floor c);
    share = share_by (has_floor c) refl (cell_share-le d most q c.floor (omega arith) (omega arith) (omega arith));
  }
    where
      bound : 0 < c.floor → (q.price -ℤ s) ≤ℤ (pos d *ℤ pos k)
      bound l =
          let r = rival l in
          let e = add_times (pos k) (neg_ℤ (pos c.over)) d in
          let f = neg_times (pos c.over) d in
          omega (arith, ints, slope.above_low)

      paid_by : (b : Bool) → (s +ℤ cond b (q.price -ℤ s) (pos 0) +ℤ pos 0) ≤ℤ (q.price +ℤ pos 0)
      paid_by true = omega (arith, ints)
      paid_by false = omega (arith, ints)

      ceiling_none : (b : Bool) → cond b (pos 0 *ℤ pos c.ceiling) (pos 0) ≡ pos 0
      ceiling_none true = omega (arith, ints)
      ceiling_none false = refl

      share_by : (b : Bool) → has_floor c ≡ b → cell_share d most q ≤ℤ cell_at d q c.floor
          → (cell_share d most q +ℤ pos 0 *ℤ pos most) ≤ℤ (s *ℤ pos c.need +ℤ cond b (cond b (q.price -ℤ s) (pos 0) *ℤ pos c.floor) (pos 0) +ℤ cond (has_ceiling c) (pos 0 *ℤ pos c.ceiling) (pos 0))
      share_by true e l =
          let z = ceiling_none (has_ceiling c) in
          let v = slope.value in
          let a = add_times q.price (neg_ℤ s) c.floor in
          let b = neg_times s c.floor in
          omega (arith, ints)
      share_by false e l =
          let z = ceiling_none (has_ceiling c) in
          let v = slope.value in
          let n : c.floor ≡ 0 = (let m = lt_false 0 c.floor e in omega arith) in
          let p : q.price *ℤ pos c.floor ≡ pos 0 = rw n (omega (arith, ints)) in
          let w : s *ℤ pos c.floor ≡ pos 0 = rw n (omega (arith, ints)) in
          omega (arith, ints)

  -- the price is at most the slope at the greatest count
  at_greatest : (s : ℤ) → IsSlope s (min c.ceiling most) → q.price ≤ℤ s → Dual k d most q
  at_greatest s slope h = by (either c.ceiling most) (has_ceiling c) refl
    where
      floor_none : (b : Bool) → cond b (pos 0 *ℤ pos c.floor) (pos 0) ≡ pos 0
      floor_none true = omega (arith, ints)
      floor_none false = refl

      -- the ceiling's row pays
      by_ceiling : c.ceiling ≤ most → has_ceiling c ≡ true → Dual k d most q
      by_ceiling l t = record {
        line = record { cell = c; own = s; floor = pos 0; ceiling = q.price -ℤ s };
        excess = pos 0;
        cell = refl;
        good = record { own = (slope.above_low, slope.below_high); floor = λ f. (omega (arith, ints), omega (arith, ints)); ceiling = λ f. omega (arith, ints) };
        clean = record { floor = λ f. refl; ceiling = λ f. absurd (true≢false (sym t ∙ f)) };
        some = omega (arith, ints);
        paid = omega (arith, ints);
        share =
            let n : min c.ceiling most ≡ c.ceiling = omega arith in
            let v : pos d *ℤ pos (penalty c c.ceiling) ≡ s *ℤ pos c.need -ℤ s *ℤ pos c.ceiling = rw n at slope.value in
            let g = cell_share-le d most q c.ceiling (omega arith) (omega arith) l in
            let z = floor_none (has_floor c) in
            let a = add_times q.price (neg_ℤ s) c.ceiling in
            let b = neg_times s c.ceiling in
            let p = pick_true (has_ceiling c) ((q.price -ℤ s) *ℤ pos c.ceiling) t in
            omega (arith, ints);
      }

      -- the heads' rows pay
      by_heads : most ≤ c.ceiling → Dual k d most q
      by_heads l = record {
        line = record { cell = c; own = s; floor = pos 0; ceiling = pos 0 };
        excess = s -ℤ q.price;
        cell = refl;
        good = record { own = (slope.above_low, slope.below_high); floor = λ f. (omega (arith, ints), omega (arith, ints)); ceiling = λ f. omega (arith, ints) };
        clean = record { floor = λ f. refl; ceiling = λ f. refl };
        some = omega (arith, ints);
        paid = omega (arith, ints);
        share =
            let n : min c.ceiling most ≡ most = omega arith in
            let v : pos d *ℤ pos (penalty c most) ≡ s *ℤ pos c.need -ℤ s *ℤ pos most = rw n at slope.value in
            let g = cell_share-le d most q most (omega arith) l (omega arith) in
            let z = floor_none (has_floor c) in
            let w = ceiling_none (has_ceiling c) in
            let a = add_times s (neg_ℤ q.price) most in
            let b = neg_times q.price most in
            omega (arith, ints);
      }
        where
          ceiling_none : (b : Bool) → cond b (pos 0 *ℤ pos c.ceiling) (pos 0) ≡ pos 0
          ceiling_none true = omega (arith, ints)
          ceiling_none false = refl

      by : (c.ceiling ≤ most) ⊎ (most ≤ c.ceiling) → (b : Bool) → has_ceiling c ≡ b → Dual k d most q
      by (inl l) true t = by_ceiling l t
      by (inl l) false t = by_heads (let m = lt_false c.ceiling 64 t in omega arith)
      by (inr l) b t = by_heads l

  -- the price is between the slopes, and the need in the range
  at_need : low ≤ℤ q.price → q.price ≤ℤ high → c.floor ≤ c.need → c.need ≤ min c.ceiling most → Dual k d most q
  at_need h1 h2 h3 h4 = record {
    line = record { cell = c; own = q.price; floor = pos 0; ceiling = pos 0 };
    excess = pos 0;
    cell = refl;
    good = record { own = (h1, h2); floor = λ f. (omega (arith, ints), omega (arith, ints)); ceiling = λ f. omega (arith, ints) };
    clean = record { floor = λ f. refl; ceiling = λ f. refl };
    some = omega (arith, ints);
    paid = omega (arith, ints);
    share =
        let g = cell_share-le d most q c.need h3 (omega arith) (omega arith) in
        let e : penalty c c.need ≡ 0 = (let z : c.need - c.need ≡ 0 = omega arith in rw z (omega arith)) in
        let f : pos d *ℤ pos (penalty c c.need) ≡ pos 0 = rw e (omega (arith, ints)) in
        let z = none (has_floor c) c.floor in
        let w = none (has_ceiling c) c.ceiling in
        omega (arith, ints);
  }
    where
      none : (b : Bool) (n : ℕ) → cond b (pos 0 *ℤ pos n) (pos 0) ≡ pos 0
      none true n = omega (arith, ints)
      none false n = refl

  dual : Dual k d most q
  dual = by (either c.need c.floor)
    where
      by_need : c.floor ≤ c.need → q.price ≤ℤ high → (c.need ≤ min c.ceiling most) ⊎ (min c.ceiling most ≤ c.need) → (q.price ≤ℤ low) ⊎ (low ≤ℤ q.price) → Dual k d most q
      by_need f h (inl n) (inl l) = at_greatest low (slope_above (min c.ceiling most) n) l
      by_need f h (inl n) (inr l) = at_need l h f n
      by_need f h (inr n) l = at_greatest high (slope_below (min c.ceiling most) n) h

      above : c.need ≤ c.floor → (low ≤ℤ q.price) ⊎ (q.price ≤ℤ low) → Dual k d most q
      above n (inl l) = at_floor low (slope_above c.floor n) l
      above n (inr l) = at_greatest low (slope_above (min c.ceiling most) (omega arith)) l

      below : c.floor ≤ c.need → (high ≤ℤ q.price) ⊎ (q.price ≤ℤ high) → Dual k d most q
      below n (inl l) = at_floor high (slope_below c.floor n) l
      below n (inr l) = by_need n l (either c.need (min c.ceiling most)) (either_z q.price low)

      by : (c.need ≤ c.floor) ⊎ (c.floor ≤ c.need) → Dual k d most q
      by (inl n) = above n (either_z low q.price)
      by (inr n) = below n (either_z high q.price)

-- ---- all cells
pub record Duals (k d most : ℕ) (cells : List Cell) (ps : List ℤ) : Type 0 where
  pub lines : List CellLine
  pub excess : ℤ
  pub cells_are : cells_of lines ≡ cells
  pub good : Each (OfLine (IsGood k (pos d))) lines
  pub clean : Each IsClean lines
  pub some : pos 0 ≤ℤ excess
  pub paid : (f : Cell → ℕ) → ((c : Cell) → f c ≤ 1) → sum_z (λ (l : CellLine). line_sum l *ℤ pos (f l.cell)) lines ≤ℤ (sum_z (λ (q : CellPrice). q.price *ℤ pos (f q.cell)) (cell_prices cells ps) +ℤ excess)
  pub share : (sum_z (cell_share d most) (cell_prices cells ps) +ℤ excess *ℤ pos most) ≤ℤ sum_z (line_total (worth (λ (r : Row). pos r.right))) lines

module _ (k d most : ℕ) (heads : most ≤ 64) where
  joined : (q : CellPrice) (cells : List Cell) (ps : List ℤ) (qs : List CellPrice) → Dual k d most q → Duals k d most cells ps → (all : List Cell) (prices : List ℤ) → all ≡ q.cell ∷ cells → cell_prices all prices ≡ q ∷ cell_prices cells ps → Duals k d most all prices
  joined q cells ps qs a r all prices e f = record {
    lines = a.line ∷ r.lines;
    excess = a.excess +ℤ r.excess;
    cells_are = ap (λ (x : Cell). x ∷ cells_of r.lines) a.cell ∙ ap (λ (xs : List Cell). q.cell ∷ xs) r.cells_are ∙ sym e;
    good = (a.good, r.good);
    clean = (a.clean, r.clean);
    some = omega (arith, ints, a.some, r.some);
    paid = λ g h.
        let t1 = times_le (line_sum a.line) (q.price +ℤ a.excess) (g q.cell) a.paid in
        let t2 = add_times q.price a.excess (g q.cell) in
        let t3 = times_mono a.excess (g q.cell) 1 a.some (h q.cell) in
        let t4 = r.paid g h in
        let t5 : line_sum a.line *ℤ pos (g a.line.cell) ≡ line_sum a.line *ℤ pos (g q.cell) = ap (λ (x : Cell). line_sum a.line *ℤ pos (g x)) a.cell in
        rw f (omega (arith, ints));
    share =
        let t1 = add_times a.excess r.excess most in
        let t2 = a.share in
        let t3 = r.share in
        rw f (omega (arith, ints));
  }

  pub duals : (cells : List Cell) (ps : List ℤ) → Each (λ (c : Cell). c.floor ≤ min c.ceiling most) cells
      → Each (λ (q : CellPrice). 0 < q.cell.floor → q.price ≤ℤ ((pos k -ℤ pos q.cell.over) *ℤ pos d)) (cell_prices cells ps) → Duals k d most cells ps
  duals [] ps h r = record { lines = []; excess = pos 0; cells_are = refl; good = tt; clean = tt; some = omega (arith, ints); paid = λ f g. omega (arith, ints); share = omega (arith, ints) }
  duals (c ∷ cells) [] h r = joined (record { cell = c; price = pos 0 }) cells [] [] (dual k d most (record { cell = c; price = pos 0 }) h.0 heads r.0) (duals cells [] h.1 r.1) (c ∷ cells) [] refl refl
  duals (c ∷ cells) (p ∷ ps) h r = joined (record { cell = c; price = p }) cells ps [] (dual k d most (record { cell = c; price = p }) h.0 heads r.0) (duals cells ps h.1 r.1) (c ∷ cells) (p ∷ ps) refl refl

-- ---- the heads
pub record HeadDual (k d a b : ℕ) (excess : ℤ) (z : Option ℤ) : Type 0 where
  pub least : ℤ
  pub most : ℤ
  pub some : pos 0 ≤ℤ least
  pub few : least ≤ℤ (pos d *ℤ pos k)
  pub none : most ≤ℤ pos 0
  pub paid : IfSome z (λ v. (least +ℤ most +ℤ excess) ≤ℤ v)
  pub share : trees_share a b z ≤ℤ (least *ℤ pos a +ℤ most *ℤ pos b +ℤ excess *ℤ pos b)

head_at : (a b : ℕ) (z : ℤ) → a ≤ b → (trees_share a b (Some z) ≤ℤ (z *ℤ pos b)) × (pos 0 ≤ℤ z → trees_share a b (Some z) ≤ℤ (z *ℤ pos a))
head_at a b (pos z) h = let c = *ℤ_comm (pos a) (pos z) in let m = times_mono (pos z) a b (omega (arith, ints)) h in (omega (arith, ints), λ p. omega (arith, ints))
head_at a b (negsuc z) h = let c = *ℤ_comm (pos b) (negsuc z) in (omega (arith, ints), λ p. absurd (omega (arith, ints)))

pub head_dual : (k d a b : ℕ) (excess : ℤ) (z : Option ℤ) → a ≤ b → pos 0 ≤ℤ excess → IfSome z (λ v. v ≤ℤ (pos d *ℤ pos k)) → HeadDual k d a b excess z
head_dual k d a b x None h s r =
    let m = times_mono x 0 b s (omega arith) in
    record { least = pos 0; most = pos 0; some = omega (arith, ints); few = omega (arith, ints); none = omega (arith, ints); paid = tt; share = omega (arith, ints) }
head_dual k d a b x (Some z) h s r = by (either_z (pos 0) (z -ℤ x))
  where
    by : (pos 0 ≤ℤ (z -ℤ x)) ⊎ ((z -ℤ x) ≤ℤ pos 0) → HeadDual k d a b x (Some z)
    by (inl g) =
        let m = times_mono x a b s h in
        let t = add_times z (neg_ℤ x) a in
        let n = neg_times x a in
        let u = (head_at a b z h).1 (omega (arith, ints)) in
        record { least = z -ℤ x; most = pos 0; some = g; few = omega (arith, ints); none = omega (arith, ints); paid = omega (arith, ints); share = omega (arith, ints) }
    by (inr g) =
        let t = add_times z (neg_ℤ x) b in
        let n = neg_times x b in
        let u = (head_at a b z h).0 in
        record { least = pos 0; most = z -ℤ x; some = omega (arith, ints); few = omega (arith, ints); none = g; paid = omega (arith, ints); share = omega (arith, ints) }
