-- Rounding the prices of a master's rows takes at most the loss off its value.
use Rattle.std.proofs.Common.{true≢false, ◌≡◌, ℕ, ℤ, zero, suc, arith, pos, negsuc, neg_ℤ, ◌+ℤ◌, ◌-ℤ◌, ◌*ℤ◌, ◌≤ℤ◌, ◌<ℤ◌, ◌+◌, ◌-◌, ◌*◌, ◌≤◌, ◌<◌, min, Bool, true, false, cond, List, [], ◌∷◌, length, refl, sym, ap, ◌∙◌, ◌⊎◌, inl, inr}
use Rattle.std.proofs.Math.Nat.{mul-le-mul_left}
use Rattle.std.proofs.lemmas.Int.{ints, clamps}
use Rattle.std.specs.Int.{int_min}
use Rattle.model_rosters.specs.declared.instance.Cell.{Cell}
use Rattle.model_rosters.specs.declared.instance.Cut.{Cut}
use Rattle.model_rosters.specs.declared.instance.Mult.{Mult}
use Rattle.model_rosters.specs.declared.instance.Side.{Side}
use Rattle.model_rosters.specs.declared.instance.Side.TheVariants.{Low, High}
use Rattle.model_rosters.specs.declared.grammar.ArcKey.{ArcKey}
use Rattle.model_rosters.specs.Folds.{sum_z, Each}
use Rattle.model_rosters.specs.Coverage.{penalty}
use Rattle.model_rosters.specs.Reduced.{CellPrice, CutPrice, cell_prices, cut_prices, mult_of, signed}
use Rattle.law_bounds.specs.Lagrangian.{least_from, cell_at, cell_share, share_of, cut_share}
use Rattle.law_bounds.proofs.linear_programs.Ring.{*ℤ-assoc, *ℤ-+ℤ, mul_nonneg}
use Rattle.law_bounds.proofs.linear_programs.Orders.{scale_le, times_add, times_le, times_swap, times_times}
use Rattle.law_bounds.specs.master_laws.Rows.{Row, side_row, cut_row, has_floor, has_ceiling}
use Rattle.law_bounds.specs.master_laws.Rounding.{CellLine, lines_from, line_sum, line_sums, IsMadeWhole, IsFloor, AreFloors, AreMults}
use Rattle.law_bounds.proofs.master_laws.RowSums.{worth, IsGood}
use Rattle.law_bounds.proofs.master_laws.Lines.{at, line_total, cells_of, cut_numbers, OfLine}
use Rattle.law_bounds.proofs.master_laws.Numbers.{add_times, neg_times, times_neg, times_mono, times_fall, own_le}

-- ---- a cell's share is that of some count in its range
least_from-is : (f : ℕ → ℤ) (a n : ℕ) → (k : ℕ) × (k ≤ n) × (least_from f a n ≡ f (a + k))
least_from-is f a zero = (0, omega arith, ap f (omega arith))
least_from-is f a (suc n) = by (least_from-is f a n) (lesser (least_from f a n) (f (a + suc n)))
  where
    lesser : (x y : ℤ) → (int_min x y ≡ x) ⊎ (int_min x y ≡ y)
    lesser x y = grind (arith, ints, clamps)

    by : ((k : ℕ) × (k ≤ n) × (least_from f a n ≡ f (a + k))) → (int_min (least_from f a n) (f (a + suc n)) ≡ least_from f a n) ⊎ (int_min (least_from f a n) (f (a + suc n)) ≡ f (a + suc n))
        → (k : ℕ) × (k ≤ suc n) × (int_min (least_from f a n) (f (a + suc n)) ≡ f (a + k))
    by h (inl e) = (h.0, omega (arith, h.1), e ∙ h.2)
    by h (inr e) = (suc n, omega arith, e)

pub share_is : (d most : ℕ) (q : CellPrice) → q.cell.floor ≤ min q.cell.ceiling most → (n : ℕ) × (q.cell.floor ≤ n) × (n ≤ q.cell.ceiling) × (n ≤ most) × (cell_share d most q ≡ cell_at d q n)
share_is d most q h =
    let x = least_from-is (cell_at d q) q.cell.floor (min q.cell.ceiling most - q.cell.floor) in
    (q.cell.floor + x.0, omega arith, omega (arith, x.1), omega (arith, x.1), x.2)

-- ---- numbers near d times x / kappa, e being 0 where they are equal
pub record IsNear (kappa : ℤ) (d e : ℕ) (x p : ℤ) : Type 0 where
  pub low : (kappa *ℤ p) ≤ℤ (x *ℤ pos d)
  pub high : (x *ℤ pos d) ≤ℤ (kappa *ℤ p +ℤ kappa *ℤ pos e)

abbrev pub AreNear : ℤ → ℕ → ℕ → List ℤ → List ℤ → Type 0
AreNear kappa d e [] [] = Unit {0}
AreNear kappa d e (x ∷ xs) (p ∷ ps) = IsNear kappa d e x p × AreNear kappa d e xs ps
AreNear kappa d e [] (p ∷ ps) = ⊥
AreNear kappa d e (x ∷ xs) [] = ⊥

abbrev pub AreNearMults : ℤ → ℕ → ℕ → List Mult → ℕ → List Cut → List ℤ → Type 0
AreNearMults kappa d e ms j [] [] = Unit {0}
AreNearMults kappa d e ms j (c ∷ cs) (x ∷ xs) = IsNear kappa d e (neg_ℤ (signed c.side x)) (mult_of ms j) × AreNearMults kappa d e ms (j + 1) cs xs
AreNearMults kappa d e ms j [] (x ∷ xs) = ⊥
AreNearMults kappa d e ms j (c ∷ cs) [] = ⊥

module _ (kappa : ℤ) (d : ℕ) (positive : pos 0 <ℤ kappa) where
  pub near_one : (x p : ℤ) → IsFloor kappa d x p → IsNear kappa d 1 x p
  near_one x p h = record { low = h.low; high = omega (arith, ints, h.high) }

  -- whole numbers are not rounded
  between : (w p : ℤ) → (kappa *ℤ p) ≤ℤ (kappa *ℤ w) → (kappa *ℤ w) <ℤ (kappa *ℤ p +ℤ kappa) → w ≤ℤ p
  between w p h l = by (w -ℤ p) refl
    where
      by : (z : ℤ) → w -ℤ p ≡ z → w ≤ℤ p
      by (negsuc n) e = omega (arith, ints)
      by (pos zero) e = omega (arith, ints)
      by (pos (suc n)) e =
          let a = scale_le kappa (p +ℤ pos 1) w (omega (arith, ints)) (omega (arith, ints)) in
          let b = *ℤ-+ℤ kappa p (pos 1) in
          absurd (omega (arith, ints))

  pub near_none : (x p : ℤ) → IsMadeWhole kappa d x → IsFloor kappa d x p → IsNear kappa d 0 x p
  near_none x p w h =
      let e = w.1 in
      let a = between w.0 p (omega (arith, ints, h.low)) (omega (arith, ints, h.high)) in
      let b = scale_le kappa w.0 p (omega (arith, ints)) a in
      record { low = h.low; high = omega (arith, ints) }

  pub all_near_one : (xs ps : List ℤ) → AreFloors kappa d xs ps → AreNear kappa d 1 xs ps
  all_near_one [] [] h = tt
  all_near_one [] (p ∷ ps) h = absurd h
  all_near_one (x ∷ xs) [] h = absurd h
  all_near_one (x ∷ xs) (p ∷ ps) h = (near_one x p h.0, all_near_one xs ps h.1)

  pub all_near_none : (xs ps : List ℤ) → Each (IsMadeWhole kappa d) xs → AreFloors kappa d xs ps → AreNear kappa d 0 xs ps
  all_near_none [] [] w h = tt
  all_near_none [] (p ∷ ps) w h = absurd h
  all_near_none (x ∷ xs) [] w h = absurd h
  all_near_none (x ∷ xs) (p ∷ ps) w h = (near_none x p w.0 h.0, all_near_none xs ps w.1 h.1)

  pub mults_near_one : (ms : List Mult) (j : ℕ) (cs : List Cut) (xs : List ℤ) → AreMults kappa d ms j cs xs → AreNearMults kappa d 1 ms j cs xs
  mults_near_one ms j [] [] h = tt
  mults_near_one ms j [] (x ∷ xs) h = absurd h
  mults_near_one ms j (c ∷ cs) [] h = absurd h
  mults_near_one ms j (c ∷ cs) (x ∷ xs) h = (near_one (neg_ℤ (signed c.side x)) (mult_of ms j) h.0, mults_near_one ms (j + 1) cs xs h.1)

  turned_whole : (s : Side) (x : ℤ) → IsMadeWhole kappa d x → IsMadeWhole kappa d (neg_ℤ (signed s x))
  turned_whole Low x w = let a = neg_times x d in let b = times_neg kappa w.0 in let e = w.1 in (neg_ℤ w.0, omega (arith, ints))
  turned_whole High x w = let z : neg_ℤ (neg_ℤ x) ≡ x = omega (arith, ints) in rw z w

  pub mults_near_none : (ms : List Mult) (j : ℕ) (cs : List Cut) (xs : List ℤ) → Each (IsMadeWhole kappa d) xs → AreMults kappa d ms j cs xs → AreNearMults kappa d 0 ms j cs xs
  mults_near_none ms j [] [] w h = tt
  mults_near_none ms j [] (x ∷ xs) w h = absurd h
  mults_near_none ms j (c ∷ cs) [] w h = absurd h
  mults_near_none ms j (c ∷ cs) (x ∷ xs) w h =
      (near_none (neg_ℤ (signed c.side x)) (mult_of ms j) (turned_whole c.side x w.0) h.0, mults_near_none ms (j + 1) cs xs w.1 h.1)

-- ---- lines of cells without a floor or ceiling have no price there
pub record IsClean (l : CellLine) : Type 0 where
  pub floor : has_floor l.cell ≡ false → l.floor ≡ pos 0
  pub ceiling : has_ceiling l.cell ≡ false → l.ceiling ≡ pos 0

cond_clean : (b : Bool) (z : ℤ) → b ≡ false → cond b z (pos 0) ≡ pos 0
cond_clean true z e = absurd (true≢false e)
cond_clean false z e = refl

pub lines_clean : (y : ℕ → ℤ) (j f e : ℕ) (cs : List Cell) → Each IsClean (lines_from y j f e cs)
lines_clean y j f e [] = tt
lines_clean y j f e (c ∷ cs) = (
  record { floor = cond_clean (has_floor c) (y f); ceiling = cond_clean (has_ceiling c) (y e) },
  lines_clean y (suc j) (f + cond (has_floor c) 1 0) (e + cond (has_ceiling c) 1 0) cs,
)

-- a cell's rows all count the same letters
cond_times : (b : Bool) (z w : ℤ) → (b ≡ false → z ≡ pos 0) → cond b (z *ℤ w) (pos 0) ≡ z *ℤ w
cond_times true z w h = refl
cond_times false z w h = let e = h refl in rw e (omega (arith, ints))

pub line_count : (f : Cell → ℕ) (l : CellLine) → IsClean l
    → l.own *ℤ pos (f l.cell) +ℤ cond (has_floor l.cell) (l.floor *ℤ pos (f l.cell)) (pos 0) +ℤ cond (has_ceiling l.cell) (l.ceiling *ℤ pos (f l.cell)) (pos 0) ≡ line_sum l *ℤ pos (f l.cell)
line_count f l h =
    let n = f l.cell in
    let a = cond_times (has_floor l.cell) l.floor (pos n) h.floor in
    let b = cond_times (has_ceiling l.cell) l.ceiling (pos n) h.ceiling in
    let c = add_times (l.own +ℤ l.floor) l.ceiling n in
    let e = add_times l.own l.floor n in
    omega (arith, ints)

-- ---- a cell's share
module _ (kappa : ℤ) (k d e most : ℕ) (positive : pos 0 <ℤ kappa) where
  -- the floor's part at n employees, and the ceiling's
  floor_le : (b : Bool) (x : ℤ) (floor n : ℕ) → floor ≤ n → (b ≡ true → pos 0 ≤ℤ x) → (b ≡ false → x ≡ pos 0) → cond b (x *ℤ pos floor) (pos 0) ≤ℤ (x *ℤ pos n)
  floor_le true x floor n h s z = times_mono x floor n (s refl) h
  floor_le false x floor n h s z = let e = z refl in rw e (omega (arith, ints))

  ceiling_le : (b : Bool) (x : ℤ) (ceiling n : ℕ) → n ≤ ceiling → (b ≡ true → x ≤ℤ pos 0) → (b ≡ false → x ≡ pos 0) → cond b (x *ℤ pos ceiling) (pos 0) ≤ℤ (x *ℤ pos n)
  ceiling_le true x ceiling n h s z = times_fall x n ceiling (s refl) h
  ceiling_le false x ceiling n h s z = let e = z refl in rw e (omega (arith, ints))

  -- at a count in the range
  at_count : (l : CellLine) (p : ℤ) (n : ℕ) → OfLine (IsGood k kappa) l → IsClean l → IsNear kappa d e (line_sum l) p → l.cell.floor ≤ n → n ≤ l.cell.ceiling → n ≤ most
      → (line_total (worth (λ x. pos x.right)) l *ℤ pos d) ≤ℤ (kappa *ℤ cell_at d (record { cell = l.cell; price = p }) n +ℤ kappa *ℤ pos (e * most))
  at_count l p n good clean near h1 h2 h3 =
      let c = l.cell in
      let s = line_sum l in
      let a1 = own_le kappa l.own c.under c.over c.need n good.own.0 good.own.1 in
      let a2 = floor_le (has_floor c) l.floor c.floor n h1 (λ t. (good.floor t).0) clean.floor in
      let a3 = ceiling_le (has_ceiling c) l.ceiling c.ceiling n h2 good.ceiling clean.ceiling in
      let b1 = add_times (l.own +ℤ l.floor) l.ceiling n in
      let b2 = add_times l.own l.floor n in
      let total : line_total (worth (λ x. pos x.right)) l ≤ℤ (kappa *ℤ pos (penalty c n) +ℤ s *ℤ pos n) = omega (arith, ints) in
      let t1 = times_le (line_total (worth (λ x. pos x.right)) l) (kappa *ℤ pos (penalty c n) +ℤ s *ℤ pos n) d total in
      let t2 = add_times (kappa *ℤ pos (penalty c n)) (s *ℤ pos n) d in
      let t3 : (kappa *ℤ pos (penalty c n)) *ℤ pos d ≡ kappa *ℤ (pos d *ℤ pos (penalty c n)) = times_times kappa (penalty c n) d ∙ ap (λ m. kappa *ℤ pos m) (omega arith) in
      let t4 = times_swap s n d in
      let t5 = times_le (s *ℤ pos d) (kappa *ℤ p +ℤ kappa *ℤ pos e) n near.high in
      let t6 = add_times (kappa *ℤ p) (kappa *ℤ pos e) n in
      let t7 = *ℤ-assoc kappa p (pos n) in
      let t8 = times_times kappa e n in
      let t9 = times_mono kappa (e * n) (e * most) (omega (arith, ints)) (small n h3) in
      let u = *ℤ-+ℤ kappa (pos d *ℤ pos (penalty c n)) (p *ℤ pos n) in
      omega (arith, ints)
    where
      small : (n : ℕ) → n ≤ most → e * n ≤ e * most
      small n h = grind (arith, mul-le-mul_left)

  pub line_le : (l : CellLine) (p : ℤ) → OfLine (IsGood k kappa) l → IsClean l → IsNear kappa d e (line_sum l) p → l.cell.floor ≤ min l.cell.ceiling most
      → (line_total (worth (λ x. pos x.right)) l *ℤ pos d) ≤ℤ (kappa *ℤ cell_share d most (record { cell = l.cell; price = p }) +ℤ kappa *ℤ pos (e * most))
  line_le l p good clean near fits =
      let x = share_is d most (record { cell = l.cell; price = p }) fits in
      rw x.4 (at_count l p x.0 good clean near x.1 x.2 x.3)

  pub lines_le : (ls : List CellLine) (ps : List ℤ) → Each (OfLine (IsGood k kappa)) ls → Each IsClean ls → AreNear kappa d e (line_sums ls) ps
      → Each (λ (c : Cell). c.floor ≤ min c.ceiling most) (cells_of ls)
      → (sum_z (line_total (worth (λ x. pos x.right))) ls *ℤ pos d) ≤ℤ (kappa *ℤ sum_z (cell_share d most) (cell_prices (cells_of ls) ps) +ℤ kappa *ℤ pos (e * most * length ls))
  lines_le [] [] g c n o = omega (arith, ints)
  lines_le [] (p ∷ ps) g c n o = absurd n
  lines_le (l ∷ ls) [] g c n o = absurd n
  lines_le (l ∷ ls) (p ∷ ps) g c n o =
      let a = line_le l p g.0 c.0 n.0 o.0 in
      let r = lines_le ls ps g.1 c.1 n.1 o.1 in
      let b = add_times (line_total (worth (λ x. pos x.right)) l) (sum_z (line_total (worth (λ x. pos x.right))) ls) d in
      let s = *ℤ-+ℤ kappa (cell_share d most (record { cell = l.cell; price = p })) (sum_z (cell_share d most) (cell_prices (cells_of ls) ps)) in
      let f : e * most + e * most * length ls ≡ e * most * length (l ∷ ls) = more (e * most) (length ls) in
      let t : kappa *ℤ pos (e * most * length (l ∷ ls)) ≡ kappa *ℤ pos (e * most) +ℤ kappa *ℤ pos (e * most * length ls) = sym (ap (λ m. kappa *ℤ pos m) f) ∙ times_add kappa (e * most) (e * most * length ls) in
      omega (arith, ints)
    where
      more : (m n : ℕ) → m + m * n ≡ m * suc n
      more m n = omega arith

  -- what the cells' letters of a tree are paid
  pub covers_le : (f : Cell → ℕ) (ls : List CellLine) (ps : List ℤ) → Each IsClean ls → AreNear kappa d e (line_sums ls) ps
      → (kappa *ℤ sum_z (λ (q : CellPrice). q.price *ℤ pos (f q.cell)) (cell_prices (cells_of ls) ps)) ≤ℤ (sum_z (λ (l : CellLine). line_sum l *ℤ pos (f l.cell)) ls *ℤ pos d)
  covers_le f [] [] c n = omega (arith, ints)
  covers_le f [] (p ∷ ps) c n = absurd n
  covers_le f (l ∷ ls) [] c n = absurd n
  covers_le f (l ∷ ls) (p ∷ ps) c n =
      let r = covers_le f ls ps c.1 n.1 in
      let a = times_le (kappa *ℤ p) (line_sum l *ℤ pos d) (f l.cell) n.0.low in
      let b = *ℤ-assoc kappa p (pos (f l.cell)) in
      let s = times_swap (line_sum l) d (f l.cell) in
      let t = *ℤ-+ℤ kappa (p *ℤ pos (f l.cell)) (sum_z (λ (q : CellPrice). q.price *ℤ pos (f q.cell)) (cell_prices (cells_of ls) ps)) in
      let u = add_times (line_sum l *ℤ pos (f l.cell)) (sum_z (λ (l : CellLine). line_sum l *ℤ pos (f l.cell)) ls) d in
      omega (arith, ints)

  -- ---- cuts
  cut_le : (s : Side) (b : ℕ) (a : ArcKey) (x m : ℤ) → b < most → IsNear kappa d e (neg_ℤ (signed s x)) m
      → (worth (λ (r : Row). pos r.right) (at (side_row s b a) x) *ℤ pos d) ≤ℤ (kappa *ℤ share_of s m b +ℤ kappa *ℤ pos (e * most))
  cut_le Low b a x m h near =
      -- kappa m <= -x d, and the share is -(m b)
      let t1 = times_le (kappa *ℤ m) (neg_ℤ x *ℤ pos d) b near.low in
      let t2 = neg_times x d in
      let t3 = neg_times (x *ℤ pos d) b in
      let t4 = times_swap x b d in
      let t5 = *ℤ-assoc kappa m (pos b) in
      let t6 = times_neg kappa (m *ℤ pos b) in
      let z = mul_nonneg kappa (pos (e * most)) (omega (arith, ints)) (omega (arith, ints)) in
      let t1' : ((kappa *ℤ m) *ℤ pos b) ≤ℤ (neg_ℤ (x *ℤ pos d) *ℤ pos b) = rw t2 at t1 in
      omega (arith, ints)
  cut_le High b a x m h near =
      let e1 : neg_ℤ (neg_ℤ x) ≡ x = omega (arith, ints) in
      let high : (x *ℤ pos d) ≤ℤ (kappa *ℤ m +ℤ kappa *ℤ pos e) = rw e1 at near.high in
      let t1 = times_le (x *ℤ pos d) (kappa *ℤ m +ℤ kappa *ℤ pos e) (b + 1) high in
      let t2 = times_swap x (b + 1) d in
      let t3 = add_times (kappa *ℤ m) (kappa *ℤ pos e) (b + 1) in
      let t4 = *ℤ-assoc kappa m (pos (b + 1)) in
      let t5 = times_times kappa e (b + 1) in
      let t6 = times_mono kappa (e * (b + 1)) (e * most) (omega (arith, ints)) (small (b + 1) (omega arith)) in
      omega (arith, ints)
    where
      small : (n : ℕ) → n ≤ most → e * n ≤ e * most
      small n h = grind (arith, mul-le-mul_left)

  pub cuts_le : (ms : List Mult) (j : ℕ) (cs : List Cut) (xs : List ℤ) → Each (λ (c : Cut). c.b < most) cs → AreNearMults kappa d e ms j cs xs
      → (sum_z (worth (λ (r : Row). pos r.right)) (cut_numbers cs xs) *ℤ pos d) ≤ℤ (kappa *ℤ sum_z cut_share (cut_prices j cs ms) +ℤ kappa *ℤ pos (e * most * length cs))
  cuts_le ms j [] [] h near = omega (arith, ints)
  cuts_le ms j [] (x ∷ xs) h near = absurd near
  cuts_le ms j (c ∷ cs) [] h near = absurd near
  cuts_le ms j (c ∷ cs) (x ∷ xs) h near =
      let a = cut_le c.side c.b c.arc x (mult_of ms j) h.0 near.0 in
      let r = cuts_le ms (j + 1) cs xs h.1 near.1 in
      let b = add_times (worth (λ (r : Row). pos r.right) (at (cut_row c) x)) (sum_z (worth (λ (r : Row). pos r.right)) (cut_numbers cs xs)) d in
      let s = *ℤ-+ℤ kappa (share_of c.side (mult_of ms j) c.b) (sum_z cut_share (cut_prices (j + 1) cs ms)) in
      let f : e * most + e * most * length cs ≡ e * most * length (c ∷ cs) = more (e * most) (length cs) in
      let t : kappa *ℤ pos (e * most * length (c ∷ cs)) ≡ kappa *ℤ pos (e * most) +ℤ kappa *ℤ pos (e * most * length cs) = sym (ap (λ m. kappa *ℤ pos m) f) ∙ times_add kappa (e * most) (e * most * length cs) in
      omega (arith, ints)
    where
      more : (m n : ℕ) → m + m * n ≡ m * suc n
      more m n = omega arith

  -- what a tree that has the arc at most once pays for a cut
  cut_pay : (s : Side) (b : ℕ) (a : ArcKey) (x m : ℤ) (n : ℕ) → n ≤ 1 → IsNear kappa d e (neg_ℤ (signed s x)) m
      → neg_ℤ ((x *ℤ pos n) *ℤ pos d) ≤ℤ (kappa *ℤ (signed s m *ℤ pos n) +ℤ kappa *ℤ pos e)
  cut_pay Low b a x m n h near =
      let t1 = times_le (neg_ℤ x *ℤ pos d) (kappa *ℤ m +ℤ kappa *ℤ pos e) n near.high in
      let t2 = neg_times x d in
      let t1' : (neg_ℤ (x *ℤ pos d) *ℤ pos n) ≤ℤ ((kappa *ℤ m +ℤ kappa *ℤ pos e) *ℤ pos n) = rw t2 at t1 in
      let t3 = neg_times (x *ℤ pos d) n in
      let t4 = times_swap x n d in
      let t5 = add_times (kappa *ℤ m) (kappa *ℤ pos e) n in
      let t6 = *ℤ-assoc kappa m (pos n) in
      let t7 = times_mono (kappa *ℤ pos e) n 1 (mul_nonneg kappa (pos e) (omega (arith, ints)) (omega (arith, ints))) h in
      omega (arith, ints)
  cut_pay High b a x m n h near =
      let e1 : neg_ℤ (neg_ℤ x) ≡ x = omega (arith, ints) in
      let low : (kappa *ℤ m) ≤ℤ (x *ℤ pos d) = rw e1 at near.low in
      let t1 = times_le (kappa *ℤ m) (x *ℤ pos d) n low in
      let t4 = times_swap x n d in
      let t5 = *ℤ-assoc kappa m (pos n) in
      let t6 = neg_times m n in
      let t7 = times_neg kappa (m *ℤ pos n) in
      let z = mul_nonneg kappa (pos e) (omega (arith, ints)) (omega (arith, ints)) in
      let t8 : kappa *ℤ (neg_ℤ m *ℤ pos n) ≡ neg_ℤ (kappa *ℤ (m *ℤ pos n)) = ap (λ (z : ℤ). kappa *ℤ z) t6 ∙ t7 in
      omega (arith, ints)

  pub cuts_pay : (count_of : ArcKey → ℕ) (ms : List Mult) (j : ℕ) (cs : List Cut) (xs : List ℤ) → ((a : ArcKey) → count_of a ≤ 1) → AreNearMults kappa d e ms j cs xs
      → (brings : Row → ℕ) → ((s : Side) (b : ℕ) (a : ArcKey) → brings (side_row s b a) ≡ count_of a)
      → neg_ℤ (sum_z (worth (λ (r : Row). pos (brings r))) (cut_numbers cs xs) *ℤ pos d) ≤ℤ (kappa *ℤ sum_z (λ (k : CutPrice). signed k.cut.side k.mult *ℤ pos (count_of k.cut.arc)) (cut_prices j cs ms) +ℤ kappa *ℤ pos (e * length cs))
  cuts_pay count_of ms j [] [] h near brings same = omega (arith, ints)
  cuts_pay count_of ms j [] (x ∷ xs) h near brings same = absurd near
  cuts_pay count_of ms j (c ∷ cs) [] h near brings same = absurd near
  cuts_pay count_of ms j (c ∷ cs) (x ∷ xs) h near brings same =
      let a = cut_pay c.side c.b c.arc x (mult_of ms j) (count_of c.arc) (h c.arc) near.0 in
      let r = cuts_pay count_of ms (j + 1) cs xs h near.1 brings same in
      let i = same c.side c.b c.arc in
      let i' : x *ℤ pos (brings (cut_row c)) ≡ x *ℤ pos (count_of c.arc) = ap (λ n. x *ℤ pos n) i in
      let b = add_times (x *ℤ pos (brings (cut_row c))) (sum_z (worth (λ (r : Row). pos (brings r))) (cut_numbers cs xs)) d in
      let i'' : (x *ℤ pos (brings (cut_row c))) *ℤ pos d ≡ (x *ℤ pos (count_of c.arc)) *ℤ pos d = ap (λ (z : ℤ). z *ℤ pos d) i' in
      let s = *ℤ-+ℤ kappa (signed c.side (mult_of ms j) *ℤ pos (count_of c.arc)) (sum_z (λ (k : CutPrice). signed k.cut.side k.mult *ℤ pos (count_of k.cut.arc)) (cut_prices (j + 1) cs ms)) in
      let f : e + e * length cs ≡ e * length (c ∷ cs) = more e (length cs) in
      let t : kappa *ℤ pos (e * length (c ∷ cs)) ≡ kappa *ℤ pos e +ℤ kappa *ℤ pos (e * length cs) = sym (ap (λ m. kappa *ℤ pos m) f) ∙ times_add kappa e (e * length cs) in
      omega (arith, ints)
    where
      more : (m n : ℕ) → m + m * n ≡ m * suc n
      more m n = omega arith
