-- A roster of the remaining day beside the kept shifts is one of the day, and the other way round.
use Rattle.std.proofs.Common.{◌≡◌, ℕ, arith, ◌+◌, ◌-◌, ◌*◌, ◌≤◌, List, [], ◌∷◌, ◌++◌, length, map, refl, sym, ap, subst, ◌∙◌, ◌⊎◌, inl, inr}
use Rattle.std.specs.Prelude.{nat_eq}
use Rattle.std.proofs.lemmas.Bool.{cases_eq}
use Rattle.model_rosters.specs.declared.instance.Cell.{Cell}
use Rattle.model_rosters.specs.declared.instance.Instance.{Instance}
use Rattle.model_rosters.specs.Coverage.{covers_cell, covered, penalty, overstaffing, IsWithinCell}
use Rattle.model_rosters.specs.Duties.{Duty}
use Rattle.model_rosters.specs.Folds.{sum_n, count, Each, In}
use Rattle.model_rosters.specs.Rosters.{ArePrices, is_in_team, HasHeads, IsRoster, roster_cost, Costs}
use Rattle.model_rosters.specs.Teams.{Team, teams}
use Rattle.model_rosters.proofs.EachLemmas.{Each-at, Each-in}
use Rattle.model_rosters.proofs.arc_laws.FoldsLemmas.{count-append, sum_n-append, count-le-length}
use Rattle.check_certificates.proofs.certificate_laws.NoCause.{one-prices}
use Rattle.check_values.specs.remaining_day.Remaining.{kept_of, cell_left, AreWithin, kept_penalty}
use Rattle.check_values.specs.remaining_day.Laws.{AreSameShifts, kept_cost, AreWhole, AreRest}
use Rattle.check_values.proofs.OrdersLemmas.{any-order}
use Rattle.check_values.proofs.PriceLists.{join_prices, part_prices}
use Rattle.check_values.proofs.remaining_day.CellsLeft.{penalty_left, within_whole, within_rest}
use Rattle.check_values.proofs.remaining_day.GroupsLeft.{Leaves}
use Rattle.check_values.proofs.remaining_day.SameShifts.{AreTeamsLeft, count_same, count_gone, cover_same, lift, lower}

-- the day and its remaining day
pub record IsLeft (i r : Instance) (kept : List Duty) : Type 0 where
  pub matching : AreTeamsLeft i r kept
  pub cells : r.cells ≡ map (cell_left i.grammar kept) i.cells
  pub ordered : (t : Team) → In t (teams i) → t.least ≤ t.most
  pub few : (ds : List Duty) (ps : List ℕ) → ArePrices i ds ps → Each (HasHeads ds) (teams i) → length ds ≤ 64

module _ (i r : Instance) (kept : List Duty) (left : IsLeft i r kept) (ds es : List Duty) (same : AreSameShifts i r ds es) where
  -- ---- heads

  heads_whole : (t : Team) → In t (teams i) → count (is_in_team t) kept ≤ t.most → Each (HasHeads es) (teams r) → HasHeads (kept ++ ds) t
  heads_whole t listed fits h =
      let both = count-append (is_in_team t) kept ds in
      let order = left.ordered t listed in
      elim (cases_eq (t.most - kept_of t.number kept) 0) [
        | inl gone ↦
            let none = count_gone i r kept left.matching t listed gone ds es same in
            record { least = omega (arith, both, order, gone, none, fits); most = omega (arith, both, none, fits) }
        | inr some ↦
            let to = left.matching.down t listed (omega (arith, some)) in
            let u : Team = to.0 in
            let n = count_same i r kept left.matching t u listed to.1 to.2.named ds es same in
            let range = Each-at (HasHeads es) u (teams r) h to.1 in
            record {
              least = omega (arith, both, n, range.least, to.2.least);
              most = omega (arith, both, n, range.most, to.2.most, fits);
            }
      ]

  heads_rest : (u : Team) → In u (teams r) → Each (HasHeads (kept ++ ds)) (teams i) → HasHeads es u
  heads_rest u listed h =
      let from = left.matching.up u listed in
      let t : Team = from.0 in
      let both = count-append (is_in_team t) kept ds in
      let n = count_same i r kept left.matching t u from.1 listed from.2.named ds es same in
      let range = Each-at (HasHeads (kept ++ ds)) t (teams i) h from.1 in
      record {
        least = omega (arith, both, n, range.least, from.2.least);
        most = omega (arith, both, n, range.most, from.2.most);
      }

  -- ---- cells

  cover_both : (c : Cell) → covered i.grammar c (kept ++ ds) ≡ covered i.grammar c kept + covered r.grammar (cell_left i.grammar kept c) es
  cover_both c =
      let both = count-append (λ (d : Duty). covers_cell i.grammar c d.word) kept ds in
      let n = cover_same i r kept left.matching c ds es same in
      omega (arith, both, n)

  cells_whole : (cs : List Cell) → length (kept ++ ds) ≤ 64 → Each (λ (c : Cell). covered i.grammar c kept ≤ c.ceiling) cs
      → Each (λ (c : Cell). IsWithinCell c (covered r.grammar c es)) (map (cell_left i.grammar kept) cs) → Each (λ (c : Cell). IsWithinCell c (covered i.grammar c (kept ++ ds))) cs
  cells_whole [] few fits h = tt
  cells_whole (c ∷ cs) few fits h =
      let both = cover_both c in
      let most = count-le-length (λ (d : Duty). covers_cell i.grammar c d.word) (kept ++ ds) in
      let within = within_whole i.grammar kept c (covered r.grammar (cell_left i.grammar kept c) es) fits.0 (omega (arith, both, most, few)) h.0 in
      (subst (IsWithinCell c) (sym both) within, cells_whole cs few fits.1 h.1)

  cells_rest : (cs : List Cell) → Each (λ (c : Cell). IsWithinCell c (covered i.grammar c (kept ++ ds))) cs
      → Each (λ (c : Cell). IsWithinCell c (covered r.grammar c es)) (map (cell_left i.grammar kept) cs)
  cells_rest [] h = tt
  cells_rest (c ∷ cs) h =
      let within = subst (IsWithinCell c) (cover_both c) h.0 in
      (within_rest i.grammar kept c (covered r.grammar (cell_left i.grammar kept c) es) within, cells_rest cs h.1)

  -- ---- costs

  penalties : (cs : List Cell) → sum_n (λ (c : Cell). penalty c (covered i.grammar c (kept ++ ds))) cs
      ≡ sum_n (λ (c : Cell). penalty c (covered r.grammar c es)) (map (cell_left i.grammar kept) cs) + sum_n (λ (c : Cell). c.over * overstaffing c (covered i.grammar c kept)) cs
  penalties [] = refl
  penalties (c ∷ cs) =
      let first : penalty c (covered i.grammar c (kept ++ ds)) ≡ penalty (cell_left i.grammar kept c) (covered r.grammar (cell_left i.grammar kept c) es) + c.over * overstaffing c (covered i.grammar c kept) =
      ap (penalty c) (cover_both c) ∙ penalty_left i.grammar kept c (covered r.grammar (cell_left i.grammar kept c) es) in
      omega (arith, first, penalties cs)

  costs_add : (ps qs : List ℕ) → roster_cost i (kept ++ ds) (ps ++ qs) ≡ roster_cost r es qs + kept_cost i kept ps
  costs_add ps qs =
      let paid = sum_n-append (λ (p : ℕ). p) ps qs in
      let pens = penalties i.cells in
      let own : sum_n (λ (c : Cell). penalty c (covered r.grammar c es)) r.cells ≡ sum_n (λ (c : Cell). penalty c (covered r.grammar c es)) (map (cell_left i.grammar kept) i.cells) =
      ap (λ (cs : List Cell). sum_n (λ (c : Cell). penalty c (covered r.grammar c es)) cs) left.cells in
      omega (arith, paid, pens, own)

  pub roster_whole : (ps qs : List ℕ) → ArePrices i kept ps → AreWithin i kept → ArePrices i ds qs → IsRoster r es qs → IsRoster i (kept ++ ds) (ps ++ qs)
  roster_whole ps qs first within second h =
      let shifts = join_prices i kept ds ps qs first second in
      let heads : Each (HasHeads (kept ++ ds)) (teams i) =
      Each-in (HasHeads (kept ++ ds)) (teams i) (λ t listed. heads_whole t listed (Each-at (λ (t : Team). count (is_in_team t) kept ≤ t.most) t (teams i) within.heads listed) h.heads) in
      let few = left.few (kept ++ ds) (ps ++ qs) shifts heads in
      record {
        shifts = shifts;
        heads = heads;
        coverage = cells_whole i.cells few within.ceilings (subst (λ (cs : List Cell). Each (λ (c : Cell). IsWithinCell c (covered r.grammar c es)) cs) left.cells h.coverage);
      }

  pub roster_rest : (ps qs : List ℕ) → ArePrices r es qs → IsRoster i (kept ++ ds) (ps ++ qs) → IsRoster r es qs
  roster_rest ps qs shifts h = record {
    shifts = shifts;
    heads = Each-in (HasHeads es) (teams r) (λ u listed. heads_rest u listed h.heads);
    coverage = subst (λ (cs : List Cell). Each (λ (c : Cell). IsWithinCell c (covered r.grammar c es)) cs) (sym left.cells) (cells_rest i.cells h.coverage);
  }

module _ (i r : Instance) (kept : List Duty) (left : IsLeft i r kept) (prices : List ℕ) (first : ArePrices i kept prices) where
  pub whole : AreWithin i kept → AreWhole i r kept prices
  whole within es amount h =
      let up = lift i r kept left.matching es h.prices h.allowed.shifts in
      let ds : List Duty = up.0 in (
        ds,
        up.1,
        record {
          prices = prices ++ h.prices;
          allowed = roster_whole i r kept left ds es up.1 prices h.prices first within up.2 h.allowed;
          total = costs_add i r kept left ds es up.1 prices h.prices ∙ ap (λ (n : ℕ). n + kept_cost i kept prices) h.total;
        },
      )

  -- each team has room for what a roster has beside the kept shifts
  room : (ds : List Duty) → Each (HasHeads (kept ++ ds)) (teams i) → (t : Team) → In t (teams i) → kept_of t.number kept + count (is_in_team t) ds ≤ t.most
  room ds h t listed =
      let both = count-append (is_in_team t) kept ds in
      let range = Each-at (HasHeads (kept ++ ds)) t (teams i) h listed in
      omega (arith, both, range.most)

  pub rest : AreRest i r kept prices
  rest all ds amount order roster =
      let h : Costs i (kept ++ ds) amount = any-order i all (kept ++ ds) amount order roster in
      let parted = part_prices i kept ds h.prices h.allowed.shifts in
      let own : parted.first ≡ prices = one-prices i kept parted.first prices parted.of_first first in
      let both : h.prices ≡ prices ++ parted.second = parted.whole ∙ ap (λ (ps : List ℕ). ps ++ parted.second) own in
      let allowed : IsRoster i (kept ++ ds) (prices ++ parted.second) = subst (IsRoster i (kept ++ ds)) both h.allowed in
      let down = lower i r kept left.matching ds parted.second parted.of_second (room ds h.allowed.heads) in
      let es : List Duty = down.0 in
      let least : ℕ = roster_cost r es parted.second in (
        es,
        down.1,
        (
          least,
          record {
            prices = parted.second;
            allowed = roster_rest i r kept left ds es down.1 prices parted.second down.2 allowed;
            total = refl;
          },
          sym h.total ∙ ap (roster_cost i (kept ++ ds)) both ∙ costs_add i r kept left ds es down.1 prices parted.second,
        ),
      )
