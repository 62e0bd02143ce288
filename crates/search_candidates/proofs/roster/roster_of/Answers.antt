use Rattle.std.proofs.Common.{◌≤◌, ℕ, Option, None, Some, arith}
use Rattle.search_candidates.specs.declared.roster.Roster.{Roster}
use Rattle.search_candidates.specs.Rosters.{CostsAtMost}
use Rattle.search_candidates.proofs.OrderedShifts.{trees-long, priced-shifts, spelled-roster}
use Rattle.search_candidates.proofs.roster.roster_of.Goals as goal

pub returns-then-columns-gt-MOST_SHIFTS-clause-roster : goal.returns-then-columns-gt-MOST_SHIFTS-clause-roster
returns-then-columns-gt-MOST_SHIFTS-clause-roster c = record {
  good = tt;
  cost = λ ts at roster meets.
      let long = trees-long c.args.instance.now.grammar c.args.pool.now c.args.columns.now ts at in
      omega (arith, long, roster.few, c.requires.workspace.sound.few, c.if-columns-gt-MOST_SHIFTS.true);
}

pub judged-requires-clause-shifts : goal.judged-requires-clause-shifts
judged-requires-clause-shifts c =
    priced-shifts c.args.instance.now c.args.pool.now c.args.columns.now c.in_ok-shifts.shifts c.in_ok-shifts.ensures.shifts.spelled c.requires.pool c.requires.columns
    c.if-columns-gt-MOST_SHIFTS.false c.in_ok-shifts.ensures.shifts.ascending

pub returns-clause-roster : goal.returns-clause-roster
returns-clause-roster c = record {
  good = c.judged.ensures.roster;
  cost = λ ts at roster meets.
      let h = spelled-roster c.args.instance.now c.args.pool.now c.args.columns.now c.in_ok-shifts.shifts c.in_ok-shifts.ensures.shifts.spelled c.requires.workspace.sound ts at roster meets in
      less _ _ h.1 c.judged.result (c.judged.ensures.cost h.0);
}
  where
    less : (m n : ℕ) → m ≤ n → (r : Option Roster) → CostsAtMost m r → CostsAtMost n r
    less m n l None h = absurd h
    less m n l (Some r) h = omega (arith, l, h)
