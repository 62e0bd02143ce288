-- What rosters cost on the relaxed day.
use Rattle.std.proofs.Common.{◌≡◌, ℕ, ◌+◌, List, refl, sym, ap, ◌∙◌, arith}
use Rattle.model_rosters.specs.declared.instance.Instance.{Instance}
use Rattle.model_rosters.specs.Duties.{Duty}
use Rattle.model_rosters.specs.Rosters.{Costs}
use Rattle.model_rosters.specs.SoundInstance.{IsSoundInstance}
use Rattle.law_bounds.specs.least_values.Laws.{HaveLeastSums}
use Rattle.text_relaxed_days.specs.declared.kind.Kind.{Kind}
use Rattle.text_relaxed_days.specs.Laws.{TellsHowFar, RelaxedDaysTell}
use Rattle.text_relaxed_days.specs.Relaxed.{relaxed}
use Rattle.text_relaxed_days.specs.Rosters.{IsRosterBut, all_amiss}
use Rattle.text_relaxed_days.proofs.RelaxedRosters.{AreShiftsAt, priced, shifts, heads-same, heads-again, free-shifts, shifts-free, few-covered, cells-back, cells-on, cells-cost, all-both, all-one}

module _ (kind : Kind) (i : Instance) (ds : List Duty) (sound : IsSoundInstance i) where
  back : (amount : ℕ) → Costs (relaxed kind i) ds amount → IsRosterBut kind i ds × (amount ≡ all_amiss kind i ds)
  back amount h =
      let paid = shifts-free kind i ds h.prices h.allowed.shifts in (
        record {
          shifts = paid.0;
          heads = heads-same kind i ds h.allowed.heads;
          coverage = cells-back i ds kind i.cells h.allowed.coverage;
        },
        omega (arith, h.total, paid.1, cells-cost i ds kind i.cells),
      )

  on : (amount : ℕ) → IsRosterBut kind i ds × (amount ≡ all_amiss kind i ds) → Costs (relaxed kind i) ds amount
  on amount h =
      let free = free-shifts kind i ds h.0.shifts in
      record {
        prices = free.prices;
        allowed = record {
          shifts = free.priced;
          heads = heads-again kind i ds h.0.heads;
          coverage = cells-on i ds kind i.cells (few-covered kind i sound ds h.0.shifts h.0.heads) h.0.coverage;
        };
        total = omega (arith, free.sum, h.1, cells-cost i ds kind i.cells);
      }

  free : ((amount : ℕ) × Costs i ds amount) → Costs (relaxed kind i) ds 0
  free h =
      let cells = all-one i ds kind i.cells h.1.allowed.coverage in
      on 0 (
        record {
          shifts = shifts i ds h.1.prices h.1.allowed.shifts;
          heads = h.1.allowed.heads;
          coverage = cells.0;
        },
        sym cells.1,
      )

  allowed : HaveLeastSums → Costs (relaxed kind i) ds 0 → (amount : ℕ) × Costs i ds amount
  allowed sums h =
      let but = back 0 h in
      let p = priced sums i sound.grammar ds but.0.shifts in (
        _,
        record {
          prices = p.0;
          allowed = record {
            shifts = p.1;
            heads = but.0.heads;
            coverage = all-both i ds kind i.cells but.0.coverage (sym but.1);
          };
          total = refl;
        },
      )

pub relaxed-tells : HaveLeastSums → (kind : Kind) → RelaxedDaysTell kind
relaxed-tells sums kind i sound = record {
  counted = λ ds amount. (back kind i ds sound amount, on kind i ds sound amount);
  allowed = λ ds. (free kind i ds sound, allowed kind i ds sound sums);
}
