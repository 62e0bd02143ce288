-- The worked plans, computed.
use Rattle.std.proofs.Common.{true, false, [], ◌∷◌, codes, arith, refl, inl, inr}
use Rattle.plan_meaning.specs.Shifts.{IsShiftBy, word_hours}
use Rattle.plan_meaning.specs.WorkedPlans.{shop, full, part, line, WorkedShop, WorkedTimes}

cheapest_full : IsShiftBy shop full (codes "...ccmccccc.") 12500
unfolding word_hours
cheapest_full = record {
  day = refl;
  before = 46 ∷ 46 ∷ 46 ∷ [];
  work = 99 ∷ 99 ∷ 109 ∷ 99 ∷ 99 ∷ 99 ∷ 99 ∷ 99 ∷ [];
  after = 46 ∷ [];
  word = refl;
  off_before = (refl, (refl, (refl, tt)));
  off_after = (refl, tt);
  changes = 0;
  duty = record {
    lasts = (omega arith, omega arith);
    begins = (omega arith, omega arith);
    starts = tt;
    ends = tt;
    parts = (
      99 ∷ 99 ∷ [],
      109 ∷ 99 ∷ 99 ∷ 99 ∷ 99 ∷ 99 ∷ [],
      0,
      0,
      refl,
      refl,
      record {
        first = record { line = line 99 true 120 300 1500; word = 99 ∷ 99 ∷ [] };
        others = [];
        blocks = (record { one = inr (inl refl); run = record { listed = (inr (inl refl)); alone = (refl, (refl, tt)); lasts = (omega arith, omega arith) } }, tt);
        differ = tt;
        word = refl;
        may_change = tt;
        lasts = (omega arith, omega arith);
        changes_are = refl;
      },
      (
        109 ∷ [],
        99 ∷ 99 ∷ 99 ∷ 99 ∷ 99 ∷ [],
        0,
        0,
        refl,
        refl,
        (record { line = line 109 false 60 60 0; own = refl; run = record { listed = (inr (inr (inr (inl refl)))); alone = (refl, tt); lasts = (omega arith, omega arith) }; begins = (omega arith, omega arith) }, refl),
        (
          99 ∷ 99 ∷ 99 ∷ 99 ∷ 99 ∷ [],
          [],
          0,
          0,
          refl,
          refl,
          record {
            first = record { line = line 99 true 120 300 1500; word = 99 ∷ 99 ∷ 99 ∷ 99 ∷ 99 ∷ [] };
            others = [];
            blocks = (record { one = inr (inl refl); run = record { listed = (inr (inl refl)); alone = (refl, (refl, (refl, (refl, (refl, tt))))); lasts = (omega arith, omega arith) } }, tt);
            differ = tt;
            word = refl;
            may_change = tt;
            lasts = (omega arith, omega arith);
            changes_are = refl;
          },
          (refl, refl),
        ),
      ),
    );
  };
  paid = refl;
}

dearest_full : IsShiftBy shop full (codes ".ccssmccss..") 14200
unfolding word_hours
dearest_full = record {
  day = refl;
  before = 46 ∷ [];
  work = 99 ∷ 99 ∷ 115 ∷ 115 ∷ 109 ∷ 99 ∷ 99 ∷ 115 ∷ 115 ∷ [];
  after = 46 ∷ 46 ∷ [];
  word = refl;
  off_before = (refl, tt);
  off_after = (refl, (refl, tt));
  changes = 2;
  duty = record {
    lasts = (omega arith, omega arith);
    begins = (omega arith, omega arith);
    starts = tt;
    ends = tt;
    parts = (
      99 ∷ 99 ∷ 115 ∷ 115 ∷ [],
      109 ∷ 99 ∷ 99 ∷ 115 ∷ 115 ∷ [],
      1,
      1,
      refl,
      refl,
      record {
        first = record { line = line 99 true 120 300 1500; word = 99 ∷ 99 ∷ [] };
        others = (record { line = line 115 true 120 300 1500; word = 115 ∷ 115 ∷ [] }) ∷ [];
        blocks = (record { one = inr (inl refl); run = record { listed = (inr (inl refl)); alone = (refl, (refl, tt)); lasts = (omega arith, omega arith) } }, (record { one = inr (inr (inl refl)); run = record { listed = (inr (inr (inl refl))); alone = (refl, (refl, tt)); lasts = (omega arith, omega arith) } }, tt));
        differ = ((λ e. omega (arith, e)), tt);
        word = refl;
        may_change = tt;
        lasts = (omega arith, omega arith);
        changes_are = refl;
      },
      (
        109 ∷ [],
        99 ∷ 99 ∷ 115 ∷ 115 ∷ [],
        0,
        1,
        refl,
        refl,
        (record { line = line 109 false 60 60 0; own = refl; run = record { listed = (inr (inr (inr (inl refl)))); alone = (refl, tt); lasts = (omega arith, omega arith) }; begins = (omega arith, omega arith) }, refl),
        (
          99 ∷ 99 ∷ 115 ∷ 115 ∷ [],
          [],
          1,
          0,
          refl,
          refl,
          record {
            first = record { line = line 99 true 120 300 1500; word = 99 ∷ 99 ∷ [] };
            others = (record { line = line 115 true 120 300 1500; word = 115 ∷ 115 ∷ [] }) ∷ [];
            blocks = (record { one = inr (inl refl); run = record { listed = (inr (inl refl)); alone = (refl, (refl, tt)); lasts = (omega arith, omega arith) } }, (record { one = inr (inr (inl refl)); run = record { listed = (inr (inr (inl refl))); alone = (refl, (refl, tt)); lasts = (omega arith, omega arith) } }, tt));
            differ = ((λ e. omega (arith, e)), tt);
            word = refl;
            may_change = tt;
            lasts = (omega arith, omega arith);
            changes_are = refl;
          },
          (refl, refl),
        ),
      ),
    );
  };
  paid = refl;
}

cheapest_part : IsShiftBy shop part (codes ".........ccc") 5700
unfolding word_hours
cheapest_part = record {
  day = refl;
  before = 46 ∷ 46 ∷ 46 ∷ 46 ∷ 46 ∷ 46 ∷ 46 ∷ 46 ∷ 46 ∷ [];
  work = 99 ∷ 99 ∷ 99 ∷ [];
  after = [];
  word = refl;
  off_before = (refl, (refl, (refl, (refl, (refl, (refl, (refl, (refl, (refl, tt)))))))));
  off_after = tt;
  changes = 0;
  duty = record {
    lasts = (omega arith, omega arith);
    begins = tt;
    starts = tt;
    ends = tt;
    parts = (
      99 ∷ 99 ∷ 99 ∷ [],
      [],
      0,
      0,
      refl,
      refl,
      record {
        first = record { line = line 99 true 120 300 1500; word = 99 ∷ 99 ∷ 99 ∷ [] };
        others = [];
        blocks = (record { one = inr (inl refl); run = record { listed = (inr (inl refl)); alone = (refl, (refl, (refl, tt))); lasts = (omega arith, omega arith) } }, tt);
        differ = tt;
        word = refl;
        may_change = tt;
        lasts = (omega arith, omega arith);
        changes_are = refl;
      },
      (refl, refl),
    );
  };
  paid = refl;
}

dearest_part : IsShiftBy shop part (codes ".......cccss") 8800
unfolding word_hours
dearest_part = record {
  day = refl;
  before = 46 ∷ 46 ∷ 46 ∷ 46 ∷ 46 ∷ 46 ∷ 46 ∷ [];
  work = 99 ∷ 99 ∷ 99 ∷ 115 ∷ 115 ∷ [];
  after = [];
  word = refl;
  off_before = (refl, (refl, (refl, (refl, (refl, (refl, (refl, tt)))))));
  off_after = tt;
  changes = 1;
  duty = record {
    lasts = (omega arith, omega arith);
    begins = tt;
    starts = tt;
    ends = tt;
    parts = (
      99 ∷ 99 ∷ 99 ∷ 115 ∷ 115 ∷ [],
      [],
      1,
      0,
      refl,
      refl,
      record {
        first = record { line = line 99 true 120 300 1500; word = 99 ∷ 99 ∷ 99 ∷ [] };
        others = (record { line = line 115 true 120 300 1500; word = 115 ∷ 115 ∷ [] }) ∷ [];
        blocks = (record { one = inr (inl refl); run = record { listed = (inr (inl refl)); alone = (refl, (refl, (refl, tt))); lasts = (omega arith, omega arith) } }, (record { one = inr (inr (inl refl)); run = record { listed = (inr (inr (inl refl))); alone = (refl, (refl, tt)); lasts = (omega arith, omega arith) } }, tt));
        differ = ((λ e. omega (arith, e)), tt);
        word = refl;
        may_change = tt;
        lasts = (omega arith, omega arith);
        changes_are = refl;
      },
      (refl, refl),
    );
  };
  paid = refl;
}

pub worked_shop : WorkedShop
worked_shop = record {
  cheapest_full = cheapest_full;
  dearest_full = dearest_full;
  cheapest_part = cheapest_part;
  dearest_part = dearest_part;
}

pub worked_times : WorkedTimes
worked_times = record {
  ward_periods = refl;
  ward_ends = refl;
  ward_night = refl;
  round_length = refl;
  round_begin = refl;
  midnight_end = refl;
  midnight_begin = refl;
  kiosk_before = refl;
  kiosk_late = refl;
  break_paid = refl;
  meal_unpaid = refl;
}
