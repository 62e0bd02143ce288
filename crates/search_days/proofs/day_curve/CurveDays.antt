-- The points of a curve, one after another.
use Rattle.std.proofs.Common.{◌≡◌, ℕ, arith, ◌≤◌, ◌<◌, ◌+◌, ◌-◌, ◌^◌, Bool, Some, List, [], length, refl, sym, ap, subst, ◌∙◌}
use Rattle.model_rosters.specs.declared.instance.Instance.{Instance}
use Rattle.model_rosters.specs.declared.instance.Shift.{Shift}
use Rattle.model_rosters.specs.Folds.{Each}
use Rattle.model_rosters.specs.SoundInstance.{IsSoundInstance}
use Rattle.check_certificates.specs.Sound.{IsSoundShift}
use Rattle.search_branch_price.specs.declared.found.Found.{Found}
use Rattle.search_branch_price.specs.Found.{IsFound}
use Rattle.search_watch.specs.Within.{IsWithin}
use Rattle.tree_pool.specs.Pools.{PoolTree, IsPool}
use Rattle.search_days.specs.declared.day_curve.staff.Staff.{Staff}
use Rattle.search_days.specs.day_curve.Curves.{first_heads, point_count, CurveView, IsCurve, IsNextPoint, new_curve, points_of, point_day, point_heads}
use Rattle.search_days.specs.day_curve.Staffs.{IsStaff, staff_least, staff_most, with_heads}
use Rattle.search_days.proofs.day_curve.StaffDays.{least-of, most-of, staff-of, heads-again, whole-day, few-groups, sound-with, shifts-of, staff-order, most-within}

pub first-of : (s : Staff) (i : Instance) (m : ℕ) → first_heads s (with_heads s i m) ≡ first_heads s i
first-of s i m = let same = least-of s i m in omega (arith, same)

pub count-of : (s : Staff) (i : Instance) (m : ℕ) → IsStaff i s → point_count s (with_heads s i m) ≡ m + 1 - first_heads s i
count-of s i m of = let least = least-of s i m in let most = most-of s i m of in omega (arith, least, most)

-- what a curve is made of
abbrev pub view_of : Instance → Staff → ℕ → ℕ → List Shift → CurveView
view_of i s most given kept = record { day = with_heads s i most; staff = s; given = given; kept = kept }

module _ (i : Instance) (s : Staff) (most given : ℕ) (pool : List PoolTree) (kept : List Shift) (c : IsCurve i s most given pool kept) where
  -- the day of its point
  pub day-is : point_day (view_of i s most given kept) ≡ i
  day-is =
      let first = first-of s i most in
      heads-again s i most (point_heads (view_of i s most given kept)) ∙ ap (λ (n : ℕ). with_heads s i (n + (given - 1))) first ∙ sym c.heads

  pub heads-is : staff_most s i ≡ point_heads (view_of i s most given kept)
  heads-is =
      let first = first-of s i most in
      let heads = ap (λ (d : Instance). staff_most s d) c.heads ∙ most-of s i (first_heads s i + (given - 1)) c.counted in
      heads ∙ ap (λ (n : ℕ). n + (given - 1)) (sym first)

  -- the day has room for the point of a number up to the last one
  pub sound-at : (heads : ℕ) → first_heads s i ≤ heads → heads ≤ most → IsSoundInstance (with_heads s i heads)
  sound-at heads least fits = sound-with i most heads (omega (arith, least)) fits s c.counted (omega (arith, least)) c.sound

  pub first-fits : first_heads s i ≤ most
  first-fits =
      let least = least-of s i most in
      let now = most-of s i most c.counted in
      let order = staff-order s (with_heads s i most) (staff-of s i most c.counted) c.sound in
      omega (arith, least, now, order.0, order.1)

  pub sound-now : IsSoundInstance i
  sound-now =
      let count = count-of s i most c.counted in
      let within = c.within in
      let heads = first_heads s i + (given - 1) in
      subst (λ (d : Instance). IsSoundInstance d) (sym c.heads) (sound-at heads (omega arith) (omega (arith, count, within, first-fits)))

  pub few-now : length i.groups ≤ 8
  few-now = few-groups i sound-now

  -- no number of the team is above 64
  pub most-few : most ≤ 64
  most-few =
      let now = most-of s i most c.counted in
      let within = most-within s (with_heads s i most) (staff-of s i most c.counted) c.sound in
      let few = c.sound.few in
      omega (arith, now, within, few)

  pub given-fits : given + first_heads s i ≤ most + 1
  given-fits = let count = count-of s i most c.counted in let within = c.within in omega (arith, count, within, first-fits)

  pub fits-at : (heads : ℕ) → first_heads s i ≤ heads → heads ≤ most → (with_heads s i heads).heads_max < 2 ^ 32
  fits-at heads least fits = let sound = sound-at heads least fits in let few = sound.few in omega (arith, few)

  -- the day's own number of the team
  pub same-day : with_heads s i (staff_most s i) ≡ i
  same-day =
      let first = first-of s i most in
      let heads : staff_most s i ≡ first_heads s i + (given - 1) = heads-is ∙ ap (λ (n : ℕ). n + (given - 1)) first in
      ap (λ (n : ℕ). with_heads s i n) heads ∙ sym c.heads

  -- the curve with the day of another of its points
  pub turned : (heads now : ℕ) (trees : List PoolTree) → now ≤ points_of (view_of i s most given kept) → heads ≡ first_heads s i + (now - 1) → IsPool i.grammar trees
      → IsCurve (with_heads s i heads) s most now trees kept
  turned heads now trees within here of-day =
      let same : with_heads s (with_heads s i heads) most ≡ with_heads s i most = heads-again s i heads most in
      record {
        sound = subst (λ (d : Instance). IsSoundInstance d) (sym same) c.sound;
        counted = staff-of s i heads c.counted;
        within = subst (λ (d : Instance). now ≤ point_count s d) (sym same) within;
        heads =
            sym (heads-again s i heads (first_heads s (with_heads s i heads) + (now - 1))
            ∙ ap (λ (n : ℕ). with_heads s i (n + (now - 1))) (first-of s i heads) ∙ ap (λ (n : ℕ). with_heads s i n) (sym here));
        trees = of-day;
        shifts = shifts-of s i heads kept c.shifts;
        few = c.few;
      }

  pub turned-view : (heads now : ℕ) → view_of (with_heads s i heads) s most now kept ≡ record (view_of i s most given kept) { given = now }
  turned-view heads now = ap (λ (d : Instance). record { day = d; staff = s; given = now; kept = kept }) (heads-again s i heads most)

  pub next-day : (heads : ℕ) → heads ≡ first_heads s i + given → point_day (view_of (with_heads s i heads) s most (given + 1) kept) ≡ with_heads s i heads
  next-day heads next =
      let here : heads ≡ first_heads s i + (given + 1 - 1) = omega (arith, next) in
      ap (λ (v : CurveView). point_day v) (turned-view heads (given + 1))
      ∙ heads-again s i most (point_heads (record (view_of i s most given kept) { given = given + 1 }))
      ∙ ap (λ (n : ℕ). with_heads s i (n + (given + 1 - 1))) (first-of s i most) ∙ ap (λ (n : ℕ). with_heads s i n) (sym here)

  -- what is found on the day of the next point is that point
  pub point-found : (heads : ℕ) (strict patient : Bool) (turns : ℕ) (f : Found) → heads ≡ first_heads s i + given → heads ≤ most
      → IsWithin patient turns (λ k. IsFound (with_heads s i heads) strict k f)
      → IsNextPoint (view_of i s most given kept) (view_of (with_heads s i heads) s most (given + 1) kept) strict patient turns (Some f)
  point-found heads strict patient turns f next last found =
      let count = count-of s i most c.counted in
      let first = first-of s i most in
      let day = next-day heads next in
      (omega (arith, next, last, count), turned-view heads (given + 1), subst (λ (d : Instance). IsWithin patient turns (λ k. IsFound d strict k f)) (sym day) found)

-- the curve of a day, of which no point is given yet
pub curve-begins : (i : Instance) (s : Staff) → IsSoundInstance i → IsStaff i s → IsPool i.grammar [] → IsCurve (with_heads s i (first_heads s i)) s (staff_most s i) 0 [] []
curve-begins i s sound of trees =
    let first = first_heads s i in
    let same : with_heads s (with_heads s i first) (staff_most s i) ≡ i = heads-again s i first (staff_most s i) ∙ whole-day s i of sound in
    record {
      sound = subst (λ (d : Instance). IsSoundInstance d) (sym same) sound;
      counted = staff-of s i first of;
      within = omega arith;
      heads =
          let zero : ◌≡◌ {A = ℕ} (first_heads s i + (0 - 1)) first = omega arith in
          sym (heads-again s i first (first_heads s (with_heads s i first) + (0 - 1))
          ∙ ap (λ (n : ℕ). with_heads s i (n + (0 - 1))) (first-of s i first) ∙ ap (λ (n : ℕ). with_heads s i n) zero);
      trees = trees;
      shifts = tt;
      few = omega arith;
    }

pub begins-sound : (i : Instance) (s : Staff) → IsSoundInstance i → IsStaff i s → IsSoundInstance (with_heads s i (first_heads s i))
begins-sound i s sound of =
    let order = staff-order s i of sound in
    sound-with i (staff_most s i) (first_heads s i) (omega arith) (omega (arith, order.0, order.1)) s of (omega arith) (subst (λ (d : Instance). IsSoundInstance d) (sym (whole-day s i of sound)) sound)

pub begins-fits : (i : Instance) (s : Staff) → IsSoundInstance i → IsStaff i s → (with_heads s i (first_heads s i)).heads_max < 2 ^ 32
begins-fits i s sound of = let begins = begins-sound i s sound of in let few = begins.few in omega (arith, few)

pub begins-view : (i : Instance) (s : Staff) → IsSoundInstance i → IsStaff i s → view_of (with_heads s i (first_heads s i)) s (staff_most s i) 0 [] ≡ new_curve s i
begins-view i s sound of =
    ap (λ (d : Instance). record { day = d; staff = s; given = 0; kept = [] }) (heads-again s i (first_heads s i) (staff_most s i) ∙ whole-day s i of sound)

-- shifts of the whole day are shifts of the day of a point
pub kept-now : (i : Instance) (s : Staff) (most given : ℕ) (pool : List PoolTree) (kept : List Shift) → IsCurve i s most given pool kept → (shifts : List Shift)
    → Each (IsSoundShift (with_heads s i most)) shifts → Each (IsSoundShift i) shifts
kept-now i s most given pool kept c shifts h =
    subst (λ (d : Instance). Each (IsSoundShift d) shifts) (heads-again s i most (first_heads s i + (given - 1)) ∙ sym c.heads)
    (shifts-of s (with_heads s i most) (first_heads s i + (given - 1)) shifts h)
