-- Days with another greatest number of a team.
use Rattle.std.proofs.Common.{◌≡◌, ℕ, zero, suc, arith, ◌≤◌, ◌<◌, List, [], ◌∷◌, length, refl, sym, ap, subst, ◌∙◌}
use Rattle.std.specs.Prelude.{slice_get}
use Rattle.model_rosters.specs.declared.grammar.Grammar.{Grammar}
use Rattle.model_rosters.specs.declared.instance.Group.{Group}
use Rattle.model_rosters.specs.declared.instance.Instance.{Instance}
use Rattle.model_rosters.specs.declared.instance.Shift.{Shift}
use Rattle.model_rosters.specs.Extension.{extended}
use Rattle.model_rosters.specs.Folds.{Each}
use Rattle.model_rosters.specs.Sound.{IsPlain}
use Rattle.model_rosters.specs.SoundInstance.{IsGroup, AreGroups, IsGroupedBy, HasGroups, IsSoundInstance}
use Rattle.model_rosters.proofs.EachLemmas.{all_each, Each-weaker}
use Rattle.check_certificates.specs.Sound.{IsSoundShift, IsGroupNumber}
use Rattle.search_days.specs.declared.day_curve.staff.Staff.{Staff}
use Rattle.search_days.specs.declared.day_curve.staff.Staff.TheVariants.{Everyone, OneGroup}
use Rattle.search_days.specs.day_curve.Staffs.{IsStaff, group_least, group_most, staff_least, staff_most, with_group, groups_with, with_heads}
use Rattle.search_days.proofs.day_curve.StaffGroups.{sum_most, sum_least, least-stays, most-now, length-stays, group-again, group-whole, sum-least, sum-more, one-of-sum, sums-in-order, extended-same, are-groups, number-stays, number-was}

pub least-of : (s : Staff) (i : Instance) (m : ℕ) → staff_least s (with_heads s i m) ≡ staff_least s i
least-of Everyone i m = refl
least-of (OneGroup k) i m = least-stays k m i.groups

pub most-of : (s : Staff) (i : Instance) (m : ℕ) → IsStaff i s → staff_most s (with_heads s i m) ≡ m
most-of Everyone i m h = refl
most-of (OneGroup k) i m h = most-now k m i.groups h

pub staff-of : (s : Staff) (i : Instance) (m : ℕ) → IsStaff i s → IsStaff (with_heads s i m) s
staff-of Everyone i m h = h
staff-of (OneGroup k) i m h = subst (λ (n : ℕ). k < n) (sym (length-stays k m i.groups)) h

pub heads-again : (s : Staff) (i : Instance) (a b : ℕ) → with_heads s (with_heads s i a) b ≡ with_heads s i b
heads-again Everyone i a b = refl
heads-again (OneGroup k) i a b = ap (λ (gs : List Group). record i { heads_max = sum_most gs; groups = gs }) (group-again k a b i.groups)

-- a team of a sound day has room for an employee
group-order : (names k : ℕ) (gs : List Group) → k < length gs → Each (IsGroup names) gs
    → (group_least (slice_get gs k) ≤ group_most (slice_get gs k)) × (1 ≤ group_most (slice_get gs k))
group-order names k [] within h = absurd (omega (arith, within))
group-order names zero (g ∷ gs) within h = (h.0.order, h.0.some)
group-order names (suc k) (g ∷ gs) within h = group-order names k gs (omega (arith, within)) h.1

-- what is said of groups, where there are some
grouped : (i : Instance) (gs : List Group) → 0 < length gs → HasGroups i gs → (g : Grammar) × IsGroupedBy i g
grouped i [] some h = absurd (omega (arith, some))
grouped i (x ∷ gs) some h = h

has-groups : (i : Instance) (gs : List Group) → 0 < length gs → (g : Grammar) × IsGroupedBy i g → HasGroups i gs
has-groups i [] some h = absurd (omega (arith, some))
has-groups i (x ∷ gs) some h = h

plain-groups : (i j : Instance) (gs : List Group) → i.grammar ≡ j.grammar → gs ≡ [] → HasGroups i gs → HasGroups j gs
plain-groups i j [] same none h = subst (λ (g : Grammar). IsPlain g) same h
plain-groups i j (x ∷ gs) same none h = cc

pub few-groups : (i : Instance) → IsSoundInstance i → length i.groups ≤ 8
few-groups i sound = by i.groups refl sound.groups
  where
    by : (gs : List Group) → i.groups ≡ gs → HasGroups i gs → length i.groups ≤ 8
    by [] e h = rw e (omega arith)
    by (x ∷ gs) e h = h.1.groups.few

pub staff-order : (s : Staff) (i : Instance) → IsStaff i s → IsSoundInstance i → (staff_least s i ≤ staff_most s i) × (1 ≤ staff_most s i)
staff-order Everyone i h sound = (sound.order, sound.some)
staff-order (OneGroup k) i h sound =
    let by = grouped i i.groups (omega (arith, h)) sound.groups in
    group-order (length by.0.names) k i.groups h (all_each (IsGroup (length by.0.names)) i.groups by.1.groups.each)

-- the greatest number of a team is the day's own
pub whole-day : (s : Staff) (i : Instance) → IsStaff i s → IsSoundInstance i → with_heads s i (staff_most s i) ≡ i
whole-day Everyone i h sound = refl
whole-day (OneGroup k) i h sound =
    let by = grouped i i.groups (omega (arith, h)) sound.groups in
    ap (λ (gs : List Group). record i { heads_max = sum_most gs; groups = gs }) (group-whole k i.groups) ∙ ap (λ (n : ℕ). record i { heads_max = n }) (sym by.1.most)

-- it is at most that of all employees
pub most-within : (s : Staff) (i : Instance) → IsStaff i s → IsSoundInstance i → staff_most s i ≤ i.heads_max
most-within Everyone i h sound = omega arith
most-within (OneGroup k) i h sound =
    let by = grouped i i.groups (omega (arith, h)) sound.groups in
    let all = by.1.most in
    let most = group_most (slice_get i.groups k) in
    let one = subst (λ (gs : List Group). most ≤ sum_most gs) (group-whole k i.groups) (one-of-sum k most i.groups h) in
    omega (arith, one, all)

module _ (i : Instance) (most m : ℕ) (some : 1 ≤ m) (fits : m ≤ most) where
  module _ (k : ℕ) (within : k < length i.groups) (less : staff_least (OneGroup k) i ≤ m) where
    abbrev before : List Group
    before = with_group k most i.groups

    abbrev now : List Group
    now = with_group k m i.groups

    again-now : with_group k m before ≡ now
    again-now = group-again k most m i.groups

    grouped-now : (g : Grammar) → IsGroupedBy (with_heads (OneGroup k) i most) g → IsGroupedBy (with_heads (OneGroup k) i m) g
    grouped-now g h = record {
      sound = h.sound;
      plain = h.plain;
      groups = subst (λ (gs : List Group). AreGroups (length g.names) gs) again-now
          (are-groups (length g.names) k m before (subst (λ (n : ℕ). n ≤ m) (sym (least-stays k most i.groups)) less) some h.groups);
      grammar = h.grammar ∙ extended-same g k most i.groups ∙ sym (extended-same g k m i.groups);
      least = h.least ∙ sum-least k most i.groups ∙ sym (sum-least k m i.groups);
      most = refl;
    }

    group-sound : IsSoundInstance (with_heads (OneGroup k) i most) → IsSoundInstance (with_heads (OneGroup k) i m)
    group-sound h =
        let had = grouped (with_heads (OneGroup k) i most) before (omega (arith, within, length-stays k most i.groups)) h.groups in
        let has = grouped-now had.0 had.1 in
        let sums = sums-in-order (length had.0.names) now (all_each (IsGroup (length had.0.names)) now has.groups.each) in
        record {
          grammar = h.grammar;
          order = let least = has.least in omega (arith, least, sums);
          some = let one = one-of-sum k m i.groups within in omega (arith, one, some);
          few = let more = sum-more k m most i.groups fits in let few = h.few in omega (arith, more, few);
          groups = has-groups (with_heads (OneGroup k) i m) now (omega (arith, within, length-stays k m i.groups)) (had.0, has);
          cells = h.cells;
        }

  pub sound-with : (s : Staff) → IsStaff i s → staff_least s i ≤ m → IsSoundInstance (with_heads s i most) → IsSoundInstance (with_heads s i m)
  sound-with Everyone of less h = record {
    grammar = h.grammar;
    order = less;
    some = some;
    few = let few = h.few in omega (arith, few, fits);
    groups = plain-groups (with_heads Everyone i most) (with_heads Everyone i m) i.groups refl of h.groups;
    cells = h.cells;
  }
  sound-with (OneGroup k) of less h = group-sound k of less h

-- shifts of the day are shifts whatever the greatest number
number-of : (s : Staff) (i : Instance) (m n : ℕ) → IsGroupNumber i.groups n → IsGroupNumber (groups_with s m i.groups) n
number-of Everyone i m n h = h
number-of (OneGroup k) i m n h = number-stays k m n i.groups h

pub shifts-of : (s : Staff) (i : Instance) (m : ℕ) (shifts : List Shift) → Each (IsSoundShift i) shifts → Each (IsSoundShift (with_heads s i m)) shifts
shifts-of s i m shifts h =
    Each-weaker (IsSoundShift i) (IsSoundShift (with_heads s i m)) shifts
    (λ x k. record { some = k.some; short = k.short; bytes = k.bytes; group = number-of s i m x.group k.group; price = k.price }) h

number-back : (s : Staff) (i : Instance) (m n : ℕ) → IsGroupNumber (groups_with s m i.groups) n → IsGroupNumber i.groups n
number-back Everyone i m n h = h
number-back (OneGroup k) i m n h = number-was k m n i.groups h

pub shifts-back : (s : Staff) (i : Instance) (m : ℕ) (shifts : List Shift) → Each (IsSoundShift (with_heads s i m)) shifts → Each (IsSoundShift i) shifts
shifts-back s i m shifts h =
    Each-weaker (IsSoundShift (with_heads s i m)) (IsSoundShift i) shifts
    (λ x k. record { some = k.some; short = k.short; bytes = k.bytes; group = number-back s i m x.group k.group; price = k.price }) h
