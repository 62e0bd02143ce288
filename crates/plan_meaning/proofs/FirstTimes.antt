-- Times are the first ones that the clock shows.
use Rattle.std.proofs.Common.{◌≡◌, ℕ, zero, suc, ◌<◌, ◌≤◌, ◌+◌, ◌-◌, ◌*◌, ◌/◌, ◌%◌, false, cond, arith, sym, ap, ◌∙◌, subst}
use Rattle.std.proofs.Math.Nat.{div-add-mod, mod-lt, add-mul-mod_self_left}
use Rattle.plan_meaning.specs.declared.plan.PlanDay.{PlanDay}
use Rattle.plan_meaning.specs.declared.plan.Time.{Time}
use Rattle.plan_meaning.specs.Times.{begin_minute, shown_behind, behind_begin, IsFirst, IsFirstTime}

-- two moments at which the clock shows one minute are a day apart or more
apart : (b minute x y : ℕ) → (b + x) % 1440 ≡ minute % 1440 → (b + y) % 1440 ≡ minute % 1440 → x < y + 1440 → x ≤ y
apart b minute x y ex ey near =
    let dx = div-add-mod (b + x) 1440 in
    let dy = div-add-mod (b + y) 1440 in
    let same : (b + x) % 1440 ≡ (b + y) % 1440 = ex ∙ sym ey in
    omega (arith, dx, dy, same, near)

-- a day later the clock shows the same
later : (b x q : ℕ) → (b + x + 1440 * q) % 1440 ≡ (b + x) % 1440
later b x q = add-mul-mod_self_left (b + x) 1440 q

shown : (b minute : ℕ) → b < 1440 → (b + (minute + (1440 - b)) % 1440) % 1440 ≡ minute % 1440
shown b minute less =
    let k : ℕ = minute + (1440 - b) in
    let d : 1440 * (k / 1440) + k % 1440 ≡ k = div-add-mod k 1440 in
    let total : b + k % 1440 + 1440 * (k / 1440) ≡ minute + 1440 * 1 = omega (arith, d, less) in
    sym (later b (k % 1440) (k / 1440)) ∙ (ap (λ (n : ℕ). n % 1440) total ∙ add-mul-mod_self_left minute 1440 1)

pub first_time : (d : PlanDay) (t : Time) → t.next_day ≡ false → IsFirstTime d t
first_time d t e = record {
  begin = subst (λ (n : _). IsFirst d t.minute 0 (cond n (1440 + t.minute - begin_minute d) x)) (sym e) begin_first;
  end = subst (λ (n : _). IsFirst d t.minute 1 (cond n (1440 + t.minute - begin_minute d) (behind_begin x))) (sym e) (end_first x is_shown small);
}
  where
    x : ℕ
    x = shown_behind d t.minute

    less : begin_minute d < 1440
    less = mod-lt d.begin (omega arith)

    small : shown_behind d t.minute < 1440
    small = mod-lt (t.minute + (1440 - begin_minute d)) (omega arith)

    is_shown : (begin_minute d + shown_behind d t.minute) % 1440 ≡ t.minute % 1440
    is_shown = shown (begin_minute d) t.minute less

    begin_first : IsFirst d t.minute 0 (shown_behind d t.minute)
    begin_first = record {
      behind = omega arith;
      shown = is_shown;
      first = λ n le s. apart (begin_minute d) t.minute (shown_behind d t.minute) n is_shown s (omega (arith, small));
    }

    end_first : (y : ℕ) → (begin_minute d + y) % 1440 ≡ t.minute % 1440 → y < 1440 → IsFirst d t.minute 1 (behind_begin y)
    end_first zero s lt = record {
      behind = omega arith;
      shown = day_later;
      first = λ n le other. apart (begin_minute d) t.minute 1440 n day_later other (omega (arith, le));
    }
      where
        day_later : (begin_minute d + 1440) % 1440 ≡ t.minute % 1440
        day_later =
            let e : begin_minute d + 1440 ≡ begin_minute d + 0 + 1440 * 1 = omega arith in
            ap (λ (n : ℕ). n % 1440) e ∙ (later (begin_minute d) 0 1 ∙ s)
    end_first (suc y) s lt = record {
      behind = omega arith;
      shown = s;
      first = λ n le other. apart (begin_minute d) t.minute (suc y) n s other (omega (arith, lt));
    }
