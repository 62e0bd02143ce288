-- Prices within 2^80 can be set.
use Rattle.std.proofs.Common.{◌≡◌, ℕ, ℤ, ◌+◌, ◌≤◌, ◌-◌, ◌^◌, List, All, length, take, drop, arith, ap, ◌∙◌, subst, sym}
use Rattle.std.proofs.lemmas.List.{length-take-le, length-drop}
use Rattle.std.proofs.lemmas.List.Elements.{All-take, All-drop}
use Rattle.model_rosters.specs.declared.instance.Cut.{Cut}
use Rattle.model_rosters.specs.declared.instance.Instance.{Instance}
use Rattle.model_rosters.specs.PriceLimits.{AreWide}
use Rattle.model_rosters.specs.Sums.{Within}

pub are-wide : (i : Instance) (cuts : List Cut) (numbers cell others paid : List ℤ) (n : ℕ) → length numbers ≡ length i.cells + 2 + length cuts
    → All (Within (2 ^ 80)) numbers → length cuts ≤ 1500 → n ≡ length i.cells → cell ≡ take n numbers → others ≡ drop n numbers → paid ≡ drop 2 others
    → AreWide i 16777216 cell paid cuts
are-wide i cuts numbers cell others paid n count small few is front back behind =
    let a : length cell ≡ n = ap length front ∙ length-take-le n numbers (omega (arith, count, is)) in
    let b : length others ≡ length numbers - n = ap length back ∙ length-drop n numbers in
    let d : length paid ≡ length others - 2 = ap length behind ∙ length-drop 2 others in
    let o = subst (All (Within (2 ^ 80))) (sym back) (All-drop (Within (2 ^ 80)) n numbers small) in
    record {
      positive = omega arith;
      small = omega arith;
      cells = a ∙ is;
      each = subst (All (Within (2 ^ 80))) (sym front) (All-take (Within (2 ^ 80)) n numbers small);
      few = omega (arith, few);
      prices = omega (arith, count, is, b, d);
      each_paid = subst (All (Within (2 ^ 80))) (sym behind) (All-drop (Within (2 ^ 80)) 2 others o);
    }
