-- One entry of a row step.
use Rattle.std.proofs.Common.{◌≡◌, ℤ, pos, negsuc, neg_ℤ, ◌*ℤ◌, ◌-ℤ◌, ◌+ℤ◌, sym, ap, ◌∙◌, arith, SFits, to_z, of_z, unsigned_abs}
use Rattle.std.specs.Int.{w128, ◌∣◌}
use Rattle.std.specs.Prelude.{int_div, int_rem}
use Rattle.std.proofs.lemmas.Int.{ints, to_z-of_z, fits_signed_from_abs, quot-rem}
use Rattle.std.proofs.lemmas.Nat.Gcd.{mod-eq-zero_of_dvd}
use lib.IntN.{*ℤ_comm, +ℤ_idr}
use Rattle.std.specs.Prelude.{Option, Some, None}
use Rattle.std.specs.Option.{SomeIff}
use Rattle.lp_fractions.specs.Range.{InRange}
use Rattle.lp_fractions.specs.Row.{EntryFits}
use Rattle.law_bounds.specs.linear_programs.RowStep.{combined}

pub combine_lem : (o : Option ℤ) (p r a s f g : ℤ) → InRange (p *ℤ r) → InRange (a *ℤ s) → f ≡ p *ℤ r → g ≡ a *ℤ s → SomeIff o (InRange (f -ℤ g)) (f -ℤ g) → SomeIff o (EntryFits p r a s) (combined p r a s)
combine_lem None p r a s f g x y e k h = λ fits. rw (e, k) at h fits.difference
combine_lem (Some v) p r a s f g x y e k h =
    let h' = rw (e, k) at h in (record { first = x; second = y; difference = h'.0 }, h'.1)

-- what the code's expression for an entry is
pub entry_is : (p r a s : ℤ) → SFits w128 p → SFits w128 r → SFits w128 a → SFits w128 s → EntryFits p r a s → to_z w128 (of_z w128 (to_z w128 (of_z w128 (to_z w128 (of_z w128 p) *ℤ to_z w128 (of_z w128 r))) -ℤ to_z w128 (of_z w128 (to_z w128 (of_z w128 a) *ℤ to_z w128 (of_z w128 s))))) ≡ combined p r a s
entry_is p r a s fp fr fa fs fits =
    let f1 : SFits w128 (p *ℤ r) = fits_signed_from_abs w128 _ fits.first in
    let f2 : SFits w128 (a *ℤ s) = fits_signed_from_abs w128 _ fits.second in
    let f3 : SFits w128 (p *ℤ r -ℤ a *ℤ s) = fits_signed_from_abs w128 _ fits.difference in
    simp to_z-of_z

pub entry_fits : (p r a s : ℤ) → SFits w128 p → SFits w128 r → SFits w128 a → SFits w128 s → EntryFits p r a s → SFits w128 (to_z w128 (of_z w128 (to_z w128 (of_z w128 p) *ℤ to_z w128 (of_z w128 r))) -ℤ to_z w128 (of_z w128 (to_z w128 (of_z w128 a) *ℤ to_z w128 (of_z w128 s))))
entry_fits p r a s fp fr fa fs fits =
    let f1 : SFits w128 (p *ℤ r) = fits_signed_from_abs w128 _ fits.first in
    let f2 : SFits w128 (a *ℤ s) = fits_signed_from_abs w128 _ fits.second in
    let f3 : SFits w128 (p *ℤ r -ℤ a *ℤ s) = fits_signed_from_abs w128 _ fits.difference in
    simp to_z-of_z f3

-- an exact division
pub exact-rem : (g e : ℤ) → unsigned_abs g ∣ unsigned_abs e → int_rem e g ≡ pos 0
exact-rem g (pos n) d = ap pos (mod-eq-zero_of_dvd _ d)
exact-rem g (negsuc n) d = ap (λ m. neg_ℤ (pos m)) (mod-eq-zero_of_dvd _ d)

pub exact-quot : (g e : ℤ) → unsigned_abs g ∣ unsigned_abs e → g *ℤ int_div e g ≡ e
exact-quot g e d = *ℤ_comm g (int_div e g) ∙ sym (+ℤ_idr (int_div e g *ℤ g)) ∙ ap (λ r. int_div e g *ℤ g +ℤ r) (sym (exact-rem g e d)) ∙ quot-rem e g

pub one-*ℤ : (e : ℤ) → pos 1 *ℤ e ≡ e
one-*ℤ e = omega (arith, ints)
