-- The team of a name is one of the day.
use Rattle.std.proofs.Common.{◌≡◌, ℕ, arith, ◌<◌, Bool, true, false, Option, None, Some, List, [], ◌∷◌, length, refl, subst, cond}
use Rattle.std.proofs.lemmas.Option.{same_Some}
use Rattle.std.specs.Prelude.{nat_lt}
use Rattle.std.specs.List.{position_or_len}
use Rattle.model_rosters.specs.declared.instance.Group.{Group}
use Rattle.model_rosters.specs.declared.instance.Instance.{Instance}
use Rattle.search_days.specs.declared.day_curve.staff.Staff.{Staff}
use Rattle.search_days.specs.declared.day_curve.staff.Staff.TheVariants.{Everyone, OneGroup}
use Rattle.search_days.specs.day_curve.Named.{is_named, everyone, one_group, staff_of}
use Rattle.search_days.specs.day_curve.Staffs.{IsStaff}

all-staff : (i : Instance) (gs : List Group) (s : Staff) → i.groups ≡ gs → everyone gs ≡ Some s → IsStaff i s
all-staff i [] s e h = subst (λ (z : Staff). IsStaff i z) (same_Some Everyone s h) e
all-staff i (g ∷ gs) s e h = let clash : ◌≡◌ {A = Option Staff} None (Some s) = h in cc

placed : (i : Instance) (n : ℕ) (b : Bool) (s : Staff) → nat_lt n (length i.groups) ≡ b → one_group (cond b (Some n) None) ≡ Some s → IsStaff i s
placed i n true s e h = let less : n < length i.groups = grind (arith, e) in subst (λ (z : Staff). IsStaff i z) (same_Some (OneGroup n) s h) less
placed i n false s e h = let clash : ◌≡◌ {A = Option Staff} None (Some s) = h in cc

pub named-staff : (i : Instance) (group : Option (List ℕ)) (s : Staff) → staff_of i group ≡ Some s → IsStaff i s
named-staff i None s h = all-staff i i.groups s refl h
named-staff i (Some name) s h = placed i (position_or_len (is_named i.grammar name) i.groups) (nat_lt (position_or_len (is_named i.grammar name) i.groups) (length i.groups)) s refl h
