-- The names of a curve's points differ from each other.
use Rattle.std.proofs.Common.{◌≡◌, ◌≢◌, ℕ, ◌+◌, ◌<◌, ◌≤◌, ◌^◌, List, [], ◌∷◌, ◌++◌, length, Option, None, Some, refl, sym, subst, ◌∙◌, arith}
use Rattle.std.specs.Prelude.{codes, IsTrue}
use Rattle.std.specs.Fmt.{decimal}
use Rattle.std.specs.FinMap as fin
use Rattle.std.proofs.lemmas.Fmt.{decimal_injective}
use Rattle.std.proofs.lemmas.List.{append_cancel_left}
use Rattle.model_rosters.specs.declared.instance.Instance.{Instance}
use Rattle.search_days.specs.declared.day_curve.staff.Staff.{Staff}
use Rattle.search_days.specs.day_curve.Curves.{first_heads, point_count}
use Rattle.search_days.specs.day_curve.Named.{staff_of}
use Rattle.search_days.specs.day_curve.Staffs.{staff_most}
use Rattle.command_shelf.specs.Shelf.{Texts, Told}
use Rattle.command_shelf.specs.Stores.{may_replace}
use Rattle.command_shelf.proofs.HeldTexts.{AgreesElsewhere-insert}
use Rattle.command_answers.specs.Reader.{MayStore}
use Rattle.command_searches.specs.Curve.{Point, point_entries, point_name, MayStorePoints, MayStoreTeam}
use Rattle.command_searches.specs.Series.{with_entries, MayStoreAfter}
use Rattle.command_searches.specs.Writer.{IsAsked, IsTurnedDown}
use Rattle.command_searches.proofs.SeriesLemmas.{none_asked, asked_more, asked_later}

names_apart : (proof : List ℕ) (h k : ℕ) → h < k → k < 2 ^ 64 → point_name proof k ≢ point_name proof h
names_apart proof h k less few e =
    let digits = append_cancel_left (proof ++ codes ".") (decimal k) (decimal h) e in
    let same = decimal_injective k h few (omega (arith, less, few)) digits in
    omega (arith, less, same)

-- points that were stored leave the names of later ones as they were
later_stays : (proof : List ℕ) (h k : ℕ) (ps : List Point) (t : Texts) → k < 2 ^ 64 → h + length ps ≤ k → fin.get (with_entries t (point_entries proof h ps)) (point_name proof k) ≡ fin.get t (point_name proof k)
later_stays proof h k [] t few less = refl
later_stays proof h k (p ∷ ps) t few less =
    later_stays proof (h + 1) k ps (fin.insert t (point_name proof h) p.stored) few (omega (arith, less))
    ∙ AgreesElsewhere-insert t (point_name proof h) p.stored (point_name proof k) (names_apart proof h k (omega (arith, less)) few)

-- where each point may be stored, the next one may be once the first ones were
pub may_next : (proof : List ℕ) (staff : Staff) (i : Instance) (ps : List Point) (held : Option Texts) → length ps < point_count staff i → staff_most staff i ≤ 64 → MayStoreTeam proof staff i held
    → MayStoreAfter (point_entries proof (first_heads staff i) ps) (point_name proof (first_heads staff i + length ps)) held
may_next proof staff i ps None fewer few may = may (first_heads staff i) (omega arith) (omega (arith, fewer))
may_next proof staff i ps (Some t) fewer few may =
    let heads = first_heads staff i + length ps in
    let stays = later_stays proof (first_heads staff i) heads ps t (omega (arith, fewer, few)) (omega arith) in
    subst (λ (o : Option (List ℕ)). IsTrue (may_replace o)) (sym stays) (may heads (omega arith) (omega (arith, fewer)))

-- the points that were asked for so far, at a greatest number of the next one
module _ (proof : List ℕ) (staff : Staff) (i : Instance) (heads n : ℕ) (least : first_heads staff i ≤ heads) (most : heads ≤ first_heads staff i + n) (more : n < point_count staff i) where
  one_point : (held : Option Texts) → MayStoreTeam proof staff i held → MayStore (point_name proof heads) held
  one_point held may = may heads least (omega (arith, most, more))

  pub point-asked : (before middle after : Told) → IsAsked (MayStoreTeam proof staff i) before middle → IsAsked (MayStore (point_name proof heads)) middle after → IsAsked (MayStoreTeam proof staff i) before after
  point-asked before middle after h k = asked_more (MayStoreTeam proof staff i) (MayStore (point_name proof heads)) before middle after one_point h k

  pub point-left : (before middle after : Told) (status : ℕ) → IsAsked (MayStoreTeam proof staff i) before middle → IsTurnedDown (MayStore (point_name proof heads)) middle after status → IsTurnedDown (MayStoreTeam proof staff i) before after status
  point-left before middle after status h k = asked_later (MayStoreTeam proof staff i) (MayStore (point_name proof heads)) before middle after status one_point h k

pub none-asked : (proof : List ℕ) (staff : Staff) (i : Instance) (told : Told) → IsAsked (MayStoreTeam proof staff i) told told
none-asked proof staff i told = none_asked (MayStoreTeam proof staff i) told

-- the names of a team's points, where a name tells the team
module _ (proof : List ℕ) (group : Option (List ℕ)) (staff : Staff) (i : Instance) (team : staff_of i group ≡ Some staff) where
  pub team-asked : (before after : Told) → IsAsked (MayStoreTeam proof staff i) before after → IsAsked (MayStorePoints proof group i) before after
  team-asked before after h = record {
    held = h.held;
    said = h.said;
    never_falls = h.never_falls;
    stays_steady = h.stays_steady;
    quiet = λ steady may. h.quiet steady (may staff team);
  }

  pub team-left : (before after : Told) (status : ℕ) → IsTurnedDown (MayStoreTeam proof staff i) before after status → IsTurnedDown (MayStorePoints proof group i) before after status
  team-left before after status h = record { asked = team-asked before after h.asked; refused = h.refused; cause = h.cause }
