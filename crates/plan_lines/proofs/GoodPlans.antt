-- A plan that was read is of whole periods and small numbers.
use Rattle.std.proofs.Common.{◌≡◌, ℕ, not, eqb, ltb, List, length, Option, Some, None, Ok, ap, subst}
use Rattle.text_lines.proofs.StepsLemmas.{bind_ok, passed, same_ok}
use Rattle.model_rosters.specs.Folds.{Each}
use Rattle.plan_duties.proofs.GoodTails.{IsGoodDuty, MayLast}
use Rattle.plan_faults.specs.declared.fault.PlanFault.{PlanFault}
use Rattle.plan_fields.proofs.GoodPairs.{AreGoodLengths}
use Rattle.plan_fields.specs.declared.draft.Draft.{Draft}
use Rattle.plan_lines.proofs.GoodDrafts.{AreApart, IsGoodCode, IsGoodExtra, MayStart}
use Rattle.plan_lines.proofs.GoodReadings.{IsGoodReading, IsReadDay, reading_good}
use Rattle.plan_lines.specs.Plans.{draft_said, finish, has_work, lines_said, listed, plan_from, plan_of, reading_of, some_change, some_day, some_stretch, staffed}
use Rattle.plan_lines.specs.declared.finish.Said.{Said}
use Rattle.plan_lines.specs.declared.reading.Reading.{Reading}
use Rattle.plan_meaning.specs.declared.plan.Lengths.{Lengths}
use Rattle.plan_meaning.specs.declared.plan.Plan.{Plan}
use Rattle.plan_meaning.specs.declared.plan.PlanDay.{PlanDay}
use Rattle.plan_words.specs.Days.{IsSoundDay}

pub record IsGoodPlan (p : Plan) : Type 0 where
  pub day : IsSoundDay p.day
  pub codes : Each (IsGoodCode p.day) p.codes
  pub apart : AreApart p.codes
  pub extras : Each (IsGoodExtra p.day) p.extras
  pub stretch : AreGoodLengths p.day p.stretch
  pub starts : MayStart p.day p.starts
  pub duties : Each (IsGoodDuty p.day p.codes) p.duties

-- ---- what lines have to say

record IsSaid (r : Reading) (said : Said) : Type 0 where
  day : r.day ≡ Some said.day
  stretch : r.draft.stretch ≡ Some said.stretch

some_day_is : (o : Option PlanDay) (d : PlanDay) → some_day o ≡ Ok d → o ≡ Some d
some_day_is None d e = absurd cc
some_day_is (Some c) d e = ap (λ (y : PlanDay). Some y) (same_ok {E = PlanFault} c d e)

some_stretch_is : (o : Option Lengths) (x : Lengths) → some_stretch o ≡ Ok x → o ≡ Some x
some_stretch_is None x e = absurd cc
some_stretch_is (Some y) x e = ap (λ (z : Lengths). Some z) (same_ok {E = PlanFault} y x e)

listed_is : (x : Draft) (said other : Said) → listed x said ≡ Ok other → said ≡ other
unfolding listed
listed_is x said other e =
    let duties = passed (eqb (length x.duties) 0) _ _ _ e in
    let staff = passed (eqb (length x.staff) 0) _ _ _ duties.1 in
    let needs = passed (eqb (length x.needs) 0) _ _ _ staff.1 in
    same_ok {E = PlanFault} said other needs.1

said_is : (r : Reading) (said : Said) → lines_said r ≡ Ok said → IsSaid r said
unfolding lines_said draft_said
said_is r said e =
    let d = bind_ok (some_day r.day) _ _ e in
    let work = passed (not (has_work r.draft.codes)) _ _ _ d.2 in
    let change = bind_ok (some_change r.draft.change) _ _ work.1 in
    let range = bind_ok (some_stretch r.draft.stretch) _ _ change.2 in
    let is = listed_is r.draft (record { day = d.0; change = change.0; stretch = range.0 }) said range.2 in
    subst (IsSaid r) is (record { day = some_day_is r.day d.0 d.1; stretch = some_stretch_is r.draft.stretch range.0 range.1 })

finish_good : (r : Reading) (p : Plan) → IsGoodReading r → finish r ≡ Ok p → IsGoodPlan p
unfolding finish
finish_good r p g e =
    let said = bind_ok (lines_said r) _ _ e in
    let all = bind_ok (staffed r.draft.staff r.draft.duties) _ _ said.2 in
    let is = said_is r said.0 said.1 in
    let own : IsReadDay (Some said.0.day) r.draft = subst (λ (o : Option PlanDay). IsReadDay o r.draft) is.day g in
    let range : MayLast said.0.day (Some said.0.stretch) = subst (MayLast said.0.day) is.stretch own.1.stretch in
    subst IsGoodPlan (same_ok {E = PlanFault} (plan_from r.title r.draft said.0) p all.2) (record {
      day = own.0;
      codes = own.1.codes;
      apart = own.1.apart;
      extras = own.1.extras;
      stretch = range;
      starts = own.1.starts;
      duties = own.1.duties;
    })

pub plan_good : (text : List ℕ) (p : Plan) → plan_of text ≡ Ok p → IsGoodPlan p
unfolding plan_of
plan_good text p e =
    let short = passed (ltb 1048576 (length text)) _ _ _ e in
    let r = bind_ok (reading_of text) finish p short.1 in
    finish_good r.0 p (reading_good text r.0 r.1) r.2
