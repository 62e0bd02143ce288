-- What is made of the parts is the remaining day.
use Rattle.std.proofs.Common.{◌≡◌, ℕ, ◌≤◌, Option, List, [], map, refl, sym, ap, subst, ◌∙◌, arith}
use Rattle.std.specs.Prelude.{unwrap_or}
use Rattle.model_rosters.specs.declared.grammar.Grammar.{Grammar}
use Rattle.model_rosters.specs.declared.instance.Cell.{Cell}
use Rattle.model_rosters.specs.declared.instance.Group.{Group}
use Rattle.model_rosters.specs.declared.instance.Instance.{Instance}
use Rattle.model_rosters.specs.declared.instance.Shift.{Shift}
use Rattle.model_rosters.specs.Duties.{Duty}
use Rattle.model_rosters.specs.Folds.{sum_n}
use Rattle.model_rosters.specs.SoundInstance.{IsSoundInstance}
use Rattle.check_certificates.specs.RosterCauses.{duties}
use Rattle.text_demand.specs.InstanceOf.{day_grammar}
use Rattle.check_values.specs.declared.remaining_day.answer.Rest.{Rest}
use Rattle.check_values.specs.remaining_day.Answers.{MayBeKept, IsRemainingDay, IsRest, IsNobody}
use Rattle.check_values.specs.Causes.{AreFound}
use Rattle.check_values.specs.remaining_day.Causes.{causes_of, prices_of}
use Rattle.check_values.specs.remaining_day.Days.{regrouped}
use Rattle.check_values.specs.remaining_day.Laws.{HasRest}
use Rattle.check_values.specs.remaining_day.Remaining.{cell_left, groups_left, least_left, most_left, remaining, kept_penalty}
use Rattle.check_values.proofs.remaining_day.CausesLemmas.{may_be_kept, sum_found}
use Rattle.check_values.proofs.remaining_day.DaysLeft.{has-rest}
use Rattle.check_values.proofs.remaining_day.Regrouped.{grammar-left, HasRules, has-rules}
use Rattle.check_values.proofs.remaining_day.SoundLeft.{sound-left}

module _ (i : Instance) (sound : IsSoundInstance i) (kept : List Shift) (fs : List (Option ℕ)) (found : AreFound i kept fs) (fits : causes_of i (duties kept) fs ≡ []) where
  pub nobody : most_left i (duties kept) i.groups ≡ 0 → IsNobody i kept
  nobody none = record { prices = prices_of fs; may = may_be_kept i kept fs found fits; none = none }

  -- the day of these parts
  abbrev of_parts : List Group → ℕ → ℕ → List Cell → Instance
  of_parts groups least most cells = record { grammar = regrouped i groups; heads_min = least; heads_max = most; groups = groups; cells = cells }

  same_day : (some : 1 ≤ most_left i (duties kept) i.groups) (g : Grammar) → i.grammar ≡ day_grammar g i.groups
      → of_parts (groups_left 1 (duties kept) i.groups) (least_left i (duties kept) i.groups) (most_left i (duties kept) i.groups) (map (cell_left i.grammar (duties kept)) i.cells) ≡ remaining g i (duties kept)
  same_day some g by = ap (λ (q : Grammar). record (remaining g i (duties kept)) { grammar = q }) (grammar-left g (duties kept) i by some)

  pub rest-is : (day : Instance) (paid penalty : ℕ) → 1 ≤ most_left i (duties kept) i.groups
      → day ≡ of_parts (groups_left 1 (duties kept) i.groups) (least_left i (duties kept) i.groups) (most_left i (duties kept) i.groups) (map (cell_left i.grammar (duties kept)) i.cells)
      → paid ≡ sum_n (λ (f : Option ℕ). unwrap_or f 0) fs → penalty ≡ kept_penalty i (duties kept) → IsRest i kept (record { day = day; paid = paid; penalty = penalty })
  rest-is day paid penalty some made sum pens =
      let ds : List Duty = duties kept in
      let may = may_be_kept i kept fs found fits in
      let rules : HasRules i = has-rules i sound in
      let is : IsRemainingDay i kept day = λ g by. made ∙ same_day some g by in
      let own : day ≡ remaining rules.rules i ds = is rules.rules rules.day in
      record {
        rules = rules.rules;
        ruled = rules.day;
        prices = prices_of fs;
        may = may;
        some = some;
        day = is;
        sound = subst IsSoundInstance (sym own) (sound-left rules.rules rules.sound rules.plain ds i rules.day sound some);
        paid = sum ∙ sum_found fs;
        penalty = pens;
        right = subst (λ (r : Instance). HasRest i r ds (prices_of fs)) (sym own) (has-rest rules.rules rules.sound ds i (prices_of fs) rules.day sound may.priced may.within some);
      }

  -- the same, of parts that are these
  pub rest-of : (day : Instance) (groups : List Group) (least most : ℕ) (cells : List Cell) (paid penalty : ℕ) → day ≡ of_parts groups least most cells
      → groups ≡ groups_left 1 (duties kept) i.groups → least ≡ least_left i (duties kept) i.groups → most ≡ most_left i (duties kept) i.groups → cells ≡ map (cell_left i.grammar (duties kept)) i.cells
      → 1 ≤ most → paid ≡ sum_n (λ (f : Option ℕ). unwrap_or f 0) fs → penalty ≡ kept_penalty i (duties kept) → IsRest i kept (record { day = day; paid = paid; penalty = penalty })
  rest-of day groups least most cells paid penalty made g l m c some sum pens =
      let gs : List Group = groups_left 1 (duties kept) i.groups in
      let low : ℕ = least_left i (duties kept) i.groups in
      let high : ℕ = most_left i (duties kept) i.groups in
      let same = made ∙ ap (λ (xs : List Group). of_parts xs least most cells) g ∙ ap (λ (n : ℕ). of_parts gs n most cells) l
      ∙ ap (λ (n : ℕ). of_parts gs low n cells) m ∙ ap (λ (xs : List Cell). of_parts gs low high xs) c in
      rest-is day paid penalty (omega (arith, some, m)) same sum pens
