-- The texts of rules that cost nothing and of a relaxed day are read as these.
use Rattle.std.proofs.Common.{◌≡◌, ℕ, List, [], ◌∷◌, Result, Ok, Err, IfOk, sym, ap, subst, ◌∙◌}
use Rattle.model_rosters.specs.declared.grammar.Grammar.{Grammar}
use Rattle.model_rosters.specs.declared.instance.Instance.{Instance}
use Rattle.model_rosters.specs.Demands.{Demand, IsDemand}
use Rattle.model_rosters.specs.Folds.{Each}
use Rattle.model_rosters.specs.Sound.{IsSound, IsPlain}
use Rattle.model_rosters.specs.SoundInstance.{IsSoundInstance}
use Rattle.text_rules.specs.RulesOf.{IsReading}
use Rattle.text_rules.specs.Written.{rules_text}
use Rattle.text_demand.specs.InstanceOf.{day_grammar, instance_of}
use Rattle.text_demand.specs.Written.{AreDemandsOf, demand_text}
use Rattle.text_relaxed_days.specs.declared.kind.Kind.{Kind}
use Rattle.text_relaxed_days.specs.FreeRules.{free_rules}
use Rattle.text_relaxed_days.specs.Laws.{RelaxedDaysTell}
use Rattle.text_relaxed_days.specs.Relaxed.{relaxed_demand, relaxed}
use Rattle.text_relaxed_days.specs.Said.{AreFreeRulesSaid, IsRelaxedSaid}
use Rattle.text_relaxed_days.proofs.FreeSound.{sound-free, plain-free, day-free}
use Rattle.text_relaxed_days.proofs.RelaxedSound.{demand-sound, relaxed-sound}

-- what is read of written rules
abbrev pub AreReadAgain : Type 0
AreReadAgain = (g : Grammar) → IsSound g → IsPlain g → IsReading (rules_text g) (Ok g)

rules_said : AreReadAgain → (g : Grammar) (output : List ℕ) → IsSound g → IsPlain g → output ≡ rules_text (free_rules g) → AreFreeRulesSaid g output
rules_said again g output sound plain e = record {
  text = e;
  again = subst (λ (text : List ℕ). IsReading text (Ok (free_rules g))) (sym e) (again (free_rules g) (sound-free g sound) (plain-free g plain));
}

pub rules-said : {E : Type 0} → AreReadAgain → (g free : Grammar) (r : Result (List ℕ) E) → IsSound g → IsPlain g → free ≡ free_rules g
    → IfOk r (λ text. text ≡ rules_text free) → IfOk r (AreFreeRulesSaid g)
rules-said again g free (Err e) sound plain is h = tt
rules-said again g free (Ok text) sound plain is h = rules_said again g text sound plain (h ∙ ap rules_text is)

-- what is read of a written day
abbrev pub IsReadAgain : Type 0
IsReadAgain = (g : Grammar) (i : Instance) (ds : List Demand) → IsSound g → IsPlain g → i.grammar ≡ day_grammar g i.groups → IsSoundInstance i
    → AreDemandsOf i ds → instance_of g (demand_text i ds) ≡ Ok i

-- what is asked of codes does not hang on what rules cost
same_demands : (g : Grammar) (ds : List Demand) → Each (IsDemand (free_rules g)) ds → Each (IsDemand g) ds
same_demands g [] h = tt
same_demands g (d ∷ ds) h = (
  record {
    work = h.0.work;
    under = h.0.under;
    over = h.0.over;
    whole = h.0.whole;
    each = h.0.each;
  },
  same_demands g ds h.1,
)

day_said : IsReadAgain → ((kind : Kind) → RelaxedDaysTell kind) → (kind : Kind) (i : Instance) (output : List ℕ) → IsSoundInstance i
    → ((ds : List Demand) → AreDemandsOf (relaxed_demand kind i) ds → output ≡ demand_text (relaxed_demand kind i) ds) → IsRelaxedSaid kind i output
day_said again tells kind i output sound text = record {
  sound = demand-sound kind i sound;
  tells = tells kind i sound;
  text = text;
  again = λ g fine plain by.
      let day = relaxed-sound kind i sound in
      let ds = day.cells.demands in
      let are : AreDemandsOf (relaxed kind i) ds = record { each = day.cells.each; once = day.cells.once; made = day.cells.made } in
      let own : AreDemandsOf (relaxed_demand kind i) ds = record { each = same_demands i.grammar ds day.cells.each; once = day.cells.once; made = day.cells.made } in
      let free : (relaxed kind i).grammar ≡ day_grammar (free_rules g) i.groups = ap free_rules by ∙ day-free g i.groups in
      rw (text ds own) (again (free_rules g) (relaxed kind i) ds (sound-free g fine) (plain-free g plain) free day are);
}

pub day-said : {E : Type 0} → IsReadAgain → ((kind : Kind) → RelaxedDaysTell kind) → (kind : Kind) (i day : Instance) (r : Result (List ℕ) E) → IsSoundInstance i → day ≡ relaxed_demand kind i
    → IfOk r (λ text. (ds : List Demand) → AreDemandsOf day ds → text ≡ demand_text day ds) → IfOk r (IsRelaxedSaid kind i)
day-said again tells kind i day (Err e) sound is h = tt
day-said again tells kind i day (Ok text) sound is h =
    day_said again tells kind i text sound (subst (λ (d : Instance). (ds : List Demand) → AreDemandsOf d ds → text ≡ demand_text d ds) is h)
