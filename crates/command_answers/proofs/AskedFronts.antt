-- The answers to the first bytes of a text, up to one above its limit, are answers to the text.
use Rattle.std.proofs.Common.{◌<◌, ℕ, List, Option, length}
use Rattle.model_rosters.specs.declared.grammar.Grammar.{Grammar}
use Rattle.command_shelf.specs.Shelf.{Texts, front_to}
use Rattle.model_rosters.specs.declared.instance.Instance.{Instance}
use Rattle.command_answers.specs.Asked.{TextAnswers, AnswersThird, DemandAnswers, AnswersDemand, RulesAnswers, TextsAnswers}
use Rattle.command_answers.specs.Asked as asked
use Rattle.command_answers.specs.RulesFronts.{grammar-whole, fault-whole, long-rules}
use Rattle.command_answers.specs.DemandFronts.{instance-whole, demand-fault-whole, long-demand}

module _ (A : TextAnswers) (held : Option Texts) where
  pub demand-whole : (g : Grammar) (text name : List ℕ) (s : ℕ) (o : List ℕ) → DemandAnswers A held g (front_to 1048576 text) name s o → DemandAnswers A held g text name s o
  demand-whole g text name s o (asked.DemandAnswers.accepted i x y day a) = asked.DemandAnswers.accepted i x y (instance-whole g text i day) a
  demand-whole g text name s o (asked.DemandAnswers.refused y f) = asked.DemandAnswers.refused y (demand-fault-whole g text y f)

  pub rules-whole : (text demand third : List ℕ) (s : ℕ) (o : List ℕ) → RulesAnswers A held (front_to 1048576 text) demand third s o → RulesAnswers A held text demand third s o
  rules-whole text demand third s o (asked.RulesAnswers.accepted g x y is a) = asked.RulesAnswers.accepted g x y (grammar-whole text g is) a
  rules-whole text demand third s o (asked.RulesAnswers.refused y f) = asked.RulesAnswers.refused y (fault-whole text y f)

-- where the answers to the third text are others, so are those to all texts
module _ (A B : TextAnswers) (each : (i : Instance) (text : List ℕ) (s : ℕ) (o : List ℕ) → A i text s o → B i text s o) (held : Option Texts) where
  third-map : (i : Instance) (name : List ℕ) (s : ℕ) (o : List ℕ) → AnswersThird A held i name s o → AnswersThird B held i name s o
  third-map i name s o h = record { text = h.text; holds = h.holds; answers = each i h.text s o h.answers }

  demand-map : (g : Grammar) (text name : List ℕ) (s : ℕ) (o : List ℕ) → DemandAnswers A held g text name s o → DemandAnswers B held g text name s o
  demand-map g text name s o (asked.DemandAnswers.accepted i x y day a) = asked.DemandAnswers.accepted i x y day (third-map i name x y a)
  demand-map g text name s o (asked.DemandAnswers.refused y f) = asked.DemandAnswers.refused y f

  pub rules-map : (text demand third : List ℕ) (s : ℕ) (o : List ℕ) → RulesAnswers A held text demand third s o → RulesAnswers B held text demand third s o
  rules-map text demand third s o (asked.RulesAnswers.accepted g x y is a) =
      asked.RulesAnswers.accepted g x y is (record { text = a.text; holds = a.holds; answers = demand-map g a.text third x y a.answers })
  rules-map text demand third s o (asked.RulesAnswers.refused y f) = asked.RulesAnswers.refused y f

  pub texts-map : (rules demand name : List ℕ) (s : ℕ) (o : List ℕ) → TextsAnswers A held rules demand name s o → TextsAnswers B held rules demand name s o
  texts-map rules demand name s o (asked.TextsAnswers.accepted g x y is a) = asked.TextsAnswers.accepted g x y is (demand-map g demand name x y a)
  texts-map rules demand name s o (asked.TextsAnswers.refused y f) = asked.TextsAnswers.refused y f

-- a text over its limit is refused, whatever is asked of the third text
module _ (A B : TextAnswers) (held : Option Texts) where
  long-demand-whole : (g : Grammar) (text name : List ℕ) (s : ℕ) (o : List ℕ) → 1048576 < length (front_to 1048576 text) → DemandAnswers A held g (front_to 1048576 text) name s o → DemandAnswers B held g text name s o
  long-demand-whole g text name s o lt (asked.DemandAnswers.accepted i x y day a) = absurd (long-demand g (front_to 1048576 text) i lt day)
  long-demand-whole g text name s o lt (asked.DemandAnswers.refused y f) = asked.DemandAnswers.refused y (demand-fault-whole g text y f)

  pub long-texts-demand : (rules demand name : List ℕ) (s : ℕ) (o : List ℕ) → 1048576 < length (front_to 1048576 demand) → TextsAnswers A held rules (front_to 1048576 demand) name s o → TextsAnswers B held rules demand name s o
  long-texts-demand rules demand name s o lt (asked.TextsAnswers.accepted g x y is a) = asked.TextsAnswers.accepted g x y is (long-demand-whole g demand name x y lt a)
  long-texts-demand rules demand name s o lt (asked.TextsAnswers.refused y f) = asked.TextsAnswers.refused y f

  pub long-texts-rules : (rules demand name : List ℕ) (s : ℕ) (o : List ℕ) → 1048576 < length (front_to 1048576 rules) → TextsAnswers A held (front_to 1048576 rules) demand name s o → TextsAnswers B held rules demand name s o
  long-texts-rules rules demand name s o lt (asked.TextsAnswers.accepted g x y is a) = absurd (long-rules (front_to 1048576 rules) g lt is)
  long-texts-rules rules demand name s o lt (asked.TextsAnswers.refused y f) = asked.TextsAnswers.refused y (fault-whole rules y f)
