-- The text that is written for a plan says the plan.
use Rattle.plan_rules.specs.RuleTexts.{TextSaysLaw}
use Rattle.plan_rules.proofs.Says.{says_law}

pub text_law : TextSaysLaw
text_law = λ p first xs text whole begins parts lines t. record {
  grammar = t.grammar;
  reads = t.reads;
  says = says_law p first xs t.grammar whole begins parts lines t.written;
}
