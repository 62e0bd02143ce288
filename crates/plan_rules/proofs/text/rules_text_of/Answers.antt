use Rattle.std.proofs.Common.{ℕ, List, Ok, sym, subst}
use Rattle.text_rules.specs.RulesOf.{IsReading}
use Rattle.text_rules.proofs.GrammarAgain.{grammar_again}
use Rattle.plan_rules.proofs.text.rules_text_of.Goals as goal

pub returns-clause-text : goal.returns-clause-text
returns-clause-text c = record {
  grammar = c.in_ok-grammar.grammar;
  written = c.in_ok-grammar.ensures.written;
  text_is = c.in_ok-text.ensures;
  reads = subst (λ (t : List ℕ). IsReading t (Ok c.in_ok-grammar.grammar)) (sym c.in_ok-text.ensures)
      (grammar_again c.in_ok-grammar.grammar c.in_ok-grammar.ensures.written.sound c.in_ok-grammar.ensures.written.plain);
}
