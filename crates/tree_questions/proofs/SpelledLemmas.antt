-- The walk that gathers the word of a tree.
use Rattle.std.proofs.Common.{◌≡◌, ℕ, ◌+◌, List, ◌∷◌, ◌++◌, Some, sym, ap, ◌∙◌, append_assoc}
use Rattle.model_rosters.specs.declared.grammar.Grammar.{Grammar}
use Rattle.model_rosters.specs.declared.grammar.Rule.{Rule}
use Rattle.model_rosters.specs.declared.grammar.Step.{Step}
use Rattle.model_rosters.specs.declared.grammar.Sym.{Sym}
use Rattle.model_rosters.specs.declared.grammar.Sym.TheVariants.{Name}
use Rattle.model_rosters.specs.Grammar.{rule_at}
use Rattle.model_rosters.specs.Trees.{Parts, steps, word}
use Rattle.tree_questions.specs.Spelled.{GivesWord}
use Rattle.model_rosters.proofs.tree_laws.DayStepsLemmas.{open_first, inside-of}

module _ (g : Grammar) where
  module _ (x : ℕ) (ss : List Sym) (step : Step) (xs below : List Step) (first : xs ≡ step ∷ below) (rule : Rule) (at : rule_at g step.rule ≡ Some rule) where
    -- the word of the parts of a name and of others is added
    pub name-gives : (old mid new : List ℕ) (left end : List Step) → GivesWord g rule.right below old left mid → GivesWord g ss left mid end new → GivesWord g (Name x ∷ ss) xs old end new
    name-gives old mid new left end gives more i t rest h e =
        let o = open_first g x ss step xs below first i t rest h e in
        let r = gives step.start o.inner (steps (step.start + step.len) o.more ++ rest) (inside-of g x ss step xs below first rule at t rest o) o.is in
        let s = more (step.start + step.len) o.more rest o.others r.0 in
        (s.0, s.1 ∙ ap (λ (w : List ℕ). w ++ word g o.more) r.1 ∙ append_assoc old (word g o.inner) (word g o.more) ∙ sym (ap (λ (u : Parts). old ++ word g u) o.tree))
