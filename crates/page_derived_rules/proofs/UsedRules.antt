-- The rule uses of a tree are uses of rules that there are.
use Rattle.std.proofs.Common.{ℕ, ◌+◌, List, [], ◌∷◌, All}
use Rattle.std.proofs.lemmas.List.Elements.{All-append, All-cons, All-nil}
use Rattle.model_rosters.specs.declared.grammar.Grammar.{Grammar}
use Rattle.model_rosters.specs.declared.grammar.Step.{Step}
use Rattle.model_rosters.specs.declared.grammar.Sym.{Sym}
use Rattle.model_rosters.specs.declared.grammar.Sym.TheVariants.{Code, Name}
use Rattle.model_rosters.specs.Trees.{Parts, done, letter, uses, Derive, steps}
use Rattle.model_rosters.proofs.tree_laws.Rules.{rule_at-within}
use Rattle.text_answers.specs.TreeText.{HasRule}

pub used-rules : (g : Grammar) (t : Parts) (ss : List Sym) (i : ℕ) → Derive g ss i t → All (λ (s : Step). HasRule g s.rule) (steps i t)
used-rules g done ss i d = All-nil _
used-rules g (letter c rest) [] i d = absurd d
used-rules g (letter c rest) (Name x ∷ ss) i d = absurd d
used-rules g (letter c rest) (Code x ∷ ss) i d = used-rules g rest ss (i + 1) d.1
used-rules g (uses r n inner rest) [] i d = absurd d
used-rules g (uses r n inner rest) (Code x ∷ ss) i d = absurd d
used-rules g (uses r n inner rest) (Name x ∷ ss) i d =
    All-cons (λ (s : Step). HasRule g s.rule) _ _ (rule_at-within g r d.0 d.1) (All-append (λ (s : Step). HasRule g s.rule) (steps i inner) (steps (i + n) rest) (used-rules g inner d.0.right i d.6) (used-rules g rest ss (i + n) d.7))
