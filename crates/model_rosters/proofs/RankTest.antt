-- Whether a grammar has ranks, by the search for them.
use Rattle.std.proofs.Common.{◌≡◌, ℕ, Bool, List, length, Result, Ok, Err, ◌↔◌, slice_index, sym, ◌∙◌}
use Rattle.std.specs.Prelude.{IsTrue, IfOk, IfErr, is_ok}
use Rattle.std.proofs.lemmas.Bool.{false≢true}
use Rattle.model_rosters.specs.declared.grammar.Grammar.{Grammar}
use Rattle.model_rosters.specs.UnitRules.{IsRanked, IsFirstOnCycle}
use Rattle.model_rosters.proofs.StepRules.{no_cycle}

pub decided : (g : Grammar) (r : Result (List ℕ) ℕ) (b : Bool) → b ≡ is_ok r
    → IfOk r (λ ranks. IsRanked g (λ x. slice_index ranks x) (length g.names)) → IfErr r (IsFirstOnCycle g)
    → IsTrue b ↔ ((rank : ℕ → ℕ) × IsRanked g rank (length g.names))
decided g (Ok ranks) b e ranked cycle = (λ _. ((λ (x : ℕ). slice_index ranks x), ranked), λ _. e)
decided g (Err x) b e ranked cycle =
    (λ h. absurd (false≢true (sym e ∙ h)), λ p. absurd (no_cycle g p.0 (length g.names) p.1 x cycle.within))
