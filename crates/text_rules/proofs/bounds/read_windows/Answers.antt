use Rattle.std.proofs.Common.{◌≡◌, ℕ, List, ◌∷◌, Ok, refl, sym, ◌∙◌}
use Rattle.text_rules.specs.declared.window.Windows.{Windows}
use Rattle.text_rules.specs.RuleLine.{window_at, windows_at}
use Rattle.text_rules.proofs.bounds.read_windows.Goals as goal

step : (k : ℕ) (old new : Windows) (ws xs ys rest : List (List ℕ)) (w a b : List ℕ) → ws ≡ w ∷ xs → xs ≡ a ∷ ys → ys ≡ b ∷ rest → window_at k old w a b ≡ Ok new → windows_at k old ws ≡ windows_at k new rest
step k old new ws xs ys rest w a b p q r e = rw (p, q, r, e) refl

pub loop-word-preserved : goal.loop-word-preserved
loop-word-preserved c = c.loop-word.invariant ∙ step _ _ _ _ _ _ _ _ _ _ c.in-Some.ensures c.in-Some-next.ensures c.in-Some-next-2.ensures (sym c.in_ok-windows.ensures)
