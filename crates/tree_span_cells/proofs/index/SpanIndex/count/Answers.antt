use Rattle.std.proofs.Common.{ℕ, ◌≡◌, ◌+◌, ◌*◌, ◌/◌, ◌∙◌, subst}
use Rattle.tree_span_cells.proofs.FormRows.{all-spans}
use Rattle.tree_span_cells.proofs.index.SpanIndex.count.Goals as goal

pub returns-clause-sum : goal.returns-clause-sum
returns-clause-sum c =
    subst (λ (n : ℕ). c.shorter.result ≡ n * (n + 1) / 2) c.self.view_is (c.shorter.ensures ∙ all-spans c.self.inside.periods)
