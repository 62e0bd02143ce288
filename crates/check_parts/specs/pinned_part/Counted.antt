-- The arcs of the instance, counted by the least counts that cuts leave them.
use Rattle.std.specs.Prelude.{ℕ, ℤ, ◌≡◌, ◌*◌, List}
use Rattle.model_rosters.specs.declared.grammar.ArcKey.{ArcKey}
use Rattle.model_rosters.specs.declared.grammar.Grammar.{Grammar}
use Rattle.model_rosters.specs.declared.instance.Cut.{Cut}
use Rattle.model_rosters.specs.Cuts.{lo}
use Rattle.model_rosters.specs.Folds.{sum_n}
use Rattle.model_rosters.specs.arc_laws.Lists.{AreArcs}
use Rattle.model_rosters.specs.arc_laws.Counts.{top_cost}
use Rattle.check_parts.specs.pinned_part.Net.{IsNet}

-- all arcs of the instance were counted by the least counts that the cuts leave them
pub record AreCounted (g : Grammar) (cuts : List Cut) (nodes : List ℤ) (cost : ℕ) : Type 0 where
  pub listed : List ArcKey
  pub are : AreArcs g listed
  pub net : IsNet g listed (lo cuts) nodes
  pub paid : cost ≡ sum_n (λ a. lo cuts a * top_cost g a) listed
