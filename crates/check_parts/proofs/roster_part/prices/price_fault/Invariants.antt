use Rattle.model_rosters.specs.declared.grammar.Grammar.{Grammar}
use Rattle.tree_span_table.specs.Tables.{IsMadeFor}
use Rattle.check_parts.specs.roster_part.Faults.{IsPriceBefore}
use Rattle.check_parts.proofs.roster_part.Items.{Before}
use Rattle.check_parts.proofs.roster_part.WordPrices.{HasPrice, IsFirstSoFar}
use Rattle.check_parts.proofs.roster_part.prices.price_fault.Given as goal

abbrev pub invariant-loop-place : goal.invariant-loop-place
invariant-loop-place l = record {
  kept : (g : Grammar) → IsMadeFor g l.fn.table → IsMadeFor g l.table;
  priced : Before (HasPrice l.instance) l.shifts l.place;
  before : IsPriceBefore l.instance l.shifts l.place l.before;
  first : IsFirstSoFar l.instance l.shifts l.place l.mispriced;
}
