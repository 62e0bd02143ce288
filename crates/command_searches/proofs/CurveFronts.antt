-- What `curve` answers to the first bytes of a text, up to one above its limit, are answers to the text.
use Rattle.std.proofs.Common.{ℕ, List, Option}
use Rattle.model_rosters.specs.declared.grammar.Grammar.{Grammar}
use Rattle.command_shelf.specs.Shelf.{Texts, front_to}
use Rattle.command_answers.specs.RulesFronts.{grammar-whole, fault-whole}
use Rattle.command_answers.specs.DemandFronts.{instance-whole, demand-fault-whole}
use Rattle.command_searches.specs.declared.limit.Limit.{Limit}
use Rattle.command_searches.specs.Series.{Entry, End}
use Rattle.command_searches.specs.Solve.{MasterView}
use Rattle.command_searches.specs.Curve.{CurvesDemand, CurvesRules}
use Rattle.command_searches.specs.Curve as curves

pub demand-whole : (g : Grammar) (text : List ℕ) (group : Option (List ℕ)) (proof : List ℕ) (m : MasterView) (limit : Limit) (e : End) (x : List Entry)
    → CurvesDemand g (front_to 1048576 text) group proof m limit e x → CurvesDemand g text group proof m limit e x
demand-whole g text group proof m limit e x (curves.CurvesDemand.accepted i f y day a) = curves.CurvesDemand.accepted i f y (instance-whole g text i day) a
demand-whole g text group proof m limit e x (curves.CurvesDemand.refused o h) = curves.CurvesDemand.refused o (demand-fault-whole g text o h)

pub rules-whole : (held : Option Texts) (text demand : List ℕ) (group : Option (List ℕ)) (proof : List ℕ) (m : MasterView) (limit : Limit) (e : End) (x : List Entry)
    → CurvesRules held (front_to 1048576 text) demand group proof m limit e x → CurvesRules held text demand group proof m limit e x
rules-whole held text demand group proof m limit e x (curves.CurvesRules.accepted g f y is a) = curves.CurvesRules.accepted g f y (grammar-whole text g is) a
rules-whole held text demand group proof m limit e x (curves.CurvesRules.refused o h) = curves.CurvesRules.refused o (fault-whole text o h)
