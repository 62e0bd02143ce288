-- Cuts on arcs of the graph are cuts of the day.
use Rattle.std.proofs.Common.{All, List, [], ◌∷◌, inl}
use Rattle.std.proofs.lemmas.List.Elements.{All-head, All-tail}
use Rattle.model_rosters.specs.declared.instance.Cut.{Cut}
use Rattle.model_rosters.specs.declared.instance.Instance.{Instance}
use Rattle.model_rosters.specs.Folds.{Each}
use Rattle.tree_graph.specs.Graphs.{GraphView, IsGraph}
use Rattle.search_masters.specs.Ends.{IsNodeCut}
use Rattle.rows_search.specs.Days.{IsListedCut}

pub listed-cuts : (i : Instance) (v : GraphView) (cs : List Cut) → IsGraph i.grammar v → All (IsListedCut v) cs → Each (IsNodeCut i) cs
listed-cuts i v [] g h = tt
listed-cuts i v (c ∷ cs) g h =
    let l = All-head (IsListedCut v) c cs h in
    (record { arc = inl (g.arcs.sound l.place c.arc l.at); few = l.few }, listed-cuts i v cs g (All-tail (IsListedCut v) c cs h))
