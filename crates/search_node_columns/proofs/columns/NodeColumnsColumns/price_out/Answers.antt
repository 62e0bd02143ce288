use Rattle.std.proofs.Common.{◌≡◌, pos, ◌<ℤ◌, ◌<◌, length, refl, rules, to_z, of_z}
use mir.Syntax.{w128}
use Rattle.model_rosters.specs.Trees.{Parts}
use Rattle.law_bounds.specs.linear_programs.Program.{IsPricedOut, reduced}
use Rattle.lp_fractions.specs.Row.{at}
use Rattle.law_bounds.specs.master_laws.Master.{MasterKey, tree, master}
use Rattle.search_node_columns.specs.Columns.{HasKey}
use Rattle.search_node_columns.specs.Priced.{HasNoCheaper}
use Rattle.search_node_columns.proofs.HeldColumns.{keys_kept, listed_below, some_map, none_map}
use Rattle.search_node_columns.proofs.PricedOut.{plain_held, reduced_is, priced_out}
use Rattle.search_node_columns.proofs.columns.NodeColumnsColumns.price_out.Goals as goal

pub find_cheaper-requires-clause-plain : goal.find_cheaper-requires-clause-plain
find_cheaper-requires-clause-plain g c =
    let r = c.requires.ready in
    let i = c.args.self.now.task.now.day.instance.now in
    let cuts = c.args.self.now.task.now.cuts.now in λ j h a.
    let p = plain_held i cuts r.sound r.cuts c.args.self.now.pool.now h (r.workspace.held.each j h (rw c.as_slice.ensures at a)) in
    rw c.requires.y p

pub returns-in-Some-clause-found : goal.returns-in-Some-clause-found
returns-in-Some-clause-found g c =
    let r = c.requires.ready in
    let i = c.args.self.now.task.now.day.instance.now in
    let cuts = c.args.self.now.task.now.cuts.now in
    let s = c.in-Some.ensures.some in
    let there = rw c.as_slice.ensures at s.1 in
    let is = r.workspace.held.each c.in-Some.column s.0 there in
    let k = is.some in
    let t = is.tells k.0 k.1 in
    let z : to_z w128 (of_z w128 c.args.kappa) ≡ c.args.kappa = search rules in
    let x = rw z at s.2 in
    let e = reduced_is i cuts r.sound r.cuts c.args.y.now c.args.kappa s.0 k.0 t in
    let key : HasKey i.grammar c.args.self.now.pool.now c.args.self.now.workspace.now.held c.in-Some.column k.0 = record { one = s.0; at = there; key = k.1 } in
    (listed_below i c.args.self.now.pool.now c.args.self.now.workspace.now.held c.in-Some.column k.0 key, k.0, key, t.belongs, rw e at x)

pub returns-in-Ok-clause-kept : goal.returns-in-Ok-clause-kept
returns-in-Ok-clause-kept g c =
    let i = c.args.self.now.task.now.day.instance.now in
    record {
      instance = refl;
      cuts = refl;
      graph = refl;
      pool = c.in-Ok.ensures.tools.grown;
      lists = λ j k key. keys_kept i c.args.self.now.pool.now c.list_cheapest.new.pool c.args.self.now.workspace.now.held c.list_cheapest.new.workspace.held j k c.in-Ok.ensures.tools.grown c.in-Ok.ensures.more key;
    }

pub returns-in-Ok-clause-found : goal.returns-in-Ok-clause-found
returns-in-Ok-clause-found g c =
    let i = c.args.self.now.task.now.day.instance.now in
    let cuts = c.args.self.now.task.now.cuts.now in
    let pool = c.list_cheapest.new.pool in
    let held = c.list_cheapest.new.workspace.held in
    let z : to_z w128 (of_z w128 c.args.kappa) ≡ c.args.kappa = search rules in
    let f = rw z at c.in-Ok.ensures.found in
    some_map c.in-Ok.found
    (λ column. (t : Parts) × HasKey i.grammar pool held column (tree t) × (reduced (master i cuts).rows (at c.args.y.now) c.args.kappa ((master i cuts).column (tree t)) <ℤ pos 0))
    (λ j. (j < length held) × (k : MasterKey) × HasKey i.grammar pool held j k × ((master i cuts).belongs k) × (reduced (master i cuts).rows (at c.args.y.now) c.args.kappa ((master i cuts).column k) <ℤ pos 0))
    (λ j p. (listed_below i pool held j (tree p.0) p.1, tree p.0, p.1, ((c.in-Ok.ensures.tools.are.workspace.held.each j p.1.one p.1.at).tells (tree p.0) p.1.key).belongs, p.2)) f

pub returns-in-Ok-clause-none : goal.returns-in-Ok-clause-none
returns-in-Ok-clause-none g c =
    let r = c.requires.ready in
    let i = c.args.self.now.task.now.day.instance.now in
    let cuts = c.args.self.now.task.now.cuts.now in
    let z : to_z w128 (of_z w128 c.args.kappa) ≡ c.args.kappa = search rules in
    let f = rw z at c.in-Ok.ensures.none in
    let n = rw (z, c.as_slice.ensures) at c.in_default-find_cheaper.ensures.none in
    none_map c.in-Ok.found (HasNoCheaper i cuts c.args.y.now c.args.kappa) (IsPricedOut (master i cuts) (at c.args.y.now) c.args.kappa)
    (λ h. priced_out i cuts r.sound r.cuts c.args.self.now.pool.now c.args.self.now.workspace.now.held c.args.y.now c.args.kappa r.workspace.held n h) f

pub returns-in-Err-list_cheapest-clause-kept : goal.returns-in-Err-list_cheapest-clause-kept
returns-in-Err-list_cheapest-clause-kept g c =
    let i = c.args.self.now.task.now.day.instance.now in
    record {
      instance = refl;
      cuts = refl;
      graph = refl;
      pool = c.in-Err-list_cheapest.ensures.tools.grown;
      lists = λ j k key. keys_kept i c.args.self.now.pool.now c.list_cheapest.new.pool c.args.self.now.workspace.now.held c.list_cheapest.new.workspace.held j k c.in-Err-list_cheapest.ensures.tools.grown c.in-Err-list_cheapest.ensures.more key;
    }
