use Rattle.std.proofs.Common.{◌≡◌, ℕ, to_z, of_z, rules, ◌<◌, All, length, sym, ◌∙◌, subst, List, []}
use Rattle.std.proofs.lemmas.List.{append-nil}
use Rattle.std.specs.Vec.{with_items}
use mir.Syntax.{w128}
use Rattle.search_node_columns.specs.declared.workspace.Held.{Held}
use Rattle.search_node_columns.specs.Columns.{AreHeld}
use Rattle.search_node_columns.proofs.HeldColumns.{held_grow, held_push, wanted_push, workspace_after, listed_key}
use Rattle.search_node_columns.proofs.trees.list_cheapest.Goals as goal

pub returns-then-not-found-clause-tools : goal.returns-then-not-found-clause-tools
returns-then-not-found-clause-tools c =
    let d = c.requires.tools.workspace in
    record {
      are = record {
        made = c.find_tree-found.ensures.made;
        pool = c.requires.tools.pool;
        workspace =
            workspace_after c.args.task.now.day.instance.now c.args.task.now.cuts.now c.args.pool.now c.args.pool.now c.args.workspace.now
            record { held = c.args.workspace.now.held; wanted = c.args.workspace.now.wanted; prices = c.set_prices.new.prices; tree = c.find_tree-found.new.room; numbers = with_items c.args.workspace.now.numbers c.set_prices.new.numbers }
            d d.held d.wanted c.set_prices.ensures.room c.set_prices.ensures.most c.find_tree-found.ensures.room (sym (with_items c.args.workspace.now.numbers c.set_prices.new.numbers).ok.0 ∙ c.args.workspace.now.numbers.ok.0);
      };
      grown = ([], sym (append-nil c.args.pool.now));
    }

pub returns-in_err-column-clause-tools : goal.returns-in_err-column-clause-tools
returns-in_err-column-clause-tools c =
    let i = c.args.task.now.day.instance.now in
    let cuts = c.args.task.now.cuts.now in
    let d = c.requires.tools.workspace in
    let k = c.in_err-column.ensures.kept in
    record {
      are = record {
        made = c.find_tree-found.ensures.made;
        pool = c.in_err-column.ensures.pool.are;
        workspace =
            workspace_after i cuts c.args.pool.now c.list_tree.new.pool c.args.workspace.now
            record { held = c.list_tree.new.held; wanted = c.args.workspace.now.wanted; prices = c.set_prices.new.prices; tree = c.find_tree-found.new.room; numbers = with_items c.args.workspace.now.numbers c.set_prices.new.numbers }
            d
            (subst (λ (hs : List Held). AreHeld i cuts c.list_tree.new.pool hs) (sym k) (held_grow i cuts c.args.pool.now c.list_tree.new.pool c.args.workspace.now.held c.in_err-column.ensures.pool.grown d.held))
            (subst (λ (hs : List Held). All (λ (j : ℕ). j < length hs) c.args.workspace.now.wanted) (sym k) d.wanted)
            c.set_prices.ensures.room c.set_prices.ensures.most c.find_tree-found.ensures.room (sym (with_items c.args.workspace.now.numbers c.set_prices.new.numbers).ok.0 ∙ c.args.workspace.now.numbers.ok.0);
      };
      grown = c.in_err-column.ensures.pool.grown;
    }

pub returns-clause-tools : goal.returns-clause-tools
returns-clause-tools c =
    let i = c.args.task.now.day.instance.now in
    let cuts = c.args.task.now.cuts.now in
    let d = c.requires.tools.workspace in
    let l = c.in_ok-column.ensures.listed in
    let k = l.3 in
    record {
      are = record {
        made = c.find_tree-found.ensures.made;
        pool = c.in_ok-column.ensures.pool.are;
        workspace =
            workspace_after i cuts c.args.pool.now c.list_tree.new.pool c.args.workspace.now
            record { held = c.list_tree.new.held; wanted = c.args.workspace.now.wanted; prices = c.set_prices.new.prices; tree = c.find_tree-found.new.room; numbers = with_items c.args.workspace.now.numbers c.set_prices.new.numbers }
            d
            (subst (λ (hs : List Held). AreHeld i cuts c.list_tree.new.pool hs) (sym k)
            (held_push i cuts c.list_tree.new.pool c.args.workspace.now.held l.0 (held_grow i cuts c.args.pool.now c.list_tree.new.pool c.args.workspace.now.held c.in_ok-column.ensures.pool.grown d.held) l.5))
            (subst (λ (hs : List Held). All (λ (j : ℕ). j < length hs) c.args.workspace.now.wanted) (sym k) (wanted_push c.args.workspace.now.wanted c.args.workspace.now.held l.0 d.wanted))
            c.set_prices.ensures.room c.set_prices.ensures.most c.find_tree-found.ensures.room (sym (with_items c.args.workspace.now.numbers c.set_prices.new.numbers).ok.0 ∙ c.args.workspace.now.numbers.ok.0);
      };
      grown = c.in_ok-column.ensures.pool.grown;
    }

pub returns-clause-found : goal.returns-clause-found
returns-clause-found c =
    let i = c.args.task.now.day.instance.now in
    let k : to_z w128 (of_z w128 c.args.kappa) ≡ c.args.kappa = search rules in
    let s = rw k at c.if-not-found.ensures.some in
    let l = c.in_ok-column.ensures.listed in
    let pool = c.list_tree.new.pool in
    let key = listed_key i pool c.args.workspace.now.held l.0 l.1 l.2 s.tree_of l.6 l.7 c.in_ok-column.ensures.pool.are s.day (l.8 ∙ c.steps.ensures ∙ s.held) in
    (s.tree_of, rw (l.3, l.4) key, s.cheaper)
