use Rattle.std.proofs.Common.{◌<◌, ℕ, All, List, length, refl, sym, subst}
use Rattle.search_node_columns.specs.declared.workspace.Held.{Held}
use Rattle.search_node_columns.specs.Columns.{AreHeld}
use Rattle.search_node_columns.proofs.HeldColumns.{held_grow, held_push, wanted_push, workspace_after}
use Rattle.search_node_columns.proofs.several.list_under.Goals as goal

pub returns-in_err-column : goal.returns-in_err-column
returns-in_err-column c =
    let i = c.args.task.now.day.instance.now in
    let cuts = c.args.task.now.cuts.now in
    let workspace = c.args.workspace.now in
    let b = c.requires.begun in
    let d = b.tools.workspace in
    let k = c.in_err-column.ensures.kept in
    let grown = c.in_err-column.ensures.pool.grown in
    record {
      begun = record {
        task = b.task;
        priced = b.priced;
        tools = record {
          made = b.tools.made;
          pool = c.in_err-column.ensures.pool.are;
          workspace =
              workspace_after i cuts c.args.pool.now c.list_tree.new.pool workspace
              record { held = c.list_tree.new.held; wanted = workspace.wanted; prices = workspace.prices; tree = c.write_under.new.room; numbers = workspace.numbers }
              d
              (subst (λ (hs : List Held). AreHeld i cuts c.list_tree.new.pool hs) (sym k) (held_grow i cuts c.args.pool.now c.list_tree.new.pool workspace.held grown d.held))
              (subst (λ (hs : List Held). All (λ (j : ℕ). j < length hs) workspace.wanted) (sym k) d.wanted)
              d.prices refl c.write_under.ensures.kept refl;
        };
      };
      grown = grown;
    }

pub returns : goal.returns
returns c =
    let i = c.args.task.now.day.instance.now in
    let cuts = c.args.task.now.cuts.now in
    let workspace = c.args.workspace.now in
    let b = c.requires.begun in
    let d = b.tools.workspace in
    let l = c.in_ok-column.ensures.listed in
    let grown = c.in_ok-column.ensures.pool.grown in
    record {
      begun = record {
        task = b.task;
        priced = b.priced;
        tools = record {
          made = b.tools.made;
          pool = c.in_ok-column.ensures.pool.are;
          workspace =
              workspace_after i cuts c.args.pool.now c.list_tree.new.pool workspace
              record { held = c.list_tree.new.held; wanted = workspace.wanted; prices = workspace.prices; tree = c.write_under.new.room; numbers = workspace.numbers }
              d
              (subst (λ (hs : List Held). AreHeld i cuts c.list_tree.new.pool hs) (sym l.3)
              (held_push i cuts c.list_tree.new.pool workspace.held l.0 (held_grow i cuts c.args.pool.now c.list_tree.new.pool workspace.held grown d.held) l.5))
              (subst (λ (hs : List Held). All (λ (j : ℕ). j < length hs) workspace.wanted) (sym l.3) (wanted_push workspace.wanted workspace.held l.0 d.wanted))
              d.prices refl c.write_under.ensures.kept refl;
        };
      };
      grown = grown;
    }
