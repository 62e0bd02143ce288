use Rattle.search_node_columns.proofs.FirstColumns.{all_held}
use Rattle.search_node_columns.proofs.first.list_columns.Goals as goal

pub returns-clause-held : goal.returns-clause-held
returns-clause-held c =
    let i = c.args.task.now.day.instance.now in
    let cuts = c.args.task.now.cuts.now in
    let pool = c.args.pool.now in
    let a = c.in_ok-add_missing.ensures pool in
    let b = c.in_ok-add_beyond.ensures.listed pool a.0 in
    let t = c.in_ok-add_trees.ensures.listed c.requires.task.rows c.requires.pool b.0 in
    all_held i cuts pool c.add_missing.new.held c.add_beyond.new.held c.add_trees.new.held a.1 c.in_ok-add_beyond.ensures.more b.1 c.in_ok-add_trees.ensures.more t
