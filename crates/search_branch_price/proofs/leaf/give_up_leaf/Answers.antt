use Rattle.std.proofs.lemmas.Result.{on_ok_weaker}
use Rattle.search_primal.proofs.BetterRosters.{better-more}
use Rattle.search_primal.proofs.ToolsLemmas.{tried-tools}
use Rattle.search_branch_price.proofs.StepsLemmas.{node-better, better-turned}
use Rattle.search_branch_price.proofs.leaf.give_up_leaf.Goals as goal

pub fail_leaf-requires-clause-leaf : goal.fail_leaf-requires-clause-leaf
fail_leaf-requires-clause-leaf g c =
    let r = c.requires.leaf in
    let n = c.args.node.now in
    let i = n.searched.day.instance.now in
    let best = c.offer_without_prices.new.best in
    let better = better-more i c.args.progress.now.best c.offer_late.new.best best c.offer_late.ensures.better c.offer_without_prices.ensures.better in
    (r.0, r.1, r.2, r.3, r.4, node-better i n.searched.day.graph.now r.0 r.1 r.2 r.3 c.args.progress.now c.args.leaf n.cuts.now best r.5 better, r.6)

pub offer_late-requires-clause-good : goal.offer_late-requires-clause-good
offer_late-requires-clause-good g c = c.requires.leaf.5.is.best

pub offer_without_prices-requires-clause-find : goal.offer_without_prices-requires-clause-find
offer_without_prices-requires-clause-find g c = record { tools = record { pool = c.requires.tools.pool; workspace = c.offer_late.ensures.workspace }; good = c.offer_late.ensures.better.good }

pub returns-clause-turned : goal.returns-clause-turned
returns-clause-turned g c =
    let n = c.args.node.now in
    let i = n.searched.day.instance.now in
    let v = n.searched.day.graph.now in
    let p = c.args.progress.now in
    let best = c.offer_without_prices.new.best in
    let better = better-more i p.best c.offer_late.new.best best c.offer_late.ensures.better c.offer_without_prices.ensures.better in
    on_ok_weaker c.fail_leaf.result
    (λ turned strict before now low later asked given. better-turned i v strict before later low p best c.fail_leaf.new.progress better
    (turned strict before now low later (node-better i v strict before now low p c.args.leaf n.cuts.now best asked better) given))
    c.fail_leaf.ensures.turned

pub returns-clause-tools : goal.returns-clause-tools
returns-clause-tools g c = c.offer_without_prices.ensures.tools

pub returns-in_err-offer_late-clause-tools : goal.returns-in_err-offer_late-clause-tools
returns-in_err-offer_late-clause-tools g c = tried-tools c.args.node.now.searched.day c.args.pool.now c.args.workspace.now c.offer_late.new.workspace c.requires.tools c.offer_late.ensures.workspace
